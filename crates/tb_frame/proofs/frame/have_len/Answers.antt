use Rattle.std.proofs.Common.{◌≡◌, ◌==◌, Bool, true, length, get_or, ap, sym, ◌∙◌, subst, arith}
use Rattle.std.specs.Prelude.{All, List}
use Rattle.std.proofs.lemmas.Bool.{and_from, eq-eqb}
use Rattle.std.proofs.lemmas.List.{take_all}
use Rattle.std.proofs.lemmas.List.Elements.{All-map, All-more}
use Rattle.std.proofs.lemmas.List.Folds.{list_all_more}
use Rattle.tb_chunk.specs.Promise.Col.{Col, values}
use Rattle.tb_frame.specs.Promise.Table.{IsTyped, plain_column}
use Rattle.tb_frame.proofs.frame.have_len.Goals as goal

pub loop-column-preserved : goal.loop-column-preserved
loop-column-preserved c =
    let cs = c.args.columns.now in
    let i = c.loop-column.column-index in
    let x = c.column-item.result in
    let has : Col → Bool = λ k. length (values k) == c.args.len in
    let long : length (values x) ≡ c.args.len = omega (arith, c.if-len.false, c.len.ensures.len) in
    let here : has (get_or cs i x) ≡ true = ap has (sym c.column-item.is) ∙ eq-eqb (length (values x)) c.args.len long in
    let typed : IsTyped (plain_column x) = c.len.ensures.column.typed in
    record {
      level = list_all_more has cs i x c.loop-column-test.true ∙ and_from _ (has (get_or cs i x)) c.loop-column.invariant.level here;
      typed = All-more (λ (k : Col). IsTyped (plain_column k)) cs i x c.loop-column-test.true c.loop-column.invariant.typed (subst (λ (k : Col). IsTyped (plain_column k)) c.column-item.is typed);
    }

pub returns-clause-typed : goal.returns-clause-typed
returns-clause-typed c = λ _.
    All-map IsTyped plain_column c.args.columns.now
    (subst (λ (cs : List Col). All (λ (k : Col). IsTyped (plain_column k)) cs) (take_all c.loop-column.column-index c.args.columns.now (omega arith)) c.loop-column.invariant.typed)
