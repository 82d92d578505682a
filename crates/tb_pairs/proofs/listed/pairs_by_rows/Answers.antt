use Rattle.std.proofs.Common.{◌≡◌, arith, subst, sym}
use Rattle.std.specs.Prelude.{IsSome}
use Rattle.std.specs.Borrow.{Bor}
use Rattle.std.proofs.lemmas.List.{length-map}
use Rattle.std.proofs.lemmas.Result.{IfOk-weaker}
use Rattle.tb_chunk.specs.Promise.Col.{Col}
use Rattle.tb_pairs.specs.Promise.Trace.{ArePartsLetIn}
use Rattle.tb_pairs.specs.declared.trace.JoinTrace.TheVariants.{Plain}
use Rattle.tb_pairs.proofs.Traces.{long_key}
use Rattle.tb_pairs.proofs.listed.pairs_by_rows.Goals.{in_default-via-in-Some+in_default, in_default-via-in_default}
use Rattle.tb_chunk.specs.Lent.{lent_columns}
use Rattle.tb_frame.specs.Promise.Table.{height, table_of}
use Rattle.tb_pairs.proofs.Keys.{level, some_right}
use Rattle.tb_pairs.proofs.listed.pairs_by_rows.Goals as goal

pub row_keys-requires-clause-rows : goal.row_keys-requires-clause-rows
row_keys-requires-clause-rows g c κs within =
    let r = c.args.request.now in
    level (height (table_of r.left.now)) (lent_columns r.left_keys.now) c.requires.alike.some r.left_rows κs within

pub row_keys-requires-2-clause-rows : goal.row_keys-requires-2-clause-rows
row_keys-requires-2-clause-rows g c κs within =
    let r = c.args.request.now in
    level (height (table_of r.right.now)) (lent_columns r.right_keys.now) (some_right (lent_columns r.left_keys.now) (lent_columns r.right_keys.now) c.requires.alike) r.right_rows κs within

pub plain_pairs-requires : goal.plain_pairs-requires
plain_pairs-requires g c =
    let r = c.args.request.now in
    let ls = lent_columns r.left_keys.now in
    let rs = lent_columns r.right_keys.now in
    let left = length-map r.left_keys.now (λ (b : Bor Col). b.now) in
    record {
      long = long_key ls rs (omega (arith, left, c.requires.several))
          (λ a b. elim c.in_default.branch [ in_default-via-in-Some+in_default w ↦ absurd (let bad = subst IsSome w.in_default.is-1 (c.in_ok-right.ensures.short.1 b) in cc) | in_default-via-in_default w ↦ absurd (let bad = subst IsSome w.in_default.is-0 (c.in_ok-left.ensures.short.1 a) in cc) ]);
    }

pub returns : goal.returns
returns g c =
    let are_let_in = ArePartsLetIn (g.G.Gate.lets_in c.args.gate.now) in
    record {
      settles = c.plain_pairs.ensures.settles;
      found = c.plain_pairs.ensures.found;
      let_in = IfOk-weaker c.plain_pairs.result (λ f. f.trace ≡ Plain) (λ f. are_let_in f.trace) (λ f is. subst are_let_in (sym is) tt) c.plain_pairs.ensures.plain;
    }
