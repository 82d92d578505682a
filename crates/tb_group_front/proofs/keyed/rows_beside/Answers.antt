use Rattle.std.proofs.Common.{◌∙◌, ℕ, List, ◌∷◌, [], ◌++◌, ap, map, sym, subst}
use Rattle.std.specs.List.{All}
use Rattle.std.proofs.lemmas.List.{map_push}
use Rattle.std.proofs.lemmas.List.Elements.{All-push}
use Rattle.tb_value.proofs.RowNumbers.{row_numbers_more}
use Rattle.tb_chunk.specs.Promise.Col.{values}
use Rattle.tb_group_front.specs.Keyed.{IsBeside}
use Rattle.tb_group_front.specs.declared.keyed.KeyedRow.{KeyedRow}
use Rattle.tb_group_front.proofs.keyed.rows_beside.Goals as goal

pub loop-row-preserved : goal.loop-row-preserved
loop-row-preserved c =
    let row = c.loop-row.row in
    let before = c.loop-row.rows.items in
    let P : KeyedRow → Type 0 = IsBeside (values c.args.column.now) in
    let next : KeyedRow = record { key = c.in-Some.key; row = row } in
    record {
      rows = ap (map (λ (k : KeyedRow). k.row)) c.in_ok-push-in-Some.ensures.items ∙ map_push (λ (k : KeyedRow). k.row) before next ∙ ap (λ (rows : List ℕ). rows ++ row ∷ []) c.loop-row.invariant.rows ∙ sym (row_numbers_more row);
      beside = subst (λ (ks : List KeyedRow). All P ks) (sym c.in_ok-push-in-Some.ensures.items) (All-push P before next c.loop-row.invariant.beside (sym c.value_or_null.ensures ∙ c.in-Some.ensures));
    }
