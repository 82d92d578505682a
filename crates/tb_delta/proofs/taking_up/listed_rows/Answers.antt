use Rattle.std.proofs.Common.{◌≡◌, ◌∙◌, ◌++◌, ◌∷◌, [], ℕ, List, map, ap, sym, subst}
use Rattle.std.specs.Map.{keys_of}
use Rattle.std.specs.Prelude.{All}
use Rattle.std.proofs.lemmas.List.{map-append}
use Rattle.std.proofs.lemmas.List.Elements.{All-push}
use Rattle.tb_value.specs.See.{data_of}
use Rattle.tb_value.proofs.RowNumbers.{row_numbers_more}
use Rattle.tb_chunk.specs.Promise.Col.{Col}
use Rattle.tb_frame.specs.Promise.Table.{row_at, table_of}
use Rattle.tb_delta.specs.Inside.{stored}
use Rattle.tb_delta.specs.TakenUp.{HasKeyAt}
use Rattle.tb_delta.specs.declared.side_rows.StoredRow.{StoredRow}
use Rattle.tb_delta.proofs.Given.{rows_more}
use Rattle.tb_delta.proofs.taking_up.listed_rows.Goals as goal

pub loop-row-preserved : goal.loop-row-preserved
loop-row-preserved c =
    let row : ℕ = c.loop-row.row in
    let s : StoredRow = c.in_ok-stored_row.field-0 in
    let before : List (ℕ × StoredRow) = c.loop-row.listed.items in
    let fields : data_of s.values.items ≡ row_at (table_of c.args.frame.now) row = c.in_ok-stored_row.ensures.row ∙ ap (λ (cs : List Col). row_at (table_of cs) row) c.get_columns-columns.ensures.columns in
    let pushed : c.push.new.self.items ≡ before ++ (row, s) ∷ [] = c.in_ok-push.ensures.items in (
      ap (map stored) pushed ∙ map-append stored before ((row, s) ∷ []) ∙ (λ i. c.loop-row.invariant.0 i ++ (row, fields i) ∷ []) ∙ rows_more (table_of c.args.frame.now) row,
      ap keys_of pushed ∙ map-append (λ (e : ℕ × StoredRow). e.0) before ((row, s) ∷ []) ∙ ap (λ (l : List ℕ). l ++ row ∷ []) c.loop-row.invariant.1 ∙ sym (row_numbers_more row),
      subst (λ es. All (HasKeyAt c.args.key) es) (sym pushed) (All-push (HasKeyAt c.args.key) before (row, s) c.loop-row.invariant.2 c.in_ok-stored_row.ensures.keyed),
    )
