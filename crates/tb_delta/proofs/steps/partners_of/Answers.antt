use Rattle.std.proofs.Common.{◌≡◌, ◌∙◌, ap, ℕ, List, Some, None, option_map}
use Rattle.std.specs.Option.{option_copied}
use Rattle.std.specs.BTreeMap.{is_at}
use Rattle.std.specs.Ordering.{nat_cmp}
use Rattle.tb_value.specs.Promise.Datum.{Datum}
use Rattle.tb_value.specs.See.{datum, data_of}
use Rattle.tb_delta.specs.Inside.{IsKeyed, key_of, side_state}
use Rattle.tb_delta.specs.Promise.State.{SideState, row_of}
use Rattle.tb_delta.specs.declared.side_rows.StoredRow.{StoredRow}
use Rattle.tb_delta.proofs.RowLists.{found, looked}
use Rattle.tb_delta.proofs.steps.partners_of.Goals as goal

abbrev seen : StoredRow → List Datum
seen s = data_of s.values.items

pub returns-in_err-row : goal.returns-in_err-row
returns-in_err-row c = λ f grouped.
    let none : None ≡ row_of (side_state c.args.rows.now) c.args.id = ap (option_map seen) c.in_err-row.ensures.value ∙ found seen c.args.id c.args.rows.now.rows.entries in
    ap option_copied c.from_residual.ensures ∙ ap (option_map (λ (row : List Datum). f (key_of (side_state c.args.rows.now) row))) none

pub returns : goal.returns
returns c = λ f grouped.
    let st : SideState = side_state c.args.rows.now in
    let v : StoredRow = c.in_ok-row.row.now in
    let there : Some (seen v) ≡ row_of st c.args.id = ap (option_map seen) c.in_ok-row.ensures.value ∙ found seen c.args.id c.args.rows.now.rows.entries in
    let key : datum v.key.value ≡ key_of st (seen v) = looked (λ (v : StoredRow). IsKeyed st (0, v)) (is_at (nat_cmp c.args.id)) c.args.rows.now.rows.entries v c.requires.placed.keyed c.in_ok-row.ensures.value in
    ap (λ (ids : List ℕ). Some ids) (c.ids.ensures ∙ grouped v.key ∙ ap f key)
    ∙ ap (option_map (λ (row : List Datum). f (key_of st row))) there
