use Rattle.std.proofs.Common.{◌≡◌, ◌∙◌, ap, map, List}
use Rattle.std.specs.BTreeMap.{is_at}
use Rattle.std.specs.Ordering.{nat_cmp}
use Rattle.std.specs.Prelude.{option_map}
use Rattle.tb_value.specs.Promise.Datum.{Datum}
use Rattle.tb_value.specs.See.{data_of}
use Rattle.tb_value.specs.SeeKind.{part}
use Rattle.tb_delta.specs.Inside.{IsKeyed, side_state}
use Rattle.tb_delta.specs.Promise.State.{Row}
use Rattle.tb_delta.specs.declared.side_rows.StoredRow.{StoredRow}
use Rattle.tb_delta.proofs.Placed.{placed_pull, rows_sorted}
use Rattle.tb_delta.proofs.RowLists.{found, looked_if, pulled, row}
use Rattle.tb_delta.proofs.steps.pull_stored.Goals as goal

abbrev seen : StoredRow → List Datum
seen s = data_of s.values.items

pub returns-clause-placed : goal.returns-clause-placed
returns-clause-placed c = placed_pull c.args.rows.now c.remove.new.self (is_at (nat_cmp c.args.id)) c.requires.placed c.remove.ensures.entries

pub returns-clause-row : goal.returns-clause-row
returns-clause-row c = ap (option_map seen) c.remove.ensures.value ∙ found seen c.args.id c.args.rows.now.rows.entries

pub returns-clause-rows : goal.returns-clause-rows
returns-clause-rows c = ap (λ (l : List Row). record { columns = map part c.args.rows.now.columns.items; key = c.args.rows.now.on; rows = l; ever = c.args.rows.now.ever })
    (ap (map (row seen)) c.remove.ensures.entries ∙ pulled seen c.args.id c.args.rows.now.rows.entries (rows_sorted c.args.rows.now c.requires.kept))

pub returns-clause-keyed : goal.returns-clause-keyed
returns-clause-keyed c = looked_if (λ (v : StoredRow). IsKeyed (side_state c.args.rows.now) (c.args.id, v)) (is_at (nat_cmp c.args.id)) c.args.rows.now.rows.entries c.remove.result c.requires.placed.keyed c.remove.ensures.value
