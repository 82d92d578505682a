use Rattle.std.proofs.Common.{◌≡◌, ◌<◌, List, Some, None}
use Rattle.tb_value.specs.Promise.Datum.{Datum}
use Rattle.tb_value.specs.See.{datum, data_of}
use Rattle.tb_delta.specs.Inside.{key_of, side_state}
use Rattle.tb_delta.specs.Promise.State.{row_of}
use Rattle.tb_delta.specs.declared.side_rows.StoredRow.{StoredRow}
use Rattle.tb_delta.proofs.Changed.{no_row, nothing_out, own_rows, pulled, removed, row_low, unmoved}
use Rattle.tb_delta.proofs.changing.remove_row.Goals as goal

pub returns-in_default-clause-changing : goal.returns-in_default-clause-changing
returns-in_default-clause-changing c =
    let none : None ≡ row_of (side_state c.args.own.now) c.args.id = c.in_default.ensures.row in
    unmoved c.args.side c.args.own.now c.pull_stored.new.rows c.args.others.now c.args.join_nulls c.args.groups.now c.requires c.pull_stored.ensures.placed
    (nothing_out c.args.own.now c.args.others.now c.pull_stored.new.rows c.args.join_nulls c.args.id c.pull_stored.ensures.rows none)

pub returns-in_default-clause-done : goal.returns-in_default-clause-done
returns-in_default-clause-done c =
    let none : None ≡ row_of (side_state c.args.own.now) c.args.id = c.in_default.ensures.row in
    no_row c.args.own.now c.args.others.now c.pull_stored.new.rows c.args.join_nulls c.args.id c.pull_stored.ensures.rows c.args.side none

pub returns-in-Ok-clause-changing : goal.returns-in-Ok-clause-changing
returns-in-Ok-clause-changing c =
    let own = c.args.own.now in
    let others = c.args.others.now in
    let new = c.pull_stored.new.rows in
    let v : StoredRow = c.in-Some.row in
    let row : List Datum = data_of v.values.items in
    let there : Some row ≡ row_of (side_state own) c.args.id = c.in-Some.ensures.row in
    let key : datum v.key.value ≡ key_of (side_state own) row = c.in-Some.ensures.keyed in
    let low : c.args.id < own.ever = row_low (side_state own) c.args.id row (own_rows c.args.side own others c.args.join_nulls c.args.groups.now c.requires) there in
    pulled own others new c.args.join_nulls c.args.groups.now c.take_out.new.groups c.args.id c.pull_stored.ensures.rows c.args.side row (datum v.key.value) c.requires c.pull_stored.ensures.placed there key low c.take_out.ensures.taken

pub returns-in-Ok-clause-done : goal.returns-in-Ok-clause-done
returns-in-Ok-clause-done c =
    let own = c.args.own.now in
    let others = c.args.others.now in
    let new = c.pull_stored.new.rows in
    let v : StoredRow = c.in-Some.row in
    let row : List Datum = data_of v.values.items in
    let there : Some row ≡ row_of (side_state own) c.args.id = c.in-Some.ensures.row in
    let key : datum v.key.value ≡ key_of (side_state own) row = c.in-Some.ensures.keyed in
    removed own others new c.args.join_nulls c.args.id c.pull_stored.ensures.rows c.args.tells c.args.side c.args.groups.now row v.key c.in-Ok.ids c.requires there key
    c.in-Ok.ensures.told

pub returns-clause-changing : goal.returns-clause-changing
returns-clause-changing c =
    let own = c.args.own.now in
    let others = c.args.others.now in
    let new = c.pull_stored.new.rows in
    let v : StoredRow = c.in-Some.row in
    let row : List Datum = data_of v.values.items in
    let there : Some row ≡ row_of (side_state own) c.args.id = c.in-Some.ensures.row in
    let key : datum v.key.value ≡ key_of (side_state own) row = c.in-Some.ensures.keyed in
    let low : c.args.id < own.ever = row_low (side_state own) c.args.id row (own_rows c.args.side own others c.args.join_nulls c.args.groups.now c.requires) there in
    pulled own others new c.args.join_nulls c.args.groups.now c.take_out.new.groups c.args.id c.pull_stored.ensures.rows c.args.side row (datum v.key.value) c.requires c.pull_stored.ensures.placed there key low c.take_out.ensures.taken
