use Rattle.std.proofs.Common.{◌∙◌, ◌++◌, ◌∷◌, ◌&&◌, ◌+◌, [], ap, map, ℕ, List, if◌then◌else◌}
use Rattle.std.proofs.lemmas.List.{map-append}
use Rattle.tb_value.specs.Promise.Datum.{Datum}
use Rattle.tb_value.specs.Promise.Same.{agrees}
use Rattle.tb_value.specs.See.{datum}
use Rattle.tb_value.specs.SeeKind.{part}
use Rattle.tb_delta.specs.Groups.{ids_at, is_side}
use Rattle.tb_delta.specs.Inside.{stored}
use Rattle.tb_delta.specs.Promise.State.{Row, SideState}
use Rattle.tb_delta.specs.declared.side_rows.StoredRow.{StoredRow}
use Rattle.tb_delta.proofs.Grouped.{put_ascends, put_undone}
use Rattle.tb_delta.proofs.Placed.{placed_push, placed_same, rows_low}
use Rattle.tb_delta.proofs.RowLists.{put_last}
use Rattle.tb_delta.proofs.steps.put_row.Goals as goal

pub returns-in-Ok-clause-placed : goal.returns-in-Ok-clause-placed
returns-in-Ok-clause-placed c =
    let es : List (ℕ × StoredRow) = c.args.rows.now.rows.entries in
    let e : StoredRow = record { key = c.args.key; values = c.args.row } in
    placed_push c.args.rows.now c.insert.new.self (c.args.rows.now.ever + 1) (c.args.rows.now.ever, e) c.requires.placed
    c.requires.keyed
    (c.in-Ok.ensures.entries ∙ put_last c.args.rows.now.ever e es (rows_low c.args.rows.now c.requires.kept))

pub returns-in-Ok-clause-rows : goal.returns-in-Ok-clause-rows
returns-in-Ok-clause-rows c =
    let es : List (ℕ × StoredRow) = c.args.rows.now.rows.entries in
    let e : StoredRow = record { key = c.args.key; values = c.args.row } in
    let made : List Row → SideState = λ l. record { columns = map part c.args.rows.now.columns.items; key = c.args.rows.now.on; rows = l; ever = c.args.rows.now.ever + 1 } in
    ap (λ (l : List (ℕ × StoredRow)). made (map stored l)) (c.in-Ok.ensures.entries ∙ put_last c.args.rows.now.ever e es (rows_low c.args.rows.now c.requires.kept))
    ∙ ap made (map-append stored es ((c.args.rows.now.ever, e) ∷ []))

pub returns-in-Ok-clause-groups : goal.returns-in-Ok-clause-groups
returns-in-Ok-clause-groups c = λ s k.
    let before : List ℕ = ids_at c.args.groups.now s k in
    c.in_ok-told.ensures.ok s k
    ∙ ap (λ (e : Datum). if is_side c.args.side s && agrees c.args.join_nulls e (datum k.value) then before ++ c.args.rows.now.ever ∷ [] else before)
    c.requires.keyed

pub take_from_group-requires : goal.take_from_group-requires
take_from_group-requires c = λ s k.
    put_ascends c.args.side s c.args.join_nulls c.args.key k c.args.rows.now.ever c.args.groups.now c.put_in_group.new.groups (c.requires.below k) (c.in_ok-told.ensures.ok s k) (c.requires.ascend s k)

pub returns-in-Err-clause-placed : goal.returns-in-Err-clause-placed
returns-in-Err-clause-placed c = placed_same c.args.rows.now c.insert.new.self c.args.rows.now.ever c.requires.placed c.in-Err.ensures.err

pub returns-in-Err-clause-rows_stay : goal.returns-in-Err-clause-rows_stay
returns-in-Err-clause-rows_stay c =
    ap (λ (l : List (ℕ × StoredRow)). record { columns = map part c.args.rows.now.columns.items; key = c.args.rows.now.on; rows = map stored l; ever = c.args.rows.now.ever }) c.in-Err.ensures.err

pub returns-in-Err-clause-groups_stay : goal.returns-in-Err-clause-groups_stay
returns-in-Err-clause-groups_stay c = λ s k.
    c.take_from_group.ensures s k
    ∙ put_undone c.args.side s c.args.join_nulls c.args.key k c.args.rows.now.ever c.args.groups.now c.put_in_group.new.groups (c.requires.below k) (c.in_ok-told.ensures.ok s k) c.in-Err.refused.value.1.key
    (ap (λ (p : ℕ × StoredRow). datum p.1.key.value) c.in-Err.ensures.value_returned)
