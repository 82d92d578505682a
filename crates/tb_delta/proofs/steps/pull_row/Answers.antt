use Rattle.std.proofs.Common.{◌≡◌, ◌∙◌, ◌&&◌, ap, ℕ, Bool, List, Option, Some, None, option_map, if◌then◌else◌}
use Rattle.std.specs.declared.vec.Vec.{Vec}
use Rattle.std.specs.declared.alloc.Global.{Global}
use Rattle.tb_value.specs.Promise.Datum.{Datum}
use Rattle.tb_value.specs.Promise.Same.{agrees}
use Rattle.tb_value.specs.See.{datum, data_of}
use Rattle.tb_value.specs.declared.any_value.AnyValue.{AnyValue}
use Rattle.tb_delta.specs.Groups.{ids_at, is_side, without}
use Rattle.tb_delta.specs.Inside.{key_of, pulled_agrees, side_state}
use Rattle.tb_delta.specs.Promise.State.{SideState, row_of}
use Rattle.tb_delta.specs.declared.side_rows.StoredRow.{StoredRow}
use Rattle.tb_delta.proofs.Grouped.{neither}
use Rattle.tb_delta.proofs.steps.pull_row.Goals as goal

abbrev seen : StoredRow → List Datum
seen s = data_of s.values.items

pub returns-in_err-row-clause-row : goal.returns-in_err-row-clause-row
returns-in_err-row-clause-row c = ap (option_map (λ (v : Vec AnyValue Global). data_of v.items)) c.from_residual.ensures ∙ c.in_err-row.ensures.row

pub returns-in_err-row-clause-groups : goal.returns-in_err-row-clause-groups
returns-in_err-row-clause-groups c = λ s k.
    let st : SideState = side_state c.args.rows.now in
    let x : Bool = is_side c.args.side s in
    let before : List ℕ = ids_at c.args.groups.now s k in
    neither x (without c.args.id before) before
    ∙ ap (λ (o : Option (List Datum)). if x && pulled_agrees c.args.join_nulls st o (datum k.value) then without c.args.id before else before) c.in_err-row.ensures.row

pub returns-clause-row : goal.returns-clause-row
returns-clause-row c = c.in_ok-row.ensures.row

pub returns-clause-groups : goal.returns-clause-groups
returns-clause-groups c = λ s k.
    let st : SideState = side_state c.args.rows.now in
    let nulls = c.args.join_nulls in
    let x : Bool = is_side c.args.side s in
    let before : List ℕ = ids_at c.args.groups.now s k in
    let after : List ℕ = without c.args.id before in
    let there : Some (seen c.in_ok-row.row) ≡ row_of st c.args.id = c.in_ok-row.ensures.row in
    let d : Datum = key_of st (seen c.in_ok-row.row) in
    let key : datum c.in_ok-row.row.key.value ≡ d = c.in_ok-row.ensures.keyed in
    c.take_from_group.ensures s k
    ∙ ap (λ (e : Datum). if x && agrees nulls e (datum k.value) then after else before) key
    ∙ ap (λ (o : Option (List Datum)). if x && pulled_agrees nulls st o (datum k.value) then after else before) there
