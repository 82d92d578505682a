use Rattle.std.proofs.Common.{◌∙◌, ◌&&◌, if◌then◌else◌, List, ap, sym, refl, subst}
use Rattle.std.specs.Prelude.{Result}
use Rattle.std.specs.declared.vec.Vec.{Vec}
use Rattle.std.specs.declared.alloc.Global.{Global}
use Rattle.tb_value.specs.See.{datum}
use Rattle.tb_value.specs.declared.any_value.AnyValue.{AnyValue}
use Rattle.tb_value.specs.declared.error.Side.{Side}
use Rattle.tb_value.specs.declared.error.Side.TheVariants as side
use Rattle.tb_delta.specs.Groups.{ids_at, is_side, without}
use Rattle.tb_delta.specs.Inside.{IsKept, pulled_agrees, side_state, state_of}
use Rattle.tb_delta.specs.Promise.State.{Row, SideState, State, row_of}
use Rattle.tb_delta.specs.Stepped.{IsRemoved}
use Rattle.tb_delta.specs.declared.fault.DeltaFault.{DeltaFault}
use Rattle.tb_delta.proofs.KeptViews.{groups_ascend}
use Rattle.tb_delta.proofs.PulledViews.{absent_row, pulled_left, pulled_right}
use Rattle.tb_delta.proofs.view.JoinView.remove.Goals as goal
use Rattle.tb_delta.proofs.view.JoinView.remove.Goals.{in-Some, in-None, in-Some-pull_row, in-None-pull_row}

pub pull_row-requires-clause-placed : goal.pull_row-requires-clause-placed
pull_row-requires-clause-placed c = c.self.invariant.left_placed

pub pull_row-requires-clause-kept : goal.pull_row-requires-clause-kept
pull_row-requires-clause-kept c = c.self.invariant.kept.left

pub pull_row-requires-clause-ascend : goal.pull_row-requires-clause-ascend
pull_row-requires-clause-ascend c = λ s k. groups_ascend _ (ids_at c.self.inside.groups) c.self.invariant.kept s k

pub invariant_of-self : goal.invariant_of-self
invariant_of-self c =
    let v : State = state_of c.self.inside.left c.self.inside.right c.self.inside.join_nulls in
    let new : SideState → State = λ x. record { left = x; right = side_state c.self.inside.right; join_nulls = c.self.inside.join_nulls } in
    record {
      left_placed = c.pull_row.ensures.placed;
      right_placed = c.self.invariant.right_placed;
      kept =
          subst (λ (x : SideState). IsKept (new x) (ids_at c.pull_row.new.groups)) (sym c.pull_row.ensures.rows)
          (pulled_left v (ids_at c.self.inside.groups) (ids_at c.pull_row.new.groups) c.args.id c.self.invariant.kept
          (λ d k. c.pull_row.ensures.groups d k ∙ ap (λ (e : Side). if is_side e d && pulled_agrees c.self.inside.join_nulls v.left (row_of v.left c.args.id) (datum k.value) then without c.args.id (ids_at c.self.inside.groups d k) else ids_at c.self.inside.groups d k) c.in-Left.is));
    }

pub pull_row-requires-in-Right-clause-placed : goal.pull_row-requires-in-Right-clause-placed
pull_row-requires-in-Right-clause-placed c = c.self.invariant.right_placed

pub pull_row-requires-in-Right-clause-kept : goal.pull_row-requires-in-Right-clause-kept
pull_row-requires-in-Right-clause-kept c = c.self.invariant.kept.right

pub pull_row-requires-in-Right-clause-ascend : goal.pull_row-requires-in-Right-clause-ascend
pull_row-requires-in-Right-clause-ascend c = λ s k. groups_ascend _ (ids_at c.self.inside.groups) c.self.invariant.kept s k

pub invariant_of-self-in-Right : goal.invariant_of-self-in-Right
invariant_of-self-in-Right c =
    let v : State = state_of c.self.inside.left c.self.inside.right c.self.inside.join_nulls in
    let new : SideState → State = λ x. record { left = side_state c.self.inside.left; right = x; join_nulls = c.self.inside.join_nulls } in
    record {
      left_placed = c.self.invariant.left_placed;
      right_placed = c.pull_row-in-Right.ensures.placed;
      kept =
          subst (λ (x : SideState). IsKept (new x) (ids_at c.pull_row-in-Right.new.groups)) (sym c.pull_row-in-Right.ensures.rows)
          (pulled_right v (ids_at c.self.inside.groups) (ids_at c.pull_row-in-Right.new.groups) c.args.id c.self.invariant.kept
          (λ d k. c.pull_row-in-Right.ensures.groups d k ∙ ap (λ (e : Side). if is_side e d && pulled_agrees c.self.inside.join_nulls v.right (row_of v.right c.args.id) (datum k.value) then without c.args.id (ids_at c.self.inside.groups d k) else ids_at c.self.inside.groups d k) c.in-Right.is));
    }

pub returns-after-pull_row : goal.returns-after-pull_row
returns-after-pull_row c =
    let v : State = state_of c.self.inside.left c.self.inside.right c.self.inside.join_nulls in
    let new : SideState → State = λ x. record { left = x; right = side_state c.self.inside.right; join_nulls = c.self.inside.join_nulls } in
    let n : State = new (side_state c.pull_row.new.rows) in
    subst (λ (s : State). IsRemoved s c.args.side c.args.id n c.match-pull_row.result) c.self.view_is
    (subst (λ (d : Side). IsRemoved v d c.args.id n c.match-pull_row.result) (sym c.in-Left.is)
    (elim c.match-pull_row.branch [
      | in-Some w ↦ subst (λ (r : Result (Vec AnyValue Global) DeltaFault). IsRemoved v side.Left c.args.id n r) (sym w.result-is) (sym w.in-Some.ensures.row, ap new w.in-Some.ensures.rows)
      | in-None w ↦ subst (λ (r : Result (Vec AnyValue Global) DeltaFault). IsRemoved v side.Left c.args.id n r) (sym w.result-is)
          (refl, sym w.in-None.ensures.row, ap new (w.in-None.ensures.rows ∙ ap (λ (l : List Row). record { columns = v.left.columns; key = v.left.key; rows = l; ever = v.left.ever }) (absent_row c.args.id v.left.rows (sym w.in-None.ensures.row))))
    ]))

pub returns-after-pull_row-2 : goal.returns-after-pull_row-2
returns-after-pull_row-2 c =
    let v : State = state_of c.self.inside.left c.self.inside.right c.self.inside.join_nulls in
    let new : SideState → State = λ x. record { left = side_state c.self.inside.left; right = x; join_nulls = c.self.inside.join_nulls } in
    let n : State = new (side_state c.pull_row-in-Right.new.rows) in
    subst (λ (s : State). IsRemoved s c.args.side c.args.id n c.match-pull_row-2.result) c.self.view_is
    (subst (λ (d : Side). IsRemoved v d c.args.id n c.match-pull_row-2.result) (sym c.in-Right.is)
    (elim c.match-pull_row-2.branch [
      | in-Some-pull_row w ↦ subst (λ (r : Result (Vec AnyValue Global) DeltaFault). IsRemoved v side.Right c.args.id n r) (sym w.result-is) (sym w.in-Some-pull_row.ensures.row, ap new w.in-Some-pull_row.ensures.rows)
      | in-None-pull_row w ↦ subst (λ (r : Result (Vec AnyValue Global) DeltaFault). IsRemoved v side.Right c.args.id n r) (sym w.result-is)
          (refl, sym w.in-None-pull_row.ensures.row, ap new (w.in-None-pull_row.ensures.rows ∙ ap (λ (l : List Row). record { columns = v.right.columns; key = v.right.key; rows = l; ever = v.right.ever }) (absent_row c.args.id v.right.rows (sym w.in-None-pull_row.ensures.row))))
    ]))
