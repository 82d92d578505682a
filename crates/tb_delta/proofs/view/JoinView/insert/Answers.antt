use Rattle.std.proofs.Common.{◌∙◌, ◌<◌, ◌++◌, ◌∷◌, ◌&&◌, [], if◌then◌else◌, List, ap, sym, subst}
use Rattle.std.specs.Prelude.{All}
use Rattle.tb_value.specs.Promise.Datum.{Datum}
use Rattle.tb_value.specs.Promise.Same.{agrees}
use Rattle.tb_value.specs.Promise.Typed.{FitsFields}
use Rattle.tb_value.specs.See.{data_of, datum}
use Rattle.tb_value.specs.declared.any_value.AnyValue.{AnyValue}
use Rattle.tb_value.specs.declared.error.Side.{Side}
use Rattle.tb_value.specs.declared.error.Side.TheVariants as side
use Rattle.tb_delta.specs.Groups.{ids_at, is_side}
use Rattle.tb_delta.specs.Inside.{IsKept, key_of, side_state, state_of}
use Rattle.tb_delta.specs.Promise.State.{SideState, State}
use Rattle.tb_delta.proofs.KeptViews.{groups_ascend, groups_below, kept_left, kept_right, kept_same}
use Rattle.tb_delta.proofs.view.JoinView.insert.Goals as goal
use Rattle.tb_delta.proofs.view.JoinView.insert.Goals.{in-Ok, in-Err, in-Ok-push_row, in-Err-push_row}

pub push_row-requires-clause-fits : goal.push_row-requires-clause-fits
push_row-requires-clause-fits c = subst (λ (vs : List AnyValue). FitsFields (side_state c.self.inside.left).columns (data_of vs)) c.deref.ensures.value c.in_ok-check-in-Left.ensures.0

pub push_row-requires-clause-placed : goal.push_row-requires-clause-placed
push_row-requires-clause-placed c = c.self.invariant.left_placed

pub push_row-requires-clause-kept : goal.push_row-requires-clause-kept
push_row-requires-clause-kept c = c.self.invariant.kept.left

pub push_row-requires-clause-ascend : goal.push_row-requires-clause-ascend
push_row-requires-clause-ascend c = λ s k. groups_ascend _ (ids_at c.self.inside.groups) c.self.invariant.kept s k

pub push_row-requires-clause-below : goal.push_row-requires-clause-below
push_row-requires-clause-below c = λ k.
    subst (λ (d : Side). All (λ i. i < c.self.inside.left.ever) (ids_at c.self.inside.groups d k)) (sym c.in-Left.is) (groups_below _ (ids_at c.self.inside.groups) c.self.invariant.kept side.Left k)

pub invariant_of-self : goal.invariant_of-self
invariant_of-self c =
    let nulls = c.self.inside.join_nulls in
    let v : State = state_of c.self.inside.left c.self.inside.right nulls in
    let new : SideState → State = λ x. record { left = x; right = side_state c.self.inside.right; join_nulls = nulls } in
    let row : List Datum = data_of c.args.row.items in
    let fits = c.in_ok-check-in-Left.ensures in
    let fitting : FitsFields v.left.columns row = subst (λ (vs : List AnyValue). FitsFields v.left.columns (data_of vs)) c.deref.ensures.value fits.0 in
    record {
      kept = elim c.match-push_row.branch [
        | in-Ok w ↦
            subst (λ (x : SideState). IsKept (new x) (ids_at c.push_row.new.groups)) (sym w.in-Ok.ensures.rows)
            (kept_left v (ids_at c.self.inside.groups) (ids_at c.push_row.new.groups) row c.self.invariant.kept fitting fits.1
            (λ d k. w.in-Ok.ensures.groups d k ∙ ap (λ (e : Side). if is_side e d && agrees nulls (key_of v.left row) (datum k.value) then ids_at c.self.inside.groups d k ++ v.left.ever ∷ [] else ids_at c.self.inside.groups d k) c.in-Left.is))
        | in-Err w ↦ kept_same v (new (side_state c.push_row.new.rows)) (ids_at c.self.inside.groups) (ids_at c.push_row.new.groups) c.self.invariant.kept (ap new w.in-Err.ensures.rows_stay) w.in-Err.ensures.groups_stay
      ];
      left_placed = c.push_row.ensures.placed;
      right_placed = c.self.invariant.right_placed;
    }

pub push_row-requires-in-Right-clause-fits : goal.push_row-requires-in-Right-clause-fits
push_row-requires-in-Right-clause-fits c = subst (λ (vs : List AnyValue). FitsFields (side_state c.self.inside.right).columns (data_of vs)) c.deref-in-Right.ensures.value c.in_ok-check-in-Right.ensures.0

pub push_row-requires-in-Right-clause-placed : goal.push_row-requires-in-Right-clause-placed
push_row-requires-in-Right-clause-placed c = c.self.invariant.right_placed

pub push_row-requires-in-Right-clause-kept : goal.push_row-requires-in-Right-clause-kept
push_row-requires-in-Right-clause-kept c = c.self.invariant.kept.right

pub push_row-requires-in-Right-clause-ascend : goal.push_row-requires-in-Right-clause-ascend
push_row-requires-in-Right-clause-ascend c = λ s k. groups_ascend _ (ids_at c.self.inside.groups) c.self.invariant.kept s k

pub push_row-requires-in-Right-clause-below : goal.push_row-requires-in-Right-clause-below
push_row-requires-in-Right-clause-below c = λ k.
    subst (λ (d : Side). All (λ i. i < c.self.inside.right.ever) (ids_at c.self.inside.groups d k)) (sym c.in-Right.is) (groups_below _ (ids_at c.self.inside.groups) c.self.invariant.kept side.Right k)

pub invariant_of-self-in-Right : goal.invariant_of-self-in-Right
invariant_of-self-in-Right c =
    let nulls = c.self.inside.join_nulls in
    let v : State = state_of c.self.inside.left c.self.inside.right nulls in
    let new : SideState → State = λ x. record { left = side_state c.self.inside.left; right = x; join_nulls = nulls } in
    let row : List Datum = data_of c.args.row.items in
    let fits = c.in_ok-check-in-Right.ensures in
    let fitting : FitsFields v.right.columns row = subst (λ (vs : List AnyValue). FitsFields v.right.columns (data_of vs)) c.deref-in-Right.ensures.value fits.0 in
    record {
      kept = elim c.match-push_row-2.branch [
        | in-Ok-push_row w ↦
            subst (λ (x : SideState). IsKept (new x) (ids_at c.push_row-in-Right.new.groups)) (sym w.in-Ok-push_row.ensures.rows)
            (kept_right v (ids_at c.self.inside.groups) (ids_at c.push_row-in-Right.new.groups) row c.self.invariant.kept fitting fits.1
            (λ d k. w.in-Ok-push_row.ensures.groups d k ∙ ap (λ (e : Side). if is_side e d && agrees nulls (key_of v.right row) (datum k.value) then ids_at c.self.inside.groups d k ++ v.right.ever ∷ [] else ids_at c.self.inside.groups d k) c.in-Right.is))
        | in-Err-push_row w ↦ kept_same v (new (side_state c.push_row-in-Right.new.rows)) (ids_at c.self.inside.groups) (ids_at c.push_row-in-Right.new.groups) c.self.invariant.kept (ap new w.in-Err-push_row.ensures.rows_stay) w.in-Err-push_row.ensures.groups_stay
      ];
      left_placed = c.self.invariant.left_placed;
      right_placed = c.push_row-in-Right.ensures.placed;
    }
