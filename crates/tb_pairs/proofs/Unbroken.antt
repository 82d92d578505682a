-- Where no validation is asked for, no side is broken.
use Rattle.std.proofs.Common.{◌≡◌, Bool, false, ◌&&◌, ◌∙◌, [], ◌∷◌}
use Rattle.std.proofs.Math.Bool.{and-false}
use Rattle.tb_value.specs.Promise.Refusals.{first_cause, when}
use Rattle.tb_value.specs.declared.error.Side.TheVariants as side
use Rattle.tb_value.specs.declared.error.ComputeCause.TheVariants.{Validation}
use Rattle.tb_value.specs.declared.error.PolarsError.TheVariants.{ComputeError}
use Rattle.tb_frame.specs.declared.args.JoinValidation.TheVariants.{ManyToMany}
use Rattle.tb_frame.specs.Promise.Join.{Request, nulls_match}
use Rattle.tb_frame.specs.Promise.Refusal.{asks_left, asks_right, has_twins, is_validated, row_causes, too_many_rows}
use Rattle.tb_frame.specs.Promise.Table.{height}
use Rattle.tb_frame.proofs.Causes.{first_cause-one}

pub row_causes-unvalidated : (q : Request) → q.args.validation ≡ ManyToMany → first_cause (row_causes q) ≡ too_many_rows q
row_causes-unvalidated q many =
    let valid : Bool = is_validated q.args.how in
    let left : Bool = has_twins (nulls_match q) q.left_keys (height q.left) in
    let right : Bool = has_twins (nulls_match q) q.right_keys (height q.right) in
    let is_left : (valid && asks_left q.args.validation && left) ≡ false = ◌∙◌ {A = Bool} (λ t. valid && asks_left (many t) && left) (λ t. and-false valid t && left) in
    let is_right : (valid && asks_right q.args.validation && right) ≡ false = ◌∙◌ {A = Bool} (λ t. valid && asks_right (many t) && right) (λ t. and-false valid t && right) in
    (λ t. first_cause (when (is_left t) (ComputeError (Validation side.Left)) ∷ when (is_right t) (ComputeError (Validation side.Right)) ∷ too_many_rows q ∷ []))
    ∙ first_cause-one (too_many_rows q)
