use Rattle.std.proofs.Common.{◌≡◌, ◌∙◌, Bool, ◌&&◌, ℕ, Option, ap, subst}
use Rattle.tb_value.specs.Promise.Refusals.{when}
use Rattle.tb_value.specs.Refusals.{SettlesOutright}
use Rattle.tb_value.specs.declared.error.ComputeCause.TheVariants.{Validation}
use Rattle.tb_value.specs.declared.error.PolarsError.{PolarsError}
use Rattle.tb_value.specs.declared.error.PolarsError.TheVariants.{ComputeError}
use Rattle.tb_value.specs.declared.error.Side.TheVariants as side
use Rattle.tb_frame.specs.Promise.Join.{flag_at}
use Rattle.tb_frame.specs.Promise.Refusal.{broken_left, has_twins, is_validated}
use Rattle.tb_frame.specs.Promise.Table.{table_of}
use Rattle.tb_keys.specs.Asked.{asked_request}
use Rattle.tb_chunk.specs.Lent.{lent_columns}
use Rattle.tb_keys.proofs.validation.check_left.Goals as goal

pub returns : goal.returns
returns c =
    let r = c.args.request.now in
    let a = r.args.now in
    let cause : Bool → Option PolarsError = λ b. when b (ComputeError (Validation side.Left)) in
    let broken : Bool → ℕ → Bool = λ asks n. is_validated r.how && asks && has_twins (flag_at a.join_nulls) (table_of (lent_columns r.left_keys.now)) n in
    let is : cause c.is_broken-is_broken.result ≡ broken_left (asked_request r) = ap cause (c.is_broken-is_broken.ensures ∙ (λ t. broken (c.asks_left-is_asked.ensures t) (c.height.ensures.height t))) in
    subst (λ (o : Option PolarsError). SettlesOutright c.check_side.result o) is c.check_side.ensures
