use Rattle.std.proofs.Common.{◌≡◌, [], ◌∷◌, Option, false, subst}
use Rattle.tb_value.specs.Promise.Refusals.{first_cause}
use Rattle.tb_value.specs.Refusals.{Settles}
use Rattle.tb_value.specs.declared.error.PolarsError.{PolarsError}
use Rattle.tb_value.specs.declared.error.Side.TheVariants as side
use Rattle.tb_frame.specs.Promise.Refusal.{asks_left, asks_right, broken_left, broken_right}
use Rattle.tb_hash.specs.Twins.{validation_cause}
use Rattle.tb_keys.specs.Asked.{asked_request}
use Rattle.tb_alone.specs.Keys.{coded_list, same_key}
use Rattle.tb_build.specs.Keys.{key_twins}
use Rattle.tb_alone.proofs.Matching.{twins_left, twins_right}
use Rattle.tb_alone.proofs.validation.check_keys.Goals as goal

pub returns : goal.returns
returns c =
    let r = c.args.request.now in
    let left = twins_left r c.requires.alike c.know_columns.ensures c.know_columns-2.ensures c.args.left.now c.args.right.now c.requires.keys in
    let right = twins_right r c.requires.alike c.know_columns.ensures c.know_columns-2.ensures c.args.left.now c.args.right.now c.requires.keys in
    let v = r.args.now.validation in
    let same : first_cause (validation_cause side.Left r.how (asks_left v) (key_twins same_key false (coded_list c.args.left.now)) ∷ validation_cause side.Right r.how (asks_right v) (key_twins same_key false (coded_list c.args.right.now)) ∷ [])
    ≡ first_cause (broken_left (asked_request r) ∷ broken_right (asked_request r) ∷ [])
    = λ t. first_cause (validation_cause side.Left r.how (asks_left v) (left t) ∷ validation_cause side.Right r.how (asks_right v) (right t) ∷ []) in
    subst (λ (cause : Option PolarsError). Settles c.check_both.result cause) same c.check_both.ensures
