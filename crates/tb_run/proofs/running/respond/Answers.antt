use Rattle.std.proofs.Common.{refl, subst, sym, ◌∙◌}
use Rattle.tb_run.specs.declared.status.Status.TheVariants as status
use Rattle.tb_run.specs.Reading.{WasRead}
use Rattle.tb_run.specs.Promise.Due.{IsDue}
use Rattle.tb_run.proofs.Frame.{whole_is_due, too_long_is_due}
use Rattle.tb_run.proofs.running.respond.Goals as goal

pub returns-in_ok-answer_request-in-Whole-clause-due : goal.returns-in_ok-answer_request-in-Whole-clause-due
returns-in_ok-answer_request-in-Whole-clause-due g c =
    let read = subst (WasRead _ _) c.in-Whole.is c.in_ok-bytes.ensures.read in
    whole_is_due _ _ _ _ _ _ _ read.0 read.1 read.2 refl c.in_ok-answer_request-in-Whole.ensures

pub returns-in_ok-from_string-in-TooLong-clause-due : goal.returns-in_ok-from_string-in-TooLong-clause-due
returns-in_ok-from_string-in-TooLong-clause-due g c =
    let read = subst (WasRead _ _) c.in-TooLong.is c.in_ok-bytes.ensures.read in
    subst (IsDue _ _ _ status.TooLong) (sym (c.in_ok-from_string-in-TooLong.ensures ∙ c.in_ok-from_str-in-TooLong.ensures.ok)) (too_long_is_due _ _ _ read.0 read.1 read.2)
