-- What `done` says of each word, in the words of its command.
use Rattle.std.proofs.Common.{◌≡◌, ℕ, List, Option, Result, Ok, Err, Some, None, option_map, refl, subst}
use Rattle.tb_value.specs.declared.error.PolarsError.{PolarsError}
use Rattle.tb_frame.specs.Promise.Refusal.{join_refusal}
use Rattle.tb_unpivot.specs.Promise.Unpivot.{unpivot_refusal}
use Rattle.tb_dummies.specs.Promise.Dummies.{dummies_refusal}
use Rattle.tb_pivot.specs.Promise.Refusal.{pivot_refusal}
use Rattle.tb_delta_request.specs.Promise.Answers.{delta_refusal}
use Rattle.tb_delta_request.specs.Promise.Answers as kept
use Rattle.tb_delta_request.specs.Promise.Reading.{delta_request_of}
use Rattle.tb_group.specs.Promise.Refusal.{group_refusal}
use Rattle.tb_group_request.specs.Promise.Answers.{asked_groups}
use Rattle.tb_group_request.specs.Promise.Reading.{group_request_of}
use Rattle.tb_plan_request.specs.Promise.Reading.{plan_request_of}
use Rattle.tb_request.specs.declared.request.Reason.{Reason}
use Rattle.tb_request.specs.Promise.Reading.{asked_request, join_request_of, unpivot_request_of, dummies_request_of, pivot_request_of}
use Rattle.tb_run.specs.declared.words.Command.TheVariants.{Join, Unpivot, Dummies, Pivot, Plan, Delta, Group}
use Rattle.tb_run.specs.Due.{DoneFor}
use Rattle.tb_run.specs.Promise.Headline.{JoinDone, UnpivotDone, DummiesDone, PivotDone, PlanDone, DeltaDone, GroupDone}
use Rattle.tb_run.specs.Promise.Requests.{Request, join, unpivot, dummies, pivot, plan, delta, group, as_request, by_delta, by_operation, asked_dummies, asked_long, asked_wide, request_of, refusal_of, IsAnswerText}
use Rattle.std.specs.Io.KnownBytes.{Appends}

-- nothing refuses where no operation does
none_refuses : (cause : Option PolarsError) → option_map by_operation cause ≡ None → cause ≡ None
none_refuses None e = refl
none_refuses (Some why) e = absurd (cc)

-- what is read as a request of one command is one
read_as : {A : Type 0} (f : A → Request) (read : Result A Reason) (q : Request) → as_request f read ≡ Ok q → (r : A) × (read ≡ Ok r) × (q ≡ f r)
read_as f (Ok r) q e = (r, refl, (cc))
read_as f (Err why) q e = absurd (cc)

pub join_is_done : (left left' written written' : Option (List ℕ)) → DoneFor Join left left' written written' → JoinDone left left' written written'
unfolding request_of refusal_of IsAnswerText
join_is_done left left' written written' d =
    let (r, is_read, is) = read_as join (join_request_of d.bytes) d.request d.is_request in
    let answer = subst (λ q. IsAnswerText q d.text) is d.is_answer in
    record {
      bytes = d.bytes;
      told = d.told;
      short = d.short;
      read = d.read;
      request = r;
      is_request = is_read;
      valid = none_refuses (join_refusal (asked_request r)) (subst (λ q. refusal_of q ≡ None) is d.valid);
      table = answer.0;
      is_answer = answer.1;
      wrote = subst (Appends written written') answer.2 d.wrote;
    }

pub unpivot_is_done : (left left' written written' : Option (List ℕ)) → DoneFor Unpivot left left' written written' → UnpivotDone left left' written written'
unfolding request_of refusal_of IsAnswerText
unpivot_is_done left left' written written' d =
    let (r, is_read, is) = read_as unpivot (unpivot_request_of d.bytes) d.request d.is_request in
    record {
      bytes = d.bytes;
      told = d.told;
      short = d.short;
      read = d.read;
      request = r;
      is_request = is_read;
      valid = none_refuses (unpivot_refusal (asked_long r)) (subst (λ q. refusal_of q ≡ None) is d.valid);
      wrote = subst (Appends written written') (subst (λ q. IsAnswerText q d.text) is d.is_answer) d.wrote;
    }

pub dummies_is_done : (left left' written written' : Option (List ℕ)) → DoneFor Dummies left left' written written' → DummiesDone left left' written written'
unfolding request_of refusal_of IsAnswerText
dummies_is_done left left' written written' d =
    let (r, is_read, is) = read_as dummies (dummies_request_of d.bytes) d.request d.is_request in
    record {
      bytes = d.bytes;
      told = d.told;
      short = d.short;
      read = d.read;
      request = r;
      is_request = is_read;
      valid = none_refuses (dummies_refusal (asked_dummies r)) (subst (λ q. refusal_of q ≡ None) is d.valid);
      wrote = subst (Appends written written') (subst (λ q. IsAnswerText q d.text) is d.is_answer) d.wrote;
    }

pub pivot_is_done : (left left' written written' : Option (List ℕ)) → DoneFor Pivot left left' written written' → PivotDone left left' written written'
unfolding request_of refusal_of IsAnswerText
pivot_is_done left left' written written' d =
    let (r, is_read, is) = read_as pivot (pivot_request_of d.bytes) d.request d.is_request in
    record {
      bytes = d.bytes;
      told = d.told;
      short = d.short;
      read = d.read;
      request = r;
      is_request = is_read;
      valid = none_refuses (pivot_refusal (asked_wide r)) (subst (λ q. refusal_of q ≡ None) is d.valid);
      wrote = subst (Appends written written') (subst (λ q. IsAnswerText q d.text) is d.is_answer) d.wrote;
    }

pub plan_is_done : (left left' written written' : Option (List ℕ)) → DoneFor Plan left left' written written' → PlanDone left left' written written'
unfolding request_of IsAnswerText
plan_is_done left left' written written' d =
    let (r, is_read, is) = read_as plan (plan_request_of d.bytes) d.request d.is_request in
    let answer = subst (λ q. IsAnswerText q d.text) is d.is_answer in
    record {
      bytes = d.bytes;
      told = d.told;
      short = d.short;
      read = d.read;
      request = r;
      is_request = is_read;
      table = answer.0;
      is_answer = answer.1;
      wrote = subst (Appends written written') answer.2 d.wrote;
    }

none_kept : (cause : Option kept.Refusal) → option_map by_delta cause ≡ None → cause ≡ None
none_kept None e = refl
none_kept (Some why) e = absurd (cc)

pub delta_is_done : (left left' written written' : Option (List ℕ)) → DoneFor Delta left left' written written' → DeltaDone left left' written written'
unfolding request_of refusal_of IsAnswerText
delta_is_done left left' written written' d =
    let (r, is_read, is) = read_as delta (delta_request_of d.bytes) d.request d.is_request in
    let answer = subst (λ q. IsAnswerText q d.text) is d.is_answer in
    record {
      bytes = d.bytes;
      told = d.told;
      short = d.short;
      read = d.read;
      request = r;
      is_request = is_read;
      valid = none_kept (delta_refusal r) (subst (λ q. refusal_of q ≡ None) is d.valid);
      table = answer.0;
      is_answer = answer.1;
      wrote = subst (Appends written written') answer.2 d.wrote;
    }

pub group_is_done : (left left' written written' : Option (List ℕ)) → DoneFor Group left left' written written' → GroupDone left left' written written'
unfolding request_of refusal_of IsAnswerText
group_is_done left left' written written' d =
    let (r, is_read, is) = read_as group (group_request_of d.bytes) d.request d.is_request in
    record {
      bytes = d.bytes;
      told = d.told;
      short = d.short;
      read = d.read;
      request = r;
      is_request = is_read;
      valid = none_refuses (group_refusal (asked_groups r)) (subst (λ q. refusal_of q ≡ None) is d.valid);
      wrote = subst (Appends written written') (subst (λ q. IsAnswerText q d.text) is d.is_answer) d.wrote;
    }
