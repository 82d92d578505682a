-- From what was read and written to what a run has done. Nothing here looks into a command.
use Rattle.std.proofs.Common.{◌≡◌, ◌≢◌, ℕ, ◌+◌, ◌≤◌, ◌<◌, ◌⊎◌, Bool, true, false, IsTrue, List, [], ◌++◌, length, take, Option, None, Some, Result, Ok, Err, MatchBool, MatchOption, nat_lt, refl, sym, ap, ◌∙◌, subst, append-nil, arith, length-append}
use mathlib.Core.Logic.{inl, inr}
use Rattle.std.proofs.lemmas.Bool.{lt-ltb, le-ltb, ltb-false}
use Rattle.std.proofs.lemmas.List.{take_all, take-append-le}
use Rattle.std.proofs.KnownBytes.{Consumes-nil}
use Rattle.std.specs.Io.KnownBytes.{Consumes, Appends, IsAtEnd}
use Rattle.tb_run.specs.declared.words.Command.{Command}
use Rattle.tb_run.specs.declared.words.Form.{Form}
use Rattle.tb_run.specs.declared.words.Form.TheVariants.{Reads, Sample, Unknown}
use Rattle.tb_run.specs.declared.status.Status.{Status}
use Rattle.tb_run.specs.declared.status.Status.TheVariants as status
use Rattle.tb_value.specs.declared.limits.TheConstants.{MAX_INPUT}
use Rattle.tb_request.specs.declared.request.Reason.{Reason}
use Rattle.tb_run.specs.Ends.{Rose, AppendsPart}
use Rattle.tb_run.specs.Promise.Requests.{Refusal, Request, request_of, refusal_of, IsAnswerText, text_of_refusal}
use Rattle.tb_run.specs.Promise.Due.{DueOfReading, DueOfForm, IsSampleText, Tells, read_for, IsDue, usage_text, too_long_text}
use Rattle.tb_run.specs.Due.{DoneFor, HasText, IsCommand, IsValid}
use Rattle.tb_run.specs.Run.{IsReply}

-- WHAT WAS READ

told_whole : (before after : Option (List ℕ)) (bytes : List ℕ) → Consumes before after bytes → IsAtEnd after → Tells before bytes
told_whole None after bytes taken end = tt
told_whole (Some xs) None bytes taken end = absurd taken
told_whole (Some xs) (Some ys) bytes taken end = taken ∙ ap (λ l. bytes ++ l) end ∙ append-nil bytes

pub whole_is_due : (command : Command) (before after : Option (List ℕ)) (bytes given : List ℕ) (s : Status) (text : List ℕ)
    → Consumes before after bytes → IsAtEnd after → length bytes ≤ MAX_INPUT → given ≡ bytes → DueOfReading (request_of command given) s text
    → IsDue (Reads command) before after s text
whole_is_due command before after bytes given s text taken end short same is_due = record {
  bytes = bytes;
  told = told_whole before after bytes taken end;
  due = subst (λ b. MatchBool b ((s ≡ status.TooLong) × (text ≡ too_long_text)) (DueOfReading (request_of command bytes) s text)) (sym (le-ltb MAX_INPUT (length bytes) short))
      (subst (λ l. DueOfReading (request_of command l) s text) same is_due);
  read = subst (Consumes before after) (sym (take_all (MAX_INPUT + 1) bytes (omega arith))) taken;
}

-- the source's bytes, or those that were taken of it where it doesn't tell
all_of : (before after : Option (List ℕ)) (taken : List ℕ) → Consumes before after taken
    → (rest : List ℕ) × Tells before (taken ++ rest)
all_of None after taken consumed = ([], tt)
all_of (Some xs) None taken consumed = absurd consumed
all_of (Some xs) (Some ys) taken consumed = (ys, consumed)

pub too_long_is_due : (command : Command) (before after : Option (List ℕ)) (taken : List ℕ)
    → Consumes before after taken → length taken ≡ MAX_INPUT + 1 → IsDue (Reads command) before after status.TooLong too_long_text
too_long_is_due command before after taken consumed long =
    let (rest, told) = all_of before after taken consumed in
    let bytes = taken ++ rest in
    let above : MAX_INPUT < length bytes = omega (arith, long, length-append taken rest) in
    let front : take (MAX_INPUT + 1) bytes ≡ taken = take-append-le (MAX_INPUT + 1) taken rest (omega (arith, long)) ∙ take_all (MAX_INPUT + 1) taken (omega (arith, long)) in
    record {
      bytes = bytes;
      told = told;
      due = subst (λ b. MatchBool b ((status.TooLong ≡ status.TooLong) × (too_long_text ≡ too_long_text)) (DueOfReading (request_of command bytes) status.TooLong too_long_text)) (sym (lt-ltb MAX_INPUT (length bytes) above)) (refl, refl);
      read = subst (Consumes before after) (sym front) consumed;
    }

known_or_none : Option (List ℕ) → List ℕ
known_or_none None = []
known_or_none (Some xs) = xs

told_known : (before : Option (List ℕ)) → Tells before (known_or_none before)
unfolding known_or_none
told_known None = tt
told_known (Some xs) = refl

-- a form that reads nothing leaves the source alone
pub unread_is_due : (asked : Form) (before : Option (List ℕ)) (s : Status) (text : List ℕ) → ¬ IsCommand asked → ((bytes : List ℕ) → DueOfForm asked bytes s text)
    → IsDue asked before before s text
unread_is_due (Reads command) before s text none is_due = absurd (none tt)
unread_is_due (Sample rows) before s text none is_due = record { bytes = known_or_none before; told = told_known before; due = is_due (known_or_none before); read = Consumes-nil before }
unread_is_due Unknown before s text none is_due = record { bytes = known_or_none before; told = told_known before; due = is_due (known_or_none before); read = Consumes-nil before }

-- WHAT HAS A TEXT

has_text : (s t : Status) → s ≡ t → HasText t → HasText s
has_text s t e h = subst HasText (sym e) h

answers_request : (refusal : Option Refusal) (q : Request) (s : Status) (text : List ℕ)
    → MatchOption refusal ((s ≡ status.Done) × IsAnswerText q text) (λ e. (s ≡ status.Refused) × (text ≡ text_of_refusal e)) → HasText s
answers_request None q s text d = has_text s status.Done d.0 tt
answers_request (Some e) q s text d = has_text s status.Refused d.0 tt

answers_reading : (read : Result Request _) (s : Status) (text : List ℕ) → DueOfReading read s text → HasText s
answers_reading (Ok q) s text d = answers_request (refusal_of q) q s text d
answers_reading (Err reason) s text d = has_text s status.BadRequest d.0 tt

answers_command : (command : Command) (long : Bool) (bytes : List ℕ) (s : Status) (text : List ℕ)
    → MatchBool long ((s ≡ status.TooLong) × (text ≡ too_long_text)) (DueOfReading (request_of command bytes) s text) → HasText s
answers_command command true bytes s text d = has_text s status.TooLong d.0 tt
answers_command command false bytes s text d = answers_reading (request_of command bytes) s text d

pub due_has_text : (asked : Form) (bytes : List ℕ) (s : Status) (text : List ℕ) → DueOfForm asked bytes s text → HasText s
due_has_text (Reads command) bytes s text d = answers_command command (nat_lt MAX_INPUT (length bytes)) bytes s text d
due_has_text (Sample rows) bytes s text d = has_text s status.Done d.0 tt
due_has_text Unknown bytes s text d = has_text s status.Usage d.0 tt

-- WHAT WAS WRITTEN

pub usage_is_due : (asked : Form) (before : Option (List ℕ)) → Unknown ≡ asked → IsDue asked before before status.Usage usage_text
usage_is_due asked before e = subst (λ f. IsDue f before before status.Usage usage_text) e (unread_is_due Unknown before status.Usage usage_text (λ h. h) (λ bytes. (refl, refl)))

pub sample_is_due : (asked : Form) (rows : ℕ) (before : Option (List ℕ)) (given text : List ℕ) → Sample rows ≡ asked → given ≡ text → IsSampleText rows text → IsDue asked before before status.Done given
sample_is_due asked rows before given text e same told =
    subst (λ f. IsDue f before before status.Done given) e
    (unread_is_due (Sample rows) before status.Done given (λ h. h) (λ bytes. (refl, subst (IsSampleText rows) (sym same) told)))

pub answer_is_due : (asked : Form) (command : Command) (before after : Option (List ℕ)) (s : Status) (given text : List ℕ) → Reads command ≡ asked → given ≡ text → IsDue (Reads command) before after s text → IsDue asked before after s given
answer_is_due asked command before after s given text e same is_due =
    subst (λ f. IsDue f before after s given) e (subst (IsDue (Reads command) before after s) (sym same) is_due)

pub replied_whole : (exact : Bool) (asked : Form) (left left' written written' : Option (List ℕ)) (faults faults' : ℕ) (s : Status) (text : List ℕ) (result : Status)
    → IsDue asked left left' s text → IsReply exact written written' faults faults' s text result → HasText result
    → (text : List ℕ) × IsDue asked left left' result text × Appends written written' text
replied_whole exact asked left left' written written' faults faults' s text result is_due (inl done) answers =
    (text, subst (λ r. IsDue asked left left' r text) (sym done.0) is_due, done.1)
replied_whole exact asked left left' written written' faults faults' s text result is_due (inr failed) answers =
    absurd (subst HasText failed.0 answers)

pub replied_part : (exact : Bool) (asked : Form) (left left' written written' : Option (List ℕ)) (faults faults' : ℕ) (s : Status) (text : List ℕ) (result : Status)
    → IsDue asked left left' s text → IsReply exact written written' faults faults' s text result → result ≡ status.WriteFault
    → Rose faults faults' × ((s : Status) × (text : List ℕ) × IsDue asked left left' s text × AppendsPart written written' text)
replied_part exact asked left left' written written' faults faults' s text result is_due (inl done) fault =
    absurd (subst HasText (sym done.0 ∙ fault) (due_has_text asked is_due.bytes s text is_due.due))
replied_part exact asked left left' written written' faults faults' s text result is_due (inr failed) fault =
    (failed.1, (s, text, is_due, failed.2))

-- a reply has a status with a text, or is that of a failed write
replies : (exact : Bool) (asked : Form) (left left' written written' : Option (List ℕ)) (faults faults' : ℕ) (s : Status) (text : List ℕ) (result : Status)
    → IsDue asked left left' s text → IsReply exact written written' faults faults' s text result → HasText result ⊎ (result ≡ status.WriteFault)
replies exact asked left left' written written' faults faults' s text result is_due (inl done) =
    inl (subst HasText (sym done.0) (due_has_text asked is_due.bytes s text is_due.due))
replies exact asked left left' written written' faults faults' s text result is_due (inr failed) = inr failed.0

pub no_read_fault : (exact : Bool) (asked : Form) (left left' written written' : Option (List ℕ)) (faults faults' : ℕ) (s : Status) (text : List ℕ) (result : Status)
    → IsDue asked left left' s text → IsReply exact written written' faults faults' s text result → ¬ (result ≡ status.ReadFault)
no_read_fault exact asked left left' written written' faults faults' s text result is_due reply fault =
    elim (replies exact asked left left' written written' faults faults' s text result is_due reply)
    [ inl answers ↦ subst HasText fault answers | inr failed ↦ (let e : status.ReadFault ≡ status.WriteFault = sym fault ∙ failed in cc) ]

pub no_want : (exact : Bool) (asked : Form) (left left' written written' : Option (List ℕ)) (faults faults' : ℕ) (s : Status) (text : List ℕ) (result : Status)
    → IsDue asked left left' s text → IsReply exact written written' faults faults' s text result → ¬ (result ≡ status.OutOfMemory)
no_want exact asked left left' written written' faults faults' s text result is_due reply want =
    elim (replies exact asked left left' written written' faults faults' s text result is_due reply)
    [ inl answers ↦ subst HasText want answers | inr failed ↦ (let e : status.OutOfMemory ≡ status.WriteFault = sym want ∙ failed in cc) ]

-- WHERE NOTHING FAILS

pub replied_well : (exact : Bool) (written written' : Option (List ℕ)) (faults faults' : ℕ) (s : Status) (text : List ℕ) (result : Status)
    → IsReply exact written written' faults faults' s text result → IsTrue exact → result ≢ status.WriteFault → faults' ≡ faults
replied_well exact written written' faults faults' s text result (inl done) is_exact well = done.2 is_exact
replied_well exact written written' faults faults' s text result (inr failed) is_exact well = absurd (well failed.0)

done_request : (refusal : Option Refusal) (q : Request) (s : Status) (text : List ℕ) → refusal ≡ None
    → MatchOption refusal ((s ≡ status.Done) × IsAnswerText q text) (λ e. (s ≡ status.Refused) × (text ≡ text_of_refusal e)) → s ≡ status.Done
done_request None q s text none d = d.0
done_request (Some e) q s text none d = absurd (cc)

done_reading : (read : Result Request _) (q : Request) (s : Status) (text : List ℕ) → read ≡ Ok q → refusal_of q ≡ None → DueOfReading read s text → s ≡ status.Done
done_reading read q s text e none d =
    let P : Result Request _ → Type 0 = λ r. DueOfReading r s text in
    done_request (refusal_of q) q s text none (subst P e d)

pub valid_is_done : (asked : Form) (left left' : Option (List ℕ)) (s : Status) (text : List ℕ) → IsValid asked left → IsDue asked left left' s text → s ≡ status.Done
valid_is_done (Reads command) None left' s text valid is_due = absurd valid
valid_is_done (Reads command) (Some known) left' s text valid is_due =
    let bytes = is_due.bytes in
    let short : length bytes ≤ MAX_INPUT = subst (λ l. length l ≤ MAX_INPUT) is_due.told valid.0 in
    let read : request_of command bytes ≡ Ok valid.1.0 = subst (λ l. request_of command l ≡ Ok valid.1.0) is_due.told valid.1.1 in
    let P : Bool → Type 0 = λ b. MatchBool b ((s ≡ status.TooLong) × (text ≡ too_long_text)) (DueOfReading (request_of command bytes) s text) in
    done_reading (request_of command bytes) valid.1.0 s text read valid.1.2 (subst P (le-ltb MAX_INPUT (length bytes) short) is_due.due)
valid_is_done (Sample rows) left left' s text valid is_due = is_due.due.0
valid_is_done Unknown left left' s text valid is_due = absurd valid

pub replied_done : (exact : Bool) (asked : Form) (left left' written written' : Option (List ℕ)) (faults faults' : ℕ) (s : Status) (text : List ℕ) (result : Status)
    → IsDue asked left left' s text → IsReply exact written written' faults faults' s text result → IsValid asked left → ¬ (Rose faults faults') → (result ≡ status.Done) ⊎ (result ≡ status.OutOfMemory)
replied_done exact asked left left' written written' faults faults' s text result is_due (inl done) valid calm = inl (done.0 ∙ valid_is_done asked left left' s text valid is_due)
replied_done exact asked left left' written written' faults faults' s text result is_due (inr failed) valid calm = absurd (calm failed.1)

-- THE HEADLINE

-- a command whose bytes are within the limit reads them all
read_all : (command : Command) (before after : Option (List ℕ)) (bytes : List ℕ) → length bytes ≤ MAX_INPUT
    → Consumes before after (read_for (Reads command) bytes) → Consumes before after bytes
read_all command before after bytes short read = subst (Consumes before after) (take_all (MAX_INPUT + 1) bytes (omega arith)) read

done_request_for : (command : Command) (left left' written written' : Option (List ℕ)) (bytes text : List ℕ) (q : Request) (refusal : Option Refusal)
    → Tells left bytes → length bytes ≤ MAX_INPUT → Consumes left left' bytes → request_of command bytes ≡ Ok q → refusal_of q ≡ refusal
    → MatchOption refusal ((status.Done ≡ status.Done) × IsAnswerText q text) (λ e. (status.Done ≡ status.Refused) × (text ≡ text_of_refusal e))
    → Appends written written' text → DoneFor command left left' written written'
done_request_for command left left' written written' bytes text q None told short taken read valid d wrote =
    record { bytes = bytes; told = told; short = short; read = taken; request = q; is_request = read; valid = valid; text = text; is_answer = d.1; wrote = wrote }
done_request_for command left left' written written' bytes text q (Some e) told short taken read valid d wrote = (let wrong = d.0 in absurd (cc wrong))

done_reading_for : (command : Command) (left left' written written' : Option (List ℕ)) (bytes text : List ℕ) (read : Result Request Reason)
    → Tells left bytes → length bytes ≤ MAX_INPUT → Consumes left left' bytes → request_of command bytes ≡ read → DueOfReading read status.Done text
    → Appends written written' text → DoneFor command left left' written written'
done_reading_for command left left' written written' bytes text (Ok q) told short taken read d wrote =
    done_request_for command left left' written written' bytes text q (refusal_of q) told short taken read refl d wrote
done_reading_for command left left' written written' bytes text (Err reason) told short taken read d wrote = (let wrong = d.0 in absurd (cc wrong))

done_command_for : (command : Command) (left left' written written' : Option (List ℕ)) (bytes text : List ℕ) (long : Bool)
    → Tells left bytes → Consumes left left' (read_for (Reads command) bytes) → nat_lt MAX_INPUT (length bytes) ≡ long
    → MatchBool long ((status.Done ≡ status.TooLong) × (text ≡ too_long_text)) (DueOfReading (request_of command bytes) status.Done text)
    → Appends written written' text → DoneFor command left left' written written'
done_command_for command left left' written written' bytes text true told taken is_long d wrote = (let wrong = d.0 in absurd (cc wrong))
done_command_for command left left' written written' bytes text false told taken is_long d wrote =
    let short : length bytes ≤ MAX_INPUT = ltb-false MAX_INPUT (length bytes) is_long in
    done_reading_for command left left' written written' bytes text (request_of command bytes) told short (read_all command left left' bytes short taken) refl d wrote

pub replied_for : (exact : Bool) (asked : Form) (left left' written written' : Option (List ℕ)) (faults faults' : ℕ) (s : Status) (text : List ℕ) (result : Status)
    → IsDue asked left left' s text → IsReply exact written written' faults faults' s text result → result ≡ status.Done
    → (command : Command) → asked ≡ Reads command → DoneFor command left left' written written'
replied_for exact asked left left' written written' faults faults' s text result is_due (inl done) is_done command is_asked =
    let bytes = is_due.bytes in
    let d : DueOfForm asked bytes status.Done text = subst (λ r. DueOfForm asked bytes r text) (sym done.0 ∙ is_done) is_due.due in
    let d' : DueOfForm (Reads command) bytes status.Done text = subst (λ f. DueOfForm f bytes status.Done text) is_asked d in
    let taken : Consumes left left' (read_for (Reads command) bytes) = subst (λ f. Consumes left left' (read_for f bytes)) is_asked is_due.read in
    done_command_for command left left' written written' bytes text (nat_lt MAX_INPUT (length bytes)) is_due.told taken refl d' done.1
replied_for exact asked left left' written written' faults faults' s text result is_due (inr failed) is_done command is_asked =
    (let e : status.Done ≡ status.WriteFault = sym is_done ∙ failed.0 in absurd (cc e))
