-- Each status comes exactly where it is due.
use Rattle.std.proofs.Common.{◌≡◌, ◌≢◌, ◌∙◌, ◌↔◌, ℕ, ◌<◌, ◌≤◌, ◌⊎◌, Bool, IsTrue, List, Option, Some, refl, sym, subst, arith}
use mathlib.Core.Logic.{inl, inr}
use Rattle.tb_run.specs.declared.status.Status.{Status}
use Rattle.tb_run.specs.declared.status.Status.TheVariants as status
use Rattle.tb_run.specs.Ends.{Rose, last_count}
use Rattle.tb_run.specs.Due.{HasText}
use Rattle.tb_run.specs.Run.{IsReply}
use Rattle.tb_run.specs.Promise.Due.{due, IsDue, Tells}
use Rattle.tb_run.specs.Promise.Words.{form}
use Rattle.tb_run.specs.Promise.Exactly.{Comes, TellFaults}
use Rattle.tb_run.proofs.Frame.{due_has_text}
use Rattle.tb_run.proofs.OneStatus.{one_status}

-- ---- when a status comes

module _ (words : List (List ℕ)) (bytes : List ℕ) (R W : Type 0) where
  -- what is due comes, where nothing fails
  comes_if_due : (s : Status) → HasText s → ¬ R → ¬ W → (text : List ℕ) × due words bytes s text → Comes words bytes R W s
  comes_if_due status.Done has no_read no_write it = (no_read, no_write, it)
  comes_if_due status.Refused has no_read no_write it = (no_read, no_write, it)
  comes_if_due status.Usage has no_read no_write it = (no_read, no_write, it)
  comes_if_due status.BadRequest has no_read no_write it = (no_read, no_write, it)
  comes_if_due status.TooLong has no_read no_write it = (no_read, no_write, it)
  comes_if_due status.ReadFault has no_read no_write it = absurd has
  comes_if_due status.WriteFault has no_read no_write it = absurd has
  comes_if_due status.OutOfMemory has no_read no_write it = absurd has

  -- what comes where nothing fails is due
  due_if_comes : (s : Status) → ¬ R → ¬ W → Comes words bytes R W s → (text : List ℕ) × due words bytes s text
  due_if_comes status.Done no_read no_write comes = comes.2
  due_if_comes status.Refused no_read no_write comes = comes.2
  due_if_comes status.Usage no_read no_write comes = comes.2
  due_if_comes status.BadRequest no_read no_write comes = comes.2
  due_if_comes status.TooLong no_read no_write comes = comes.2
  due_if_comes status.ReadFault no_read no_write comes = absurd (no_read comes)
  due_if_comes status.WriteFault no_read no_write comes = absurd (no_write comes)
  due_if_comes status.OutOfMemory no_read no_write comes = absurd comes

  -- where a write has failed and no read has, 5 alone comes
  write_alone : (s : Status) → ¬ R → W → Comes words bytes R W s → status.WriteFault ≡ s
  write_alone status.WriteFault no_read failed comes = refl
  write_alone status.ReadFault no_read failed comes = absurd (no_read comes)
  write_alone status.OutOfMemory no_read failed comes = absurd comes
  write_alone status.Done no_read failed comes = absurd (comes.1 failed)
  write_alone status.Refused no_read failed comes = absurd (comes.1 failed)
  write_alone status.Usage no_read failed comes = absurd (comes.1 failed)
  write_alone status.BadRequest no_read failed comes = absurd (comes.1 failed)
  write_alone status.TooLong no_read failed comes = absurd (comes.1 failed)

  ends_due : (s t : Status) (text : List ℕ) → HasText s → ¬ R → ¬ W → due words bytes s text → (s ≡ t) ↔ Comes words bytes R W t
  ends_due s t text has no_read no_write is = (
    λ e. subst (Comes words bytes R W) e (comes_if_due s has no_read no_write (text, is)),
    λ comes. let it = due_if_comes t no_read no_write comes in one_status words bytes s t text it.0 is it.1,
  )

  ends_writing : (result t : Status) → result ≡ status.WriteFault → ¬ R → W → (result ≡ t) ↔ Comes words bytes R W t
  ends_writing result t is no_read failed = (
    λ e. subst (Comes words bytes R W) (sym is ∙ e) failed,
    λ comes. is ∙ write_alone t no_read failed comes,
  )

-- ---- by the counts

not_above : (before now : ℕ) → now ≡ before → ¬ (before < now)
not_above before now same above = omega arith

above_if_rose : (before now : ℕ) → now < last_count → Rose before now → before < now
above_if_rose before now below (inl above) = above
above_if_rose before now below (inr last) = absurd (omega arith)

told_bytes : (words : List (List ℕ)) (left : Option (List ℕ)) (bytes bytes' : List ℕ) (s : Status) (text : List ℕ)
    → left ≡ Some bytes → Tells left bytes' → due words bytes' s text → due words bytes s text
told_bytes words left bytes bytes' s text is tells it =
    let same : bytes ≡ bytes' = subst (λ l. Tells l bytes') is tells in
    subst (λ l. due words l s text) (sym same) it

module _ (words : List (List ℕ)) (left left' written written' : Option (List ℕ)) (exact exact' : Bool) (reads reads' writes writes' : ℕ) where
  -- a reply, where no read has failed
  pub replied_exactly : (s : Status) (text : List ℕ) (result : Status) → IsDue (form words) left left' s text
      → IsReply exact' written written' writes writes' s text result → (IsTrue exact → reads' ≡ reads)
      → TellFaults exact exact' reads' writes' → result ≢ status.OutOfMemory
      → (bytes : List ℕ) → left ≡ Some bytes → (t : Status) → (result ≡ t) ↔ Comes words bytes (reads < reads') (writes < writes') t
  replied_exactly s text result is_due (inl done) calm tell memory bytes is t =
      let no_read = not_above reads reads' (calm tell.reads) in
      let no_write = not_above writes writes' (done.2 tell.writes) in
      let it = told_bytes words left bytes is_due.bytes s text is is_due.told is_due.due in
      subst (λ r. (r ≡ t) ↔ Comes words bytes (reads < reads') (writes < writes') t) (sym done.0)
      (ends_due words bytes (reads < reads') (writes < writes') s t text (due_has_text (form words) bytes s text it) no_read no_write it)
  replied_exactly s text result is_due (inr failed) calm tell memory bytes is t =
      ends_writing words bytes (reads < reads') (writes < writes') result t failed.0
      (not_above reads reads' (calm tell.reads)) (above_if_rose writes writes' tell.writes_below failed.1)
