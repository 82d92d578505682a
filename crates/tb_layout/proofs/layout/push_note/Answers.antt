use Rattle.std.proofs.Common.{◌≡◌, ◌++◌, ◌∙◌, ℕ, List, OnOk, ap, string_bytes, subst, sym}
use Rattle.tb_layout.specs.Promise.Characters.{shown_text}
use Rattle.tb_layout.proofs.Laid.{note_ended}
use Rattle.tb_layout.proofs.layout.push_note.Goals as goal

pub returns : goal.returns
returns c =
    let line = note_ended c.args.what.now c.args.columns.now (string_bytes c.new-line.result) (string_bytes c.push_whole.new.text) (string_bytes c.push.new.self) (shown_text c.as_str.result.now)
    (sym c.is_empty.ensures ∙ c.if-is_empty.false)
    (ap shown_text (c.as_str.ensures.value ∙ c.in_ok-said.ensures))
    c.new-line.ensures.bytes c.in_ok-push_whole.ensures c.in_ok-push.ensures.bytes in
    subst (λ (s : List ℕ). OnOk c.push-2.result (c.push-2.new.self ≡ c.args.text.now ++ s)) (ap (λ v. v.items) c.into_bytes.ensures.value ∙ line) c.push-2.ensures.grown
