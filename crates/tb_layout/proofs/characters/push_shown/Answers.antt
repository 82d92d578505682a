use Rattle.std.proofs.Common.{◌≡◌, ◌∙◌, IfOk, List, ℕ, ap, flat_map, map-id, subst, sym, true}
use Rattle.std.specs.List.{list_all}
use Rattle.std.proofs.lemmas.Iterator.{YieldsList-from_chars}
use Rattle.std.proofs.lemmas.Iterator.Consumers.{YieldsList-end}
use Rattle.tb_layout.specs.Promise.Characters.{visible_text}
use Rattle.tb_layout.specs.Room.{is_plain, with_cut}
use Rattle.tb_layout.proofs.Plain.{shown_plain}
use Rattle.tb_layout.proofs.characters.push_shown.Goals as goal

pub returns-then-are_plain : goal.returns-then-are_plain
returns-then-are_plain c =
    let all : list_all is_plain c.args.shown.now ≡ true = ap (list_all is_plain) (sym c.as_bytes.ensures.value) ∙ sym c.are_plain.ensures ∙ c.if-are_plain.true in
    subst (λ (t : List ℕ). IfOk c.push_plain.result (λ after. (c.push_plain.new.text.items, after) ≡ with_cut (c.args.text.now.items, c.args.room) t))
    (c.as_bytes-then-are_plain.ensures.value ∙ sym (shown_plain c.args.shown.now all)) c.push_plain.ensures

pub returns : goal.returns
returns c =
    let end = YieldsList-end (YieldsList-from_chars c.args.shown.now c.utf8.shown cc) c.loop-c.yielded _ c.loop-c.yielded_by _ _ c.in-None.is c.next.ensures.steps in
    c.loop-c.invariant ∙ ap (λ (s : List ℕ). with_cut (c.args.text.now.items, c.args.room) (flat_map visible_text s)) (sym (map-id c.loop-c.yielded) ∙ end.0)
