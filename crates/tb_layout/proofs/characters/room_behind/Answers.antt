use Rattle.std.proofs.Common.{◌≡◌, ◌∙◌, List, ℕ, Some, ap, flat_map, map-id, sym, true}
use Rattle.std.specs.List.{list_all}
use Rattle.std.proofs.lemmas.Iterator.{YieldsList-from_chars}
use Rattle.std.proofs.lemmas.Iterator.Consumers.{YieldsList-end}
use Rattle.tb_layout.specs.Promise.Characters.{visible_text, width_of}
use Rattle.tb_layout.specs.Room.{is_plain, room_left}
use Rattle.tb_layout.proofs.Plain.{shown_plain, width_plain}
use Rattle.tb_layout.proofs.Room.{left_shown}
use Rattle.tb_layout.proofs.characters.room_behind.Goals as goal

pub returns-then-are_plain : goal.returns-then-are_plain
returns-then-are_plain c =
    let all : list_all is_plain c.args.text.now ≡ true = ap (list_all is_plain) (sym c.as_bytes.ensures.value) ∙ sym c.are_plain.ensures ∙ c.if-are_plain.true in
    c.room_left.ensures ∙ ap (room_left (Some c.args.room)) (sym (ap width_of (shown_plain c.args.text.now all) ∙ width_plain c.args.text.now all))

pub loop-c-preserved : goal.loop-c-preserved
loop-c-preserved c = left_shown c.args.room c.shown_columns.result c.in-Some.c c.loop-c.yielded c.loop-c.left _ c.room_left-left.ensures c.shown_columns.ensures c.loop-c.invariant

pub returns : goal.returns
returns c =
    let end = YieldsList-end (YieldsList-from_chars c.args.text.now c.utf8.text cc) c.loop-c.yielded _ c.loop-c.yielded_by _ _ c.in-None.is c.next.ensures.steps in
    c.loop-c.invariant ∙ ap (λ (s : List ℕ). room_left (Some c.args.room) (width_of (flat_map visible_text s))) (sym (map-id c.loop-c.yielded) ∙ end.0)
