use Rattle.std.proofs.Common.{◌++◌, ◌∙◌, List, ℕ, ap, encode_utf8_all, flat_map, map-id, string_bytes, sym}
use Rattle.std.proofs.lemmas.Iterator.{YieldsList-from_chars}
use Rattle.std.proofs.lemmas.Iterator.Consumers.{YieldsList-end}
use Rattle.tb_layout.specs.Promise.Characters.{visible_text}
use Rattle.tb_layout.proofs.Room.{whole_more}
use Rattle.tb_layout.proofs.characters.push_whole.Goals as goal

pub loop-c-preserved : goal.loop-c-preserved
loop-c-preserved c = whole_more c.in-Some.c c.loop-c.yielded (string_bytes c.args.text.now) (string_bytes c.loop-c.text) (string_bytes c.push_whole_visible.new.text) c.in_ok-push_whole_visible.ensures c.loop-c.invariant

pub returns : goal.returns
returns c =
    let end = YieldsList-end (YieldsList-from_chars c.args.shown.now c.utf8.shown cc) c.loop-c.yielded _ c.loop-c.yielded_by _ _ c.in-None.is c.next.ensures.steps in
    c.loop-c.invariant ∙ ap (λ (s : List ℕ). string_bytes c.args.text.now ++ encode_utf8_all (flat_map visible_text s)) (sym (map-id c.loop-c.yielded) ∙ end.0)
