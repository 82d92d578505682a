use Rattle.std.proofs.Common.{string_bytes, ◌++◌, ◌∙◌, ap}
use Rattle.tb_layout.proofs.Noted.{listed_more}
use Rattle.tb_layout.proofs.notes.push_names.Goals as goal

pub loop-place-preserved : goal.loop-place-preserved
loop-place-preserved c =
    listed_more c.args.columns.now c.loop-place.place c.index-columns-place.result (string_bytes c.args.text.now) (string_bytes c.loop-place.text) (string_bytes c.push_gap.new.text) (string_bytes c.push_str.new.self)
    c.loop-place-test.true c.index-columns-place.is c.in_ok-push_gap.ensures
    (c.in_ok-push_str.ensures.bytes ∙ ap (λ s. string_bytes c.push_gap.new.text ++ s) (c.as_str.ensures ∙ c.name.ensures))
    c.loop-place.invariant
