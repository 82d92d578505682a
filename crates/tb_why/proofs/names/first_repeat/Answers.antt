use Rattle.std.proofs.Common.{[], length, take, refl, sym, ap, ◌∙◌}
use Rattle.tb_value.proofs.Finds.{find_row_stop}
use Rattle.tb_frame.specs.Promise.Naming.{is_among}
use Rattle.tb_frame.specs.NameSets.{has_name}
use Rattle.tb_frame.specs.Promise.Refusal.{repeats}
use Rattle.tb_frame.proofs.Seen.{seen_more, fresh_more}
use Rattle.tb_why.proofs.Repeats.{within, not_added}
use Rattle.tb_why.proofs.names.first_repeat.Goals as goal

pub loop-i-init : goal.loop-i-init
loop-i-init c = record { fresh = refl; seen = c.new-seen.ensures }

pub loop-i-preserved : goal.loop-i-preserved
loop-i-preserved c =
    let names = c.args.names.now in
    let i = c.loop-i.i in
    let name = c.index-names-i.result in
    let is = c.index-names-i.is ∙ within names i name [] c.loop-i-test.true in
    record {
      fresh = fresh_more names i name c.loop-i-test.true is (has_name c.loop-i.seen) c.loop-i.invariant.seen c.loop-i.invariant.fresh (sym c.if-not-branch.false ∙ c.in_ok-insert.ensures.added);
      seen = seen_more names i name c.loop-i-test.true is (has_name c.loop-i.seen) (has_name c.insert.new.self) c.loop-i.invariant.seen c.in_ok-insert.ensures.names;
    }

pub returns-then-not-branch : goal.returns-then-not-branch
returns-then-not-branch c =
    let names = c.args.names.now in
    let i = c.loop-i.i in
    let name = c.index-names-i.result in
    let is = c.index-names-i.is ∙ within names i name [] c.loop-i-test.true in
    let seen = not_added (has_name c.loop-i.seen name) (sym c.if-not-branch.true ∙ c.in_ok-insert.ensures.added) in
    let repeated = sym (c.loop-i.invariant.seen name ∙ ap (is_among (take i names)) is) ∙ seen in
    sym (find_row_stop (repeats names) i (length names) c.loop-i-test.true c.loop-i.invariant.fresh repeated)
