use Rattle.std.proofs.Common.{arith}
use Rattle.tb_tree.specs.View.{item_view}
use Rattle.tb_value.specs.Promise.Kind as kind
use Rattle.tb_json.specs.Promise.Cells.{cell_in}
use Rattle.tb_json.proofs.Pushed.{is_pushed, not_pushed}
use Rattle.tb_json.proofs.LentValues.{ItemsWalk-more, ItemsWalk-fails}
use Rattle.tb_json.proofs.read_texts.bytes_chunk.Goals as goal

pub returns-then-not-branch-clause-values : goal.returns-then-not-branch-clause-values
returns-then-not-branch-clause-values c =
    ItemsWalk-fails (cell_in kind.binary) _ _ _ _ (omega arith) c.at.ensures (not_pushed _ (cell_in kind.binary (item_view c.at.result)) c.in_ok-push_bytes.field-0 c.in_ok-push_bytes.ensures c.if-not-branch.true) c.loop-i.invariant

pub loop-i-preserved : goal.loop-i-preserved
loop-i-preserved c =
    let p = is_pushed _ (cell_in kind.binary (item_view c.at.result)) c.in_ok-push_bytes.field-0 c.in_ok-push_bytes.ensures c.if-not-branch.false in
    rw p.2 (ItemsWalk-more (cell_in kind.binary) _ _ _ _ p.0 (omega arith) c.at.ensures p.1 c.loop-i.invariant)
