use Rattle.tb_sorted.proofs.OneKey.{left_not_one, right_not_one}
use Rattle.tb_sorted.proofs.requested.takes_merge_path.Goals.{then-lefts-ne1-via-then-lefts-ne1, then-lefts-ne1-via-else-lefts-ne1+then-rights-ne1}
use Rattle.tb_sorted.proofs.requested.takes_merge_path.Goals as goal

pub returns-then-lefts-ne1 : goal.returns-then-lefts-ne1
returns-then-lefts-ne1 c =
    let r = c.args.request.now in
    elim c.then-lefts-ne1.branch [
      | then-lefts-ne1-via-then-lefts-ne1 w ↦
          left_not_one r.how r.args.now.validation c.args.exec.now r.left_keys.now r.right_keys.now w.if-lefts-ne1.true
      | then-lefts-ne1-via-else-lefts-ne1+then-rights-ne1 w ↦
          right_not_one r.how r.args.now.validation c.args.exec.now r.left_keys.now r.right_keys.now w.if-rights-ne1.true
    ]
