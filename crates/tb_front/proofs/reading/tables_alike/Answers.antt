use Rattle.tb_front.proofs.Alike.{alike_made}
use Rattle.tb_front.proofs.reading.tables_alike.Goals as goal

pub returns-in-Ok : goal.returns-in-Ok
returns-in-Ok g c ls rs left right left_apart right_apart =
    alike_made c.args.types.now c.args.left_on.now c.args.right_on.now ls rs c.args.left.now c.args.right.now _ _ _ _ c.make_both-left.ensures.left c.make_both-left.ensures.right c.in-Ok-Ok.is-0 c.in-Ok-Ok.is-1
    left right left_apart right_apart c.in-Ok.ensures
