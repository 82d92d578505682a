use Rattle.tb_delta.proofs.LateGroups.{puts_down, takes}
use Rattle.tb_delta.proofs.late.LateGroups.take_out_later.Goals as goal

pub returns-in-Ok : goal.returns-in-Ok
returns-in-Ok c = puts_down c.args.self.now c.add.new.self c.args.side c.args.key.now c.args.id c.requires c.in-Ok.ensures.ok

pub returns-in-Err : goal.returns-in-Err
returns-in-Err c = takes c.args.self.now c.take_out.new.self c.add.new.self c.args.side c.args.key.now c.args.id c.requires c.in-Err.ensures.err c.take_out.ensures
