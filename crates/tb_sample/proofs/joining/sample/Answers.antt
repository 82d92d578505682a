use Rattle.tb_frame.specs.Promise.Table.{table_of}
use Rattle.tb_sample.specs.Promise.Sample.{IsSummary}
use Rattle.tb_sample.proofs.Answered.{has_key, has_w}
use Rattle.tb_sample.proofs.joining.sample.Goals as goal

pub summary_of-requires-clause-key : goal.summary_of-requires-clause-key
summary_of-requires-clause-key g c = has_key c.args.rows (table_of c.in_ok-joined.field-0) c.in_ok-joined.ensures

pub summary_of-requires-clause-w : goal.summary_of-requires-clause-w
summary_of-requires-clause-w g c = has_w c.args.rows (table_of c.in_ok-joined.field-0) c.in_ok-joined.ensures

pub returns : goal.returns
unfolding IsSummary
returns g c = (table_of c.in_ok-joined.field-0, c.in_ok-joined.ensures, c.summary_of-2.ensures)
