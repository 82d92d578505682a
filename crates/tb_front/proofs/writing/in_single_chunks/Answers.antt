use Rattle.std.proofs.Common.{◌∙◌, ap}
use Rattle.tb_frame.specs.Promise.Table.{table_of}
use Rattle.tb_frame.proofs.Cuts.{table-whole}
use Rattle.tb_front.proofs.writing.in_single_chunks.Goals as goal

pub returns : goal.returns
returns c = ap table_of c.in_ok-as_single_chunk_par.ensures.single ∙ table-whole c.args.table
