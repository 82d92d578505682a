use Rattle.std.proofs.Common.{subst}
use Rattle.tb_value.specs.Refusals.{Settles}
use Rattle.tb_frame.specs.Promise.Table.{table_of}
use Rattle.tb_frame.proofs.Frames.{IsTable-refusal}
use Rattle.tb_gather.proofs.tables.made_table.Goals as goal

pub only_memory-requires : goal.only_memory-requires
only_memory-requires c = subst (Settles c.new.result) (IsTable-refusal (table_of c.args.columns.items) c.requires) c.new.ensures.settles
