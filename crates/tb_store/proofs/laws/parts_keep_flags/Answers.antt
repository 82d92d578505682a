use Rattle.std.proofs.Common.{◌-◌, length}
use Rattle.tb_chunk.specs.Window.{part_from, part_to}
use Rattle.tb_chunk.proofs.Flags.{flag_part}
use Rattle.tb_store.proofs.laws.parts_keep_flags.Goals as goal

pub returns : goal.returns
returns c flag t vs offset len holds = flag_part flag t vs (part_from (length vs) offset) (part_to (length vs) offset len - part_from (length vs) offset) holds
