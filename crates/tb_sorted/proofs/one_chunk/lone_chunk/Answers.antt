use Rattle.std.proofs.Common.{◌≡◌, ◌∙◌, length, subst}
use Rattle.tb_sorted.specs.Columns.{IsInOneChunk}
use Rattle.tb_sorted.proofs.Flagged.{only_list}
use Rattle.tb_sorted.proofs.one_chunk.lone_chunk.Goals as goal

pub returns-in-None-clause-lists : goal.returns-in-None-clause-lists
returns-in-None-clause-lists c =
    let one : length c.args.key.now.chunks ≡ 1 = subst (IsInOneChunk c.args.key.now) c.in-None.is c.requires in
    c.chunks-in-None.ensures.lists ∙ only_list c.args.key.now.chunks one
