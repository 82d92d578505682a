use Rattle.std.proofs.Common.{ap}
use Rattle.tb_chunk.specs.Physical.{kind_for}
use Rattle.tb_store.proofs.text_views.text_chunks.Goals as goal

pub from_views-requires-clause-utf8 : goal.from_views-requires-clause-utf8
from_views-requires-clause-utf8 c = c.requires.utf8 (ap kind_for c.in-String.is)
