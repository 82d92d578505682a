use Rattle.std.proofs.Common.{◌∙◌, ap}
use Rattle.tb_value.specs.SeeKind.{kind_of}
use Rattle.tb_chunk.specs.Made.{lists_of}
use Rattle.tb_chunk.proofs.Few.{few_made}
use Rattle.tb_chunk.proofs.Fitting.{fitting}
use Rattle.tb_chunk.proofs.chunks.Chunks.from_lists.Goals as goal

pub build_chunks-requires : goal.build_chunks-requires
build_chunks-requires c =
    fitting (kind_of c.args.dtype.now) (lists_of c.args.lists.items) (lists_of c.deref-3.result.now) (ap lists_of c.deref-3.ensures.value ∙ c.in_ok-lists.ensures)
    (rw c.deref.ensures.value at (c.all_are_of.ensures.0 c.if-not-all_are_of.false))

pub returns-clause-few : goal.returns-clause-few
returns-clause-few c =
    rw c.in_ok-build_chunks.ensures.view_arrays
    (few_made (kind_of c.args.dtype.now) (lists_of c.args.lists.items) (lists_of c.deref-3.result.now) (ap lists_of c.deref-3.ensures.value ∙ c.in_ok-lists.ensures)
    (rw c.deref.ensures.value at (c.all_are_of.ensures.0 c.if-not-all_are_of.false))
    (rw c.deref-2.ensures.value at (c.is_short.ensures.0 c.if-not-is_short.false)))
