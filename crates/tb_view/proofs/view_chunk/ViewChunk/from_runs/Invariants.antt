use Rattle.std.proofs.Common.{◌≡◌, take}
use Rattle.tb_view.specs.RunViews.{data_runs, run_building, text_runs}
use Rattle.tb_view.proofs.view_chunk.ViewChunk.from_runs.Given as goal

abbrev pub invariant-loop-value : goal.invariant-loop-value
invariant-loop-value l = l.builder ≡ run_building (text_runs (data_runs (take l.value-index l.runs)))
