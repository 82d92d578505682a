use Rattle.std.proofs.Common.{◌∙◌, ap, map}
use Rattle.tb_value.specs.Promise.Datum.{binary}
use Rattle.tb_value.specs.Promise.Kind as kind
use Rattle.tb_cell.specs.Shown.{or_null}
use Rattle.tb_view.specs.RunViews.{data_runs}
use Rattle.tb_chunk.specs.RunLayout.{expansion}
use Rattle.tb_chunk.proofs.RunLayout.{all_fit, run_texts}
use Rattle.tb_chunk.proofs.Rows.{binaries_again}
use Rattle.tb_chunk.proofs.run_chunk.BinaryChunkRunChunk.from_runs.Goals as goal

pub returns-clause-shown : goal.returns-clause-shown
returns-clause-shown c = ap (map (or_null binary)) (c.in_ok-from_runs.ensures.texts ∙ run_texts c.args.runs.now) ∙ binaries_again (expansion (data_runs c.args.runs.now)) (all_fit kind.binary c.args.runs.now c.requires.fits)
