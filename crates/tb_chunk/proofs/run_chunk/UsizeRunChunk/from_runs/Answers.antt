use Rattle.std.proofs.Common.{ap}
use Rattle.tb_chunk.proofs.RunLayout.{laid_nulls, null_rows}
use Rattle.tb_chunk.proofs.run_chunk.UsizeRunChunk.from_runs.Goals as goal

pub returns-clause-shown : goal.returns-clause-shown
returns-clause-shown c = null_rows c.args.runs.now c.args.rows c.requires.rows c.requires.fits

pub returns-clause-views : goal.returns-clause-views
returns-clause-views c = ap (λ r. r.views) (laid_nulls c.args.runs.now c.args.rows c.requires.rows c.requires.fits)

pub returns-clause-buffers : goal.returns-clause-buffers
returns-clause-buffers c = ap (λ r. r.buffers) (laid_nulls c.args.runs.now c.args.rows c.requires.rows c.requires.fits)
