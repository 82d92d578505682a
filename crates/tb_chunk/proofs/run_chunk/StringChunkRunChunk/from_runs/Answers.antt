use Rattle.std.proofs.Common.{◌∙◌, ap, map}
use Rattle.tb_value.specs.Promise.Datum.{string}
use Rattle.tb_value.specs.Promise.Kind as kind
use Rattle.tb_cell.specs.Shown.{or_null}
use Rattle.tb_view.specs.RunViews.{data_runs}
use Rattle.tb_chunk.specs.RunLayout.{expansion}
use Rattle.tb_chunk.proofs.RunLayout.{all_fit, run_texts}
use Rattle.tb_chunk.proofs.Rows.{strings_again, utf8_all}
use Rattle.tb_chunk.proofs.run_chunk.StringChunkRunChunk.from_runs.Goals as goal

pub invariant_of-result : goal.invariant_of-result
invariant_of-result c = record { utf8 = rw (c.in_ok-from_runs.ensures.texts, run_texts c.args.runs.now) (utf8_all (expansion (data_runs c.args.runs.now)) (all_fit kind.string c.args.runs.now c.requires.fits)) }

pub returns-clause-shown : goal.returns-clause-shown
returns-clause-shown c = ap (map (or_null string)) (c.in_ok-from_runs.ensures.texts ∙ run_texts c.args.runs.now) ∙ strings_again (expansion (data_runs c.args.runs.now)) (all_fit kind.string c.args.runs.now c.requires.fits)
