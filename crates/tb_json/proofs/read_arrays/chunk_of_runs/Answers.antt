use Rattle.std.proofs.Common.{◌≡◌, ◌∙◌, ◌∷◌, [], map, option_map, sym, ap, append-nil}
use Rattle.tb_value.specs.SeeKind.{kind_of}
use Rattle.tb_json.specs.Promise.Cells.{run_in}
use Rattle.tb_json.specs.Promise.Lists.{each}
use Rattle.tb_json.specs.Runs.{run_view}
use Rattle.tb_json.proofs.RunWalks.{one_chunk}
use Rattle.tb_json.proofs.read_arrays.chunk_of_runs.Goals as goal

pub returns-in_default-clause-chunks : goal.returns-in_default-clause-chunks
returns-in_default-clause-chunks g c =
    one_chunk (each (run_in (kind_of c.args.dtype.now)) (map run_view c.args.runs.now)) _ (sym (ap (option_map g.C.Chunk.shown) c.in_default.is) ∙ c.in_ok-chunk.ensures.values)

pub returns-clause-chunks : goal.returns-clause-chunks
returns-clause-chunks g c =
    rw (c.in_ok-push.ensures.items, c.in_ok-chunks.ensures.items)
    (one_chunk (each (run_in (kind_of c.args.dtype.now)) (map run_view c.args.runs.now)) _ (sym (ap (option_map g.C.Chunk.shown) c.in-Some.is) ∙ c.in_ok-chunk.ensures.values))

pub returns-clause-typed : goal.returns-clause-typed
returns-clause-typed g c =
    rw (c.in_ok-push.ensures.items, c.in_ok-chunks.ensures.items, append-nil) (rw c.in-Some.is at c.in_ok-chunk.ensures.typed)
