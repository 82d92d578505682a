use Rattle.tb_value.specs.SeeKind.{kind_of}
use Rattle.tb_chunk.proofs.RunLayout.{few_data, few_given, runs_of_type, runs_short, runs_typed, values_of_type}
use Rattle.tb_chunk.proofs.chunks.Chunks.from_runs.Goals as goal

pub returns-then-not-are_of-clause-made : goal.returns-then-not-are_of-clause-made
returns-then-not-are_of-clause-made c = λ a. let h = c.are_of.ensures.1 (values_of_type (kind_of c.args.dtype.now) c.args.runs.now a) in let t = c.if-not-are_of.true in cc

pub returns-in_default-clause-made : goal.returns-in_default-clause-made
returns-in_default-clause-made c = (
  runs_of_type (kind_of c.args.dtype.now) c.args.runs.now (c.are_of.ensures.0 c.if-not-are_of.false),
  λ few. c.in_default.ensures (few_given c.args.runs.now few),
)

pub returns-clause-typed : goal.returns-clause-typed
returns-clause-typed c = rw c.in_ok-build_runs.ensures.lists (runs_typed (kind_of c.args.dtype.now) c.args.runs.now (c.are_of.ensures.0 c.if-not-are_of.false))

pub returns-clause-short : goal.returns-clause-short
returns-clause-short c = rw c.in_ok-build_runs.ensures.lists (runs_short c.args.runs.now c.in-Some.ensures.1)

pub returns-clause-made : goal.returns-clause-made
returns-clause-made c = (
  runs_of_type (kind_of c.args.dtype.now) c.args.runs.now (c.are_of.ensures.0 c.if-not-are_of.false),
  few_data c.args.runs.now c.in-Some.ensures.1,
  c.in_ok-build_runs.ensures.lists,
  c.in_ok-build_runs.ensures.storage,
  c.in_ok-build_runs.ensures.view_arrays,
)
