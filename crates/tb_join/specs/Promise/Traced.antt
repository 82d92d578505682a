-- How a join by named keys goes, and what a join answers that tells it.
use Rattle.std.specs.Prelude.{ℕ, List, Option, Result, IfOk}
use Rattle.tb_value.specs.Promise.Names.{Name}
use Rattle.tb_value.specs.Refusals.{Settles}
use Rattle.tb_value.specs.declared.error.PolarsError.{PolarsError}
use Rattle.tb_chunk.specs.Promise.Col.{Col}
use Rattle.tb_frame.specs.declared.args.JoinArgs.{JoinArgs}
use Rattle.tb_frame.specs.Join.{lent_request}
use Rattle.tb_frame.specs.Promise.Frame.{selected_columns}
use Rattle.tb_frame.specs.Promise.Join.{IsAnswer, Request}
use Rattle.tb_frame.specs.Promise.Refusal.{join_refusal}
use Rattle.tb_frame.specs.Promise.Table.{table_of}
use Rattle.tb_pool.specs.Promise.ExecView.{ExecView}
use Rattle.tb_pairs.specs.Promise.Trace.{ArePartsLetIn, IsTraced, Trace, trace_of}
use Rattle.tb_pairs.specs.declared.trace.JoinTrace.{JoinTrace}

-- the trace of a join of two tables by the columns of these names
abbrev pub named_trace : List Col → List Col → List Name → List Name → JoinArgs → ExecView → Trace
named_trace left right left_on right_on args exec =
    trace_of args.how args exec (selected_columns left_on left) (selected_columns right_on right)

-- a table that answers the request, with the trace that is due, of which each part has been let in, or the refusal by the cause, if there is one
pub record IsTracedJoinUnless (refusal : Option PolarsError) (q : Request) (exec : ExecView)
    (due : Trace) (lets_in : ℕ → Type 0)
    (result : Result (List Col × JoinTrace) PolarsError) : Type 0 where
  pub settles : Settles result refusal
  pub answer : IfOk result (λ r. IsAnswer q (table_of r.0))
  pub traced : IfOk result (λ r. IsTraced exec due r.1)
  pub let_in : IfOk result (λ r. ArePartsLetIn lets_in r.1)

-- the same of a join of two tables by the columns of these names, by the first cause that refuses it
abbrev pub IsTracedJoinOf : List Col → List Col → List Name → List Name → JoinArgs → ExecView
    → (ℕ → Type 0) → Result (List Col × JoinTrace) PolarsError → Type 0
IsTracedJoinOf left right left_on right_on args exec lets_in =
    let q = lent_request left right left_on right_on args in
    IsTracedJoinUnless (join_refusal q) q exec (named_trace left right left_on right_on args exec)
    lets_in
