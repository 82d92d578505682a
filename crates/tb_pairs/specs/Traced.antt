-- What gives pairs, tells how they were found, and has let in each part that was built.
use Rattle.std.specs.Prelude.{ℕ, Option, Result, IfOk}
use Rattle.tb_value.specs.Promise.Refusals.{first_cause}
use Rattle.tb_value.specs.Refusals.{Settles}
use Rattle.tb_value.specs.declared.error.PolarsError.{PolarsError}
use Rattle.tb_frame.specs.Answer.{ArePairsOf}
use Rattle.tb_frame.specs.Promise.Refusal.{row_causes}
use Rattle.tb_keys.specs.Asked.{asked_request}
use Rattle.tb_keys.specs.declared.request.LentRequest.{LentRequest}
use Rattle.tb_pool.specs.Promise.ExecView.{ExecView}
use Rattle.tb_pairs.specs.Promise.Trace.{ArePartsLetIn, IsFound, IsTraced, requested_trace}
use Rattle.tb_pairs.specs.declared.trace.FoundPairs.{FoundPairs}
use Rattle.tb_pairs.specs.declared.trace.ListedPairs.{ListedPairs}
use Rattle.std.specs.declared.vec.Vec.{Vec}
use Rattle.tb_value.specs.declared.index.JoinPair.{JoinPair}
use Rattle.tb_frame.specs.Promise.Join.{Request}

-- the cause for which a request is refused once its columns and names stand
abbrev pub row_refusal : LentRequest → Option PolarsError
row_refusal r = first_cause (row_causes (asked_request r))

-- the pairs of a request as they are found, and their trace
pub record ArePairsFound (r : LentRequest) (exec : ExecView) (lets_in : ℕ → Type 0)
    (result : Result FoundPairs PolarsError) : Type 0 where
  pub settles : Settles result (row_refusal r)
  pub found : IfOk result (IsFound r exec)
  pub let_in : IfOk result (λ f. ArePartsLetIn lets_in f.trace)

-- the pairs of the answer, with the trace that is due, or the refusal by the cause, if there is one
pub record ArePairsTraced (refusal : Option PolarsError) (r : LentRequest) (exec : ExecView)
    (lets_in : ℕ → Type 0) (result : Result ListedPairs PolarsError) : Type 0 where
  pub settles : Settles result refusal
  pub listed : IfOk result (λ l. ArePairsOf (asked_request r) l.pairs.items)
  pub traced : IfOk result (λ l. IsTraced exec (requested_trace r exec) l.trace)
  pub let_in : IfOk result (λ l. ArePartsLetIn lets_in l.trace)

-- the pairs of the answer alone
pub record ArePairsUnless {A : Type 0} (refusal : Option PolarsError) (q : Request)
    (result : Result (Vec JoinPair A) PolarsError) : Type 0 where
  pub settles : Settles result refusal
  pub listed : IfOk result (λ v. ArePairsOf q v.items)
