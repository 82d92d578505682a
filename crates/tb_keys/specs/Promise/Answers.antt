-- What a join answers.
use Rattle.std.specs.Prelude.{List, Option, Result, IfOk}
use Rattle.tb_value.specs.Refusals.{Settles}
use Rattle.tb_value.specs.declared.error.PolarsError.{PolarsError}
use Rattle.tb_chunk.specs.Promise.Col.{Col}
use Rattle.tb_frame.specs.Promise.Join.{IsAnswer, Request}
use Rattle.tb_frame.specs.Promise.Refusal.{join_refusal}
use Rattle.tb_frame.specs.Promise.Table.{table_of}

-- a table that answers the request, or the refusal by the cause, if there is one
pub record IsJoinUnless (refusal : Option PolarsError) (q : Request)
    (result : Result (List Col) PolarsError) : Type 0 where
  pub settles : Settles result refusal
  pub answer : IfOk result (λ t. IsAnswer q (table_of t))

-- the same by the first cause that refuses a join
abbrev pub IsJoinOf : Request → Result (List Col) PolarsError → Type 0
IsJoinOf q = IsJoinUnless (join_refusal q) q
