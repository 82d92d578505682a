-- What a caller's object answers, want of memory apart.
use Rattle.std.specs.Prelude.{◌≡◌, ◌⊎◌, ℕ, Result, Ok, Err, MatchResult}
use Rattle.tb_value.specs.declared.error.ComputeCause.TheVariants.{Evaluate}
use Rattle.tb_value.specs.declared.error.PolarsError.{PolarsError}
use Rattle.tb_value.specs.declared.error.PolarsError.TheVariants.{ComputeError}
use Rattle.tb_value.specs.declared.error.PolarsError.TheVariants as error
use Rattle.tb_chunk.specs.Promise.Col.{Col}
use Rattle.tb_frame.specs.Promise.Table.{TableColumn, plain_column}
use Rattle.tb_pivot.specs.declared.expr.ExprFault.{ExprFault}
use Rattle.tb_pivot.specs.declared.expr.ExprFault.TheVariants.{Refused}
use Rattle.tb_pivot.specs.declared.expr.ExprFault.TheVariants as fault

-- want of memory, or a refusal by the number that is due
abbrev pub IsFault : {V : Type 0} → ExprFault → Result V ℕ → Type 0
IsFault (Refused code) due = due ≡ Err code
IsFault fault.OutOfMemory due = Unit {0}

-- a call answers what is due
abbrev pub Answers : {T V : Type 0} → (T → V) → Result T ExprFault → Result V ℕ → Type 0
Answers seen r due = MatchResult r (λ x. due ≡ Ok (seen x)) (λ e. IsFault e due)

-- the error that a fault becomes
abbrev pub error_of : ExprFault → PolarsError
error_of (Refused code) = ComputeError (Evaluate code)
error_of fault.OutOfMemory = error.OutOfMemory

-- a call gives the column that is due, or is refused as is due, or lacks memory
abbrev pub Gives : Result Col PolarsError → Result TableColumn PolarsError → Type 0
Gives r due =
    MatchResult r (λ c. due ≡ Ok (plain_column c)) (λ e. (e ≡ error.OutOfMemory) ⊎ (due ≡ Err e))
