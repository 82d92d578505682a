-- Refusals: the first cause that holds, want of memory apart.
use Rattle.std.specs.Prelude.{◌≡◌, Option, Some, None, Result, MatchResult}
use Rattle.tb_value.specs.declared.error.PolarsError.{PolarsError}
use Rattle.tb_value.specs.declared.error.PolarsError.TheVariants.{OutOfMemory}
use Rattle.tb_value.specs.Promise.Refusals.{SettlesBut}

-- the same of a call whose errors are those of tables
abbrev pub Settles : {T : Type 0} → Result T PolarsError → Option PolarsError → Type 0
Settles r cause = SettlesBut OutOfMemory r cause

-- The same of a call that takes no memory: it passes exactly where there is no cause, and else refuses by it.
abbrev pub SettlesOutright : {T : Type 0} → Result T PolarsError → Option PolarsError → Type 0
SettlesOutright r cause = MatchResult r (λ _. cause ≡ None) (λ e. cause ≡ Some e)
