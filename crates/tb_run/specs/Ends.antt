-- What the calls of a source and of a sink do to their counts.
use Rattle.std.specs.Prelude.{◌≡◌, ℕ, ◌-◌, ◌^◌, ◌<◌, ◌≤◌, ◌⊎◌, Bool, IsTrue, List, ◌++◌, Option, Result, OnOk, OnErr}
use Rattle.std.specs.Io.KnownBytes.{Appends}
use Rattle.tb_run.specs.declared.ends.Failed.{Failed}

-- the last value of a counter of 64 bits
abbrev pub last_count : ℕ
last_count = 2 ^ 64 - 1

-- A count has risen. One that stands at its last value counts as risen.
abbrev pub Rose : ℕ → ℕ → Type 0
Rose before now = (before < now) ⊎ (last_count ≤ now)

-- A count never falls, and a call that fails makes it rise. Any other call leaves a count that is exact.
pub record Counts {T : Type 0} (exact : Bool) (before now : ℕ)
    (result : Result T Failed) : Type 0 where
  pub kept : before ≤ now
  pub failed : OnErr result (Rose before now)
  pub calm : IsTrue exact → OnOk result (now ≡ before)

-- A front of the text was taken, all of it, none of it or some.
pub record AppendsPart (before after : Option (List ℕ)) (text : List ℕ) : Type 0 where
  pub part : List ℕ
  pub rest : List ℕ
  pub front : text ≡ part ++ rest
  pub taken : Appends before after part
