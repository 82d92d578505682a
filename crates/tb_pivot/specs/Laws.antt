-- What holds of groups of rows.
use Rattle.std.specs.Prelude.{ℕ, ◌≤◌, Bool}
use Rattle.std.specs.Cmp.{IsEquivalence}
use Rattle.tb_value.specs.declared.limits.TheConstants.{MAX_ROWS}
use Rattle.tb_rows.specs.Grouped.{AreGroups}
use Rattle.tb_rows.specs.declared.groups.Groups.{Groups}
use Rattle.tb_agg.specs.Grouped.{AreGroupsOf}

-- rows in groups by a test have each the number of a group, as an aggregate asks
abbrev pub GroupsAreOf : Type 0
GroupsAreOf = (test : ℕ → ℕ → Bool) → IsEquivalence test → (n : ℕ) → (g : Groups)
    → AreGroups test n g → n ≤ MAX_ROWS → AreGroupsOf n g
