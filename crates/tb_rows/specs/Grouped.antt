-- The groups of rows that are told apart by a test.
use Rattle.std.specs.Prelude.{◌≡◌, ℕ, Bool, map}
use Rattle.tb_value.specs.Promise.Pairs.{row_numbers}
use Rattle.tb_rows.specs.Promise.Rows.{first_rows, group_of}
use Rattle.tb_rows.specs.declared.groups.Groups.{Groups}

-- the first row of each group, and for each row the place of its group
pub record AreGroups (test : ℕ → ℕ → Bool) (n : ℕ) (g : Groups) : Type 0 where
  pub firsts : g.firsts.items ≡ first_rows test n
  pub numbers : g.numbers.items ≡ map (group_of test n) (row_numbers n)
