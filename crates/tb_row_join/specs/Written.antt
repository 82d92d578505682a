-- What is written of the probed rows of a join, each of which has its built rows.
use Rattle.std.specs.Prelude.{◌≡◌, ℕ, ◌++◌, Bool, true, false, List, length, map, replicate}
use Rattle.std.specs.List.{flat_map}
use Rattle.tb_value.specs.Promise.Pairs.{row_numbers}
use Rattle.tb_frame.specs.declared.args.JoinType.{JoinType}
use Rattle.tb_frame.specs.declared.args.JoinType.TheVariants.{Inner, Left, Right, Full, Semi, Anti}
use Rattle.tb_row_join.specs.Lists.{beside, no_row, unlisted}
use Rattle.tb_row_join.specs.Promise.Rooms.{IsHandedOver}

-- the rows of a Right join are those of the Left join of the exchanged sides
abbrev pub is_right : JoinType → Bool
is_right Inner = false
is_right Left = false
is_right Right = true
is_right Full = false
is_right Semi = false
is_right Anti = false

-- of n probed rows, each with its rows among b built ones
module _ (how : JoinType) (rows : ℕ → List ℕ) (n b : ℕ) where
  -- the built rows that stand beside no probed row
  abbrev pub behind_rows : List ℕ
  behind_rows = unlisted how b (map (λ p. beside how (rows p)) (row_numbers n))

  -- the row numbers of the built side
  abbrev pub built_numbers : List ℕ
  built_numbers = flat_map (λ p. beside how (rows p)) (row_numbers n) ++ behind_rows

  -- the row numbers of the probed side
  abbrev pub probed_numbers : List ℕ
  probed_numbers = flat_map (λ p. replicate (length (beside how (rows p))) p) (row_numbers n)
      ++ replicate (length behind_rows) no_row

  -- how many they are, and both in their rooms
  pub record AreWritten (built_before probed_before built_after probed_after : List ℕ)
      (count : ℕ) : Type 0 where
    pub many : count ≡ length built_numbers
    pub built : IsHandedOver built_numbers built_before built_after
    pub probed : IsHandedOver probed_numbers probed_before probed_after
