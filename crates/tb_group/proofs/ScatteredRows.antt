-- Rows that are scattered by the codes of their keys.
use Rattle.std.proofs.Common.{◌≡◌, ◌∙◌, ◌<◌, ◌≤◌, ℕ, List, Option, get_or, length, sym, ap, subst, arith}
use Rattle.std.specs.List.{All}
use Rattle.std.proofs.lemmas.List.FromFn.{length-map-range_with_len, length-range_with_len}
use Rattle.tb_value.specs.Promise.Pairs.{row_numbers}
use Rattle.tb_chunk.specs.Promise.Col.{values}
use Rattle.tb_frame.specs.Promise.Table.{TableColumn}
use Rattle.tb_build.specs.Plan.{codes_of, scattered_rows}
use Rattle.tb_build.specs.Promise.Codes.{part_of}
use Rattle.tb_build.proofs.PartPieces.{scattered-below}
use Rattle.tb_build.proofs.Parts.{codes-length}
use Rattle.tb_group.specs.Codes.{codes_by, own_code}
use Rattle.tb_group.specs.Promise.Keys.{key_code}
use Rattle.tb_group.specs.declared.codes.Code.{Code}
use Rattle.tb_group.specs.declared.lookup.AskedColumn.{AskedColumn}
use Rattle.tb_group.proofs.Spread.{spread_few}

pub codes_long : (cs : List TableColumn) (n : ℕ) → length (codes_by cs n) ≡ n
codes_long cs n = length-map-range_with_len (key_code cs) 0 n

-- as many codes as keys
pub keys_long : (keys : List (Option Code)) (cs : List TableColumn) (n : ℕ) → codes_of own_code keys ≡ codes_by cs n → length keys ≡ n
keys_long keys cs n are = sym (codes-length own_code keys) ∙ ap length are ∙ codes_long cs n

module _ (cs : List TableColumn) (count parts : ℕ) (idxs : List ℕ) (are : idxs ≡ scattered_rows (codes_by cs count) parts) where
  -- there are no more of them than rows
  pub scattered_few : length idxs ≤ count
  scattered_few =
      let codes : List ℕ = codes_by cs count in
      omega (arith, ap length are, spread_few (λ j. part_of (get_or codes j 0) parts) parts (row_numbers (length codes)), length-range_with_len 0 (length codes), codes_long cs count)

  scattered_low : All (λ r. r < count) idxs
  scattered_low = subst (All (λ r. r < count)) (sym are) (subst (λ (m : ℕ). All (λ r. r < m) (scattered_rows (codes_by cs count) parts)) (codes_long cs count) (scattered-below (codes_by cs count) parts))

  -- they are rows of each column that is as long
  pub rows_of_sources : (asked : List AskedColumn) → All (λ (a : AskedColumn). length (values a.column.now) ≡ count) asked → All (λ (a : AskedColumn). All (λ r. r < length (values a.column.now)) idxs) asked
  rows_of_sources asked long = λ k d low. subst (λ (m : ℕ). All (λ r. r < m) idxs) (sym (long k d low)) scattered_low
