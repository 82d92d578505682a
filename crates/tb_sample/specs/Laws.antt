-- What holds of the sample, whatever the number of rows.
use Rattle.std.specs.Prelude.{◌≡◌, ℕ, ◌*◌, ◌%◌, ◌≤◌, pos, sum_by}
use Rattle.tb_value.specs.Promise.Pairs.{row_numbers}
use Rattle.tb_value.specs.declared.limits.TheConstants.{MAX_ROWS}
use Rattle.tb_frame.specs.Promise.Refusal.{join_valid}
use Rattle.tb_sample.specs.Promise.Sample.{IsSummary, request}
use Rattle.tb_sample.specs.declared.summary.Summary.{Summary}

-- no cause refuses the join
abbrev pub IsValid : Type 0
IsValid = (n : ℕ) → n ≤ MAX_ROWS → join_valid (request n)

-- there is a summary of some answer
abbrev pub HasSummary : Type 0
HasSummary = (n : ℕ) → n ≤ MAX_ROWS → (s : Summary) × IsSummary n s

-- each summary of n rows is this one: n, the sum of the right keys, and the sum of w, since each right row has one left row
abbrev pub IsOne : Type 0
IsOne = (n : ℕ) (s : Summary) → n ≤ MAX_ROWS → IsSummary n s
    → s
    ≡ record
    { height = n; key_sum = pos (sum_by (λ j. (7 * j) % n) (row_numbers n)); w_sum = pos (sum_by (λ j. j) (row_numbers n)) }
