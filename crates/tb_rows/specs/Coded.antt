-- Rows with codes, in an order in which rows of the same values stand together, and the first row of the same values.
use Rattle.std.specs.Prelude.{◌≡◌, ℕ, ◌-◌, ◌<◌, ◌≤◌, true, ◌&&◌, ◌==◌, nat_lt, Bool, List, length, map, slice_index_or, IsPermutation, IsSorted}
use Rattle.std.specs.Borrow.{Bor}
use Rattle.std.specs.Cmp.Lexicographic.{slice_cmp}
use Rattle.std.specs.List.{position_or_len}
use Rattle.std.specs.List.Sorted.{IsStable}
use Rattle.std.specs.Ordering.{nat_cmp, on, then_cmp}
use Rattle.std.specs.declared.cmp.Ordering.{Ordering}
use Rattle.tb_value.specs.Promise.Pairs.{row_numbers}
use Rattle.tb_chunk.specs.Promise.Col.{Col}
use Rattle.tb_rows.specs.Fields.{fields_at, row_code, same_at}
use Rattle.tb_rows.specs.InGroups.{named_rows}
use Rattle.tb_rows.specs.Order.{value_cmp}
use Rattle.tb_rows.specs.declared.coded.CodedRow.{CodedRow}

-- the row of a place, with its code
abbrev pub coded_row : List (Bor Col) → (ℕ → ℕ) → ℕ → CodedRow
coded_row cs name j = record { code = row_code (fields_at cs (name j)); row = name j; place = j }

-- the rows of n places
abbrev pub coded_rows : List (Bor Col) → (ℕ → ℕ) → ℕ → List CodedRow
coded_rows cs name n = map (coded_row cs name) (row_numbers n)

-- no row
abbrev pub no_row : CodedRow
no_row = record { code = 0; row = 0; place = 0 }

-- the row of a place
abbrev pub row_in : List CodedRow → ℕ → ℕ
row_in rows j = (slice_index_or rows j no_row).row

-- each stands at its place, with the code of its values
abbrev pub AreCoded : List (Bor Col) → List CodedRow → Type 0
AreCoded cs rows = rows ≡ coded_rows cs (row_in rows) (length rows)

-- whether the rows of two places have the same values
abbrev pub same_values : List (Bor Col) → List CodedRow → ℕ → ℕ → Bool
same_values cs rows = named_rows (row_in rows) (same_at cs)

-- by codes
abbrev pub code_cmp : CodedRow → CodedRow → Ordering
code_cmp = on (λ (r : CodedRow). r.code) nat_cmp

-- by codes, and then by values
abbrev pub coded_cmp : List (Bor Col) → CodedRow → CodedRow → Ordering
coded_cmp cs = then_cmp (on (λ (r : CodedRow). r.code) nat_cmp)
    (on (λ (r : CodedRow). fields_at cs r.row) (slice_cmp value_cmp))

-- the same code, and the same values
abbrev pub same_coded : List (Bor Col) → CodedRow → CodedRow → Bool
same_coded cs a b = (a.code == b.code) && same_at cs a.row b.row

-- of the first n rows, those that stand side by side with one code have the same values
abbrev pub AreToldByCodes : List (Bor Col) → List CodedRow → ℕ → Type 0
AreToldByCodes cs rows n = (t : ℕ) → 1 ≤ t → t < n
    → ((slice_index_or rows (t - 1) no_row).code == (slice_index_or rows t no_row).code) ≡ true
    → same_at cs (slice_index_or rows (t - 1) no_row).row (slice_index_or rows t no_row).row ≡ true

-- whether a row has the values of the one before it
abbrev pub goes_on : List (Bor Col) → List CodedRow → ℕ → Bool
goes_on cs rows t =
    nat_lt 0 t && same_coded cs (slice_index_or rows (t - 1) no_row) (slice_index_or rows t no_row)

-- the same elements in order, where what ties stands as before
pub record AreSorted {X : Type 0} (cmp : X → X → Ordering) (old new : List X) : Type 0 where
  pub permutation : IsPermutation old new
  pub sorted : IsSorted cmp new
  pub stable : IsStable cmp old new

-- the first of n rows that is the same as a row
abbrev pub leader : (ℕ → ℕ → Bool) → ℕ → ℕ → ℕ
leader test n j = position_or_len (λ i. test i j) (row_numbers n)

-- the leader of each row
pub record AreLeaders (test : ℕ → ℕ → Bool) (n : ℕ) (leaders : List ℕ) : Type 0 where
  pub count : length leaders ≡ n
  pub each : (j : ℕ) → j < n → slice_index_or leaders j 0 ≡ leader test n j

-- whether two rows have one leader
abbrev pub led_alike : List ℕ → ℕ → ℕ → Bool
led_alike leaders i j = slice_index_or leaders i 0 == slice_index_or leaders j 0

-- the code of the row of a place
abbrev pub named_code : List (Bor Col) → (ℕ → ℕ) → ℕ → ℕ
named_code cs name j = row_code (fields_at cs (name j))

-- whether the rows of two places have one code
abbrev pub same_code : List (Bor Col) → (ℕ → ℕ) → ℕ → ℕ → Bool
same_code cs name i j = named_code cs name i == named_code cs name j

-- the rows of the first n places have the values of their leaders
abbrev pub AreAsLed : List (Bor Col) → (ℕ → ℕ) → List ℕ → ℕ → Type 0
AreAsLed cs name leaders n =
    (j : ℕ) → j < n → same_at cs (name (slice_index_or leaders j 0)) (name j) ≡ true
