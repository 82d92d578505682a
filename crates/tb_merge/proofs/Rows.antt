-- A merge, one left row more.
use Rattle.std.proofs.Common.{◌≡◌, inl, inr, ℕ, zero, suc, ◌+◌, ◌-◌, ◌<◌, ◌≤◌, Bool, false, List, [], ◌++◌, length, refl, sym, ap, ◌∙◌, arith, ℤ, length-append}
use Rattle.std.specs.List.{flat_map, range_with_len}
use Rattle.tb_value.specs.declared.limits.TheConstants.{MAX_ROWS}
use Rattle.tb_value.specs.declared.index.JoinPair.{JoinPair}
use Rattle.tb_value.specs.Promise.Pairs.{row_numbers}
use Rattle.tb_merge.specs.declared.fault.MergeFault.{MergeFault}
use Rattle.tb_merge.specs.declared.by_portion.Progress.{Progress}
use Rattle.tb_merge.specs.declared.runs.Cursor.{Cursor}
use Rattle.tb_merge.specs.Faults.{IsCauseOf}
use Rattle.tb_merge.specs.Keys.{AreMergeable, key_at}
use Rattle.tb_merge.specs.Progress.{IsMergedTo}
use Rattle.tb_merge.specs.Runs.{IsRun}
use Rattle.tb_merge.specs.RowPairs.{row_pairs, rows_of, pairs_of}
use Rattle.tb_merge.proofs.Listings.{length-row_met, listed_more, rows_more, rows_within, flat_more}
use Rattle.tb_merge.proofs.Matches.{run_rows}
use Rattle.tb_merge.proofs.Scans.{ascends, cursor-next}

-- where some pairs are too many, so are more
pub still_too_many : (a b : ℕ) (e : MergeFault) → a ≤ b → IsCauseOf a e → IsCauseOf b e
still_too_many a b e le (inl h) = inl h
still_too_many a b e le (inr h) = let over = h.1 in inr (h.0, omega arith)

least : (keep : Bool) (i a n : ℕ) → n ≤ length (row_pairs keep i (range_with_len a n))
least keep i a zero = omega arith
least keep i a (suc n) = let k = length-row_met keep i a (suc n) (omega arith) in omega (arith, k)

exactly : (i a n : ℕ) → length (row_pairs false i (range_with_len a n)) ≡ n
exactly i a zero = refl
exactly i a (suc n) = length-row_met false i a (suc n) (omega arith)

module _ (left right : List ℤ) (keep : Bool) (pairs : List JoinPair) (from : Progress) (so_far : IsMergedTo left right keep pairs from) where
  module _ (low : from.row < length left) (to : Cursor) (run : IsRun right (key_at left from.row) to.start to.end) where
    here : (kept : Bool) → row_pairs kept from.row (range_with_len to.start (to.end - to.start)) ≡ row_pairs kept from.row (rows_of left right from.row)
    here kept = sym (ap (row_pairs kept from.row) (run_rows left right from.row to.start to.end run))

    -- the row's pairs fit where all pairs do
    pub row_fits : length pairs + length (row_pairs keep from.row (range_with_len to.start (to.end - to.start))) ≤ length (pairs_of left right keep (row_numbers (length left)))
    row_fits =
        let long = ap (λ (l : List JoinPair). length l) so_far.listed in
        let within = rows_within (λ i. row_pairs keep i (rows_of left right i)) from.row (length left) low in
        let count = ap (λ (l : List JoinPair). length l) (here keep) in
        omega (arith, long, within, count)

    listed : (new : List JoinPair) → new ≡ pairs ++ row_pairs keep from.row (range_with_len to.start (to.end - to.start)) → new ≡ pairs_of left right keep (row_numbers (from.row + 1))
    listed new step =
        listed_more (λ i. row_pairs keep i (rows_of left right i)) (row_numbers from.row) from.row pairs new so_far.listed
        (step ∙ ap (λ (l : List JoinPair). pairs ++ l) (here keep))
        ∙ sym (ap (pairs_of left right keep) (rows_more from.row))

    matched : from.matched + (to.end - to.start) ≡ length (pairs_of left right false (row_numbers (from.row + 1)))
    matched =
        let f = λ (i : ℕ). row_pairs false i (rows_of left right i) in
        let is = row_numbers from.row in
        let all = ap (λ (rows : List ℕ). length (pairs_of left right false rows)) (rows_more from.row) in
        let more = ap (λ (l : List JoinPair). length l) (flat_more f is from.row) in
        let parts = length-append (flat_map f is) (f from.row) in
        let count = ap (λ (l : List JoinPair). length l) (here false) in
        let this = exactly from.row to.start (to.end - to.start) in
        omega (arith, so_far.matched, all, more, parts, count, this)

    pub one_row_more : (ledger counter : ℕ) (new : List JoinPair) → AreMergeable left right ledger counter
        → new ≡ pairs ++ row_pairs keep from.row (range_with_len to.start (to.end - to.start))
        → length pairs + length (row_pairs keep from.row (range_with_len to.start (to.end - to.start))) ≤ MAX_ROWS
        → to.comparisons + from.cursor.end ≤ from.cursor.comparisons + 2 + to.end
        → IsMergedTo left right keep new (record { row = from.row + 1; cursor = to; matched = from.matched + (to.end - to.start) })
    one_row_more ledger counter new keys step fits cost =
        let long = ap (λ (l : List JoinPair). length l) step in
        let parts = length-append pairs (row_pairs keep from.row (range_with_len to.start (to.end - to.start))) in
        let this = least keep from.row to.start (to.end - to.start) in
        record {
          within = omega (arith, low);
          listed = listed new step;
          room = omega (arith, long, parts, fits);
          matched = matched;
          few = omega (arith, long, parts, this, so_far.few);
          passed = run.scanned.within;
          cursor = λ more. cursor-next right (key_at left (from.row + 1)) (key_at left from.row) to.start to.end run (ascends left keys.left_sorted from.row (from.row + 1) (omega arith) more);
          cheap = omega (arith, so_far.cheap, cost);
        }

-- none of the left rows is merged yet
pub merged_none : (left right : List ℤ) (keep : Bool) (pairs : List JoinPair) → pairs ≡ []
    → IsMergedTo left right keep pairs (record { row = 0; cursor = record { start = 0; end = 0; comparisons = 0 }; matched = 0 })
merged_none left right keep pairs none =
    let long = ap (λ (l : List JoinPair). length l) none in
    record {
      within = omega arith;
      listed = none;
      room = omega (arith, long);
      matched = refl;
      few = omega arith;
      passed = omega arith;
      cursor = λ more. record {
        ordered = omega arith;
        within = omega arith;
        lower = λ j low. absurd (omega (arith, low));
        level = λ j from low. absurd (omega (arith, low));
        reached = λ some. absurd (omega (arith, some));
        greater = λ j some from low. absurd (omega (arith, some));
      };
      cheap = omega arith;
    }
