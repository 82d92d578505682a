-- Tables behind the numbers of their rows.
use Rattle.std.proofs.Common.{◌≡◌, ◌∙◌, ◌<◌, ◌≤◌, ℕ, pos, Bool, true, false, List, [], ◌∷◌, Some, None, get_or, length, map, ap, sym, subst, refl, arith, rules}
use Rattle.std.specs.Prelude.{All, ◌≢◌, ◌||◌}
use Rattle.std.proofs.lemmas.Cmp.{nat_list_eq_equiv}
use Rattle.std.proofs.lemmas.List.Elements.{All-nil, All-cons}
use Rattle.std.proofs.lemmas.List.FromFn.{length-map-range_with_len, get_or-map-range_with_len}
use Rattle.std.proofs.lemmas.List.Kept.{AllPairs-cons}
use Rattle.tb_value.specs.Promise.Datum.{int}
use Rattle.tb_value.specs.Promise.Kind as kind
use Rattle.tb_value.specs.Promise.Names.{Name, same_name}
use Rattle.tb_value.specs.Promise.Pairs.{row_numbers}
use Rattle.tb_value.specs.Promise.Refusals.{when}
use Rattle.tb_value.specs.Promise.Typed.{HasType}
use Rattle.tb_value.specs.declared.error.PolarsError.TheVariants.{Duplicate}
use Rattle.tb_value.specs.declared.limits.TheConstants.{MAX_ROWS}
use Rattle.tb_frame.specs.Frame.{frame_refusal}
use Rattle.tb_frame.specs.Promise.Naming.{is_among}
use Rattle.tb_frame.specs.Promise.Table.{IsTable, Table, TableColumn, height, names_of}
use Rattle.tb_frame.proofs.Causes.{unrepeated_names}
use Rattle.tb_frame.proofs.Frames.{no_refusal}
use Rattle.tb_split_front.specs.Promise.Parts.{number_column, number_refusal}

number_typed : (k : ℕ) → k < 4294967296 → HasType kind.uint32 (int (pos k))
number_typed k h = search rules

-- the numbers of rows are of type UInt32
pub numbers_typed : (rows : ℕ) → rows ≤ MAX_ROWS → All (HasType kind.uint32) (map (λ i. int (pos i)) (row_numbers rows))
numbers_typed rows few = λ k d low.
    let under : k < rows = omega (arith, length-map-range_with_len (λ i. int (pos i)) 0 rows) in
    let at : get_or (map (λ i. int (pos i)) (row_numbers rows)) k d ≡ int (pos k) = get_or-map-range_with_len (λ i. int (pos i)) 0 rows k k d under (omega arith) in
    subst (HasType kind.uint32) (sym at) (number_typed k (omega (arith, under, few)))

-- a name that is none of some names differs from each
new_name : (n : Name) (ns : List Name) → is_among ns n ≡ false → All (λ m. n ≢ m) ns
new_name n [] h = All-nil (λ m. n ≢ m)
new_name n (m ∷ ms) h = at (same_name n m) refl h (new_name n ms)
  where
    at : (b : Bool) → same_name n m ≡ b → (b || is_among ms n) ≡ false → (is_among ms n ≡ false → All (λ k. n ≢ k) ms) → All (λ k. n ≢ k) (m ∷ ms)
    at true e k rest = absurd (cc)
    at false e k rest = All-cons (λ o. n ≢ o) m ms (λ same. absurd (let c : false ≡ true = sym e ∙ (ap (same_name n) (sym same) ∙ nat_list_eq_equiv.refl n) in cc)) (rest k)

-- a name that is not refused is none of the table's
pub unused_name : (n : Name) (t : Table) → number_refusal (Some n) t ≡ None → is_among (names_of t) n ≡ false
unused_name n t h = at (is_among (names_of t) n) h
  where
    at : (b : Bool) → when b (Duplicate n) ≡ None → b ≡ false
    at true k = absurd (cc)
    at false k = refl

-- behind the numbers of its rows, under a new name, a table is one
pub behind_numbers : (n : Name) (t : Table) → IsTable t → is_among (names_of t) n ≡ false → frame_refusal (number_column n (height t) ∷ t) ≡ None
behind_numbers n t h new =
    let numbers : TableColumn = number_column n (height t) in
    no_refusal (numbers ∷ t) (height t)
    (All-cons (λ (c : TableColumn). length c.values ≡ height t) numbers t (length-map-range_with_len (λ i. int (pos i)) 0 (height t)) h.one_height)
    (unrepeated_names (n ∷ names_of t) (AllPairs-cons (λ (a b : Name). a ≢ b) n (names_of t) (new_name n (names_of t) new) h.distinct))
