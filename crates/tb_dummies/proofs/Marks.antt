-- The rows of a group are those of its value.
use Rattle.std.proofs.Common.{◌≡◌, ◌∙◌, ◌<◌, ◌≤◌, ◌+◌, ℕ, zero, suc, pos, Bool, cond, List, [], ◌∷◌, ◌++◌, get_or, length, map, take, refl, sym, ap, subst, arith}
use Rattle.std.specs.List.{All}
use Rattle.std.specs.Cmp.{IsEquivalence}
use Rattle.std.proofs.Math.Bool.{and-true}
use Rattle.std.proofs.lemmas.List.{map_push, take_all, take_more}
use Rattle.std.proofs.lemmas.List.FromFn.{length-map-range_with_len}
use Rattle.tb_value.proofs.RowNumbers.{row_numbers_more}
use Rattle.tb_value.specs.Promise.Datum.{Datum, int, null}
use Rattle.tb_value.specs.Promise.Pairs.{row_numbers}
use Rattle.tb_value.specs.Proved.ValueTests.{pulled, same_equiv}
use Rattle.tb_value.specs.Promise.Same.{same}
use Rattle.tb_rows.specs.Grouped.{AreGroups}
use Rattle.tb_rows.specs.Promise.Rows.{first_rows, group_of, same_rows, row_value}
use Rattle.tb_rows.specs.declared.groups.Groups.{Groups}
use Rattle.tb_rows.proofs.FirstRows.{firsts_below, group_is}
use Rattle.tb_dummies.specs.Promise.Dummies.{mark}
use Rattle.tb_dummies.specs.Lent.{mark_in}

-- whether two rows have the same value
abbrev pub same_at : List Datum → ℕ → ℕ → Bool
same_at vs i j = same (row_value vs i) (row_value vs j)

pub one_list : (vs : List Datum) → same_rows (vs ∷ []) ≡ same_at vs
one_list vs = λ t i j. and-true (same_at vs i j) t

pub own_test : (vs : List Datum) → IsEquivalence (same_at vs)
own_test vs = pulled (row_value vs) same_equiv

map-map : {X Y Z : Type 0} (f : X → Y) (g : Y → Z) (xs : List X) → map g (map f xs) ≡ map (λ x. g (f x)) xs
map-map f g [] = refl
map-map f g (x ∷ xs) = ap (λ l. g (f x) ∷ l) (map-map f g xs)

one_more : (n : ℕ) → n + 1 ≡ suc n
one_more n = omega arith

-- the values of the first rows are the first values
first_values : (vs : List Datum) (n : ℕ) → n ≤ length vs → map (row_value vs) (row_numbers n) ≡ take n vs
first_values vs zero h = refl
first_values vs (suc n) h =
    subst (λ (m : ℕ). map (row_value vs) (row_numbers m) ≡ take m vs) (one_more n)
    (ap (map (row_value vs)) (row_numbers_more n) ∙ map_push (row_value vs) (row_numbers n) n ∙ ap (λ (l : List Datum). l ++ row_value vs n ∷ []) (first_values vs n (omega (arith, h))) ∙ sym (take_more vs n null (omega (arith, h))))

all_values : (vs : List Datum) → map (row_value vs) (row_numbers (length vs)) ≡ vs
all_values vs = first_values vs (length vs) (omega arith) ∙ take_all (length vs) vs (omega arith)

-- the marks of a group are those of the value of its first row
pub group_marks : (vs : List Datum) (g : Groups) (p row : ℕ) → AreGroups (same_rows (vs ∷ [])) (length vs) g → p < length g.firsts.items → row ≡ get_or g.firsts.items p 0
    → map (mark_in p) g.numbers.items ≡ map (mark (row_value vs row)) vs
group_marks vs g p row groups low is =
    let n = length vs in
    let test = same_at vs in
    let firsts : g.firsts.items ≡ first_rows test n = groups.firsts ∙ (λ t. first_rows (one_list vs t) n) in
    let numbers : g.numbers.items ≡ map (group_of test n) (row_numbers n) = groups.numbers ∙ (λ t. map (group_of (one_list vs t) n) (row_numbers n)) in
    let here : p < length (first_rows test n) = subst (λ (l : List ℕ). p < length l) firsts low in
    let row_is : get_or (first_rows test n) p 0 ≡ row = ap (λ (l : List ℕ). get_or l p 0) (sym firsts) ∙ sym is in
    let each : (j : ℕ) → mark_in p (group_of test n j) ≡ mark (row_value vs row) (row_value vs j) = λ j. ap (λ (b : Bool). int (pos (cond b 1 0))) (group_is test (own_test vs) n p j here ∙ ap (λ (i : ℕ). test i j) row_is) in
    ap (map (mark_in p)) numbers ∙ map-map (group_of test n) (mark_in p) (row_numbers n)
    ∙ (λ t. map (λ j. each j t) (row_numbers n))
    ∙ sym (map-map (row_value vs) (mark (row_value vs row)) (row_numbers n)) ∙ ap (map (mark (row_value vs row))) (all_values vs)

-- there are as many numbers as rows, and each first row is one
pub numbers_few : (vs : List Datum) (g : Groups) → AreGroups (same_rows (vs ∷ [])) (length vs) g → length g.numbers.items ≡ length vs
numbers_few vs g groups = ap length groups.numbers ∙ length-map-range_with_len (group_of (same_rows (vs ∷ [])) (length vs)) 0 (length vs)

pub first_below : (vs : List Datum) (g : Groups) (p row : ℕ) → AreGroups (same_rows (vs ∷ [])) (length vs) g → p < length g.firsts.items → row ≡ get_or g.firsts.items p 0 → row < length vs
first_below vs g p row groups low is =
    let all : All (λ i. i < length vs) g.firsts.items = subst (λ (l : List ℕ). All (λ i. i < length vs) l) (sym groups.firsts) (firsts_below (same_rows (vs ∷ [])) (length vs)) in
    subst (λ (i : ℕ). i < length vs) (sym is) (all p 0 low)
