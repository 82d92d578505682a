-- Lists whose items are read one by one, and runs of them.
use Rattle.std.proofs.Common.{◌≡◌, ◌∙◌, ℕ, zero, suc, ◌+◌, ◌<◌, Bool, ◌&&◌, get_or, drop, length, List, [], ◌∷◌, ◌++◌, map, replicate, Option, Some, None, option_map, option_and_then, refl, sym, ap}
use Rattle.std.specs.Prelude.{is_some}
use Rattle.std.proofs.lemmas.List.{at_drop_more}
use Rattle.std.proofs.lemmas.List.Sums.{sum_by-cons}
use Rattle.tb_tree.specs.declared.value.Value.{Value}
use Rattle.tb_value.specs.Promise.Datum.{Datum}
use Rattle.tb_value.specs.Promise.Kind.{Kind}
use Rattle.tb_chunk.specs.Promise.Made.{at_least_one}
use Rattle.tb_chunk.specs.RunLayout.{expansion, total_of}
use Rattle.tb_json.specs.Promise.Cells.{cell_in}
use Rattle.tb_json.specs.Promise.Lists.{each}
use Rattle.tb_request.specs.Lent.{run_view}
use Rattle.tb_request.specs.Promise.Columns.{run_in}
use Rattle.tb_request.specs.Promise.Written.{WrittenRun}

-- the first item and the others, where all are read
abbrev pub Parts : {B : Type 0} → Option B → Option (List B) → List B → Type 0
Parts {B} first others all = (y : B) × (ys : List B) × (first ≡ Some y) × (others ≡ Some ys) × (all ≡ y ∷ ys)

same_list : {B : Type 0} (xs ys : List B) → Some xs ≡ Some ys → xs ≡ ys
same_list xs ys e = cc

pub parts : {B : Type 0} (first : Option B) (others : Option (List B)) (all : List B) → option_and_then (λ y. option_map (λ ys. y ∷ ys) others) first ≡ Some all → Parts first others all
parts None others all e = absurd (cc)
parts (Some y) None all e = absurd (cc)
parts (Some y) (Some ys) all e = (y, ys, refl, refl, sym (same_list (y ∷ ys) all e))

pub each_more : {A B : Type 0} (f : A → Option B) (x : A) (xs : List A) (y : B) (ys : List B) → f x ≡ Some y → each f xs ≡ Some ys → each f (x ∷ xs) ≡ Some (y ∷ ys)
each_more f x xs y ys p q = λ i. option_and_then (λ z. option_map (λ zs. z ∷ zs) (q i)) (p i)

pub each_append : {A B : Type 0} (f : A → Option B) (xs xs' : List A) (ys ys' : List B) → each f xs ≡ Some ys → each f xs' ≡ Some ys' → each f (xs ++ xs') ≡ Some (ys ++ ys')
each_append f [] xs' ys ys' p q = q ∙ ap (λ zs. Some (zs ++ ys')) (same_list [] ys p)
each_append f (x ∷ xs) xs' ys ys' p q =
    let s = parts (f x) (each f xs) ys p in
    each_more f x (xs ++ xs') s.0 (s.1 ++ ys') s.2 (each_append f xs xs' s.1 ys' s.3 q)
    ∙ ap (λ zs. Some (zs ++ ys')) (sym s.4)

pub each_replicate : {A B : Type 0} (f : A → Option B) (n : ℕ) (x : A) (y : B) → f x ≡ Some y → each f (replicate n x) ≡ Some (replicate n y)
each_replicate f zero x y p = refl
each_replicate f (suc n) x y p = each_more f x (replicate n x) y (replicate n y) p (each_replicate f n x y p)

-- what f' makes of other items, where this is known of one
pub each_goes : {A A' B B' : Type 0} (g : A → A') (h : B → B') (f : A → Option B) (f' : A' → Option B') → ((x : A) (y : B) → f x ≡ Some y → f' (g x) ≡ Some (h y)) → (xs : List A) (ys : List B) → each f xs ≡ Some ys → each f' (map g xs) ≡ Some (map h ys)
each_goes g h f f' one [] ys p = ap (λ zs. Some (map h zs)) (same_list [] ys p)
each_goes g h f f' one (x ∷ xs) ys p =
    let s = parts (f x) (each f xs) ys p in
    each_more f' (g x) (map g xs) (h s.0) (map h s.1) (one x s.0 s.2) (each_goes g h f f' one xs s.1 s.3)
    ∙ ap (λ zs. Some (map h zs)) (sym s.4)

-- ---- the values of runs

value_of_run : (n : ℕ) (o : Option Datum) (v : Datum × ℕ) → option_map (λ w. (w, n)) o ≡ Some v → (o ≡ Some v.0) × (v.1 ≡ n)
value_of_run n None v e = absurd (cc)
value_of_run n (Some w) v e = (cc, cc)

pub each_expansion : (t : Kind) (rs : List WrittenRun) (vs : List (Datum × ℕ)) → each (run_in t) rs ≡ Some vs → each (cell_in t) (expansion rs) ≡ Some (expansion vs)
each_expansion t [] vs p = ap (λ zs. Some (expansion zs)) (same_list [] vs p)
each_expansion t (r ∷ rs) vs p =
    let s = parts (run_in t r) (each (run_in t) rs) vs p in
    let v = value_of_run r.1 (cell_in t r.0) s.0 s.2 in
    each_append (cell_in t) (replicate r.1 r.0) (expansion rs) (replicate r.1 s.0.0) (expansion s.1) (each_replicate (cell_in t) r.1 r.0 s.0.0 v.0) (each_expansion t rs s.1 s.3)
    ∙ ap (λ n. Some (replicate n s.0.0 ++ expansion s.1)) (sym v.1)
    ∙ ap (λ zs. Some (expansion zs)) (sym s.4)

pub each_total : (t : Kind) (rs : List WrittenRun) (vs : List (Datum × ℕ)) → each (run_in t) rs ≡ Some vs → total_of vs ≡ total_of rs
each_total t [] vs p = ap total_of (sym (same_list [] vs p))
each_total t (r ∷ rs) vs p =
    let s = parts (run_in t r) (each (run_in t) rs) vs p in
    let v = value_of_run r.1 (cell_in t r.0) s.0 s.2 in
    ap total_of s.4
    ∙ sum_by-cons (λ w. w.1) s.0 s.1
    ∙ (λ i. v.1 i + each_total t rs s.1 s.3 i)
    ∙ sym (sum_by-cons (λ w. w.1) r rs)

-- ---- tests of runs

both_some : (n : ℕ) (o : Option Datum) (rest : Option (List (Datum × ℕ))) → is_some (option_and_then (λ y. option_map (λ ys. y ∷ ys) rest) (option_map (λ v. (v, n)) o)) ≡ is_some o && is_some rest
both_some n None rest = refl
both_some n (Some v) None = refl
both_some n (Some v) (Some ys) = refl

-- whether the values of the runs that are left are of the type, by whether that of the next one is
pub typed_next : (t : Kind) (runs : List Value) (i : ℕ) (run : Value) (b : Bool) → i < length runs → run ≡ get_or runs i run → b ≡ is_some (cell_in t (run_view run).0) → is_some (each (run_in t) (map run_view (drop i runs))) ≡ b && is_some (each (run_in t) (map run_view (drop (i + 1) runs)))
typed_next t runs i run b within is e =
    let rest = each (run_in t) (map run_view (drop (i + 1) runs)) in
    at_drop_more (λ vs. is_some (each (run_in t) (map run_view vs))) runs i run within
    ∙ ap (λ v. is_some (each (run_in t) (run_view v ∷ map run_view (drop (i + 1) runs)))) (sym is)
    ∙ both_some (run_view run).1 (cell_in t (run_view run).0) rest
    ∙ ap (λ c. c && is_some rest) (sym e)

-- the only chunk, where there is one
pub only_chunk : (o : Option (List (Datum × ℕ))) (cs : List (List Datum)) → Some cs ≡ option_map (λ vs. expansion vs ∷ []) o → at_least_one cs ≡ cs
only_chunk None cs e = absurd (cc)
only_chunk (Some vs) cs e = let is : cs ≡ expansion vs ∷ [] = cc in ap at_least_one is ∙ sym is
