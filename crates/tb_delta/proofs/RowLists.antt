-- The rows of a side as entries of a map, and as the rows of a state.
use Rattle.std.proofs.Common.{◌≡◌, ℕ, suc, ◌<◌, Bool, true, cond, not, nat_eq, nat_cmp, List, [], ◌∷◌, ◌++◌, length, get_or, map, Option, Some, None, refl, ap, arith, sym, ◌∙◌, subst, ⊎_elim}
use Rattle.std.specs.Prelude.{filter, option_map, unwrap_or, All, AllPairs, IfSome}
use Rattle.std.specs.Map.{lookup, remove_entry}
use Rattle.std.specs.BTreeMap.{insert_entry, is_at}
use Rattle.std.specs.Ordering.{match_ordering}
use Rattle.std.specs.declared.cmp.Ordering.TheVariants.{Greater}
use Rattle.std.specs.Cmp.{nat_cmp_is}
use Rattle.std.proofs.lemmas.Bool.{cases_Bool}

-- an entry above all others is put last
pub put_last : {X : Type 0} (id : ℕ) (v : X) (es : List (ℕ × X)) → ((k : ℕ) (d : ℕ × X) → k < length es → (get_or es k d).0 < id) → insert_entry nat_cmp es id v ≡ es ++ (id, v) ∷ []
put_last id v [] low = refl
put_last {X} id v (e ∷ es) low =
    let greater : Greater ≡ nat_cmp id e.0 = nat_cmp_is id e.0 Greater (low 0 e (omega arith)) in
    ap (λ r. match_ordering {X = List (ℕ × X)} r ((id, v) ∷ e ∷ es) ((e.0, v) ∷ es) (e ∷ insert_entry nat_cmp es id v)) (sym greater)
    ∙ ap (λ (xs : List (ℕ × X)). e ∷ xs) (put_last id v es (λ k d under. low (suc k) d (omega (arith, under))))

-- two tests of one number
pub at_is_equal : (id k : ℕ) → is_at (nat_cmp id) k ≡ nat_eq id k
at_is_equal id k = grind (arith, nat_cmp_is id k)

module _ {X Y : Type 0} (f : X → Y) where
  abbrev pub row : ℕ × X → ℕ × Y
  row e = (e.0, f e.1)

  pub found : (id : ℕ) (es : List (ℕ × X)) → option_map f (lookup (is_at (nat_cmp id)) es) ≡ lookup (nat_eq id) (map row es)
  found id [] = refl
  found id (e ∷ es) =
      ap (λ b. option_map f (cond b (Some e.1) (lookup (is_at (nat_cmp id)) es))) (at_is_equal id e.0)
      ∙ ⊎_elim
      (λ y. ap (λ b. option_map f (cond b (Some e.1) (lookup (is_at (nat_cmp id)) es))) y ∙ sym (ap (λ b. cond b (Some (f e.1)) (lookup (nat_eq id) (map row es))) y))
      (λ n. ap (λ b. option_map f (cond b (Some e.1) (lookup (is_at (nat_cmp id)) es))) n ∙ found id es ∙ sym (ap (λ b. cond b (Some (f e.1)) (lookup (nat_eq id) (map row es))) n))
      (cases_Bool (nat_eq id e.0))

  untouched : (id : ℕ) (es : List (ℕ × X)) → ((k : ℕ) (d : ℕ × X) → k < length es → id < (get_or es k d).0) → map row es ≡ filter (λ (r : ℕ × Y). not (nat_eq id r.0)) (map row es)
  untouched id [] above = refl
  untouched id (e ∷ es) above =
      let other : not (nat_eq id e.0) ≡ true = grind (arith, above 0 e (omega arith)) in
      ap (λ xs. row e ∷ xs) (untouched id es (λ k d under. above (suc k) d (omega (arith, under))))
      ∙ sym (ap (λ b. cond b (row e ∷ filter (λ (r : ℕ × Y). not (nat_eq id r.0)) (map row es)) (filter (λ (r : ℕ × Y). not (nat_eq id r.0)) (map row es))) other)

  -- the entry of a number is taken out of ascending ones
  pub pulled : (id : ℕ) (es : List (ℕ × X)) → AllPairs (λ (a b : ℕ × X). a.0 < b.0) es
      → map row (remove_entry (is_at (nat_cmp id)) es) ≡ filter (λ (r : ℕ × Y). not (nat_eq id r.0)) (map row es)
  pulled id [] asc = refl
  pulled id (e ∷ es) asc =
      let rest : List (ℕ × Y) = filter (λ (r : ℕ × Y). not (nat_eq id r.0)) (map row es) in
      ap (λ b. map row (cond b es (e ∷ remove_entry (is_at (nat_cmp id)) es))) (at_is_equal id e.0)
      ∙ ⊎_elim
      (λ y. ap (λ b. map row (cond b es (e ∷ remove_entry (is_at (nat_cmp id)) es))) y
      ∙ untouched id es (λ k d under. grind (arith, y, asc 0 (suc k) d (omega arith) (omega (arith, under))))
      ∙ sym (ap (λ b. cond (not b) (row e ∷ rest) rest) y))
      (λ n. ap (λ b. map row (cond b es (e ∷ remove_entry (is_at (nat_cmp id)) es))) n
      ∙ ap (λ xs. row e ∷ xs) (pulled id es (λ i j d less under. asc (suc i) (suc j) d (omega (arith, less)) (omega (arith, under))))
      ∙ sym (ap (λ b. cond (not b) (row e ∷ rest) rest) n))
      (cases_Bool (nat_eq id e.0))

-- what holds of all values holds of one that is found
pub looked : {X : Type 0} (P : X → Type 0) (test : ℕ → Bool) (es : List (ℕ × X)) (v : X) → All (λ (e : ℕ × X). P e.1) es → Some v ≡ lookup test es → P v
looked P test [] v all is = absurd (cc)
looked {X} P test (e ∷ es) v all is = ⊎_elim
    (λ y. let same : Some v ≡ Some e.1 = is ∙ ap (λ b. cond b (Some e.1) (lookup test es)) y in
    subst P (ap (λ (o : Option X). unwrap_or o e.1) (sym same)) (all 0 e (omega arith)))
    (λ n. looked P test es v (λ k d low. all (suc k) d (omega (arith, low))) (is ∙ ap (λ b. cond b (Some e.1) (lookup test es)) n))
    (cases_Bool (test e.0))

-- the same of what may be found
pub looked_if : {X : Type 0} (P : X → Type 0) (test : ℕ → Bool) (es : List (ℕ × X)) (o : Option X) → All (λ (e : ℕ × X). P e.1) es → o ≡ lookup test es → IfSome o P
looked_if P test es None all is = tt
looked_if P test es (Some v) all is = looked P test es v all is
