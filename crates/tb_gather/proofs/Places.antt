-- Places of buffers, each once.
use Rattle.std.proofs.Common.{arith, ◌≡◌, ◌∙◌, ◌≤◌, ◌<◌, ◌&&◌, ◌||◌, ◌⊎◌, inl, inr, ℕ, zero, suc, Bool, true, false, not, cond, List, [], ◌∷◌, ◌++◌, Option, Some, None, length, get_or, ap, sym, refl, true≢false, append-nil, Contains, lt-ltb}
use Rattle.std.specs.Prelude.{if◌then◌else◌, filter, filter_map, IfSome, nat_eq}
use Rattle.std.specs.Bool.{Decides}
use Rattle.std.specs.List.{All, list_any, position, position_or_len}
use Rattle.std.proofs.lemmas.List.Elements.{All-push, All-same, Contains-append_right, Contains-get_or, filter-append}
use Rattle.std.proofs.lemmas.Option.{IfSome_then}
use Rattle.std.proofs.lemmas.List.Sums.{fails_before_first, passes_at_first}
use Rattle.std.proofs.lemmas.Map.Views.{list_any-from_Contains}
use Rattle.std.proofs.lemmas.Bool.{cases_lt}
use Rattle.std.proofs.lemmas.Bool.Decides.{Decides-eqb}
use Rattle.indexmap.specs.IndexSet.{insert_key}
use Rattle.indexmap.proofs.CallerLemmas.{Contains-list_any}
use Rattle.tb_value.specs.Proved.ValueTests.{from_decides}
use Rattle.tb_gather.specs.Kept.{Place, each_once, same_place}

both_true : (a b : Bool) → (a && b) ≡ true → (a ≡ true) × (b ≡ true)
both_true true b h = (refl, h)
both_true false b h = absurd (cc)

same_place-Decides : (p q : Place) → Decides (same_place p q) (p ≡ q)
same_place-Decides p q =
    let first = Decides-eqb p.0 q.0 in
    let second = Decides-eqb p.1 q.1 in
    (λ h. let both = both_true (nat_eq p.0 q.0) (nat_eq p.1 q.1) h in λ i. (first.0 both.0 i, second.0 both.1 i), λ e. rw (first.1 (λ i. (e i).0), second.1 (λ i. (e i).1)) refl)

-- the places other than one
abbrev others : Place → List Place → List Place
others p ps = filter (λ q. not (same_place p q)) ps

-- a place is still among those other than another
any-others : (p q : Place) → same_place q p ≡ false → (ps : List Place) → list_any (same_place q) (others p ps) ≡ list_any (same_place q) ps
any-others p q apart [] = refl
any-others p q apart (r ∷ rs) = by (same_place p r) refl (any-others p q apart rs)
  where
    by : (b : Bool) → same_place p r ≡ b → list_any (same_place q) (others p rs) ≡ list_any (same_place q) rs → list_any (same_place q) (others p (r ∷ rs)) ≡ list_any (same_place q) (r ∷ rs)
    by true e rest =
        let other : same_place q r ≡ false = ap (same_place q) (sym ((same_place-Decides p r).0 e)) ∙ apart in
        ap (λ c. list_any (same_place q) (cond (not c) (r ∷ others p rs) (others p rs))) e ∙ rest ∙ ap (λ c. c || list_any (same_place q) rs) (sym other)
    by false e rest = ap (λ c. list_any (same_place q) (cond (not c) (r ∷ others p rs) (others p rs))) e ∙ ap (λ c. same_place q r || c) rest

same_place-symm : (p q : Place) (b : Bool) → same_place p q ≡ b → same_place q p ≡ b
same_place-symm p q true h = (same_place-Decides q p).1 (sym ((same_place-Decides p q).0 h))
same_place-symm p q false h = by (same_place q p) refl
  where
    by : (b : Bool) → same_place q p ≡ b → same_place q p ≡ false
    by true e = absurd (let back = (same_place-Decides p q).1 (sym ((same_place-Decides q p).0 e)) in cc)
    by false e = e

others-one : (p q : Place) (b : Bool) → same_place q p ≡ b → others p (q ∷ []) ≡ cond (not b) (q ∷ []) []
others-one p q b e = ap (λ c. cond (not c) (q ∷ []) []) (same_place-symm q p b e)

any-first : (p q : Place) (ps : List Place) (b c : Bool) → same_place q p ≡ b → list_any (same_place q) ps ≡ c → list_any (same_place q) (p ∷ others p ps) ≡ b || c
any-first p q ps true c e f = ap (λ a. a || list_any (same_place q) (others p ps)) e
any-first p q ps false c e f = ap (λ a. a || list_any (same_place q) (others p ps)) e ∙ any-others p q e ps ∙ f

inserted : (ps : List Place) (q : Place) (c : Bool) → list_any (same_place q) ps ≡ c → insert_key same_place ps q ≡ (if c then ps else ps ++ q ∷ [])
inserted ps q c e = ap (λ a. if a then ps else ps ++ q ∷ []) e

-- what is put to the places other than one
others-inserted : (p q : Place) (ps : List Place) → p ∷ others p (insert_key same_place ps q) ≡ insert_key same_place (p ∷ others p ps) q
others-inserted p q ps = by (same_place q p) refl (list_any (same_place q) ps) refl
  where
    by : (b : Bool) → same_place q p ≡ b → (c : Bool) → list_any (same_place q) ps ≡ c → p ∷ others p (insert_key same_place ps q) ≡ insert_key same_place (p ∷ others p ps) q
    by true e true f = ap (λ l. p ∷ others p l) (inserted ps q true f) ∙ sym (inserted (p ∷ others p ps) q true (any-first p q ps true true e f))
    by true e false f =
        ap (λ l. p ∷ others p l) (inserted ps q false f) ∙ ap (λ l. p ∷ l) (filter-append (λ r. not (same_place p r)) ps (q ∷ []))
        ∙ ap (λ l. p ∷ others p ps ++ l) (others-one p q true e) ∙ append-nil (p ∷ others p ps) ∙ sym (inserted (p ∷ others p ps) q true (any-first p q ps true false e f))
    by false e true f = ap (λ l. p ∷ others p l) (inserted ps q true f) ∙ sym (inserted (p ∷ others p ps) q true (any-first p q ps false true e f))
    by false e false f =
        ap (λ l. p ∷ others p l) (inserted ps q false f) ∙ ap (λ l. p ∷ l) (filter-append (λ r. not (same_place p r)) ps (q ∷ []))
        ∙ ap (λ l. p ∷ others p ps ++ l) (others-one p q false e) ∙ sym (inserted (p ∷ others p ps) q false (any-first p q ps false false e f))

-- one more place comes last, if it is not there
pub once-more : (ps : List Place) (q : Place) → each_once (ps ++ q ∷ []) ≡ insert_key same_place (each_once ps) q
once-more [] q = refl
once-more (p ∷ ps) q = ap (λ l. p ∷ others p l) (once-more ps q) ∙ others-inserted p q (each_once ps)

-- the places are there as before
any-once : (q : Place) (ps : List Place) → list_any (same_place q) (each_once ps) ≡ list_any (same_place q) ps
any-once q [] = refl
any-once q (p ∷ ps) = by (same_place q p) refl (any-once q ps)
  where
    by : (b : Bool) → same_place q p ≡ b → list_any (same_place q) (each_once ps) ≡ list_any (same_place q) ps → list_any (same_place q) (p ∷ others p (each_once ps)) ≡ same_place q p || list_any (same_place q) ps
    by b e rest = any-first p q (each_once ps) b (list_any (same_place q) ps) e rest ∙ ap (λ a. a || list_any (same_place q) ps) (sym e)

pub Contains-once : (ps : List Place) (q : Place) → Contains ps q → Contains (each_once ps) q
Contains-once ps q is =
    let laws = from_decides same_place same_place-Decides in
    Contains-list_any same_place (λ a b. (same_place-Decides a b).0) (each_once ps) q (any-once q ps ∙ list_any-from_Contains laws q ps is)

length-others : (p : Place) (ps : List Place) → length (others p ps) ≤ length ps
length-others p [] = omega arith
length-others p (q ∷ qs) = by (same_place p q) refl (length-others p qs)
  where
    by : (b : Bool) → same_place p q ≡ b → length (others p qs) ≤ length qs → length (others p (q ∷ qs)) ≤ length (q ∷ qs)
    by true e h = rw e (omega (arith, h))
    by false e h = rw e (omega (arith, h))

pub length-once : (ps : List Place) → length (each_once ps) ≤ length ps
length-once [] = omega arith
length-once (p ∷ ps) = omega (arith, length-others p (each_once ps), length-once ps)

pub length-gathered : {X : Type 0} (f : X → Option Place) (xs : List X) → length (filter_map f xs) ≤ length xs
length-gathered f [] = omega arith
length-gathered f (x ∷ xs) = by (f x) refl (length-gathered f xs)
  where
    by : (o : Option Place) → f x ≡ o → length (filter_map f xs) ≤ length xs → length (filter_map f (x ∷ xs)) ≤ length (x ∷ xs)
    by None e h = rw e (omega (arith, h))
    by (Some p) e h = rw e (omega (arith, h))

-- the number of a place that is there
pub number-low : (ps : List Place) (p : Place) → Contains ps p → position_or_len (same_place p) ps < length ps
number-low ps p is = by (cases_lt (position_or_len (same_place p) ps) (length ps))
  where
    by : (position_or_len (same_place p) ps < length ps) ⊎ (length ps ≤ position_or_len (same_place p) ps) → position_or_len (same_place p) ps < length ps
    by (inl low) = low
    by (inr high) =
        let fails : same_place p p ≡ false = ap (same_place p) (sym is.2) ∙ fails_before_first (same_place p) ps is.0 p (omega (arith, is.1, high)) in
        absurd (true≢false (sym ((same_place-Decides p p).1 refl) ∙ fails))

pub number-there : (ps : List Place) (p : Place) → Contains ps p → position (same_place p) ps ≡ Some (position_or_len (same_place p) ps)
number-there ps p is = ap (λ b. cond b (Some (position_or_len (same_place p) ps)) None) (lt-ltb (position_or_len (same_place p) ps) (length ps) (number-low ps p is))

pub at-number : (ps : List Place) (p d : Place) → Contains ps p → get_or ps (position_or_len (same_place p) ps) d ≡ p
at-number ps p d is = sym ((same_place-Decides p _).0 (passes_at_first (same_place p) ps d (number-low ps p is)))

pub All-inserted : (P : Place → Type 0) (ps after : List Place) (q : Place) → after ≡ insert_key same_place ps q → All P ps → P q → All P after
All-inserted P ps after q put all one = by (list_any (same_place q) ps) refl
  where
    by : (c : Bool) → list_any (same_place q) ps ≡ c → All P after
    by true e = All-same P after ps (put ∙ inserted ps q true e) all
    by false e = All-same P after (ps ++ q ∷ []) (put ∙ inserted ps q false e) (All-push P ps q all one)

-- what is made of an item that is there
pub Contains-gathered : {X : Type 0} (f : X → Option Place) (xs : List X) (i : ℕ) (d : X) → i < length xs → IfSome (f (get_or xs i d)) (Contains (filter_map f xs))
Contains-gathered f [] i d low = absurd (omega arith)
Contains-gathered f (x ∷ xs) zero d low = by (f x) refl
  where
    by : (o : Option Place) → f x ≡ o → IfSome (f x) (Contains (filter_map f (x ∷ xs)))
    by None e = rw e tt
    by (Some p) e = rw e (Contains-get_or (p ∷ filter_map f xs) 0 p (omega arith))
Contains-gathered f (x ∷ xs) (suc i) d low = by (f x) refl (Contains-gathered f xs i d (omega arith))
  where
    by : (o : Option Place) → f x ≡ o → IfSome (f (get_or xs i d)) (Contains (filter_map f xs)) → IfSome (f (get_or xs i d)) (Contains (filter_map f (x ∷ xs)))
    by None e h = rw e h
    by (Some p) e h = IfSome_then (f (get_or xs i d)) h (λ q is. rw e (Contains-append_right (p ∷ []) (filter_map f xs) q is))
