-- What follows where no cause holds.
use Rattle.std.proofs.Common.{◌≡◌, ℕ, ◌<◌, ◌≤◌, nat_lt, Bool, true, false, cond, List, [], ◌∷◌, ◌++◌, length, get_or, take, refl, ap, arith, sym, ◌∙◌, subst, Option, Some, None}
use Rattle.std.specs.Prelude.{All, AllPairs, ◌≢◌, ◌==◌, ◌||◌}
use Rattle.std.specs.Option.{option_map}
use Rattle.std.specs.List.{find, filter_map, cons_option}
use Rattle.std.proofs.lemmas.Bool.{ltb-false}
use Rattle.std.proofs.lemmas.List.{get_or-take, length-take, get_or_default}
use Rattle.std.proofs.lemmas.List.Elements.{All-nil, All-cons, All-head, All-tail}
use Rattle.std.proofs.lemmas.List.Folds.{list_any_at, list_any_none}
use Rattle.std.proofs.lemmas.List.FromFn.{length-range_with_len, get_or-range_with_len}
use Rattle.std.proofs.lemmas.Cmp.{nat_list_eq_equiv}
use Rattle.std.proofs.lemmas.Slice.Eq.{bytes_eq-Decides}
use Rattle.tb_value.specs.declared.error.PolarsError.{PolarsError}
use Rattle.tb_value.specs.Promise.Refusals.{first_cause, when}
use Rattle.tb_value.specs.Promise.Names.{Name}
use Rattle.tb_value.specs.Promise.Names.{same_name}
use Rattle.tb_value.specs.Promise.Pairs.{row_numbers}
use Rattle.tb_frame.specs.Promise.Table.{TableColumn, Table}
use Rattle.tb_frame.specs.Promise.Join.{column_named}
use Rattle.tb_frame.specs.Promise.Naming.{is_among}
use Rattle.tb_frame.specs.Promise.Refusal.{first_repeated, first_unknown, name_at, repeats}

pub map_none : {X Y : Type 0} (f : X → Y) (o : Option X) → option_map f o ≡ None → o ≡ None
map_none f None h = refl
map_none f (Some x) h = absurd (cc)

-- where there is no first cause, none holds
pub no_cause : (os : List (Option PolarsError)) → first_cause os ≡ None → All (λ o. o ≡ None) os
no_cause [] h = All-nil (λ o. o ≡ None)
no_cause (None ∷ os) h = All-cons (λ o. o ≡ None) None os refl (no_cause os h)
no_cause (Some e ∷ os) h = absurd (cc)

-- the first of some causes, and then of others
pub first_cause-append : (xs ys : List (Option PolarsError)) → first_cause (xs ++ ys) ≡ first_cause (first_cause xs ∷ ys)
first_cause-append [] ys = refl
first_cause-append (None ∷ xs) ys = first_cause-append xs ys
first_cause-append (Some e ∷ xs) ys = refl

pub first_cause-one : (o : Option PolarsError) → first_cause (o ∷ []) ≡ o
first_cause-one (Some e) = refl
first_cause-one None = refl

-- none that was looked for is there
none_at : {X : Type 0} (p : X → Bool) (x : X) (xs : List X) → (find p xs ≡ None → All (λ y. p y ≡ false) xs) → (b : Bool) → p x ≡ b → find p (x ∷ xs) ≡ None → All (λ y. p y ≡ false) (x ∷ xs)
none_at {X} p x xs rest true e h = absurd (let c : cond true (Some x) (find p xs) ≡ None = ap (λ (b : Bool). cond b (Some x) (find p xs)) (sym e) ∙ h in cc)
none_at {X} p x xs rest false e h = All-cons (λ y. p y ≡ false) x xs e (rest (ap (λ (b : Bool). cond b (Some x) (find p xs)) (sym e) ∙ h))

pub find_none : {X : Type 0} (p : X → Bool) (xs : List X) → find p xs ≡ None → All (λ y. p y ≡ false) xs
find_none p [] h = All-nil (λ y. p y ≡ false)
find_none p (x ∷ xs) h = none_at p x xs (find_none p xs) (p x) refl h

-- names of which none is repeated are distinct
pub distinct_names : (names : List Name) → first_repeated names ≡ None → AllPairs (λ (a b : Name). a ≢ b) names
distinct_names names h = λ i j d low high same.
    let before : ℕ → Bool = repeats names in
    let long : length (row_numbers (length names)) ≡ length names = length-range_with_len 0 (length names) in
    let fails : before (get_or (row_numbers (length names)) j 0) ≡ false = find_none before (row_numbers (length names)) (map_none (name_at names) (find before (row_numbers (length names))) h) j 0 (omega (arith, long)) in
    let at : get_or (row_numbers (length names)) j 0 ≡ j = get_or-range_with_len 0 (length names) j 0 high ∙ omega arith in
    let no_match : before j ≡ false = ap before (sym at) ∙ fails in
    let size = length-take j names in
    let here : get_or (take j names) i [] ≡ get_or names j [] = get_or-take j names i [] low ∙ get_or_default names i [] d (omega arith) ∙ same ∙ get_or_default names j d [] high in
    let match : before j ≡ true = list_any_at (same_name (get_or names j [])) (take j names) i [] (omega (arith, size)) (ap (same_name (get_or names j [])) here ∙ nat_list_eq_equiv.refl (get_or names j [])) in
    absurd (let c : false ≡ true = sym no_match ∙ match in cc)

-- and of distinct names none is
find-none : {X : Type 0} (p : X → Bool) (xs : List X) → All (λ x. p x ≡ false) xs → find p xs ≡ None
find-none p [] h = refl
find-none p (x ∷ xs) h = rw (All-head (λ y. p y ≡ false) x xs h) (find-none p xs (All-tail (λ y. p y ≡ false) x xs h))

apart : (m n : Name) (b : Bool) → same_name m n ≡ b → (m ≡ n → ⊥) → b ≡ false
apart m n true e h = absurd (h ((bytes_eq-Decides m n).0 e))
apart m n false e h = refl

pub unrepeated_names : (names : List Name) → AllPairs (λ (a b : Name). a ≢ b) names → first_repeated names ≡ None
unrepeated_names names h = ap (option_map (name_at names)) (find-none (repeats names) (row_numbers (length names)) stood)
  where
    long : length (row_numbers (length names)) ≡ length names
    long = length-range_with_len 0 (length names)

    stood : All (λ k. is_among (take k names) (get_or names k []) ≡ false) (row_numbers (length names))
    stood = λ i d low.
        let high : i < length names = omega (arith, long) in
        let at : get_or (row_numbers (length names)) i d ≡ i = get_or-range_with_len 0 (length names) i d high ∙ omega arith in
        subst (λ (k : ℕ). is_among (take k names) (get_or names k []) ≡ false) (sym at)
        (list_any_none (same_name (get_or names i [])) (take i names) (λ j e under.
        let before : j < i = omega (arith, length-take i names) in
        let here : get_or (take i names) j e ≡ get_or names j [] = get_or-take i names j e before ∙ get_or_default names j e [] (omega arith) in
        apart (get_or names i []) (get_or (take i names) j e) (same_name (get_or names i []) (get_or (take i names) j e)) refl (λ same. h j i [] before high (sym (same ∙ here)))))

-- what holds of each column holds of those of given names
pub found_holds : (P : TableColumn → Type 0) (p : TableColumn → Bool) (t : Table) → All P t → (c : TableColumn) → find p t ≡ Some c → P c
found_holds P p [] h c e = absurd (cc)
found_holds P p (x ∷ xs) h c e = at (p x) e (found_holds P p xs (All-tail P x xs h) c)
  where
    at : (b : Bool) → cond b (Some x) (find p xs) ≡ Some c → (find p xs ≡ Some c → P c) → P c
    at true k rest = let same : x ≡ c = cc in subst P same (All-head P x xs h)
    at false k rest = rest k

pub selected_hold : (P : TableColumn → Type 0) (t : Table) → All P t → (names : List Name) → All P (filter_map (column_named t) names)
selected_hold P t h [] = All-nil P
selected_hold P t h (n ∷ ns) = at (column_named t n) refl (selected_hold P t h ns)
  where
    at : (o : Option TableColumn) → column_named t n ≡ o → All P (filter_map (column_named t) ns) → All P (cons_option o (filter_map (column_named t) ns))
    at None e rest = rest
    at (Some c) e rest = All-cons P c (filter_map (column_named t) ns) (found_holds P (λ (k : TableColumn). same_name k.name n) t h c e) rest

-- a table that has a key has a column
pub has_column : (t : Table) (names : List Name) → 0 < length names → first_unknown t names ≡ None → 0 < length t
has_column [] [] h e = absurd (omega arith)
has_column [] (n ∷ ns) h e = absurd (cc)
has_column (c ∷ cs) names h e = omega arith

pub some_keys : (ls rs : List Name) (e : PolarsError) → when (length ls == 0 || length rs == 0) e ≡ None → 0 < length ls
some_keys [] rs e h = absurd (cc)
some_keys (l ∷ ls) rs e h = omega arith

no_right_keys : (b : Bool) (e : PolarsError) → when (b || true) e ≡ None → ⊥
no_right_keys true e h = absurd (cc)
no_right_keys false e h = absurd (cc)

pub some_right_keys : (ls rs : List Name) (e : PolarsError) → when (length ls == 0 || length rs == 0) e ≡ None → 0 < length rs
some_right_keys ls [] e h = absurd (no_right_keys (length ls == 0) e h)
some_right_keys ls (r ∷ rs) e h = omega arith

-- a cause that a number is too great for
pub when_not_above : (most n : ℕ) (e : PolarsError) → when (nat_lt most n) e ≡ None → n ≤ most
when_not_above most n e h = at (nat_lt most n) refl h
  where
    at : (b : Bool) → nat_lt most n ≡ b → when b e ≡ None → n ≤ most
    at true k g = absurd (cc)
    at false k g = ltb-false most n k
