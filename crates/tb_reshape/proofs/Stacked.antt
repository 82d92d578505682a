-- The columns of a long table, and their values.
use Rattle.std.proofs.Common.{◌≡◌, ◌≢◌, ◌∙◌, ◌<◌, ◌+◌, ◌-◌, ◌*◌, ◌/◌, ◌%◌, ℕ, zero, suc, Bool, true, false, ◌&&◌, cond, eqb, List, [], ◌∷◌, ◌++◌, get_or, length, map, replicate, Some, ⊎_elim, refl, sym, ap, subst, arith}
use Rattle.std.specs.Prelude.{Ok}
use Rattle.std.specs.List.{All, AllPairs, flat_map}
use Rattle.std.proofs.lemmas.Bool.{cases_order, eqb-false, eqb-true, false_from_ne_true}
use Rattle.std.proofs.lemmas.List.{get_or-append_right, get_or-map, get_or-replicate, get_or_append_left, length-append, length-map, length-replicate}
use Rattle.std.proofs.lemmas.List.Elements.{All-get_or, All-head, All-replicate, All-tail}
use Rattle.std.proofs.lemmas.Nat.{div-add-mod', div_below, mod_below}
use Rattle.tb_value.specs.Promise.Datum.{Datum, null, string}
use Rattle.tb_value.specs.Promise.Kind.{Kind}
use Rattle.tb_value.specs.Promise.Kind as kind
use Rattle.tb_value.specs.Promise.Names.{Name}
use Rattle.tb_value.specs.Proved.TypeTests.{same_kind-Decides}
use Rattle.tb_value.specs.Proved.ValueTests.{same-Decides}
use Rattle.tb_value.specs.Promise.Same.{same}
use Rattle.tb_value.specs.Promise.SameKind.{same_kind}
use Rattle.tb_value.specs.Promise.Typed.{HasType}
use Rattle.tb_frame.specs.Promise.Table.{TableColumn, IsTyped}
use Rattle.tb_rows.specs.Promise.Rows.{row_value}
use Rattle.tb_supertype.specs.Promise.Cast.{cast}
use Rattle.tb_supertype.specs.Promise.Supertype.{class_of, common_by_class, supertype}
use Rattle.tb_supertype.proofs.Stacks.{cast-each}
use Rattle.tb_unpivot.specs.Promise.Unpivot.{common_kind, repeated, value_column, variable_column}
use Rattle.tb_unpivot.proofs.CommonKinds.{kind_more, one_kind}
use Rattle.tb_pivot.specs.Promise.Pivot.{are_alike}
use Rattle.tb_pivot.proofs.Alike.{alike_equiv}

-- VALUES OF COLUMNS ONE BELOW THE OTHER

in_flat : {X : Type 0} (f : X → List Datum) (h : ℕ) (xs : List X) (e : X) → All (λ x. length (f x) ≡ h) xs → (a r : ℕ) → a < length xs → r < h → row_value (flat_map f xs) (a * h + r) ≡ row_value (f (get_or xs a e)) r
in_flat f h [] e high a r low under = absurd (omega (arith, low))
in_flat {X} f h (x ∷ xs) e high zero r low under =
    let P : X → Type 0 = λ y. length (f y) ≡ h in
    let place : 0 * h + r ≡ r = omega arith in
    ap (row_value (f x ++ flat_map f xs)) place ∙ get_or_append_left (f x) (flat_map f xs) null r (omega (arith, under, All-head P x xs high))
in_flat {X} f h (x ∷ xs) e high (suc a) r low under =
    let P : X → Type 0 = λ y. length (f y) ≡ h in
    let here : length (f x) ≡ h = All-head P x xs high in
    let next : suc a * h + r ≡ h + (a * h + r) = omega arith in
    let back : h + (a * h + r) - h ≡ a * h + r = omega arith in
    ap (row_value (f x ++ flat_map f xs)) next
    ∙ get_or-append_right (f x) (flat_map f xs) h (h + (a * h + r)) null here (omega arith)
    ∙ ap (row_value (flat_map f xs)) back
    ∙ in_flat f h xs e (All-tail P x xs high) a r (omega (arith, low)) under

flat_long : {X : Type 0} (f : X → List Datum) (h : ℕ) (xs : List X) → All (λ x. length (f x) ≡ h) xs → length (flat_map f xs) ≡ length xs * h
flat_long f h [] high = omega arith
flat_long {X} f h (x ∷ xs) high =
    let P : X → Type 0 = λ y. length (f y) ≡ h in
    let more : suc (length xs) * h ≡ h + length xs * h = omega arith in
    length-append (f x) (flat_map f xs) ∙ (λ t. All-head P x xs high t + flat_long f h xs (All-tail P x xs high) t) ∙ sym more

abbrev pub IsHigh : ℕ → TableColumn → Type 0
IsHigh h c = length c.values ≡ h

module _ (h : ℕ) (some : 0 < h) (m : ℕ) where
  -- a column so many times
  pub repeated_at : (c : TableColumn) → IsHigh h c → (i : ℕ) → i < m * h → row_value (repeated m c).values i ≡ row_value c.values (i % h)
  repeated_at c high i low =
      let a : ℕ = i / h in
      let r : ℕ = i % h in
      let block : a < m = div_below i h m some low in
      let copies : All (λ (vs : List Datum). length vs ≡ h) (replicate m c.values) = All-replicate (λ (vs : List Datum). length vs ≡ h) m c.values high in
      ap (row_value (repeated m c).values) (sym (div-add-mod' i h))
      ∙ in_flat (λ vs. vs) h (replicate m c.values) [] copies a r (omega (arith, block, length-replicate m c.values)) (mod_below i h some)
      ∙ ap (λ (vs : List Datum). row_value vs r) (get_or-replicate m a c.values [] block)

  pub repeated_long : (c : TableColumn) → IsHigh h c → length (repeated m c).values ≡ m * h
  repeated_long c high =
      flat_long (λ vs. vs) h (replicate m c.values) (All-replicate (λ (vs : List Datum). length vs ≡ h) m c.values high) ∙ ap (λ (n : ℕ). n * h) (length-replicate m c.values)

  -- rows of columns so many times are the same where they are those of one row
  pub repeated_alike : (cs : List TableColumn) → All (IsHigh h) cs → (i j : ℕ) → i < m * h → j < m * h → are_alike (map (repeated m) cs) i j ≡ are_alike cs (i % h) (j % h)
  repeated_alike [] high i j low under = refl
  repeated_alike (c ∷ cs) high i j low under =
      let first : row_value (repeated m c).values i ≡ row_value c.values (i % h) = repeated_at c (All-head (IsHigh h) c cs high) i low in
      let second : row_value (repeated m c).values j ≡ row_value c.values (j % h) = repeated_at c (All-head (IsHigh h) c cs high) j under in
      let rest : are_alike (map (repeated m) cs) i j ≡ are_alike cs (i % h) (j % h) = repeated_alike cs (All-tail (IsHigh h) c cs high) i j low under in
      λ t. same (first t) (second t) && rest t

-- distinct rows are the same where they are one
pub one_row_alike : (cs : List TableColumn) (h : ℕ) → ((i j : ℕ) → i < h → j < h → are_alike cs i j ≡ true → i ≡ j) → (i j : ℕ) → i < h → j < h → are_alike cs i j ≡ eqb i j
one_row_alike cs h distinct i j low under = by (eqb i j) refl
  where
    by : (b : Bool) → eqb i j ≡ b → are_alike cs i j ≡ b
    by true e = ap (are_alike cs i) (sym (eqb-true i j e)) ∙ (alike_equiv cs).refl i
    by false e = false_from_ne_true (are_alike cs i j) (λ t. eqb-false i j e (distinct i j low under t))

-- THE NAMES OF COLUMNS AS VALUES

abbrev text_in : Datum → Name
text_in (string s) = s
text_in v = []

module _ (os : List TableColumn) (h : ℕ) (some : 0 < h) (high : All (IsHigh h) os) (o : TableColumn) where
  abbrev name_at : ℕ → Name
  name_at a = (get_or os a o).name

  pub variable_long : (n : Name) → length (variable_column n os).values ≡ length os * h
  variable_long n = flat_long (λ (c : TableColumn). map (λ (v : Datum). string c.name) c.values) h os (λ k d low. length-map (get_or os k d).values (λ (v : Datum). string (get_or os k d).name) ∙ high k d low)

  pub variable_at : (n : Name) (a r : ℕ) → a < length os → r < h → row_value (variable_column n os).values (a * h + r) ≡ string (name_at a)
  variable_at n a r low under =
      in_flat (λ (c : TableColumn). map (λ (v : Datum). string c.name) c.values) h os o (λ k d below. length-map (get_or os k d).values (λ (v : Datum). string (get_or os k d).name) ∙ high k d below) a r low under
      ∙ get_or-map (λ (v : Datum). string (name_at a)) (get_or os a o).values r null null (omega (arith, under, high a o low))

  module _ (distinct : AllPairs (λ (x y : TableColumn). x.name ≢ y.name) os) where
    names_apart : (a b : ℕ) → a < length os → b < length os → name_at a ≡ name_at b → a ≡ b
    names_apart a b low under e =
        ⊎_elim (λ is. is) (λ other. ⊎_elim (λ before. absurd (distinct a b o before under e)) (λ after. absurd (distinct b a o after low (sym e))) other) (cases_order a b)

    names_same : (a b : ℕ) → a < length os → b < length os → same (string (name_at a)) (string (name_at b)) ≡ eqb a b
    names_same a b low under = by (eqb a b) refl
      where
        by : (c : Bool) → eqb a b ≡ c → same (string (name_at a)) (string (name_at b)) ≡ c
        by true e = (same-Decides (string (name_at a)) (string (name_at b))).1 (ap (λ (k : ℕ). string (name_at k)) (eqb-true a b e))
        by false e = false_from_ne_true (same (string (name_at a)) (string (name_at b))) (λ t.
            let one : string (name_at a) ≡ string (name_at b) = (same-Decides (string (name_at a)) (string (name_at b))).0 t in
            eqb-false a b e (names_apart a b low under (ap text_in one)))

    and_true : (b : Bool) → (b && true) ≡ b
    and_true true = refl
    and_true false = refl

    -- rows have one name where they are of one column
    pub variable_alike : (n : Name) (i j : ℕ) → i < length os * h → j < length os * h → are_alike (variable_column n os ∷ []) i j ≡ eqb (i / h) (j / h)
    variable_alike n i j low under =
        let vs : List Datum = (variable_column n os).values in
        let a : i / h < length os = div_below i h (length os) some low in
        let b : j / h < length os = div_below j h (length os) some under in
        let first : row_value vs i ≡ string (name_at (i / h)) = ap (row_value vs) (sym (div-add-mod' i h)) ∙ variable_at n (i / h) (i % h) a (mod_below i h some) in
        let second : row_value vs j ≡ string (name_at (j / h)) = ap (row_value vs) (sym (div-add-mod' j h)) ∙ variable_at n (j / h) (j % h) b (mod_below j h some) in
        and_true (same (row_value vs i) (row_value vs j)) ∙ (λ t. same (first t) (second t)) ∙ names_same (i / h) (j / h) a b

  -- THE VALUES

  module _ (k : Kind) (one : All (λ (c : TableColumn). c.kind ≡ k) os) (typed : All IsTyped os) where
    own : (c : TableColumn) → c.kind ≡ k → IsTyped c → map (cast k) c.values ≡ c.values
    own c is each = cast-each k c.values (subst (λ (t : Kind). All (HasType t) c.values) is each)

    pub value_is : (n : Name) (a r : ℕ) → a < length os → r < h → row_value (value_column n k os).values (a * h + r) ≡ row_value (get_or os a o).values r
    value_is n a r low under =
        in_flat (λ (c : TableColumn). map (cast k) c.values) h os o (λ i d below. length-map (get_or os i d).values (cast k) ∙ high i d below) a r low under
        ∙ ap (λ (vs : List Datum). row_value vs r) (own (get_or os a o) (All-get_or (λ (c : TableColumn). c.kind ≡ k) os a o low one) (All-get_or IsTyped os a o low typed))

-- THEIR TYPE

with_itself : (k : Kind) → supertype k k ≡ Some k
with_itself k = ap (λ (b : Bool). cond b (Some k) (common_by_class k k (class_of k) (class_of k))) ((same_kind-Decides k k).1 refl)

with_null : (k : Kind) → supertype kind.null k ≡ Some k
with_null k = by (same_kind kind.null k) refl
  where
    by : (b : Bool) → same_kind kind.null k ≡ b → cond b (Some kind.null) (Some k) ≡ Some k
    by true e = ap (λ (t : Kind). Some t) ((same_kind-Decides kind.null k).0 e)
    by false e = refl

one_more : (t k : Kind) (c : TableColumn) (cs : List TableColumn) → supertype t k ≡ Some k → c.kind ≡ k → common_kind t (c ∷ cs) ≡ common_kind k cs
one_more t k c cs found is = kind_more t k c cs (one_kind t k c (Some k) (sym found) (sym is))

all_of_one : (k : Kind) (cs : List TableColumn) → All (λ (c : TableColumn). c.kind ≡ k) cs → common_kind k cs ≡ Ok k
all_of_one k [] one = refl
all_of_one k (c ∷ cs) one =
    let P : TableColumn → Type 0 = λ d. d.kind ≡ k in
    one_more k k c cs (with_itself k) (All-head P c cs one) ∙ all_of_one k cs (All-tail P c cs one)

-- columns of one type have it in common
pub one_kind_is : (k : Kind) (cs : List TableColumn) → 0 < length cs → All (λ (c : TableColumn). c.kind ≡ k) cs → common_kind kind.null cs ≡ Ok k
one_kind_is k [] low one = absurd (omega (arith, low))
one_kind_is k (c ∷ cs) low one =
    let P : TableColumn → Type 0 = λ d. d.kind ≡ k in
    one_more kind.null k c cs (with_null k) (All-head P c cs one) ∙ all_of_one k cs (All-tail P c cs one)
