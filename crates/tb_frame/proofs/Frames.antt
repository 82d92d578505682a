-- Lists of columns that make tables.
use Rattle.std.proofs.Common.{◌≡◌, ◌==◌, ℕ, ◌<◌, Bool, true, false, cond, not, ◌&&◌, List, [], ◌∷◌, ◌++◌, length, get_or, take, refl, ap, sym, ◌∙◌, ◌+◌, append-nil, Option, None, arith}
use Rattle.std.specs.Prelude.{All, ◌≢◌, filter}
use Rattle.std.specs.Option.{option_map}
use Rattle.std.specs.List.{list_all}
use Rattle.std.proofs.lemmas.Bool.{eqb-true, eq-eqb}
use Rattle.std.proofs.lemmas.List.Elements.{All-nil, All-cons, All-head, All-tail, All-weaker, All-filter, filter_more}
use Rattle.tb_value.specs.Promise.Names.{Name}
use Rattle.tb_value.specs.Promise.Refusals.{first_cause, when}
use Rattle.tb_value.specs.declared.error.PolarsError.{PolarsError}
use Rattle.tb_value.specs.declared.error.PolarsError.TheVariants.{ShapeMismatch, Duplicate}
use Rattle.tb_value.proofs.Ascending.{AllPairs-thinned}
use Rattle.tb_value.proofs.Kept.{filter-map}
use Rattle.tb_chunk.specs.Promise.Col.{Col}
use Rattle.tb_frame.specs.Promise.Table.{TableColumn, Table, plain_column, table_of, height, names_of, IsTable, IsTyped}
use Rattle.tb_frame.specs.Promise.Join.{columns_where}
use Rattle.tb_frame.specs.Promise.Naming.{is_among}
use Rattle.tb_frame.specs.Promise.Frame.{are_level}
use Rattle.tb_frame.specs.Frame.{frame_refusal, without_names}
use Rattle.tb_frame.specs.Promise.Refusal.{first_repeated, repeated_among}
use Rattle.tb_frame.proofs.Causes.{no_cause, map_none, distinct_names, unrepeated_names}

pub all_true : {X : Type 0} (p : X → Bool) (xs : List X) → list_all p xs ≡ true → All (λ x. p x ≡ true) xs
all_true p [] h = All-nil (λ x. p x ≡ true)
all_true {X} p (x ∷ xs) h = at (p x) refl h (all_true p xs)
  where
    at : (b : Bool) → p x ≡ b → (b && list_all p xs) ≡ true → (list_all p xs ≡ true → All (λ x. p x ≡ true) xs) → All (λ x. p x ≡ true) (x ∷ xs)
    at true e k rest = All-cons (λ x. p x ≡ true) x xs e (rest k)
    at false e k rest = absurd (cc)

pub when_not : (b : Bool) (e : PolarsError) → when (not b) e ≡ None → b ≡ true
when_not true e h = refl
when_not false e h = absurd (cc)

-- where nothing is refused, typed columns make a table
pub makes_frame : (t : Table) → All IsTyped t → frame_refusal t ≡ None → IsTable t
makes_frame t typed h =
    let causes : List (Option PolarsError) = when (not (are_level t)) ShapeMismatch ∷ repeated_among (names_of t) ∷ [] in
    let none : All (λ o. o ≡ None) causes = no_cause causes h in
    record {
      distinct = distinct_names (names_of t) (map_none (λ n. Duplicate n) (first_repeated (names_of t)) (none 1 None (omega arith)));
      one_height = All-weaker (λ (c : TableColumn). (length c.values == height t) ≡ true) (λ (c : TableColumn). length c.values ≡ height t) (λ c e. eqb-true (length c.values) (height t) e) t (all_true (λ (c : TableColumn). length c.values == height t) t (when_not (are_level t) ShapeMismatch (none 0 None (omega arith))));
      typed = typed;
    }

-- columns left out before or after chunks and flags are
pub without-table : (names : List Name) (cs : List Col) → table_of (without_names names cs) ≡ columns_where (λ n. not (is_among names n)) (table_of cs)
without-table names cs = sym (filter-map plain_column (λ (c : TableColumn). not (is_among names c.name)) cs)

pub level_height : (n : ℕ) (t : Table) → All (λ (c : TableColumn). length c.values ≡ n) t → All (λ (c : TableColumn). length c.values ≡ height t) t
level_height n [] h = All-nil (λ (c : TableColumn). length c.values ≡ height [])
level_height n (c ∷ cs) h = let first : length c.values ≡ n = h 0 c (omega arith) in All-weaker (λ (k : TableColumn). length k.values ≡ n) (λ (k : TableColumn). length k.values ≡ length c.values) (λ k e. e ∙ sym first) (c ∷ cs) h

-- the columns of a table whose names pass a test are a table
pub IsTable-where : (test : Name → Bool) (t : Table) → IsTable t → IsTable (columns_where test t)
IsTable-where test t h = record {
  distinct = AllPairs-thinned (λ (a b : Name). a ≢ b) (λ (c : TableColumn). c.name) (λ (c : TableColumn). test c.name) [] t h.distinct;
  one_height = level_height (height t) (columns_where test t) (All-filter (λ (c : TableColumn). test c.name) (λ (c : TableColumn). length c.values ≡ height t) t h.one_height);
  typed = All-filter (λ (c : TableColumn). test c.name) IsTyped t h.typed;
}

-- a loop that keeps the columns that pass a test
module _ {X : Type 0} (p : X → Bool) (xs : List X) (i : ℕ) (x : X) (low : i < length xs) (is : x ≡ get_or xs i x) (out : List X) (so_far : out ≡ filter p (take i xs)) where
  grown : (b : Bool) → p x ≡ b → filter p (take (i + 1) xs) ≡ filter p (take i xs) ++ cond b (x ∷ []) []
  grown b e = filter_more p xs i x low ∙ ap (λ (y : X). filter p (take i xs) ++ cond (p y) (y ∷ []) []) (sym is) ∙ ap (λ (c : Bool). filter p (take i xs) ++ cond c (x ∷ []) []) e

  pub kept : (y : X) → y ≡ x → p x ≡ true → out ++ y ∷ [] ≡ filter p (take (i + 1) xs)
  kept y e h = ap (λ (l : List X). l ++ y ∷ []) so_far ∙ ap (λ (z : X). filter p (take i xs) ++ z ∷ []) e ∙ sym (grown true h)

  pub passed : p x ≡ false → out ≡ filter p (take (i + 1) xs)
  passed h = so_far ∙ sym (grown false h ∙ append-nil (filter p (take i xs)))

list_all-true : {X : Type 0} (p : X → Bool) (xs : List X) → All (λ x. p x ≡ true) xs → list_all p xs ≡ true
list_all-true p [] h = refl
list_all-true p (x ∷ xs) h = (λ t. All-head (λ y. p y ≡ true) x xs h t && list_all-true p xs (All-tail (λ y. p y ≡ true) x xs h) t)

-- columns of one length are refused as their names are
pub level_refusal : (t : Table) (n : ℕ) → All (λ (c : TableColumn). length c.values ≡ n) t → (names : List Name) → names_of t ≡ names → frame_refusal t ≡ first_cause (repeated_among names ∷ [])
level_refusal t n level names are =
    let h : are_level t ≡ true =
    list_all-true (λ (c : TableColumn). length c.values == height t) t
    (All-weaker (λ (c : TableColumn). length c.values ≡ height t) (λ (c : TableColumn). (length c.values == height t) ≡ true) (λ c e. eq-eqb (length c.values) (height t) e) t (level_height n t level))
    in
    ap (λ (b : Bool). first_cause (when (not b) ShapeMismatch ∷ repeated_among (names_of t) ∷ [])) h
    ∙ ap (λ (ns : List Name). first_cause (repeated_among ns ∷ [])) are

-- columns of one length and distinct names are not refused
pub no_refusal : (t : Table) (n : ℕ) → All (λ (c : TableColumn). length c.values ≡ n) t → first_repeated (names_of t) ≡ None → frame_refusal t ≡ None
no_refusal t n level fresh = level_refusal t n level (names_of t) refl ∙ ap (λ (o : Option Name). first_cause (option_map (λ n. Duplicate n) o ∷ [])) fresh

-- and so are those of a table
pub IsTable-refusal : (t : Table) → IsTable t → frame_refusal t ≡ None
IsTable-refusal t h = no_refusal t (height t) h.one_height (unrepeated_names (names_of t) h.distinct)
