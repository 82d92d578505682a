-- The types that keys are coalesced by.
use Rattle.std.proofs.Common.{◌≡◌, ◌⊎◌, inl, inr, ℕ, ◌<◌, Bool, true, false, List, [], length, get_or, min, ap, sym, ◌∙◌, subst, arith, refl, Option, Some, None}
use Rattle.std.specs.Prelude.{All, AllPairs, ◌≢◌, not, slice_get, position}
use Rattle.std.specs.List.{find, filter_map}
use Rattle.std.specs.Option.{ForSome, option_and_then}
use Rattle.std.proofs.lemmas.Bool.{cases_order}
use Rattle.std.proofs.lemmas.List.{get_or-map, get_or_default, length-map}
use Rattle.std.proofs.lemmas.List.Quantifiers.{position-Some}
use Rattle.std.proofs.lemmas.Option.{get_or_from_slice_get, slice_get_within}
use Rattle.std.proofs.lemmas.Slice.Eq.{bytes_eq-Decides}
use Rattle.tb_value.specs.Promise.Names.{Name, same_name}
use Rattle.tb_value.specs.Promise.Pairs.{row_numbers}
use Rattle.tb_value.specs.Promise.SameKind.{same_kind}
use Rattle.tb_chunk.specs.Promise.Col.{Col}
use Rattle.tb_frame.specs.Promise.Join.{column_named}
use Rattle.tb_frame.specs.Promise.Refusal.{first_unknown, kind_at}
use Rattle.tb_frame.specs.Promise.Table.{TableColumn, Table, plain_column, table_of, names_of}
use Rattle.tb_frame.proofs.Causes.{selected_hold}
use Rattle.tb_keys.specs.Coalescing.{coalesced_key}
use Rattle.tb_keys.proofs.KeyFields.{column_kind}
use Rattle.tb_keys.proofs.KeysNamed.{keys_many, keys_named, kinds_at}

-- columns of distinct names that have one name have one type
one_kind : (t : Table) (i j : ℕ) (d e : TableColumn) → AllPairs (λ (a b : Name). a ≢ b) (names_of t) → i < length t → j < length t
    → (get_or t i d).name ≡ (get_or t j e).name → (get_or t i d).kind ≡ (get_or t j e).kind
one_kind t i j d e apart low high same = at (cases_order i j)
  where
    name_at : (k : ℕ) (c : TableColumn) → k < length t → get_or (names_of t) k [] ≡ (get_or t k c).name
    name_at k c h = get_or-map (λ (c : TableColumn). c.name) t k c [] h

    long : length (names_of t) ≡ length t
    long = length-map t (λ (c : TableColumn). c.name)

    at : (i ≡ j) ⊎ ((i < j) ⊎ (j < i)) → (get_or t i d).kind ≡ (get_or t j e).kind
    at (inl is) = ap (λ (c : TableColumn). c.kind) (ap (λ (k : ℕ). get_or t k d) is ∙ get_or_default t j d e high)
    at (inr (inl before)) = absurd (apart i j [] before (omega (arith, long)) (name_at i d low ∙ same ∙ sym (name_at j e high)))
    at (inr (inr behind)) = absurd (apart j i [] behind (omega (arith, long)) (name_at j e high ∙ sym same ∙ sym (name_at i d low)))

-- a column has the type that the table has under its name
abbrev HasOwnKind : Table → TableColumn → Type 0
HasOwnKind t k = All (λ (c : TableColumn). c.name ≡ k.name → c.kind ≡ k.kind) t

own_kinds : (t : Table) → AllPairs (λ (a b : Name). a ≢ b) (names_of t) → All (HasOwnKind t) t
own_kinds t apart = λ j e high i d low same. one_kind t i j d e apart low high same

module _ (left lk rk : List Col) (lo : List Name) (apart : AllPairs (λ (a b : Name). a ≢ b) (names_of (table_of left)))
    (is : table_of lk ≡ filter_map (column_named (table_of left)) lo) (known : first_unknown (table_of left) lo ≡ None)
    (none : find (λ p. not (same_kind (kind_at (table_of lk) p) (kind_at (table_of rk) p))) (row_numbers (min (length (table_of lk)) (length (table_of rk)))) ≡ None) where
  -- a left column has the type of the left key of its name, and so that of the right key beside it
  beside : (i : ℕ) (d k : Col) → i < length left → (p : ℕ) → position (same_name (get_or left i d).name) lo ≡ Some p → slice_get rk p ≡ Some k → (get_or left i d).kind ≡ k.kind
  beside i d k low p found at_p =
      let c = get_or left i d in
      let first = position-Some (same_name c.name) lo p [] found in
      let long = length-map lk plain_column in
      let long_r = length-map rk plain_column in
      let many = keys_many left lk lo is known in
      let in_rk : p < length rk = slice_get_within rk p k at_p in
      let in_lk : p < length (table_of lk) = omega (arith, long, many, first.0) in
      let key : TableColumn = get_or (table_of lk) p (plain_column d) in
      let name : c.name ≡ key.name =
      (bytes_eq-Decides c.name (get_or lo p [])).0 first.1
      ∙ ap (λ (ns : List Name). get_or ns p []) (sym (keys_named left lk lo is known))
      ∙ get_or-map (λ (c : TableColumn). c.name) (table_of lk) p (plain_column d) [] in_lk
      in
      let own : HasOwnKind (table_of left) key = subst (λ (t : Table). All (HasOwnKind (table_of left)) t) (sym is)
      (selected_hold (HasOwnKind (table_of left)) (table_of left) (own_kinds (table_of left) apart) lo) p (plain_column d) in_lk in
      let long_left = length-map left plain_column in
      let plain_c : get_or (table_of left) i (plain_column d) ≡ plain_column c = get_or-map plain_column left i d (plain_column d) low in
      let kind : c.kind ≡ key.kind = ap (λ (x : TableColumn). x.kind) (sym plain_c) ∙ own i (plain_column d) (omega (arith, long_left)) (ap (λ (x : TableColumn). x.name) plain_c ∙ name) in
      kind ∙ sym (get_or-map (λ (x : TableColumn). x.kind) (table_of lk) p (plain_column d) _ in_lk)
      ∙ kinds_at (table_of lk) (table_of rk) _ p none (omega (arith, long, long_r, many, first.0))
      ∙ sym (column_kind rk p (get_or rk p k) in_rk (get_or_default rk p k (get_or rk p k) in_rk)) ∙ ap (λ (x : Col). x.kind) (get_or_from_slice_get rk p k k at_p)

  pub merged_kinds : (b : Bool) → All (λ (c : Col). ForSome (coalesced_key b lo rk c.name) (λ k. c.kind ≡ k.kind)) left
  merged_kinds false = λ i d low k e. absurd (cc)
  merged_kinds true = λ i d low k e. at i d k low (position (same_name (get_or left i d).name) lo) refl e
    where
      at : (i : ℕ) (d k : Col) → i < length left → (o : Option ℕ) → position (same_name (get_or left i d).name) lo ≡ o
          → option_and_then (λ p. slice_get rk p) o ≡ Some k → (get_or left i d).kind ≡ k.kind
      at i d k low None e h = absurd (cc)
      at i d k low (Some p) e h = beside i d k low p e h

-- what holds of each key holds of the one that is coalesced
pub merged_holds : (P : Col → Type 0) (b : Bool) (names : List Name) (keys : List Col) (n : Name) → All P keys → ForSome (coalesced_key b names keys n) P
merged_holds P false names keys n h = λ k e. absurd (cc)
merged_holds P true names keys n h = λ k e. at (position (same_name n) names) k e
  where
    at : (o : Option ℕ) (k : Col) → option_and_then (λ p. slice_get keys p) o ≡ Some k → P k
    at None k e = absurd (cc)
    at (Some p) k e = subst P (get_or_from_slice_get keys p k k e) (h p k (slice_get_within keys p k e))
