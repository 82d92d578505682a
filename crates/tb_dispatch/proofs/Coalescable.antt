-- Left keys and the right ones that are coalesced into them, in one table.
use Rattle.std.proofs.Common.{◌≡◌, ◌≤◌, ◌∙◌, ℕ, zero, suc, not, List, [], ◌∷◌, length, get_or, map, refl, ap, sym, subst, append-nil, arith, Option, Some, None}
use Rattle.std.specs.Prelude.{All, position, slice_get}
use Rattle.std.specs.Option.{ForSome, option_map}
use Rattle.std.proofs.lemmas.List.Elements.{All-filter, All-head, All-tail}
use Rattle.tb_value.specs.Promise.Datum.{Datum}
use Rattle.tb_value.specs.Promise.Names.{Name, same_name}
use Rattle.tb_value.specs.declared.error.PolarsError.TheVariants.{ColumnNotFound}
use Rattle.tb_chunk.specs.Promise.Col.{Col, values}
use Rattle.tb_chunk.specs.Coalesced.{coalesced_values}
use Rattle.tb_chunk.proofs.CoalescedLists.{length-merged}
use Rattle.tb_frame.specs.Promise.Frame.{selected_columns}
use Rattle.tb_frame.specs.Frame.{frame_refusal, without_names}
use Rattle.tb_frame.specs.Promise.Naming.{is_among}
use Rattle.tb_frame.specs.Promise.Refusal.{first_repeated, unknown_key}
use Rattle.tb_frame.specs.Promise.Table.{IsTable, height, names_of, table_of}
use Rattle.tb_frame.proofs.Causes.{unrepeated_names}
use Rattle.tb_frame.proofs.Frames.{IsTable-where, no_refusal, without-table}
use Rattle.tb_frame.proofs.Selected.{selected-table}
use Rattle.tb_frame.proofs.Taking.{all_plain, level-made, names-made}
use Rattle.tb_keys.specs.Coalescing.{key_beside}
use Rattle.tb_keys.proofs.KeysNamed.{keys_many}
use Rattle.tb_keys.proofs.Refusing.{key_rows}
use Rattle.tb_join.specs.AnswerColumns.{Fits, filled_column}
use Rattle.tb_dispatch.specs.Standing.{AreCoalescable, coalesced_columns}

-- what holds of all keys holds of the one beside a name
got : (P : Col → Type 0) (ks : List Col) (p : ℕ) (k : Col) → All P ks → slice_get ks p ≡ Some k → P k
got P [] p k h e = absurd (cc)
got P (x ∷ ks) zero k h e = let same : x ≡ k = cc in subst P same (All-head P x ks h)
got P (x ∷ ks) (suc p) k h e = got P ks p k (All-tail P x ks h) e

beside : (P : Col → Type 0) (names : List Name) (ks : List Col) (n : Name) (k : Col) → All P ks → key_beside names ks n ≡ Some k → P k
beside P names ks n k h = at (position (same_name n) names) refl
  where
    at : (o : Option ℕ) → position (same_name n) names ≡ o → key_beside names ks n ≡ Some k → P k
    at None is e = absurd (cc)
    at (Some p) is e = got P ks p k h (cc)

length-filled : (o : Option Col) (c : Col) → ForSome o (Fits c) → length (values (filled_column o c)) ≡ length (values c)
length-filled None c h = refl
length-filled (Some k) c h = ap (λ (vs : List Datum). length vs) (append-nil (coalesced_values (values c) (values k))) ∙ length-merged (values c) (values k) (h k refl).1

name-filled : (o : Option Col) (c : Col) → (filled_column o c).name ≡ c.name
name-filled None c = refl
name-filled (Some k) c = refl

module _ (kl rights : List Name) (df : List Col) (table : IsTable (table_of df)) (can : AreCoalescable kl rights df) where
  abbrev ks : List Col
  ks = selected_columns rights df

  abbrev rest : List Col
  rest = without_names rights df

  abbrev other : Col → Option Col
  other c = key_beside kl ks c.name

  pub known : unknown_key (table_of df) rights ≡ None
  known = ap (option_map (λ (n : Name). ColumnNotFound n)) can.known

  pub enough : length kl ≤ length ks
  enough = let many = keys_many df ks rights (selected-table rights df) can.known in let same = can.many in omega (arith, many, same)

  high : All (λ (c : Col). length (values c) ≡ height (table_of df)) ks
  high = key_rows df ks rights table (selected-table rights df)

  all : All (λ (c : Col). ForSome (other c) (Fits c)) df
  all = λ i d low k e. (can.alike i d low k e, all_plain (λ c. length c.values ≡ height (table_of df)) df table.one_height i d low ∙ sym (beside (λ c. length (values c) ≡ height (table_of df)) kl ks (get_or df i d).name k high e))

  pub fit : All (λ (c : Col). ForSome (other c) (Fits c)) rest
  fit = All-filter (λ (c : Col). not (is_among rights c.name)) (λ (c : Col). ForSome (other c) (Fits c)) df all

  thinned : IsTable (table_of rest)
  thinned = subst IsTable (sym (without-table rights df)) (IsTable-where (λ n. not (is_among rights n)) (table_of df) table)

  abbrev f : Col → Col
  f c = filled_column (other c) c

  pub stands : frame_refusal (table_of (coalesced_columns kl rights df)) ≡ None
  stands =
      no_refusal (table_of (map f rest)) (height (table_of rest))
      (level-made f (λ c. name-filled (other c) c) (height (table_of rest)) rest (λ i d low. length-filled (other (get_or rest i d)) (get_or rest i d) (fit i d low) ∙ all_plain (λ c. length c.values ≡ height (table_of rest)) rest thinned.one_height i d low))
      (ap first_repeated (names-made f (λ c. name-filled (other c) c) rest) ∙ unrepeated_names (names_of (table_of rest)) thinned.distinct)
