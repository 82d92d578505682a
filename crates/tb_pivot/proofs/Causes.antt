-- Causes that are looked at one after another, and what they say of the columns of a table.
use Rattle.std.proofs.Common.{◌≡◌, ◌∙◌, ◌+◌, ℕ, suc, ltb, Bool, true, false, cond, ◌||◌, not, List, [], ◌∷◌, ◌++◌, length, Option, Some, None, is_some, is_none, inl, inr, refl, sym, ap, arith}
use Rattle.std.specs.Prelude.{◌⊎◌, position}
use Rattle.std.specs.Borrow.{Bor}
use Rattle.std.specs.List.{list_any, position_or_len}
use Rattle.std.proofs.lemmas.Bool.{le-ltb, lt-ltb, ltb-false, ltb-true}
use Rattle.std.proofs.lemmas.Cmp.{nat_list_eq_equiv}
use Rattle.tb_value.specs.Promise.Kind.{Kind}
use Rattle.tb_value.specs.Promise.Names.{Name, same_name}
use Rattle.tb_value.specs.Promise.Refusals.{first_cause}
use Rattle.tb_value.specs.declared.error.PolarsError.{PolarsError}
use Rattle.tb_value.specs.declared.error.PolarsError.TheVariants.{OutOfMemory}
use Rattle.tb_chunk.specs.Promise.Col.{Col}
use Rattle.tb_chunk.specs.Lent.{lent_columns}
use Rattle.tb_frame.specs.Promise.Frame.{selected_columns}
use Rattle.tb_frame.specs.Promise.Naming.{is_among}
use Rattle.tb_frame.specs.Promise.Refusal.{repeated_among, unknown_key}
use Rattle.tb_frame.specs.Promise.Table.{Table, TableColumn, names_of, table_of}
use Rattle.tb_frame.proofs.Selected.{selected-table}
use Rattle.tb_agg.specs.Promise.Aggregates.{result_kind}
use Rattle.tb_pivot.specs.Made.{takes}
use Rattle.tb_pivot.specs.Promise.Refusal.{agg_cause, brace_taken, column_causes, has_no_kind, header_cause}
use Rattle.tb_pivot.specs.Promise.Request.{Way, one_row, aggregated, asked}
use Rattle.tb_frame.specs.Promise.Join.{columns_named}

-- a cause that holds is the first
pub stops : (e : PolarsError) (a : Option PolarsError) (rest : List (Option PolarsError)) → (e ≡ OutOfMemory) ⊎ (a ≡ Some e) → (e ≡ OutOfMemory) ⊎ (first_cause (a ∷ rest) ≡ Some e)
stops e a rest (inl h) = inl h
stops e a rest (inr h) = inr (λ t. first_cause (h t ∷ rest))

-- and one that doesn't is passed by
pub goes_on : (a : Option PolarsError) (rest : List (Option PolarsError)) → a ≡ None → first_cause (a ∷ rest) ≡ first_cause rest
goes_on a rest none = λ t. first_cause (none t ∷ rest)

pub onward : (e : PolarsError) (a b : Option PolarsError) → b ≡ a → (e ≡ OutOfMemory) ⊎ (a ≡ Some e) → (e ≡ OutOfMemory) ⊎ (b ≡ Some e)
onward e a b same (inl h) = inl h
onward e a b same (inr h) = inr (same ∙ h)

-- columns that were found are those of the table
pub columns_found : (cs ds : List Col) (names : List Name) (rs : List (Bor Col)) → ds ≡ cs → lent_columns rs ≡ selected_columns names ds → table_of (lent_columns rs) ≡ columns_named (table_of cs) names
columns_found cs ds names rs same found = ap table_of found ∙ ap (λ (t : List Col). table_of (selected_columns names t)) same ∙ selected-table names cs

-- where the names are known and distinct, the types of the columns decide
module _ (cs ds : List Col) (on index vs : List Name) (way : Way) (same : ds ≡ cs) (a : unknown_key (table_of ds) on ≡ None) (b : unknown_key (table_of ds) index ≡ None) (d : unknown_key (table_of ds) vs ≡ None) (keys : repeated_among (on ++ index) ≡ None) (others : repeated_among vs ≡ None) (braces : brace_taken (table_of cs) on ≡ None) (rs : List (Bor Col)) (found : lent_columns rs ≡ selected_columns on ds) where
  known : (names : List Name) → unknown_key (table_of ds) names ≡ None → unknown_key (table_of cs) names ≡ None
  known names h = ap (λ (t : List Col). unknown_key (table_of t) names) (sym same) ∙ h

  types_decide : first_cause (column_causes (table_of cs) on index vs way) ≡ first_cause (header_cause (columns_named (table_of cs) on) ∷ agg_cause way (columns_named (table_of cs) vs) ∷ [])
  types_decide = λ t. first_cause (known on a t ∷ known index b t ∷ known vs d t ∷ keys t ∷ others t ∷ braces t ∷ header_cause (columns_named (table_of cs) on) ∷ agg_cause way (columns_named (table_of cs) vs) ∷ [])

  headers_are : header_cause (columns_named (table_of cs) on) ≡ header_cause (table_of (lent_columns rs))
  headers_are = ap header_cause (sym (columns_found cs ds on rs same found))

  pub header_stops : (e : PolarsError) → (e ≡ OutOfMemory) ⊎ (header_cause (table_of (lent_columns rs)) ≡ Some e) → (e ≡ OutOfMemory) ⊎ (first_cause (column_causes (table_of cs) on index vs way) ≡ Some e)
  header_stops e h =
      onward e (first_cause (header_cause (columns_named (table_of cs) on) ∷ agg_cause way (columns_named (table_of cs) vs) ∷ [])) (first_cause (column_causes (table_of cs) on index vs way)) types_decide
      (stops e (header_cause (columns_named (table_of cs) on)) (agg_cause way (columns_named (table_of cs) vs) ∷ []) (onward e (header_cause (table_of (lent_columns rs))) (header_cause (columns_named (table_of cs) on)) headers_are h))

  module _ (headers : header_cause (table_of (lent_columns rs)) ≡ None) (ws : List (Bor Col)) (there : lent_columns ws ≡ selected_columns vs ds) where
    aggregate_decides : first_cause (column_causes (table_of cs) on index vs way) ≡ first_cause (agg_cause way (table_of (lent_columns ws)) ∷ [])
    aggregate_decides =
        types_decide
        ∙ goes_on (header_cause (columns_named (table_of cs) on)) (agg_cause way (columns_named (table_of cs) vs) ∷ []) (headers_are ∙ headers)
        ∙ ap (λ (t : Table). first_cause (agg_cause way t ∷ [])) (sym (columns_found cs ds vs ws same there))

    pub value_stops : (e : PolarsError) → (e ≡ OutOfMemory) ⊎ (agg_cause way (table_of (lent_columns ws)) ≡ Some e) → (e ≡ OutOfMemory) ⊎ (first_cause (column_causes (table_of cs) on index vs way) ≡ Some e)
    value_stops e h =
        onward e (first_cause (agg_cause way (table_of (lent_columns ws)) ∷ [])) (first_cause (column_causes (table_of cs) on index vs way)) aggregate_decides
        (stops e (agg_cause way (table_of (lent_columns ws))) [] h)

    pub none_holds : agg_cause way (table_of (lent_columns ws)) ≡ None → first_cause (column_causes (table_of cs) on index vs way) ≡ None
    none_holds h = aggregate_decides ∙ goes_on (agg_cause way (table_of (lent_columns ws))) [] h

lower : (m n : ℕ) (b : Bool) → ltb m n ≡ b → ltb (suc m) (suc n) ≡ b
lower m n true e = lt-ltb (suc m) (suc n) (omega (arith, ltb-true m n e))
lower m n false e = le-ltb (suc m) (suc n) (omega (arith, ltb-false m n e))

-- the first that passes has a place where one passes
pub before_end : {X : Type 0} (p : X → Bool) (xs : List X) → ltb (position_or_len p xs) (length xs) ≡ list_any p xs
before_end p [] = refl
before_end p (x ∷ xs) = by (p x) (before_end p xs)
  where
    by : (b : Bool) → ltb (position_or_len p xs) (length xs) ≡ list_any p xs → ltb (cond (not b) (1 + position_or_len p xs) 0) (length (x ∷ xs)) ≡ (b || list_any p xs)
    by true rest = lt-ltb 0 (length (x ∷ xs)) (omega arith)
    by false rest =
        let next : 1 + position_or_len p xs ≡ suc (position_or_len p xs) = omega arith in
        ap (λ k. ltb k (length (x ∷ xs))) next ∙ lower (position_or_len p xs) (length xs) (list_any p xs) rest

some_where : (b : Bool) (k : ℕ) → is_some (cond b (Some k) None) ≡ b
some_where true k = refl
some_where false k = refl

named_among : (n : Name) (cs : List Col) → list_any (λ (c : Col). same_name c.name n) cs ≡ is_among (names_of (table_of cs)) n
named_among n [] = refl
named_among n (c ∷ cs) = λ t. nat_list_eq_equiv.symm c.name n t || named_among n cs t

-- a column of the name has a place exactly where the name is among theirs
pub place_of_name : (n : Name) (cs : List Col) → is_some (position (λ (c : Col). same_name c.name n) cs) ≡ is_among (names_of (table_of cs)) n
place_of_name n cs =
    some_where (ltb (position_or_len (λ (c : Col). same_name c.name n) cs) (length cs)) (position_or_len (λ (c : Col). same_name c.name n) cs)
    ∙ before_end (λ (c : Col). same_name c.name n) cs
    ∙ named_among n cs

-- what is taken has a type of cells
pub not_taken : (way : Way) (v : TableColumn) → not (takes way v.kind) ≡ has_no_kind way v
not_taken one_row v = refl
not_taken (aggregated agg) v = by (result_kind agg v.kind)
  where
    by : (o : Option Kind) → not (is_some o) ≡ is_none o
    by None = refl
    by (Some t) = refl
not_taken (asked name answers) v = refl
