-- The columns that names select, and the columns of two lists.
use Rattle.std.proofs.Common.{◌≡◌, ℕ, zero, suc, arith, ◌<◌, Bool, true, false, cond, not, ◌||◌, List, [], ◌∷◌, ◌++◌, length, get_or, take, refl, ap, sym, ◌∙◌, ◌+◌, subst, Option, Some, None, is_none, inl, inr}
use Rattle.std.specs.Prelude.{All, ◌⊎◌}
use Rattle.std.specs.Option.{option_map}
use Rattle.std.specs.List.{find, filter_map, cons_option}
use Rattle.std.proofs.lemmas.Cmp.{nat_list_eq_equiv}
use Rattle.std.proofs.lemmas.List.Elements.{All-head, All-tail}
use Rattle.std.proofs.lemmas.Slice.Eq.{bytes_eq-Decides}
use Rattle.std.proofs.lemmas.List.{get_or_default}
use Rattle.tb_value.proofs.Finds.{find_more, find_stop}
use Rattle.tb_value.proofs.Picks.{picked}
use Rattle.tb_value.specs.Promise.Names.{Name, same_name}
use Rattle.tb_value.specs.Promise.Refusals.{first_cause, when}
use Rattle.tb_value.specs.declared.error.PolarsError.{PolarsError}
use Rattle.tb_value.specs.declared.error.PolarsError.TheVariants.{ColumnNotFound, OutOfMemory}
use Rattle.tb_chunk.specs.Promise.Col.{Col}
use Rattle.tb_frame.specs.Promise.Table.{TableColumn, Table, plain_column, table_of, height, names_of, IsTable}
use Rattle.tb_frame.specs.Promise.Join.{column_named}
use Rattle.tb_frame.specs.Promise.Naming.{is_among}
use Rattle.tb_frame.specs.Promise.Frame.{selected_columns}
use Rattle.tb_frame.specs.Frame.{frame_refusal, select_refusal}
use Rattle.tb_frame.specs.Promise.Refusal.{first_unknown, repeated_among, unknown_key}
use Rattle.tb_frame.proofs.Causes.{find_none, selected_hold}
use Rattle.tb_frame.proofs.Frames.{level_refusal}

-- the column of that name, before or after chunks and flags are
abbrev pub found : Name → List Col → Option Col
found n cs = find (λ (c : Col). same_name c.name n) cs

abbrev pub unknown : List Col → Name → Bool
unknown cs n = not (is_among (names_of (table_of cs)) n)

pub named-plain : (n : Name) (cs : List Col) → column_named (table_of cs) n ≡ option_map plain_column (found n cs)
named-plain n [] = refl
named-plain n (c ∷ cs) = at (same_name c.name n) (named-plain n cs)
  where
    at : (b : Bool) → column_named (table_of cs) n ≡ option_map plain_column (found n cs) → cond b (Some (plain_column c)) (column_named (table_of cs) n) ≡ option_map plain_column (cond b (Some c) (found n cs))
    at true e = refl
    at false e = e

-- there is none exactly where no column has the name
pub unnamed-is : (n : Name) (t : Table) → is_none (column_named t n) ≡ not (is_among (names_of t) n)
unnamed-is n [] = refl
unnamed-is n (c ∷ cs) = at (same_name c.name n) (same_name n c.name) (nat_list_eq_equiv.symm c.name n) (unnamed-is n cs)
  where
    at : (a b : Bool) → a ≡ b → is_none (column_named cs n) ≡ not (is_among (names_of cs) n) → is_none (cond a (Some c) (column_named cs n)) ≡ not (b || is_among (names_of cs) n)
    at true true e h = refl
    at true false e h = absurd (cc)
    at false true e h = absurd (cc)
    at false false e h = h

none-plain : (o : Option Col) → is_none o ≡ is_none (option_map plain_column o)
none-plain None = refl
none-plain (Some c) = refl

pub unknown-is : (n : Name) (cs : List Col) → is_none (found n cs) ≡ unknown cs n
unknown-is n cs = none-plain (found n cs) ∙ ap is_none (sym (named-plain n cs)) ∙ unnamed-is n (table_of cs)

-- names that are all known name the columns at their places
pub named-key : (t : Table) (names : List Name) → All (λ n. not (is_among (names_of t) n) ≡ false) names → (p : ℕ) (d : TableColumn) → p < length names → column_named t (get_or names p []) ≡ Some (get_or (filter_map (column_named t) names) p d)
named-key t [] h p d low = absurd (omega arith)
named-key t (n ∷ ns) h p d low = at (column_named t n) refl (unnamed-is n t ∙ All-head (λ m. not (is_among (names_of t) m) ≡ false) n ns h) (λ k. named-key t ns (All-tail (λ m. not (is_among (names_of t) m) ≡ false) n ns h) k d) p low
  where
    at : (o : Option TableColumn) → column_named t n ≡ o → is_none (column_named t n) ≡ false → ((k : ℕ) → k < length ns → column_named t (get_or ns k []) ≡ Some (get_or (filter_map (column_named t) ns) k d))
        → (p : ℕ) → p < length (n ∷ ns) → column_named t (get_or (n ∷ ns) p []) ≡ Some (get_or (cons_option (column_named t n) (filter_map (column_named t) ns)) p d)
    at None e k rest p low = absurd (let c : true ≡ false = ap is_none (sym e) ∙ k in cc)
    at (Some c) e k rest zero low = e ∙ ap (λ (o : Option TableColumn). Some (get_or (cons_option o (filter_map (column_named t) ns)) 0 d)) (sym e)
    at (Some c) e k rest (suc p) low = rest p (omega arith) ∙ ap (λ (o : Option TableColumn). Some (get_or (cons_option o (filter_map (column_named t) ns)) (suc p) d)) (sym e)

found-name : (n : Name) (cs : List Col) (c : Col) → found n cs ≡ Some c → c.name ≡ n
found-name n [] c e = absurd (cc)
found-name n (d ∷ ds) c e = at (same_name d.name n) refl e (found-name n ds c)
  where
    at : (b : Bool) → same_name d.name n ≡ b → cond b (Some d) (found n ds) ≡ Some c → (found n ds ≡ Some c → c.name ≡ n) → c.name ≡ n
    at true h k rest = let same : d ≡ c = cc in ap (λ (x : Col). x.name) (sym same) ∙ (bytes_eq-Decides d.name n).0 h
    at false h k rest = rest k

-- a name that is looked up after others that were found
module _ (cs : List Col) (names : List Name) (i : ℕ) (name : Name) (low : i < length names) (at_i : name ≡ get_or names i []) (none : find (unknown cs) (take i names) ≡ None) where
  is : name ≡ get_or names i name
  is = at_i ∙ get_or_default names i [] name low

  pub known_more : (c : Col) → found name cs ≡ Some c → find (unknown cs) (take (i + 1) names) ≡ None
  known_more c e = find_more (unknown cs) names i name low is none (sym (unknown-is name cs) ∙ ap is_none e)

  pub selected_more : (out : List Col) → out ≡ selected_columns (take i names) cs → (c : Col) → found name cs ≡ Some c → out ++ c ∷ [] ≡ selected_columns (take (i + 1) names) cs
  selected_more out so_far c e = picked (λ (n : Name). found n cs) names i name low is out so_far c e

  unknown_is : (b : Bool) → b ≡ unknown cs name → (e : PolarsError) → when b (ColumnNotFound name) ≡ Some e → unknown_key (table_of cs) names ≡ Some e
  unknown_is true k e g = ap (option_map (λ (n : Name). ColumnNotFound n)) (find_stop (unknown cs) names i name low is none (sym k)) ∙ g
  unknown_is false k e g = absurd (cc)

  pub unknown_here : (e : PolarsError) → (e ≡ OutOfMemory) ⊎ (when (is_none (found name cs)) (ColumnNotFound name) ≡ Some e) → (e ≡ OutOfMemory) ⊎ (unknown_key (table_of cs) names ≡ Some e)
  unknown_here e (inl h) = inl h
  unknown_here e (inr h) = inr (unknown_is (is_none (found name cs)) (unknown-is name cs) e h)

-- where each name is found, the selected columns have the names
names_each : (names : List Name) (cs : List Col) → All (λ n. unknown cs n ≡ false) names → names_of (table_of (selected_columns names cs)) ≡ names
names_each [] cs h = refl
names_each (n ∷ ns) cs h = at (found n cs) refl (unknown-is n cs ∙ All-head (λ m. unknown cs m ≡ false) n ns h) (names_each ns cs (All-tail (λ m. unknown cs m ≡ false) n ns h))
  where
    at : (o : Option Col) → found n cs ≡ o → is_none o ≡ false → names_of (table_of (selected_columns ns cs)) ≡ ns → names_of (table_of (cons_option o (selected_columns ns cs))) ≡ n ∷ ns
    at None e h rest = absurd (cc)
    at (Some c) e h rest = λ t. found-name n cs c e t ∷ rest t

pub names-selected : (names : List Name) (cs : List Col) → first_unknown (table_of cs) names ≡ None → names_of (table_of (selected_columns names cs)) ≡ names
names-selected names cs h = names_each names cs (find_none (unknown cs) names h)

pub selected-table : (names : List Name) (cs : List Col) → table_of (selected_columns names cs) ≡ filter_map (column_named (table_of cs)) names
selected-table [] cs = refl
selected-table (n ∷ ns) cs = at (found n cs) (named-plain n cs) (selected-table ns cs)
  where
    at : (o : Option Col) → column_named (table_of cs) n ≡ option_map plain_column o → table_of (selected_columns ns cs) ≡ filter_map (column_named (table_of cs)) ns → table_of (cons_option o (selected_columns ns cs)) ≡ cons_option (column_named (table_of cs) n) (filter_map (column_named (table_of cs)) ns)
    at None e rest = rest ∙ ap (λ (o : Option TableColumn). cons_option o (filter_map (column_named (table_of cs)) ns)) (sym e)
    at (Some c) e rest = ap (λ (t : Table). plain_column c ∷ t) rest ∙ ap (λ (o : Option TableColumn). cons_option o (filter_map (column_named (table_of cs)) ns)) (sym e)

-- the selected columns are refused as the names are
pub select_refused : (names : List Name) (cs : List Col) → IsTable (table_of cs) → first_unknown (table_of cs) names ≡ None → frame_refusal (table_of (selected_columns names cs)) ≡ select_refusal names (table_of cs)
select_refused names cs table none =
    let P : TableColumn → Type 0 = λ c. length c.values ≡ height (table_of cs) in
    let level = subst (λ (t : Table). All P t) (sym (selected-table names cs)) (selected_hold P (table_of cs) table.one_height names) in
    level_refusal (table_of (selected_columns names cs)) (height (table_of cs)) level names (names-selected names cs none)
    ∙ ap (λ (o : Option Name). first_cause (option_map (λ n. ColumnNotFound n) o ∷ repeated_among names ∷ [])) (sym none)
