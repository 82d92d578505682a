-- The keys of a request, and the causes why it is refused.
use Rattle.std.proofs.Common.{◌≡◌, List, [], ◌∷◌, ◌++◌, length, refl, sym, ap, ◌∙◌, subst, Option, Some, None, ◌⊎◌, inl, inr}
use Rattle.std.specs.Prelude.{All}
use Rattle.std.specs.List.{filter_map}
use Rattle.tb_value.specs.Promise.Names.{Name}
use Rattle.tb_value.specs.Promise.Refusals.{first_cause}
use Rattle.tb_value.specs.declared.error.PolarsError.{PolarsError}
use Rattle.tb_value.specs.declared.error.PolarsError.TheVariants.{OutOfMemory}
use Rattle.tb_chunk.specs.Promise.Col.{Col}
use Rattle.tb_frame.specs.Promise.Frame.{selected_columns}
use Rattle.tb_frame.specs.Promise.Join.{Request, column_named}
use Rattle.tb_frame.specs.Promise.Refusal.{join_refusal, key_causes, column_causes, row_causes}
use Rattle.tb_frame.specs.Promise.Table.{TableColumn, Table, IsTable, height, table_of}
use Rattle.tb_frame.proofs.Causes.{first_cause-one, selected_hold}
use Rattle.tb_frame.proofs.Selected.{selected-table}
use Rattle.tb_frame.proofs.Taking.{all_plain}
use Rattle.tb_keys.specs.Causes.{names_refusal, later_refusal}
use Rattle.tb_keys.specs.Asked.{AreKeysOf}
use Rattle.tb_keys.specs.Rows.{HasRows}

-- the columns of keys are as long as their table is high
pub key_rows : (cs ks : List Col) (names : List Name) → IsTable (table_of cs) → table_of ks ≡ filter_map (column_named (table_of cs)) names → HasRows (height (table_of cs)) ks
key_rows cs ks names t is =
    let P : TableColumn → Type 0 = λ c. length c.values ≡ height (table_of cs) in
    all_plain P ks (subst (λ (k : Table). All P k) (sym is) (selected_hold P (table_of cs) t.one_height names))

-- THE CAUSES

-- the causes of two lists are in two parts
pub two_parts : (xs ys : List (Option PolarsError)) → first_cause (xs ++ ys) ≡ first_cause (first_cause xs ∷ first_cause ys ∷ [])
two_parts [] ys = sym (first_cause-one (first_cause ys))
two_parts (None ∷ xs) ys = two_parts xs ys
two_parts (Some e ∷ xs) ys = refl

-- where the first list has none, the second decides
pub second_part : (xs ys : List (Option PolarsError)) → first_cause xs ≡ None → first_cause (xs ++ ys) ≡ first_cause ys
second_part xs ys none = two_parts xs ys ∙ (λ t. first_cause (none t ∷ first_cause ys ∷ [])) ∙ first_cause-one (first_cause ys)

pub two_causes : (q : Request) → join_refusal q ≡ first_cause (names_refusal q.left q.right q.args.join_nulls q.left_on q.right_on ∷ later_refusal q ∷ [])
two_causes q = two_parts (key_causes q) (column_causes q ++ row_causes q)

-- an error of the first part, one of the second, and none
pub by_first : (j a b other : Option PolarsError) (e : PolarsError) → j ≡ first_cause (a ∷ b ∷ []) → other ≡ a → (e ≡ OutOfMemory) ⊎ (other ≡ Some e) → (e ≡ OutOfMemory) ⊎ (j ≡ Some e)
by_first j a b other e is same (inl h) = inl h
by_first j a b other e is same (inr h) = inr (is ∙ (λ t. first_cause ((sym same ∙ h) t ∷ b ∷ [])))

pub by_second : (j a b : Option PolarsError) (e : PolarsError) → j ≡ first_cause (a ∷ b ∷ []) → a ≡ None → (e ≡ OutOfMemory) ⊎ (b ≡ Some e) → (e ≡ OutOfMemory) ⊎ (j ≡ Some e)
by_second j a b e is x (inl h) = inl h
by_second j a b e is x (inr h) = inr (is ∙ (λ t. first_cause (x t ∷ h t ∷ [])))

pub by_none : (j a b : Option PolarsError) → j ≡ first_cause (a ∷ b ∷ []) → a ≡ None → b ≡ None → j ≡ None
by_none j a b is x y = is ∙ (λ t. first_cause (x t ∷ y t ∷ []))

-- the columns of the names, which were found in the columns that the table lends
pub keys_are : (cs lent : List Col) (names : List Name) (keys : List Col) → IsTable (table_of cs) → lent ≡ cs → keys ≡ selected_columns names lent → AreKeysOf cs names keys
keys_are cs lent names keys t same is =
    let here : keys ≡ selected_columns names cs = is ∙ ap (selected_columns names) same in
    let of_names : table_of keys ≡ filter_map (column_named (table_of cs)) names = ap table_of here ∙ selected-table names cs in
    record { columns = here; of_names = of_names; rows = key_rows cs keys names t of_names }
