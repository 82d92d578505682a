-- What is found of the columns that a request names.
use Rattle.std.proofs.Common.{◌≡◌, ◌∙◌, ◌⊎◌, List, [], ◌∷◌, ◌++◌, Option, None, Some, length, map, sym, ap}
use Rattle.std.specs.Borrow.{Bor}
use Rattle.std.specs.List.{filter_map, zip}
use Rattle.tb_value.specs.Promise.Names.{Name}
use Rattle.tb_value.specs.Promise.Refusals.{first_cause}
use Rattle.tb_value.specs.declared.error.PolarsError.{PolarsError}
use Rattle.tb_value.specs.declared.error.PolarsError.TheVariants.{OutOfMemory}
use Rattle.tb_chunk.specs.Lent.{lent_columns}
use Rattle.tb_chunk.specs.Promise.Col.{Col}
use Rattle.tb_frame.specs.Promise.Frame.{selected_columns}
use Rattle.tb_frame.specs.Promise.Join.{column_named}
use Rattle.tb_frame.specs.Promise.Refusal.{repeated_among, unknown_key}
use Rattle.tb_frame.specs.Promise.Table.{table_of}
use Rattle.tb_frame.proofs.Causes.{first_cause-one}
use Rattle.tb_frame.proofs.Selected.{selected-table}
use Rattle.tb_group.specs.Asked.{Asked, asked_of}
use Rattle.tb_group.specs.Promise.Refusal.{first_agg_cause, key_kind, name_causes, no_keys, type_cause}
use Rattle.tb_group.specs.Promise.Request.{Request, agg_names, agg_sources, by_columns, lent_request}
use Rattle.tb_group.specs.declared.request.GroupAgg.{GroupAgg}
use Rattle.tb_group.proofs.Causes.{onward, stops}
use Rattle.tb_group.proofs.Pieces.{lent_many}
use Rattle.tb_group.proofs.Requests.{asked_found, asked_many, causes_of}

module _ (cs : List Col) (by : List Name) (aggs : List GroupAgg) where
  abbrev request : Request
  request = lent_request cs by aggs

  -- the columns by which rows are grouped, and their cause
  pub keys_are : (rs : List (Bor Col)) → lent_columns rs ≡ selected_columns by cs → table_of (lent_columns rs) ≡ by_columns request
  keys_are rs found = ap table_of found ∙ selected-table by cs

  pub kinds_are : (rs : List (Bor Col)) → lent_columns rs ≡ selected_columns by cs → key_kind (table_of (lent_columns rs)) ≡ key_kind (by_columns request)
  kinds_are rs found = ap key_kind (keys_are rs found)

  -- those of whose values aggregates are made
  module _ (known : unknown_key (table_of cs) (agg_sources aggs) ≡ None) (rs : List (Bor Col)) (found : lent_columns rs ≡ selected_columns (agg_sources aggs) cs) where
    sources_are : table_of (lent_columns rs) ≡ filter_map (column_named (table_of cs)) (agg_sources aggs)
    sources_are = ap table_of found ∙ selected-table (agg_sources aggs) cs

    pub sources_many : length rs ≡ length aggs
    sources_many = sym (lent_many rs) ∙ ap length sources_are ∙ asked_many (table_of cs) aggs known

    pub asked_are : zip aggs (table_of (lent_columns rs)) ≡ asked_of (table_of cs) aggs
    asked_are = ap (zip aggs) sources_are ∙ asked_found (table_of cs) aggs known

    pub types_are : (asked : List Asked) → asked ≡ zip aggs (table_of (lent_columns rs)) → first_cause (map (λ (a : Asked). type_cause a.0 a.1) asked) ≡ first_agg_cause request type_cause
    types_are asked is =
        ap (λ (all : List Asked). first_cause (map (λ (a : Asked). type_cause a.0 a.1) all)) (is ∙ asked_are)
        ∙ sym (causes_of type_cause (table_of cs) aggs)

  -- what is left where names are known and stand once
  module _ (some : no_keys by ≡ None) (known_by : unknown_key (table_of cs) by ≡ None) (known : unknown_key (table_of cs) (agg_sources aggs) ≡ None) (fresh : repeated_among by ≡ None) where
    abbrev pub kind_cause : Option PolarsError
    kind_cause = key_kind (by_columns request)

    abbrev pub agg_cause : Option PolarsError
    agg_cause = first_agg_cause request type_cause

    abbrev pub name_cause : Option PolarsError
    name_cause = repeated_among (by ++ agg_names aggs)

    left : first_cause (name_causes request) ≡ first_cause (kind_cause ∷ agg_cause ∷ name_cause ∷ [])
    left = λ t. first_cause (some t ∷ known_by t ∷ known t ∷ fresh t ∷ kind_cause ∷ agg_cause ∷ name_cause ∷ [])

    pub kinds_refused : (e : PolarsError) (keys : List (Bor Col)) → lent_columns keys ≡ selected_columns by cs → key_kind (table_of (lent_columns keys)) ≡ Some e → first_cause (name_causes request) ≡ Some e
    kinds_refused e keys found h = left ∙ (λ t. first_cause ((sym (kinds_are keys found) ∙ h) t ∷ agg_cause ∷ name_cause ∷ []))

    module _ (keys : List (Bor Col)) (found : lent_columns keys ≡ selected_columns by cs) (kinds : key_kind (table_of (lent_columns keys)) ≡ None) where
      left_types : first_cause (name_causes request) ≡ first_cause (agg_cause ∷ name_cause ∷ [])
      left_types = left ∙ (λ t. first_cause ((sym (kinds_are keys found) ∙ kinds) t ∷ agg_cause ∷ name_cause ∷ []))

      module _ (asked : List Asked) (is : first_cause (map (λ (a : Asked). type_cause a.0 a.1) asked) ≡ agg_cause) where
        pub types_refused : (e : PolarsError) → (e ≡ OutOfMemory) ⊎ (first_cause (map (λ (a : Asked). type_cause a.0 a.1) asked) ≡ Some e) → (e ≡ OutOfMemory) ⊎ (first_cause (name_causes request) ≡ Some e)
        types_refused e h = onward e (first_cause (agg_cause ∷ name_cause ∷ [])) (first_cause (name_causes request)) left_types
            (stops e agg_cause (name_cause ∷ []) (onward e (first_cause (map (λ (a : Asked). type_cause a.0 a.1) asked)) agg_cause (sym is) h))

        module _ (types : first_cause (map (λ (a : Asked). type_cause a.0 a.1) asked) ≡ None) where
          left_names : first_cause (name_causes request) ≡ name_cause
          left_names = left_types ∙ (λ t. first_cause ((sym is ∙ types) t ∷ name_cause ∷ [])) ∙ first_cause-one name_cause

          pub answer_refused : (e : PolarsError) → (e ≡ OutOfMemory) ⊎ (name_cause ≡ Some e) → (e ≡ OutOfMemory) ⊎ (first_cause (name_causes request) ≡ Some e)
          answer_refused e h = onward e name_cause (first_cause (name_causes request)) left_names h

          pub none_refused : name_cause ≡ None → first_cause (name_causes request) ≡ None
          none_refused h = left_names ∙ h
