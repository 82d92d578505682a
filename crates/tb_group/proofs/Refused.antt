-- Where no name and no type is refused, the answer's columns make a table.
use Rattle.std.proofs.Common.{◌≡◌, ◌∙◌, ◌<◌, ◌⊎◌, List, [], ◌∷◌, ◌++◌, Option, Some, None, get_or, length, map, sym, ap, subst, arith}
use Rattle.std.specs.List.{All}
use Rattle.std.specs.Prelude.{IsSome}
use Rattle.std.proofs.lemmas.List.{length-map, map-append}
use Rattle.std.proofs.lemmas.List.Elements.{All-append, All-map}
use Rattle.tb_value.specs.Promise.Names.{Name}
use Rattle.tb_value.specs.Promise.Refusals.{first_cause}
use Rattle.tb_value.specs.declared.error.PolarsError.{PolarsError}
use Rattle.tb_value.specs.declared.error.PolarsError.TheVariants.{ColumnNotFound, Duplicate, OutOfMemory}
use Rattle.tb_chunk.specs.Lent.{lent_columns}
use Rattle.tb_chunk.specs.Promise.Col.{Col}
use Rattle.tb_frame.specs.Frame.{frame_refusal}
use Rattle.tb_frame.specs.Promise.Refusal.{first_repeated, first_unknown, unknown_key}
use Rattle.tb_frame.specs.Promise.Table.{Table, TableColumn, IsTable, height, names_of, table_of}
use Rattle.tb_frame.proofs.Causes.{first_cause-append, first_cause-one, map_none, no_cause}
use Rattle.tb_frame.proofs.Frames.{no_refusal}
use Rattle.tb_frame.proofs.Selected.{names-selected, selected-table}
use Rattle.tb_rows.specs.Promise.Rows.{row_value}
use Rattle.tb_agg.specs.Promise.Aggregates.{aggregate, result_kind}
use Rattle.tb_group.specs.Asked.{Asked, asked_list, asked_of}
use Rattle.tb_group.specs.Promise.Group.{agg_column, group_firsts, group_table, key_column, member_values}
use Rattle.tb_group.specs.Promise.Refusal.{first_agg_cause, group_refusal, name_causes, no_keys, range_cause, type_cause}
use Rattle.tb_group.specs.Promise.Request.{Request, agg_names, agg_sources, by_columns, lent_request}
use Rattle.tb_group.specs.Once.{AreOnceTo}
use Rattle.tb_group.specs.Served.{AreSeated, AreServed, Wanted}
use Rattle.tb_group.specs.declared.lookup.AskedColumn.{AskedColumn}
use Rattle.tb_group.specs.declared.request.GroupAgg.{GroupAgg}
use Rattle.tb_group.proofs.Causes.{goes_on, onward, stops}
use Rattle.tb_group.proofs.Needed.{asked_hold}
use Rattle.tb_group.proofs.Requests.{all_keys, all_taken, causes_of, columns_of, names_made}
use Rattle.tb_group.proofs.Seated.{are_seated, made_hold}
use Rattle.tb_value.proofs.Loops.{map-map}

-- a cause of names and types is one of the request
pub names_refused : (q : Request) (e : PolarsError) → (e ≡ OutOfMemory) ⊎ (first_cause (name_causes q) ≡ Some e) → (e ≡ OutOfMemory) ⊎ (group_refusal q ≡ Some e)
names_refused q e h =
    let range : Option PolarsError = first_agg_cause q (range_cause q) in
    onward e (first_cause (first_cause (name_causes q) ∷ range ∷ [])) (group_refusal q) (first_cause-append (name_causes q) (range ∷ []))
    (stops e (first_cause (name_causes q)) (range ∷ []) h)

-- and where there is none the sums alone are left
pub sums_refused : (q : Request) → first_cause (name_causes q) ≡ None → group_refusal q ≡ first_agg_cause q (range_cause q)
sums_refused q none =
    let range : Option PolarsError = first_agg_cause q (range_cause q) in
    first_cause-append (name_causes q) (range ∷ [])
    ∙ goes_on (first_cause (name_causes q)) (range ∷ []) none
    ∙ first_cause-one range

some_names : (ns : List Name) → no_keys ns ≡ None → 0 < length ns
some_names [] h = absurd (cc)
some_names (n ∷ ns) h = omega arith

module _ (cs : List Col) (by : List Name) (aggs : List GroupAgg) (none : first_cause (name_causes (lent_request cs by aggs)) ≡ None) where
  abbrev request : Request
  request = lent_request cs by aggs

  holds : All (λ (o : Option PolarsError). o ≡ None) (name_causes request)
  holds = no_cause (name_causes request) none

  known_by : unknown_key (table_of cs) by ≡ None
  known_by = holds 1 None (omega arith)

  pub known_sources : unknown_key (table_of cs) (agg_sources aggs) ≡ None
  known_sources = holds 2 None (omega arith)

  named : names_of (by_columns request) ≡ by
  named =
      ap names_of (sym (selected-table by cs))
      ∙ names-selected by cs (map_none (λ (n : Name). ColumnNotFound n) (first_unknown (table_of cs) by) known_by)

  some : 0 < length (by_columns request)
  some = omega (arith, some_names by (holds 0 None (omega arith)), ap length named, length-map (by_columns request) (λ (c : TableColumn). c.name))

  -- the aggregates that are asked for take their columns, which are as high as the table
  pub all_take : All (λ (p : Asked). IsSome (result_kind p.0.agg p.1.kind)) (asked_of (table_of cs) aggs)
  all_take = all_taken (asked_of (table_of cs) aggs) (sym (causes_of type_cause (table_of cs) aggs) ∙ holds 5 None (omega arith))

  -- what is grouped is what the request names
  pub are_served : IsTable (table_of cs) → (w : Wanted) (once : List AskedColumn) → w.height ≡ height (table_of cs) → table_of (lent_columns w.by) ≡ by_columns request
      → asked_list w.asked ≡ asked_of (table_of cs) aggs → AreOnceTo w.asked (length w.asked) once w.seats → asked_list w.made ≡ asked_list once → AreServed request w
  are_served table w once high are_keys are_asked seated are_made =
      let t : Table = table_of cs in
      record {
        by = are_keys;
        asked = are_asked;
        seated = subst (λ (ps : List Asked). AreSeated (asked_list w.asked) ps w.seats) (sym are_made) (are_seated t aggs w.asked once w.seats are_asked seated);
        high = high;
        table = table;
        some = some;
        keys = all_keys (by_columns request) (holds 4 None (omega arith));
        level = subst (λ (ps : List Asked). All (λ (p : Asked). length p.1.values ≡ height t) ps) (sym are_made)
            (made_hold t aggs w.asked once w.seats are_asked seated (λ (p : Asked). length p.1.values ≡ height t) (asked_hold (λ (c : TableColumn). length c.values ≡ height t) t table.one_height aggs));
        taken = subst (λ (ps : List Asked). All (λ (p : Asked). IsSome (result_kind p.0.agg p.1.kind)) ps) (sym are_made)
            (made_hold t aggs w.asked once w.seats are_asked seated (λ (p : Asked). IsSome (result_kind p.0.agg p.1.kind)) all_take);
      }

  abbrev made : List TableColumn
  made = map (λ (p : Asked). agg_column request p.0 p.1) (asked_of (table_of cs) aggs)

  abbrev key_columns : List TableColumn
  key_columns = map (key_column request) (by_columns request)

  answer_is : group_table request ≡ key_columns ++ made
  answer_is = ap (λ (t : Table). key_columns ++ t) (columns_of request aggs)

  -- the columns of the answer have the names that are asked for
  names_are : names_of (group_table request) ≡ by ++ agg_names aggs
  names_are =
      let name : TableColumn → Name = λ c. c.name in
      let keys : map name key_columns ≡ by = map-map name (key_column request) (by_columns request) ∙ named in
      let others : map name made ≡ agg_names aggs = map-map name (λ (p : Asked). agg_column request p.0 p.1) (asked_of (table_of cs) aggs) ∙ names_made (table_of cs) aggs known_sources in
      ap names_of answer_is ∙ map-append name key_columns made ∙ (λ t. keys t ++ others t)

  -- and one value for each group
  level : All (λ (c : TableColumn). length c.values ≡ length (group_firsts request)) (group_table request)
  level =
      let P : TableColumn → Type 0 = λ c. length c.values ≡ length (group_firsts request) in
      subst (λ (t : Table). All P t) (sym answer_is)
      (All-append P key_columns made
      (All-map P (key_column request) (by_columns request) (λ i d low. length-map (group_firsts request) (row_value (get_or (by_columns request) i d).values)))
      (All-map P (λ (p : Asked). agg_column request p.0 p.1) (asked_of (table_of cs) aggs) (λ i d low.
      length-map (group_firsts request) (λ x. aggregate (get_or (asked_of (table_of cs) aggs) i d).0.agg (member_values request (get_or (asked_of (table_of cs) aggs) i d).1 x)))))

  pub not_refused : frame_refusal (group_table request) ≡ None
  not_refused = no_refusal (group_table request) (length (group_firsts request)) level
      (ap first_repeated names_are ∙ map_none (λ (n : Name). Duplicate n) (first_repeated (by ++ agg_names aggs)) (holds 6 None (omega arith)))
