-- What is asked of texts, why it is refused, and which texts answer it.
use Rattle.std.specs.Prelude.{◌≡◌, ◌&&◌, ◌||◌, ℕ, not, Bool, true, false, List, [], ◌∷◌, filter, map, Option, Some, None, option_map, unwrap_or, if◌then◌else◌}
use Rattle.std.specs.List.{find}
use Rattle.tb_value.specs.Promise.Kind.{Kind}
use Rattle.tb_value.specs.Promise.Kind as kind
use Rattle.tb_value.specs.Promise.Names.{Name}
use Rattle.tb_value.specs.Promise.Refusals.{first_cause}
use Rattle.tb_value.specs.declared.error.PolarsError.{PolarsError}
use Rattle.tb_agg.specs.declared.table.Aggregate.{Aggregate}
use Rattle.tb_agg.specs.declared.table.Aggregate.TheVariants as agg
use Rattle.tb_frame.specs.Promise.Join.{IsAnswer, Request, out_columns}
use Rattle.tb_frame.specs.Promise.Naming.{is_among}
use Rattle.tb_frame.specs.Promise.Refusal.{join_refusal}
use Rattle.tb_frame.specs.Promise.Table.{Table, TableColumn, names_of}
use Rattle.tb_unpivot.specs.Promise.Unpivot.{unpivot_refusal, unpivot_table}
use Rattle.tb_unpivot.specs.declared.frame_unpivot.UnpivotArgsIR.{UnpivotArgsIR}
use Rattle.tb_dummies.specs.Promise.Dummies.{dummies_refusal, dummies_table}
use Rattle.tb_dummies.specs.Promise.Dummies as marked
use Rattle.tb_pivot.specs.Promise.Pivot.{pivot_table}
use Rattle.tb_pivot.specs.Promise.Refusal.{pivot_refusal}
use Rattle.tb_calls.specs.Promise.Asked.{dummies_request, joined_of, long_of, wide_of}
use Rattle.tb_calls.specs.Promise.Asked as call
use Rattle.tb_calls.specs.declared.arguments.DummiesCall.{DummiesCall}
use Rattle.tb_calls.specs.declared.arguments.JoinCall.{JoinCall}
use Rattle.tb_calls.specs.declared.arguments.PivotCall.{PivotCall}
use Rattle.tb_csv.specs.Promise.Records.{records_of}
use Rattle.tb_csv.specs.declared.options.CsvOptions.{CsvOptions}
use Rattle.tb_csv.specs.declared.options.TypeOf.{TypeOf}
use Rattle.tb_front.specs.declared.options.TextForm.{TextForm}
use Rattle.tb_front.specs.declared.options.TextOptions.{TextOptions}
use Rattle.tb_front.specs.declared.fault.FrontFault.{FrontFault}
use Rattle.tb_front.specs.declared.fault.FrontFault.TheVariants.{Decimals}
use Rattle.tb_front.specs.declared.fault.Comparison.{Comparison}
use Rattle.tb_front.specs.declared.fault.Comparison.TheVariants.{LeastOrGreatest, Order}
use Rattle.tb_front.specs.declared.fault.Place.TheVariants.{First, Second}
use Rattle.tb_front.specs.Promise.Decimals.{is_told_decimal}
use Rattle.tb_front.specs.Promise.Faults.{empty_table, key_clash, names_in, no_records, no_types, refusal_fault, unknown_type, writing_fault}
use Rattle.tb_front.specs.Promise.Texts.{joined_table, joined_types, table_in, text_in}

-- JOINS

-- the tables that two texts are, whose keys have types that are told from both
abbrev pub left_table : CsvOptions → JoinCall → List ℕ → List ℕ → Table
left_table o c left right = joined_table o left right c.left_on.items c.right_on.items

abbrev pub right_table : CsvOptions → JoinCall → List ℕ → List ℕ → Table
right_table o c left right = joined_table o right left c.right_on.items c.left_on.items

-- why two texts are no such tables
abbrev pub tables_faults : CsvOptions → List Name → List Name → List ℕ → List ℕ
    → List (Option FrontFault)
tables_faults o left_on right_on left right =
    no_records o First left
    ∷ no_records o Second right
    ∷ unknown_type o.types.items (names_in (records_of o.separator left))
    (names_in (records_of o.separator right))
    ∷ no_types o First left (joined_types o left right left_on right_on)
    ∷ no_types o Second right (joined_types o right left right_on left_on)
    ∷ []

-- what is asked of the tables of two texts
abbrev pub asked_join : CsvOptions → JoinCall → List ℕ → List ℕ → Request
asked_join o c left right = joined_of c (left_table o c left right) (right_table o c left right)

-- why a request isn't answered by a text: it is refused, or a table of the names and types of its answers has no text
abbrev pub answer_faults : TextForm → Request → List (Option FrontFault)
answer_faults form q =
    refusal_fault (join_refusal q) ∷ writing_fault form (empty_table (out_columns q)) ∷ []

-- why two tables aren't joined
abbrev pub joining_fault : TextForm → JoinCall → Table → Table → Option FrontFault
joining_fault form c left right = first_cause
    (key_clash left right c.left_on.items c.right_on.items
    ∷ answer_faults form (joined_of c left right))

-- why two texts aren't
abbrev pub join_fault : TextOptions → JoinCall → List ℕ → List ℕ → Option FrontFault
join_fault o c left right = first_cause
    (first_cause (tables_faults o.csv c.left_on.items c.right_on.items left right)
    ∷ joining_fault o.form c (left_table o.csv c left right) (right_table o.csv c left right) ∷ [])

-- the text is that of some answer to a request
abbrev pub IsAnswerText : TextOptions → Request → List ℕ → Type 0
IsAnswerText o q text = (t : Table) × IsAnswer q t × (text ≡ text_in o.form o.csv.separator t)

-- ONE TABLE

-- why a text is no table
abbrev pub table_fault : CsvOptions → List ℕ → Option FrontFault
table_fault o text = first_cause
    (no_records o First text
    ∷ unknown_type o.types.items (names_in (records_of o.separator text)) []
    ∷ no_types o First text o.types.items ∷ [])

-- why a table has no answer with a text: the operation refuses, or its answer has no text
abbrev pub table_faults : TextForm → Option PolarsError → Table → List (Option FrontFault)
table_faults form cause answer = refusal_fault cause ∷ writing_fault form answer ∷ []

abbrev pub unpivot_faults : TextForm → UnpivotArgsIR → Table → List (Option FrontFault)
unpivot_faults form c t =
    table_faults form (unpivot_refusal (long_of c t)) (unpivot_table (long_of c t))

-- the text is no table, or its table has no such answer
abbrev pub unpivot_fault : TextOptions → UnpivotArgsIR → List ℕ → Option FrontFault
unpivot_fault o c text =
    first_cause (table_fault o.csv text ∷ unpivot_faults o.form c (table_in o.csv text))

-- DUMMIES

-- texts and truth values
abbrev pub is_marked : Kind → Bool
is_marked kind.string = true
is_marked kind.boolean = true
is_marked _ = false

-- the names of the columns that are replaced: those that are given, and else those of texts and truth values
abbrev pub marked_names : Option (List Name) → Table → List Name
marked_names (Some names) t = names
marked_names None t = names_of (filter (λ (c : TableColumn). is_marked c.kind) t)

-- what is asked of the table whose columns are replaced
abbrev pub marked_of : DummiesCall → Table → marked.Request
marked_of c t =
    dummies_request t (Some (marked_names (call.names_in c.columns) t)) c.separator c.drop_first

abbrev pub dummies_faults : TextForm → DummiesCall → Table → List (Option FrontFault)
dummies_faults form c t =
    table_faults form (dummies_refusal (marked_of c t)) (dummies_table (marked_of c t))

-- the text is no table, or its table has no such answer
abbrev pub dummies_fault : TextOptions → DummiesCall → List ℕ → Option FrontFault
dummies_fault o c text =
    first_cause (table_fault o.csv text ∷ dummies_faults o.form c (table_in o.csv text))

-- PIVOTS

-- the aggregate compares values
abbrev pub compares : Option Aggregate → Bool
compares (Some agg.Min) = true
compares (Some agg.Max) = true
compares _ = false

-- whether cells are made of the values of a column of this name: it is among those that are given, or else in neither of the others
abbrev pub is_value : List Name → Option (List Name) → Option (List Name) → Name → Bool
is_value on index (Some names) n = is_among names n
is_value on index None n = not (is_among on n || is_among (unwrap_or index []) n)

abbrev pub makes_cells : PivotCall → Name → Bool
makes_cells c n = is_value c.on.items (call.names_in c.index) (call.names_in c.values) n

-- the first column of decimal numbers, read as texts unasked, that is used so
abbrev pub first_decimals : List TypeOf → Comparison → (Name → Bool) → Table → Option FrontFault
first_decimals types comparison used t =
    option_map (λ (c : TableColumn). Decimals comparison c.name)
    (find (λ (c : TableColumn). used c.name && is_told_decimal types c) t)

-- decimal numbers would be compared by their bytes, as values of cells or as names of columns that are sorted
abbrev pub decimal_faults : List TypeOf → PivotCall → Table → List (Option FrontFault)
decimal_faults types c t =
    first_decimals types LeastOrGreatest (λ n. compares c.agg && makes_cells c n) t
    ∷ first_decimals types Order (λ n. c.sort_columns && is_among c.on.items n) t
    ∷ []

abbrev pub pivot_faults : TextOptions → PivotCall → Table → List (Option FrontFault)
pivot_faults o c t =
    first_cause (decimal_faults o.csv.types.items c t)
    ∷ table_faults o.form (pivot_refusal (wide_of c t)) (pivot_table (wide_of c t))

-- the text is no table, or its table has no such answer
abbrev pub pivot_fault : TextOptions → PivotCall → List ℕ → Option FrontFault
pivot_fault o c text = first_cause (table_fault o.csv text ∷ pivot_faults o c (table_in o.csv text))
