-- What is asked of the table of a text that is grouped, why it is refused, and which table answers it.
use Rattle.std.specs.Prelude.{◌&&◌, ℕ, Bool, true, false, List, [], ◌∷◌, filter, length, Option, Some}
use Rattle.tb_value.specs.Promise.Names.{Name}
use Rattle.tb_value.specs.Promise.Refusals.{first_cause}
use Rattle.tb_frame.specs.Promise.Naming.{is_among}
use Rattle.tb_frame.specs.Promise.Table.{Table}
use Rattle.tb_csv.specs.declared.options.TypeOf.{TypeOf}
use Rattle.tb_group.specs.Promise.Group.{group_table}
use Rattle.tb_group.specs.Promise.Refusal.{group_refusal}
use Rattle.tb_group.specs.Promise.Request.{Request, agg_sources}
use Rattle.tb_group.specs.declared.request.GroupAgg.{GroupAgg}
use Rattle.tb_front.specs.declared.options.TextOptions.{TextOptions}
use Rattle.tb_front.specs.declared.fault.FrontFault.{FrontFault}
use Rattle.tb_front.specs.declared.fault.Comparison.TheVariants.{LeastOrGreatest, Rows}
use Rattle.tb_front.specs.Promise.Asked.{compares, first_decimals, table_fault, table_faults}
use Rattle.tb_front.specs.Promise.Texts.{table_in}
use Rattle.tb_group_front.specs.declared.call.GroupCall.{GroupCall}
use Rattle.tb_group_front.specs.Promise.Sorted.{sorted_table}

-- what is asked of a table
abbrev pub asked_groups : GroupCall → Table → Request
asked_groups c t = record { table = t; by = c.by.items; aggs = c.aggs.items }

-- the groups as they come, or in the order of so many of their first columns
abbrev pub in_asked_order : Bool → ℕ → Table → Table
in_asked_order true n t = sorted_table n t
in_asked_order false n t = t

-- the groups of a table; their first columns are those by which its rows are grouped
abbrev pub grouped_table : GroupCall → Table → Table
grouped_table c t =
    in_asked_order c.sorts (length c.by.items) (group_table (asked_groups c t))

-- the names of the columns whose values are compared
abbrev pub compared_names : List GroupAgg → List Name
compared_names aggs = agg_sources (filter (λ (a : GroupAgg). compares (Some a.agg)) aggs)

-- decimal numbers would be compared by their bytes, for a least or greatest value or for the order of the groups
abbrev pub decimal_faults : List TypeOf → GroupCall → Table → List (Option FrontFault)
decimal_faults types c t =
    first_decimals types LeastOrGreatest (is_among (compared_names c.aggs.items)) t
    ∷ first_decimals types Rows (λ n. c.sorts && is_among c.by.items n) t
    ∷ []

abbrev pub group_faults : TextOptions → GroupCall → Table → List (Option FrontFault)
group_faults o c t =
    first_cause (decimal_faults o.csv.types.items c t)
    ∷ table_faults o.form (group_refusal (asked_groups c t)) (grouped_table c t)

-- the text is no table, or its table has no such answer
abbrev pub group_fault : TextOptions → GroupCall → List ℕ → Option FrontFault
group_fault o c text = first_cause (table_fault o.csv text ∷ group_faults o c (table_in o.csv text))
