-- What a request asks, by what the program has of it.
use Rattle.std.proofs.Common.{◌≡◌, List, [], ◌∷◌, map, Option, refl, sym, ap, ◌∙◌, if◌then◌else◌}
use Rattle.std.specs.Option.{option_map}
use Rattle.tb_value.specs.Promise.Names.{Name}
use Rattle.tb_chunk.specs.Promise.Col.{Col}
use Rattle.tb_frame.specs.Promise.Table.{Table, table_of}
use Rattle.tb_node.specs.declared.tables.NamedTable.{NamedTable}
use Rattle.tb_node.specs.Promise.Pushed.{pushed}
use Rattle.tb_node.specs.Promise.Tables.{table_named}
use Rattle.tb_node.specs.Promise.Trees.{Tree}
use Rattle.tb_node.specs.Seen.{given_tables, tree_of}
use Rattle.tb_plan.specs.Promise.Outcome.{Pivot, plan_outcome}
use Rattle.tb_request.proofs.Unlaid.{table_unlaid}
use Rattle.tb_plan_request.specs.declared.request.PlanRequest.{PlanRequest}
use Rattle.tb_plan_request.specs.Lent.{pivot_view, plan_view, table_view}
use Rattle.tb_plan_request.specs.Promise.Reading.{plan_answer}

given_view : (ts : List NamedTable) → map (λ (t : Name × List Col). (t.0, table_of t.1)) (map table_view ts) ≡ given_tables ts
given_view [] = refl
given_view (t ∷ ts) = λ i. (t.name, table_unlaid t.table i) ∷ given_view ts i

abbrev root_of : PlanRequest → List (Name × Table) → Tree
root_of r given = (if r.push then pushed (table_named given) (tree_of r.root) else tree_of r.root)

-- the answer that is due, of the tables as they are lent
pub due : (r : PlanRequest) (us ts : List NamedTable) (root : Tree) (pivot : Option Pivot) → us ≡ r.tables.items → ts ≡ r.tables.items → root ≡ root_of r (given_tables us) → pivot ≡ option_map pivot_view r.pivot
    → plan_answer (plan_view r) ≡ plan_outcome (given_tables ts) root pivot
due r us ts root pivot lent same is asked =
    ap (λ given. plan_outcome given (root_of r given) (option_map pivot_view r.pivot)) (given_view r.tables.items)
    ∙ (λ i. plan_outcome (given_tables (sym same i)) (root_of r (given_tables (sym lent i))) (sym asked i))
    ∙ ap (λ n. plan_outcome (given_tables ts) n pivot) (sym is)
