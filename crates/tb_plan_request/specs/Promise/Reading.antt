-- The plan that bytes ask for, or the first reason why they ask for none; and what it answers.
use Rattle.std.specs.Prelude.{ℕ, List, map, Bool, if◌then◌else◌, Option, Result, Ok, ok_or}
use Rattle.std.specs.List.{zip}
use Rattle.serde_json.specs.Data.{Data}
use Rattle.tb_value.specs.Promise.Names.{Name}
use Rattle.tb_pool.specs.Promise.ExecView.{ExecView}
use Rattle.tb_chunk.specs.Promise.Col.{Col}
use Rattle.tb_frame.specs.Promise.Table.{Table, table_of}
use Rattle.tb_node.specs.Promise.Pushed.{pushed}
use Rattle.tb_node.specs.Promise.Tables.{table_named}
use Rattle.tb_node.specs.Promise.Trees.{Tree}
use Rattle.tb_plan.specs.declared.faults.PlanFault.{PlanFault}
use Rattle.tb_plan.specs.Promise.Outcome.{Pivot, plan_outcome}
use Rattle.tb_request.specs.declared.request.Reason.{Reason}
use Rattle.tb_request.specs.declared.request.Reason.TheVariants as why
use Rattle.tb_request.specs.Promise.Reading.{◌>>=◌, request_tables, value_of}
use Rattle.tb_request.specs.Promise.Written.{Written}
use Rattle.tb_plan_request.specs.Promise.Written.{WrittenPlan, written_of}

-- READING

-- tables under names, a plan over them, whether its filters are pushed, and how the work is run
pub record PlanRequest : Type 0 where
  pub tables : List (Name × List Col)
  pub root : Tree
  pub pivot : Option Pivot
  pub push : Bool
  pub exec : ExecView

-- the columns of each table, without its name, and the names
abbrev pub table_columns : List (Name × List Written) → List (List Written)
table_columns ts = map (λ (t : Name × List Written). t.1) ts

abbrev pub table_names : List (Name × List Written) → List Name
table_names ts = map (λ (t : Name × List Written). t.0) ts

unfoldable pub plan_in : Data → Result PlanRequest Reason
plan_in d = do
  written ← ok_or (written_of d) why.Shape
  tables ← request_tables (table_columns written.tables) written.exec
  Ok (record {
    tables = zip (table_names written.tables) tables;
    root = written.root;
    pivot = written.pivot;
    push = written.push;
    exec = written.exec;
  })

unfoldable pub plan_request_of : List ℕ → Result PlanRequest Reason
plan_request_of bytes = value_of bytes >>= plan_in

-- ANSWERING

abbrev pub asked_tables : PlanRequest → List (Name × Table)
asked_tables r = map (λ (t : Name × List Col). (t.0, table_of t.1)) r.tables

-- the tree that is run
abbrev pub run_root : PlanRequest → Tree
run_root r = if r.push then pushed (table_named (asked_tables r)) r.root else r.root

-- the table that a request asks for, or the first fault, with its node's number in the tree that is run
abbrev pub plan_answer : PlanRequest → Result Table PlanFault
plan_answer r = plan_outcome (asked_tables r) (run_root r) r.pivot
