-- What is true of plans.
use Rattle.std.specs.Prelude.{◌≡◌, ◌≢◌, ◌↔◌, ℕ, List, Some, None, Ok}
use Rattle.tb_value.specs.Promise.Names.{Name}
use Rattle.tb_frame.specs.declared.args.Direction.TheVariants.{Free}
use Rattle.tb_frame.specs.declared.args.JoinArgs.{JoinArgs}
use Rattle.tb_frame.specs.declared.args.JoinType.TheVariants.{Left}
use Rattle.tb_frame.specs.declared.args.JoinValidation.TheVariants.{ManyToMany}
use Rattle.tb_frame.specs.Promise.Join.{IsAnswer, by_names, column_named, direction}
use Rattle.tb_frame.specs.Promise.Refusal.{join_refusal, join_valid}
use Rattle.tb_frame.specs.Promise.Table.{IsTable, Table, TableColumn}
use Rattle.tb_filter.specs.Promise.Filtered.{Check, rows_kept, with_rows}
use Rattle.tb_node.specs.Means.{AreTables, Means}
use Rattle.tb_node.specs.Promise.Settled.{settled}
use Rattle.tb_node.specs.Promise.Tables.{Tables}
use Rattle.tb_plan.specs.Promise.Outcome.{outcome, the_answer}
use Rattle.tb_node.specs.Promise.Pushed.{pushed}
use Rattle.tb_node.specs.Promise.Trees.{Tree}

-- A request by names that isn't refused, and whose order is fixed, has one answer.
abbrev pub TheAnswer : Type 0
TheAnswer = (l r : Table) (lo ro : List Name) (a : JoinArgs) (t : Table) → IsTable l → IsTable r
    → direction a.how a.maintain_order ≢ Free
    → join_valid (by_names l r lo ro a)
    → IsAnswer (by_names l r lo ro a) t ↔ (t ≡ the_answer (by_names l r lo ro a))

-- In a plan no order is free.
abbrev pub NoneFree : Type 0
NoneFree = (a : JoinArgs) → direction (settled a).how (settled a).maintain_order ≢ Free

-- A tree answers a table, whatever its first number is, exactly where it means it.
abbrev pub OutcomeMeans : Type 0
OutcomeMeans = (ts : Tables) (n : Tree) (t : Table) (first : ℕ) → AreTables ts
    → (outcome ts first n ≡ Ok t) ↔ Means ts n t

-- What a tree answers, it answers with its filters pushed.
abbrev pub SameTable : Type 0
SameTable = (ts : Tables) (n : Tree) (t : Table) (first second : ℕ) → AreTables ts
    → outcome ts first n ≡ Ok t → outcome ts second (pushed ts n) ≡ Ok t

-- A filter on a left column may stand before a Left join that no validation checks and no slice cuts, in each order: that join isn't refused where the other
-- isn't, and the answer's column has the type of the left one, and of the answer the rows that pass are the answer to the join of the left rows that pass.
abbrev pub BeforeJoin : Type 0
BeforeJoin = (l r : Table) (lo ro : List Name) (a : JoinArgs) (n : Name) (k : Check)
    (c d : TableColumn)
    → IsTable l → IsTable r
    → a.how ≡ Left → a.validation ≡ ManyToMany → a.slice ≡ None → column_named l n ≡ Some c
    → join_refusal (by_names l r lo ro a) ≡ None
    → column_named (the_answer (by_names l r lo ro a)) n ≡ Some d
    → (join_refusal (by_names (with_rows (rows_kept k c) l) r lo ro a) ≡ None)
    × (d.kind ≡ c.kind)
    × (with_rows (rows_kept k d) (the_answer (by_names l r lo ro a))
    ≡ the_answer (by_names (with_rows (rows_kept k c) l) r lo ro a))
