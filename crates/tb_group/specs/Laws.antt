-- What holds of groupings.
use Rattle.std.specs.Prelude.{◌≡◌, ℕ, pos, true}
use Rattle.std.specs.List.{All}
use Rattle.tb_value.specs.Promise.SameKind.{is_key}
use Rattle.tb_frame.specs.Promise.Table.{TableColumn, IsTable, height}
use Rattle.tb_agg.specs.Promise.Aggregates.{total}
use Rattle.tb_agg.specs.declared.table.Aggregate.TheVariants.{Count}
use Rattle.tb_group.specs.declared.request.GroupAgg.{GroupAgg}
use Rattle.tb_group.specs.Promise.Group.{agg_column, alike}
use Rattle.tb_group.specs.Promise.Keys.{same_key}
use Rattle.tb_group.specs.Promise.Request.{Request, by_columns}

-- the counts of all groups add up to the number of rows
abbrev pub Counts : Type 0
Counts = (q : Request) (a : GroupAgg) (v : TableColumn) → a.agg ≡ Count
    → total (agg_column q a v).values ≡ pos (height q.table)

-- rows of columns of key types have the same key exactly where they are alike
abbrev pub KeysAreRows : Type 0
KeysAreRows = (q : Request) (i j : ℕ) → IsTable q.table
    → All (λ (c : TableColumn). is_key c.kind ≡ true) (by_columns q)
    → same_key (by_columns q) i j ≡ alike q i j
