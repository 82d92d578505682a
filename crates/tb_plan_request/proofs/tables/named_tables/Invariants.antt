use Rattle.std.proofs.Common.{◌≡◌, ◌++◌, map}
use Rattle.std.specs.List.{zip}
use Rattle.tb_request.specs.Columns.{relaid_column}
use Rattle.tb_plan_request.specs.Lent.{table_view}
use Rattle.tb_plan_request.proofs.tables.named_tables.Given as goal

-- the tables so far, and those that are left
abbrev pub invariant-loop-name : goal.invariant-loop-name
invariant-loop-name l =
    map table_view l.named.items ++ zip l.name-iterator.a.rest.items (map (map relaid_column) l.name-iterator.b.rest.items)
    ≡ zip l.initial.name-iterator.a.rest.items (map (map relaid_column) l.initial.name-iterator.b.rest.items)
