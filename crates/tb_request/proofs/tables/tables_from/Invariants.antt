use Rattle.std.proofs.Common.{◌≡◌, map, None}
use Rattle.tb_request.specs.Columns.{relaid_column}
use Rattle.tb_request.specs.Lent.{claimed_views}
use Rattle.tb_request.specs.Promise.Reading.{IsJudged}
use Rattle.tb_request.proofs.tables.tables_from.Given as goal

abbrev pub invariant-loop-columns : goal.invariant-loop-columns
invariant-loop-columns l = record {
  judged : IsJudged (map claimed_views l.yielded) l.fault;
  made : l.fault ≡ None → map (map relaid_column) l.tables.items ≡ map claimed_views l.yielded;
}
