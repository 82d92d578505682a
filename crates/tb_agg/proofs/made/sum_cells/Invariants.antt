use Rattle.std.proofs.Common.{◌≡◌, true, map, take}
use Rattle.std.specs.List.{list_all}
use Rattle.tb_value.specs.Promise.Datum.{int}
use Rattle.tb_value.specs.Promise.Typed.{ends}
use Rattle.tb_value.specs.SeeKind.{kind_of}
use Rattle.tb_agg.specs.Promise.Outcome.{lies_within}
use Rattle.tb_agg.specs.Sums.{shown_sums}
use Rattle.tb_agg.proofs.made.sum_cells.Given as goal

abbrev pub invariant-loop-place : goal.invariant-loop-place
invariant-loop-place g l = record {
  cells : map g.N.Cell.shows l.cells.items ≡ map int (take l.place (shown_sums l.sums));
  fit : list_all (lies_within (ends (kind_of l.dtype))) (take l.place (shown_sums l.sums)) ≡ true;
}
