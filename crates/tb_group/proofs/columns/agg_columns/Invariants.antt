use Rattle.std.proofs.Common.{◌≡◌, None, map}
use Rattle.tb_value.specs.Promise.Pairs.{row_numbers}
use Rattle.tb_value.specs.Promise.Refusals.{first_cause}
use Rattle.tb_frame.specs.Promise.Table.{table_of}
use Rattle.tb_group.specs.Asked.{asked_list}
use Rattle.tb_group.specs.Parts.{shown_part}
use Rattle.tb_group.specs.Whole.{cause_at, placed_at}
use Rattle.tb_group.proofs.columns.agg_columns.Given as goal

abbrev pub invariant-loop-place : goal.invariant-loop-place
invariant-loop-place l = record {
  none : first_cause (map (cause_at (asked_list l.asked) (asked_list l.made) l.seats (map shown_part l.parts) l.places) (row_numbers l.place)) ≡ None;
  columns : table_of l.columns.items ≡ map (placed_at (asked_list l.asked) (asked_list l.made) l.seats (map shown_part l.parts) l.places) (row_numbers l.place);
}
