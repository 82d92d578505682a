use Rattle.std.proofs.Common.{◌≡◌, length, max}
use Rattle.std.specs.List.{fold}
use Rattle.tb_layout.proofs.measured.column_width.Given as goal

abbrev pub invariant-loop-width : goal.invariant-loop-width
invariant-loop-width g l = record {
  widest : fold max l.widest l.width-iterator.rest.items ≡ fold max l.initial.widest l.initial.width-iterator.rest.items;
  rest_len : l.width-iterator.rest.len ≡ length l.width-iterator.rest.items;
}
