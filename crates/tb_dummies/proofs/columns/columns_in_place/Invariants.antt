use Rattle.std.proofs.Common.{◌≡◌, take}
use Rattle.std.specs.List.{flat_map}
use Rattle.tb_frame.specs.Promise.Table.{table_of}
use Rattle.tb_dummies.specs.Promise.Dummies.{in_place_of}
use Rattle.tb_dummies.specs.Lent.{is_in}
use Rattle.tb_dummies.proofs.columns.columns_in_place.Given as goal

abbrev pub invariant-loop-column : goal.invariant-loop-column
invariant-loop-column l = table_of l.all.items ≡ flat_map (in_place_of (is_in l.replaced.names) l.separator l.drop_first) (table_of (take l.column-index l.columns))
