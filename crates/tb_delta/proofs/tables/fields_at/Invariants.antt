use Rattle.std.proofs.Common.{◌≡◌, ◌++◌, ◌<◌, map, get_or}
use Rattle.std.specs.Prelude.{All}
use Rattle.std.specs.BTreeMap.{values}
use Rattle.std.specs.Vec.{vec_len}
use Rattle.tb_value.specs.Promise.Datum.{null}
use Rattle.tb_value.specs.See.{data_of}
use Rattle.tb_delta.specs.declared.side_rows.StoredRow.{StoredRow}
use Rattle.tb_delta.proofs.tables.fields_at.Given as goal

abbrev pub invariant-loop-row : goal.invariant-loop-row
invariant-loop-row l =
    (data_of l.fields.items ++ map (λ (s : StoredRow). get_or (data_of s.values.items) l.place null) l.row-iterator ≡ map (λ (s : StoredRow). get_or (data_of s.values.items) l.place null) (values l.rows))
    × All (λ (s : StoredRow). l.place < vec_len s.values) l.row-iterator
