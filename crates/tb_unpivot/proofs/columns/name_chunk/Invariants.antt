use Rattle.std.proofs.Common.{◌≡◌, map, take}
use Rattle.std.specs.List.{flat_map}
use Rattle.tb_value.specs.Promise.Datum.{Datum, string}
use Rattle.tb_chunk.specs.Chunk.{or_null}
use Rattle.tb_chunk.specs.Promise.Col.{Col, values}
use Rattle.tb_chunk.specs.Lent.{lent_columns}
use Rattle.tb_unpivot.proofs.columns.name_chunk.Given as goal

abbrev pub invariant-loop-column : goal.invariant-loop-column
invariant-loop-column l = map (or_null string) l.names.rows ≡ flat_map (λ (c : Col). map (λ (d : Datum). string c.name) (values c)) (lent_columns (take l.column-index l.columns))
