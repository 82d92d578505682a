use Rattle.std.proofs.Common.{◌∙◌, List, ap, arith, map, refl}
use Rattle.std.proofs.lemmas.List.{append-nil, length-map}
use Rattle.tb_value.specs.Promise.Datum.{Datum}
use Rattle.tb_chunk.specs.Promise.Col.{concatenation}
use Rattle.tb_chunk.proofs.OneChunk.{one_chunk_is_column}
use Rattle.tb_frame.specs.Promise.Table.{plain_column}
use Rattle.tb_delta_front.specs.Changes.{kind_at, name_at, value_at}
use Rattle.tb_delta_front.specs.Deltas.{change_view, changes_of}
use Rattle.tb_delta_front.proofs.ChangesTable.{typed_values}
use Rattle.tb_delta_front.proofs.changes.column_at.Goals as goal

pub from_parts-series-requires-clause-column : goal.from_parts-series-requires-clause-column
from_parts-series-requires-clause-column c =
    let cs = c.args.changes.now in
    let k = c.args.column in
    one_chunk_is_column _ (kind_at k) (map (value_at k) (changes_of cs)) (omega (arith, length-map (changes_of cs) (value_at k), length-map cs change_view, c.requires))
    (typed_values k cs) c.type_at.ensures c.in_ok-chunks.ensures.lists refl

pub returns : goal.returns
returns c =
    let vs = map (value_at c.args.column) (changes_of c.args.changes.now) in
    ap plain_column (c.into_column.ensures ∙ c.from_parts-series.ensures)
    ∙ (λ t. record { name = (c.in_ok-name.ensures ∙ c.name_at.ensures) t; kind = c.type_at.ensures t; values = concatenation (c.in_ok-chunks.ensures.lists t) })
    ∙ ap (λ (l : List Datum). record { name = name_at c.args.column; kind = kind_at c.args.column; values = l }) (append-nil vs)
