use Rattle.std.proofs.Common.{◌≡◌, ◌∙◌, ◌∷◌, [], ◌++◌, ℤ, List, Option, Some, arith, map, ap, refl}
use Rattle.std.proofs.lemmas.List.{append-nil, length-map}
use Rattle.tb_value.specs.Promise.Datum.{Datum, int}
use Rattle.tb_value.specs.Promise.Kind.{int64}
use Rattle.tb_value.proofs.Loops.{map-map}
use Rattle.tb_chunk.specs.Chunk.{or_null}
use Rattle.tb_chunk.specs.Promise.Col.{concatenation}
use Rattle.tb_chunk.proofs.OneChunk.{one_chunk_is_column}
use Rattle.tb_frame.specs.Promise.Table.{plain_column}
use Rattle.tb_sample.proofs.tables.number_column.Goals as goal

-- one chunk of numbers
chunk_is : (zs : List ℤ) (cells : List (Option ℤ)) (none more : List (List (Option ℤ))) → cells ≡ map Some zs → none ≡ [] → more ≡ none ++ cells ∷ []
    → map (λ (c : List (Option ℤ)). map (or_null int) c) more ≡ map int zs ∷ []
chunk_is zs cells none more are empty put =
    ap (map (λ (c : List (Option ℤ)). map (or_null int) c)) (put ∙ ap (λ (l : List (List (Option ℤ))). l ++ cells ∷ []) empty ∙ ap (λ (c : List (Option ℤ)). c ∷ []) are)
    ∙ ap (λ (vs : List Datum). vs ∷ []) (map-map (or_null int) Some zs)

pub from_parts-series-requires-clause-column : goal.from_parts-series-requires-clause-column
from_parts-series-requires-clause-column c =
    let zs = c.args.numbers.items in
    one_chunk_is_column _ int64 (map int zs) (omega (arith, length-map zs int, c.requires.few)) c.requires.typed c.number_type.ensures
    (chunk_is zs c.from_vec.result c.in_ok-chunks.chunks.items c.push.new.self.items c.from_vec.ensures c.in_ok-chunks.ensures.items c.in_ok-push.ensures.items) refl

pub returns : goal.returns
returns c =
    let zs = c.args.numbers.items in
    let chunks = chunk_is zs c.from_vec.result c.in_ok-chunks.chunks.items c.push.new.self.items c.from_vec.ensures c.in_ok-chunks.ensures.items c.in_ok-push.ensures.items in
    ap plain_column (c.into_column.ensures ∙ c.from_parts-series.ensures) ∙ (λ t. record { name = c.in_ok-name.ensures t; kind = c.number_type.ensures t; values = concatenation (chunks t) })
    ∙ ap (λ (l : List Datum). record { name = c.args.name.now; kind = int64; values = l }) (append-nil (map int zs))
