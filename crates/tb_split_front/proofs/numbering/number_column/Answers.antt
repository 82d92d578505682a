use Rattle.std.proofs.Common.{◌≡◌, ◌∙◌, ◌∷◌, [], ◌++◌, ℕ, List, Option, Some, arith, map, ap, pos, refl}
use Rattle.std.proofs.lemmas.List.{append-nil}
use Rattle.std.proofs.lemmas.List.FromFn.{length-map-range_with_len}
use Rattle.tb_value.specs.Promise.Datum.{Datum, int}
use Rattle.tb_value.specs.Promise.Kind as kind
use Rattle.tb_value.specs.Promise.Pairs.{row_numbers}
use Rattle.tb_value.proofs.Loops.{map-map}
use Rattle.tb_chunk.specs.Chunk.{or_null}
use Rattle.tb_chunk.specs.Promise.Col.{concatenation}
use Rattle.tb_chunk.proofs.OneChunk.{one_chunk_is_column}
use Rattle.tb_frame.specs.Promise.Table.{plain_column}
use Rattle.tb_split_front.proofs.Behind.{numbers_typed}
use Rattle.tb_split_front.proofs.numbering.number_column.Goals as goal

-- one chunk of numbers
chunk_is : (ns rows : List ℕ) (cells : List (Option ℕ)) (none more : List (List (Option ℕ))) → ns ≡ rows → cells ≡ map Some ns → none ≡ [] → more ≡ none ++ cells ∷ []
    → map (λ (c : List (Option ℕ)). map (or_null (λ n. int (pos n))) c) more ≡ map (λ i. int (pos i)) rows ∷ []
chunk_is ns rows cells none more same are empty put =
    ap (map (λ (c : List (Option ℕ)). map (or_null (λ n. int (pos n))) c)) (put ∙ ap (λ (l : List (List (Option ℕ))). l ++ cells ∷ []) empty ∙ ap (λ (c : List (Option ℕ)). c ∷ []) are)
    ∙ ap (λ (vs : List Datum). vs ∷ []) (map-map (or_null (λ n. int (pos n))) Some ns ∙ ap (map (λ i. int (pos i))) same)

pub from_parts-series-requires-clause-column : goal.from_parts-series-requires-clause-column
from_parts-series-requires-clause-column c =
    let rows = row_numbers c.args.rows in
    one_chunk_is_column _ kind.uint32 (map (λ i. int (pos i)) rows) (omega (arith, length-map-range_with_len (λ i. int (pos i)) 0 c.args.rows, c.requires)) (numbers_typed c.args.rows c.requires) c.number_type.ensures
    (chunk_is c.in_ok-numbers.numbers.items rows c.from_vec.result c.in_ok-chunks.chunks.items c.push.new.self.items c.in_ok-numbers.ensures c.from_vec.ensures c.in_ok-chunks.ensures.items c.in_ok-push.ensures.items) refl

pub returns : goal.returns
returns c =
    let rows = row_numbers c.args.rows in
    let chunks = chunk_is c.in_ok-numbers.numbers.items rows c.from_vec.result c.in_ok-chunks.chunks.items c.push.new.self.items c.in_ok-numbers.ensures c.from_vec.ensures c.in_ok-chunks.ensures.items c.in_ok-push.ensures.items in
    ap plain_column (c.into_column.ensures ∙ c.from_parts-series.ensures) ∙ (λ t. record { name = c.in_ok-name.ensures t; kind = c.number_type.ensures t; values = concatenation (chunks t) })
    ∙ ap (λ (l : List Datum). record { name = c.args.name.now; kind = kind.uint32; values = l }) (append-nil (map (λ i. int (pos i)) rows))
