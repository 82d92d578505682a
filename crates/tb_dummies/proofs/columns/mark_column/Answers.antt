use Rattle.std.proofs.Common.{◌≡◌, ◌∙◌, ◌∷◌, [], ◌++◌, ℕ, List, Option, Some, ◌==◌, if◌then◌else◌, arith, map, ap, pos, refl}
use Rattle.std.proofs.lemmas.List.{append-nil, length-map}
use Rattle.tb_value.specs.Promise.Datum.{Datum, int}
use Rattle.tb_value.specs.Promise.Kind as kind
use Rattle.tb_chunk.specs.Chunk.{or_null}
use Rattle.tb_chunk.specs.Promise.Col.{concatenation}
use Rattle.tb_chunk.proofs.OneChunk.{one_chunk_is_column}
use Rattle.tb_frame.specs.Promise.Table.{plain_column}
use Rattle.tb_dummies.specs.Lent.{mark_in}
use Rattle.tb_dummies.proofs.Made.{marks_shown, marks_typed}
use Rattle.tb_dummies.proofs.columns.mark_column.Goals as goal

-- one chunk of marks
chunk_is : (p : ℕ) (numbers marks : List ℕ) (cells : List (Option ℕ)) (none more : List (List (Option ℕ))) → marks ≡ map (λ n. if n == p then 1 else 0) numbers → cells ≡ map Some marks → none ≡ [] → more ≡ none ++ cells ∷ []
    → map (λ (c : List (Option ℕ)). map (or_null (λ n. int (pos n))) c) more ≡ map (mark_in p) numbers ∷ []
chunk_is p numbers marks cells none more e are empty put =
    ap (map (λ (c : List (Option ℕ)). map (or_null (λ n. int (pos n))) c)) (put ∙ ap (λ (l : List (List (Option ℕ))). l ++ cells ∷ []) empty ∙ ap (λ (c : List (Option ℕ)). c ∷ []) are)
    ∙ ap (λ (vs : List Datum). vs ∷ []) (marks_shown p numbers marks e)

pub from_parts-series-requires-clause-column : goal.from_parts-series-requires-clause-column
from_parts-series-requires-clause-column c =
    let p = c.args.group in
    let numbers = c.args.numbers.now in
    one_chunk_is_column _ kind.uint8 (map (mark_in p) numbers) (omega (arith, length-map numbers (mark_in p), c.requires)) (marks_typed p numbers) c.mark_type.ensures
    (chunk_is p numbers c.in_ok-marks.marks.items c.from_vec.result c.in_ok-chunks.chunks.items c.push.new.self.items c.in_ok-marks.ensures c.from_vec.ensures c.in_ok-chunks.ensures.items c.in_ok-push.ensures.items) refl

pub returns : goal.returns
returns c =
    let p = c.args.group in
    let numbers = c.args.numbers.now in
    let chunks = chunk_is p numbers c.in_ok-marks.marks.items c.from_vec.result c.in_ok-chunks.chunks.items c.push.new.self.items c.in_ok-marks.ensures c.from_vec.ensures c.in_ok-chunks.ensures.items c.in_ok-push.ensures.items in
    ap plain_column (c.into_column.ensures ∙ c.from_parts-series.ensures) ∙ (λ t. record { name = c.args.name; kind = c.mark_type.ensures t; values = concatenation (chunks t) })
    ∙ ap (λ (l : List Datum). record { name = c.args.name; kind = kind.uint8; values = l }) (append-nil (map (mark_in p) numbers))
