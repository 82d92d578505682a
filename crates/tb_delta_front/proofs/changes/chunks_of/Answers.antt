use Rattle.std.proofs.Common.{◌∙◌, ◌∷◌, [], List, ap, map, refl}
use Rattle.tb_value.specs.Promise.Datum.{Datum, string}
use Rattle.tb_value.specs.declared.error.Side.TheVariants as side
use Rattle.tb_chunk.specs.Chunk.{or_null}
use Rattle.tb_chunk.specs.ChunkTexts.{texts_of}
use Rattle.tb_chunk.specs.declared.chunk.StringChunk.{StringChunk}
use Rattle.tb_delta_front.specs.Changes.{id_on}
use Rattle.tb_delta_front.specs.declared.changes.ChangeColumn.TheVariants.{Step, Left, Right}
use Rattle.tb_delta_front.proofs.ChangesTable.{numbers_shown, signs_shown}
use Rattle.tb_delta_front.proofs.changes.chunks_of.Goals as goal

pub returns-in_ok-vec-in-Step-clause-lists : goal.returns-in_ok-vec-in-Step-clause-lists
returns-in_ok-vec-in-Step-clause-lists c =
    numbers_shown c.args.column Step (λ x. x.step) c.args.changes.now c.in_ok-step_numbers-in-Step.field-0.items c.from_vec-steps.result c.in_ok-vec-in-Step.field-0.items c.in-Step.is (λ x. refl)
    c.in_ok-step_numbers-in-Step.ensures c.from_vec-steps.ensures c.in_ok-vec-in-Step.ensures.items

pub returns-in_ok-vec-in-Sign-clause-lists : goal.returns-in_ok-vec-in-Sign-clause-lists
returns-in_ok-vec-in-Sign-clause-lists c =
    ap (map (λ (b : StringChunk). map (or_null string) (texts_of b))) c.in_ok-vec-in-Sign.ensures.items
    ∙ ap (λ (vs : List Datum). vs ∷ []) (signs_shown c.args.column c.args.changes.now (texts_of c.in_ok-signs-in-Sign.signs) c.in-Sign.is c.in_ok-signs-in-Sign.ensures.texts)

pub returns-in_ok-vec-in-Left-clause-lists : goal.returns-in_ok-vec-in-Left-clause-lists
returns-in_ok-vec-in-Left-clause-lists c =
    numbers_shown c.args.column Left (id_on side.Left) c.args.changes.now c.in_ok-ids_on-in-Left.field-0.items c.from_vec-ids.result c.in_ok-vec-in-Left.field-0.items c.in-Left.is (λ x. refl)
    c.in_ok-ids_on-in-Left.ensures c.from_vec-ids.ensures c.in_ok-vec-in-Left.ensures.items

pub returns-in_ok-vec-in-Right-clause-lists : goal.returns-in_ok-vec-in-Right-clause-lists
returns-in_ok-vec-in-Right-clause-lists c =
    numbers_shown c.args.column Right (id_on side.Right) c.args.changes.now c.in_ok-ids_on-in-Right.field-0.items c.from_vec-ids-in-Right.result c.in_ok-vec-in-Right.field-0.items c.in-Right.is (λ x. refl)
    c.in_ok-ids_on-in-Right.ensures c.from_vec-ids-in-Right.ensures c.in_ok-vec-in-Right.ensures.items
