use Rattle.std.proofs.Common.{arith, ℕ, ◌≡◌, ◌≤◌, ◌∙◌, List, [], ◌∷◌, Option, ap, inl, inr, length, refl, subst, sym}
use Rattle.std.specs.List.{All}
use Rattle.tb_value.specs.Promise.Kind as kind
use Rattle.tb_value.specs.Promise.Kind.{Kind}
use Rattle.tb_value.specs.SeeKind.{kind_of}
use Rattle.tb_value.specs.Promise.Typed.{HasType}
use Rattle.tb_value.specs.declared.limits.TheConstants.{MAX_ROWS}
use Rattle.tb_chunk.specs.Col.{physical}
use Rattle.tb_chunk.specs.Physical.{kind_for}
use Rattle.tb_chunk.specs.TextValues.{text_values}
use Rattle.tb_chunk.specs.View.{texts}
use Rattle.tb_view.specs.declared.view.View.{View}
use Rattle.tb_chunk.proofs.OneChunk.{one_chunk_is_column}
use Rattle.tb_store.proofs.ChunkTexts.{length-text_values, typed_texts}
use Rattle.tb_store.proofs.series.Series.from_views.Goals as goal

pub from_parts-requires-clause-column : goal.from_parts-requires-clause-column
from_parts-requires-clause-column c =
    let t = kind_of c.args.dtype in
    let bs = c.args.buffers.items in
    let vs = c.args.views.items in
    let few : length (text_values t (texts bs vs)) ≤ MAX_ROWS = omega (arith, length-text_values t bs vs, c.requires.few) in
    let AreBytes : List (List ℕ) → List (Option View) → Type 0 = λ a b. All (HasType kind.binary) (text_values kind.binary (texts a b)) in
    let bytes : AreBytes bs vs = subst (AreBytes bs) c.deref.ensures.value (subst (λ a. AreBytes a c.deref.result.now) c.deref-2.ensures.value c.read_texts.ensures) in
    let stored : kind_for c.physical_of.result ≡ t = elim c.requires.text [
      | inl h ↦ c.physical_of.ensures ∙ (ap physical h ∙ sym h)
      | inr h ↦ c.physical_of.ensures ∙ (ap physical h ∙ sym h)
    ] in
    let lists = c.in_ok-chunks.ensures.lists ∙ ap (λ (k : Kind). text_values k (texts bs vs) ∷ []) stored in
    one_chunk_is_column _ t (text_values t (texts bs vs)) few (typed_texts t (texts bs vs) c.requires.text bytes c.requires.utf8) refl lists refl
