-- Facts on the number of buffers.
use Rattle.std.proofs.Common.{arith, ◌≡◌, ◌≤◌, ◌<◌, ◌+◌, ◌^◌, ◌++◌, ◌∷◌, [], ℕ, List, inl, inr, Option, Some, None, suc, length, map, drop, get_or, sym, ap, add-one, append-nil, drop-cons, length-append}
use Rattle.std.specs.Prelude.{IfSome}
use Rattle.std.specs.List.{All, fold}
use Rattle.std.proofs.lemmas.Bool.{cases_lt}
use Rattle.std.proofs.lemmas.List.Elements.{All-head, All-tail}
use Rattle.tb_value.specs.Promise.Datum.{Datum}
use Rattle.tb_value.specs.Promise.Datum as value
use Rattle.tb_value.specs.Promise.Kind.{Kind}
use Rattle.tb_value.specs.Promise.Typed.{HasType}
use Rattle.tb_value.specs.declared.limits.TheConstants.{MAX_ROWS}
use Rattle.tb_chunk.specs.Promise.Col.{concatenation}
use Rattle.tb_chunk.specs.Promise.Fresh.{fresh_view_array, fresh_view_arrays}
use Rattle.tb_view.specs.Promise.Layout.{Filling, with_text, buffers_of}
use Rattle.tb_chunk.specs.Promise.Made.{at_least_one}
use Rattle.tb_value.specs.Promise.Texts.{text_of}
use Rattle.tb_view.specs.ViewArrays.{HaveFewBuffers, all_buffers, view_arrays_of}
use Rattle.tb_view.specs.declared.view.View.{View}
use Rattle.tb_chunk.proofs.Alls.{all_split}
use Rattle.tb_view.proofs.Filled.{placed_fits, placed_passes}

-- the buffers that are left are those of the next chunk and then the others
pub buffers_drop : {C : Type 0} (views : C → List (Option View)) (buffers : C → List (List ℕ)) (cs : List C) (i : ℕ) (c : C) → i < length cs → c ≡ get_or cs i c → all_buffers (view_arrays_of views buffers (drop i cs)) ≡ buffers c ++ all_buffers (view_arrays_of views buffers (drop (i + 1) cs))
buffers_drop views buffers cs i c low e = rw (add-one, drop-cons cs i c) (ap (λ d. buffers d ++ all_buffers (view_arrays_of views buffers (drop (suc i) cs))) (sym e))

-- at most one chunk, of few buffers
pub one_few : {C D : Type 0} (views : C → List (Option View)) (buffers : C → List (List ℕ)) (shown : C → D) → ((c : C) → length (buffers c) < 2 ^ 32) → (cs : List C) → length (map shown cs) ≤ 1 → HaveFewBuffers (view_arrays_of views buffers cs)
one_few views buffers shown few [] one = omega arith
one_few views buffers shown few (c ∷ []) one = rw (append-nil (buffers c)) (few c)
one_few views buffers shown few (c ∷ d ∷ cs) one = absurd (omega arith)

begun-least : (s : Filling) → length s.0 ≤ length (buffers_of s)
begun-least (full, []) = omega arith
begun-least (full, b ∷ bs) = omega (arith, length-append full ((b ∷ bs) ∷ []))

begun-most : (s : Filling) → length (buffers_of s) ≤ suc (length s.0)
begun-most (full, []) = omega arith
begun-most (full, b ∷ bs) = omega (arith, length-append full ((b ∷ bs) ∷ []))

begun-both : (s : Filling) → 0 < length s.1 → length (buffers_of s) ≡ suc (length s.0)
begun-both (full, []) h = absurd (omega arith)
begun-both (full, b ∷ bs) h = omega (arith, length-append full ((b ∷ bs) ∷ []))

placed_short : (s : Filling) (t : List ℕ) → length t ≤ 12 → with_text s (Some t) ≡ s
placed_short s t h = grind arith

long_more : (s : Filling) (t : List ℕ) → length t < 2 ^ 32 → 12 < length t → length (buffers_of (with_text s (Some t))) ≤ suc (length (buffers_of s))
long_more s t few long = elim (cases_lt 4294967295 (length s.1 + length t)) [
  | inl h ↦ rw (placed_passes s t long h) (omega (arith, begun-most (s.0 ++ s.1 ∷ [], t), length-append s.0 (s.1 ∷ []), begun-both s (omega (arith, few, h))))
  | inr h ↦ rw (placed_fits s t long h) (omega (arith, begun-most (s.0, s.1 ++ t), begun-least s))
]

-- for one text there is at most one more buffer
one_more : (s : Filling) (o : Option (List ℕ)) → IfSome o (λ t. length t < 2 ^ 32) → length (buffers_of (with_text s o)) ≤ suc (length (buffers_of s))
one_more s None few = omega arith
one_more s (Some t) few = elim (cases_lt 12 (length t)) [
  | inl h ↦ long_more s t few h
  | inr h ↦ rw (placed_short s t h) (omega arith)
]

-- a text of a type has fewer than 2^32 bytes
short_text : (t : Kind) (v : Datum) → HasType t v → IfSome (text_of v) (λ s. length s < 2 ^ 32)
short_text t value.null h = tt
short_text t (value.boolean b) h = tt
short_text t (value.int i) h = tt
short_text t (value.string s) h = h.1
short_text t (value.binary s) h = h.1
short_text t (value.list vs) h = tt
short_text t (value.struct vs) h = tt

put_more : (t : Kind) (s : Filling) (vs : List Datum) → All (HasType t) vs → length (buffers_of (fold with_text s (map text_of vs))) ≤ length vs + length (buffers_of s)
put_more t s [] all = omega arith
put_more t s (v ∷ vs) all =
    let one = one_more s (text_of v) (short_text t v (All-head (HasType t) v vs all)) in
    let rest = put_more t (with_text s (text_of v)) vs (All-tail (HasType t) v vs all) in
    omega (arith, one, rest)

-- chunks that are made of values have at most a buffer for each value
fresh_few : (t : Kind) (cs : List (List Datum)) → All (HasType t) (concatenation cs) → length (all_buffers (fresh_view_arrays cs)) ≤ length (concatenation cs)
fresh_few t [] all = omega arith
fresh_few t (c ∷ cs) all =
    let both = all_split (HasType t) c (concatenation cs) all in
    let first = put_more t ([], []) c both.0 in
    let rest = fresh_few t cs both.1 in
    omega (arith, first, rest, length-append (fresh_view_array c).buffers (all_buffers (fresh_view_arrays cs)), length-append c (concatenation cs))

pub few_made : (t : Kind) (cs ds : List (List Datum)) → ds ≡ at_least_one cs → All (HasType t) (concatenation cs) → length (concatenation cs) ≤ MAX_ROWS → HaveFewBuffers (fresh_view_arrays ds)
few_made t [] ds e all short = rw e (omega arith)
few_made t (c ∷ cs) ds e all short = rw e (omega (arith, short, fresh_few t (c ∷ cs) all))
