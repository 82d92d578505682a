-- What is known of the texts of a chunk of a column.
use Rattle.std.proofs.Common.{arith, ◌≡◌, ◌⊎◌, inl, inr, ℕ, suc, zero, ◌<◌, ◌≤◌, ◌+◌, ◌^◌, List, [], ◌∷◌, Bool, true, false, Option, Some, None, length, map, get_or, take, drop, length-take, ap, refl, sym, subst, ◌∙◌}
use Rattle.std.specs.Prelude.{if◌then◌else◌, nat_le}
use Rattle.std.specs.List.{All, flat_map}
use Rattle.std.proofs.lemmas.Bool.{cases_lt}
use Rattle.std.proofs.lemmas.List.{length-map}
use Rattle.std.proofs.lemmas.List.Concat.{get_or-flat_map}
use Rattle.std.proofs.lemmas.List.Elements.{All-cons, All-head, All-nil, All-tail}
use Rattle.std.proofs.lemmas.List.Folds.{length-flat_map-take}
use Rattle.std.proofs.lemmas.Str.{IsUtf8-from_is_utf8, is_utf8-from_IsUtf8}
use Rattle.std.proofs.Math.ListN.{get_or-eq_default}
use Rattle.tb_value.specs.Promise.Datum.{Datum, binary, string}
use Rattle.tb_value.specs.Promise.Kind.{Kind}
use Rattle.tb_value.specs.Promise.Kind as kind
use Rattle.tb_value.specs.Promise.Typed.{HasType}
use Rattle.tb_value.specs.declared.limits.TheConstants.{MAX_ROWS}
use Rattle.tb_chunk.specs.Chunk.{or_null}
use Rattle.tb_chunk.specs.Promise.Col.{Col, concatenation, values}
use Rattle.tb_chunk.specs.Col.{IsColumn}
use Rattle.tb_value.specs.Texts.{IsUtf8Row}
use Rattle.tb_chunk.specs.TextValues.{text_values}
use Rattle.tb_chunk.specs.View.{buffer_of, offset_of, row_text, text_in, texts, view_text}
use Rattle.tb_view.specs.Promise.ViewArrays.{ViewArray}
use Rattle.tb_chunk.specs.ViewArrays.{HaveFewBuffers, view_array_at}
use Rattle.tb_view.specs.declared.view.View.{View}

-- a text is no longer than its view says
pub length-view_text : (v : View) (bs : List (List ℕ)) → length (view_text v bs) ≤ v.length
length-view_text v bs =
    elim (nat_le v.length 12) as (λ b. length (if b then take v.length v.rest else text_in bs (buffer_of v) (offset_of v) v.length) ≤ v.length) [
      | true ↦ omega (arith, length-take v.length v.rest)
      | false ↦ omega (arith, length-take v.length (drop (offset_of v) (get_or bs (buffer_of v) [])))
    ]

-- texts of type Binary that are UTF-8 are of type String
strings : (ts : List (Option (List ℕ))) → All (HasType kind.binary) (map (or_null binary) ts) → All IsUtf8Row ts → All (HasType kind.string) (map (or_null string) ts)
strings [] typed utf8 = All-nil (HasType kind.string)
strings (None ∷ ts) typed utf8 = All-cons (HasType kind.string) _ (map (or_null string) ts) tt (strings ts (All-tail (HasType kind.binary) _ _ typed) (All-tail IsUtf8Row None ts utf8))
strings (Some s ∷ ts) typed utf8 =
    let bytes : HasType kind.binary (binary s) = All-head (HasType kind.binary) (binary s) (map (or_null binary) ts) typed in
    All-cons (HasType kind.string) (string s) (map (or_null string) ts) (refl, bytes.1, IsUtf8-from_is_utf8 s (All-head IsUtf8Row (Some s) ts utf8))
    (strings ts (All-tail (HasType kind.binary) _ _ typed) (All-tail IsUtf8Row (Some s) ts utf8))

-- so they are of either type
pub typed_texts : (t : Kind) (ts : List (Option (List ℕ))) → (t ≡ kind.string) ⊎ (t ≡ kind.binary) → All (HasType kind.binary) (text_values kind.binary ts) → (t ≡ kind.string → All IsUtf8Row ts) → All (HasType t) (text_values t ts)
typed_texts t ts (inl e) typed utf8 = subst (λ k. All (HasType k) (text_values k ts)) (sym e) (strings ts typed (utf8 e))
typed_texts t ts (inr e) typed utf8 = subst (λ k. All (HasType k) (text_values k ts)) (sym e) typed

pub length-text_values : (t : Kind) (bs : List (List ℕ)) (vs : List (Option View)) → length (text_values t (texts bs vs)) ≡ length vs
length-text_values kind.string bs vs = length-map (texts bs vs) (or_null string) ∙ length-map vs (row_text bs)
length-text_values _ bs vs = length-map (texts bs vs) (or_null binary) ∙ length-map vs (row_text bs)

-- a chunk has no more values than its column
pub few_in_chunk : (c : Col) (k n : ℕ) (vs : List Datum) → IsColumn c → k < length c.chunks → get_or c.chunks k [] ≡ vs → length vs ≡ n → n ≤ MAX_ROWS
few_in_chunk c k n vs column low is count = omega (arith, length-flat_map-take (λ (ds : List Datum). ds) c.chunks k [] low, column.short, ap length is, count)

-- and they are of the column's type
typed_chunk : (c : Col) (k : ℕ) → IsColumn c → k < length c.chunks → All (HasType c.kind) (get_or c.chunks k [])
typed_chunk c k column low = λ j d within.
    let before = length (concatenation (take k c.chunks)) in
    let fits = length-flat_map-take (λ (ds : List Datum). ds) c.chunks k [] low in
    subst (HasType c.kind) (get_or-flat_map (λ (ds : List Datum). ds) c.chunks k j [] d low within) (column.typed (before + j) d (omega (arith, fits, within)))

-- texts that are of a type are UTF-8
utf8_typed : (t : Kind) (ts : List (Option (List ℕ))) → All (HasType t) (map (or_null string) ts) → All IsUtf8Row ts
utf8_typed t [] typed = All-nil IsUtf8Row
utf8_typed t (None ∷ ts) typed = All-cons IsUtf8Row None ts tt (utf8_typed t ts (All-tail (HasType t) _ _ typed))
utf8_typed t (Some s ∷ ts) typed =
    let text : HasType t (string s) = All-head (HasType t) (string s) (map (or_null string) ts) typed in
    All-cons IsUtf8Row (Some s) ts (is_utf8-from_IsUtf8 s text.2) (utf8_typed t ts (All-tail (HasType t) _ _ typed))

-- so are those of a chunk
pub utf8_in_chunk : (c : Col) (k : ℕ) (ts : List (Option (List ℕ))) → IsColumn c → k < length c.chunks → get_or c.chunks k [] ≡ map (or_null string) ts → All IsUtf8Row ts
utf8_in_chunk c k ts column low is = utf8_typed c.kind ts (subst (All (HasType c.kind)) is (typed_chunk c k column low))

-- a chunk has no more buffers than its column
pub few_in_run : (rs : List ViewArray) (k : ℕ) → HaveFewBuffers rs → length (view_array_at rs k).buffers < 2 ^ 32
few_in_run rs k few =
    let none : ViewArray = record { views = []; buffers = [] } in
    elim (cases_lt k (length rs)) [
      | inl low ↦ omega (arith, length-flat_map-take (λ (r : ViewArray). r.buffers) rs k none low, few)
      | inr past ↦ omega (arith, ap (λ (r : ViewArray). length r.buffers) (get_or-eq_default rs none past))
    ]
