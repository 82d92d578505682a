-- What a view stands for.
use Rattle.std.specs.Prelude.{◌≡◌, ◌<◌, ◌≤◌, ◌+◌, ◌-◌, if◌then◌else◌, ℕ, List, [], ◌∷◌, Option, IfSome, nat_le, length, map, take, drop, replicate, slice_index, slice_index_or}
use Rattle.std.specs.Int.{from_le_bytes, w32}
use Rattle.std.specs.Option.{option_map}
use Rattle.tb_view.specs.declared.view.View.{View}

-- four bytes of the rest from place i on, as a number whose low byte is first
abbrev pub number_at : View → ℕ → ℕ
number_at v i = from_le_bytes w32
    (slice_index v.rest i ∷ slice_index v.rest (i + 1) ∷ slice_index v.rest (i + 2)
    ∷ slice_index v.rest (i + 3) ∷ [])

-- the buffer of a long text, and where in it the text begins
abbrev pub buffer_of : View → ℕ
buffer_of v = number_at v 4

abbrev pub offset_of : View → ℕ
offset_of v = number_at v 8

-- the text of a long view in its buffer
abbrev pub text_in : List (List ℕ) → ℕ → ℕ → ℕ → List ℕ
text_in bs number offset len = take len (drop offset (slice_index_or bs number []))

-- the text that a view stands for
abbrev pub view_text : View → List (List ℕ) → List ℕ
view_text v bs = (if nat_le v.length 12
    then take v.length v.rest
    else text_in bs (buffer_of v) (offset_of v) v.length)

-- a short text stands in the view itself, with 0 behind it
abbrev pub IsInline : View → Type 0
IsInline v = drop v.length v.rest ≡ replicate (12 - v.length) 0

-- a long text lies in its buffer, and its first four bytes stand in the view
pub record LiesIn (bs : List (List ℕ)) (v : View) : Type 0 where
  pub buffer : buffer_of v < length bs
  pub within : offset_of v + v.length ≤ length (slice_index_or bs (buffer_of v) [])
  pub front : take 4 v.rest ≡ take 4 (text_in bs (buffer_of v) (offset_of v) v.length)

-- the view has its form over these buffers
pub record IsView (bs : List (List ℕ)) (v : View) : Type 0 where
  pub short : v.length ≤ 12 → IsInline v
  pub long : 12 < v.length → LiesIn bs v

-- the same of an optional view
abbrev pub IsViewOrNone : List (List ℕ) → Option View → Type 0
IsViewOrNone bs o = IfSome o (IsView bs)

-- the text of a row, none where there is no view
abbrev pub row_text : List (List ℕ) → Option View → Option (List ℕ)
row_text bs o = option_map (λ v. view_text v bs) o

-- the texts of rows
abbrev pub texts : List (List ℕ) → List (Option View) → List (Option (List ℕ))
texts bs vs = map (row_text bs) vs
