-- Where the texts of a chunk are put.
use Rattle.std.specs.Prelude.{◌+◌, ◌-◌, ◌++◌, if◌then◌else◌, ℕ, List, [], ◌∷◌, Option, Some, None, nat_le, length, take, replicate}
use Rattle.std.specs.Int.{to_le_bytes, w32}
use Rattle.std.specs.List.{fold}
use Rattle.std.specs.Option.{option_map}
use Rattle.tb_view.specs.View.{texts}
use Rattle.tb_view.specs.Promise.ViewArrays.{ViewArray}
use Rattle.tb_view.specs.declared.view.View.{View}

-- full buffers, and the one that is being filled
abbrev pub Filling : Type 0
Filling = List (List ℕ) × List ℕ

-- a text longer than 12 bytes goes behind the others, into a new buffer where the sum would pass 2^32 - 1
abbrev pub with_text : Filling → Option (List ℕ) → Filling
with_text s None = s
with_text s (Some t) = (if nat_le (length t) 12
    then s
    else (if nat_le (length s.1 + length t) 4294967295
    then (s.0, s.1 ++ t)
    else (s.0 ++ s.1 ∷ [], t)))

abbrev pub filling_of : List (Option (List ℕ)) → Filling
filling_of ts = fold with_text ([], []) ts

-- all buffers; one that nothing was put into is none
abbrev pub buffers_of : Filling → List (List ℕ)
buffers_of (full, []) = full
buffers_of (full, b ∷ bs) = full ++ (b ∷ bs) ∷ []

-- the buffers of a chunk of these texts
abbrev pub buffers_of_texts : List (Option (List ℕ)) → List (List ℕ)
buffers_of_texts ts = buffers_of (filling_of ts)

-- the view of a text of up to 12 bytes, with 0 behind it
abbrev pub short_view : List ℕ → View
short_view t = record { length = length t; rest = t ++ replicate (12 - length t) 0 }

-- the view of a longer text, by its first four bytes, its buffer and its offset there
abbrev pub long_view : List ℕ → ℕ → ℕ → View
long_view t number offset = record
    { length = length t; rest = take 4 t ++ to_le_bytes w32 number ++ to_le_bytes w32 offset }

-- the view of a text that is put behind the others
abbrev pub next_view : Filling → List ℕ → View
next_view s t = (if nat_le (length t) 12 then short_view t
    else (if nat_le (length s.1 + length t) 4294967295
    then long_view t (length s.0) (length s.1)
    else long_view t (length s.0 + 1) 0))

-- the views of texts that are put behind the others, one after another
abbrev pub next_views : Filling → List (Option (List ℕ)) → List (Option View)
next_views s [] = []
next_views s (o ∷ os) = option_map (next_view s) o ∷ next_views (with_text s o) os

-- the views and the buffers of a chunk of these texts
abbrev pub text_view_array : List (Option (List ℕ)) → ViewArray
text_view_array ts = record { views = next_views ([], []) ts; buffers = buffers_of_texts ts }
