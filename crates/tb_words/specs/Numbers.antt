-- What words mean that are numbers, and the byte between fields.
use Rattle.std.specs.Prelude.{◌<◌, ◌≤◌, ◌^◌, ◌==◌, ◌&&◌, ◌||◌, ℕ, ℤ, Bool, List, [], ◌∷◌, length, if◌then◌else◌, Option, Some, None}
use mir.Syntax.{w64}
use mir.Val.{SFits as FitsSigned}
use Rattle.std.specs.List.{after_first, before_first, position_or_len}
use Rattle.std.specs.Str.Parse.{digits_value, signed_digits_value, without_leading_plus, without_leading_sign, IsNumeral}

-- ---- fields

-- a byte between fields is neither a quote nor ends a line
abbrev pub byte_between : ℕ → Option ℕ
byte_between b = (if b == 34 || b == 10 || b == 13 then None else Some b)

-- one such byte, or `\t` for a tab
abbrev pub separator_in : List ℕ → Option ℕ
separator_in [] = None
separator_in (b ∷ []) = byte_between b
separator_in (b ∷ c ∷ []) = (if b == 92 && c == 116 then Some 9 else None)
separator_in (b ∷ c ∷ d ∷ rest) = None

-- ---- the answer

-- the number that a word writes, perhaps with a plus before it
abbrev pub number_of : List ℕ → ℕ
number_of word = digits_value 10 (without_leading_plus word)

-- a word writes a whole number that 64 bits hold
abbrev pub IsNumber : List ℕ → Type 0
IsNumber word = IsNumeral 10 (without_leading_plus word) × (number_of word < 2 ^ 64)

-- a width that is given is a whole number from 1 on
abbrev pub IsWidth : List ℕ → Type 0
IsWidth word = IsNumber word × (0 < number_of word)

-- a number of threads that is given is one from 1 to 1,024
abbrev pub IsThreads : List ℕ → Type 0
IsThreads word = IsNumber word × (1 ≤ number_of word) × (number_of word ≤ 1024)

-- ---- slices

abbrev pub is_comma : ℕ → Bool
is_comma c = c == 44

-- the offset and the length that stand round the first comma of a word
abbrev pub slice_of : List ℕ → ℤ × ℕ
slice_of word =
    (signed_digits_value 10 (before_first is_comma word), number_of (after_first is_comma word))

-- a word is two whole numbers round its first comma, which 64 bits hold
abbrev pub IsSlice : List ℕ → Type 0
IsSlice word = let offset = before_first is_comma word in
    (position_or_len is_comma word < length word)
    × (IsNumeral 10 (without_leading_sign offset) × FitsSigned w64 (slice_of word).0)
    × IsNumber (after_first is_comma word)
