-- A whole number, as a text.
use Rattle.std.specs.Prelude.{ℕ, ℤ, pos, negsuc, ◌^◌, List, [], ◌∷◌, drop, Bool, true, false, ◌&&◌, ◌||◌, nat_le, int_lt, if◌then◌else◌, Option, Some, None, codes}
use Rattle.std.specs.Str.{bytes_eq}
use Rattle.std.specs.Str.Parse.{starts_with_minus, signed_digits_value}

abbrev pub is_digit : ℕ → Bool
is_digit c = nat_le 48 c && nat_le c 57

abbrev pub are_digits : List ℕ → Bool
are_digits [] = true
are_digits (c ∷ cs) = is_digit c && are_digits cs

-- a digit 1 to 9 and further digits
abbrev pub is_counting : List ℕ → Bool
is_counting [] = false
is_counting (c ∷ cs) = nat_le 49 c && nat_le c 57 && are_digits cs

-- `0`, or an optional `-` and a counting number
abbrev pub is_whole : List ℕ → Bool
is_whole s = bytes_eq s (codes "0") || (if starts_with_minus s then is_counting (drop 1 s) else is_counting s)

abbrev pub fits : ℤ → Bool
fits z = int_lt z (pos (2 ^ 127)) && int_lt (negsuc (2 ^ 127)) z

-- the number, where the text is written so and the number has at most 128 bits
unfoldable pub whole_in : List ℕ → Option ℤ
whole_in s = if is_whole s && fits (signed_digits_value 10 s)
    then Some (signed_digits_value 10 s)
    else None
