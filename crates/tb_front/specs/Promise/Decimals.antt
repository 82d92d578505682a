-- Texts that look like decimal numbers, and columns of them.
use Rattle.std.specs.Prelude.{ℕ, ◌+◌, ◌==◌, ◌&&◌, ◌||◌, not, nat_le, Bool, true, false, List, [], ◌∷◌, Option, Some, None, if◌then◌else◌, count_by, drop, position, take}
use Rattle.std.specs.List.{list_any, list_all}
use Rattle.tb_value.specs.Promise.Datum.{Datum, null, string}
use Rattle.tb_value.specs.Promise.Names.{Name, same_name}
use Rattle.tb_frame.specs.Promise.Table.{TableColumn}
use Rattle.tb_csv.specs.declared.options.TypeOf.{TypeOf}

abbrev pub is_digit : ℕ → Bool
is_digit c = nat_le 48 c && nat_le c 57

-- a point or a comma
abbrev pub is_point : ℕ → Bool
is_point c = (c == 46) || (c == 44)

-- `e` or `E`
abbrev pub is_exponent_mark : ℕ → Bool
is_exponent_mark c = (c == 101) || (c == 69)

-- `+` or `-`
abbrev pub is_sign : ℕ → Bool
is_sign c = (c == 43) || (c == 45)

abbrev pub without_sign : List ℕ → List ℕ
without_sign [] = []
without_sign (c ∷ cs) = if is_sign c then cs else c ∷ cs

-- digits, at least one
abbrev pub are_digits : List ℕ → Bool
are_digits s = list_any is_digit s && list_all is_digit s

-- digits, at least one, with at most one point among them
abbrev pub is_mantissa : List ℕ → Bool
is_mantissa s = list_any is_digit s && list_all (λ c. is_digit c || is_point c) s
    && nat_le (count_by is_point s) 1

-- with the mark of an exponent at a place, or none
abbrev pub is_scaled : List ℕ → Option ℕ → Bool
is_scaled s None = is_mantissa s
is_scaled s (Some i) = is_mantissa (take i s) && are_digits (without_sign (drop (i + 1) s))

-- a sign or none, digits with at most one point or comma, and an exponent or none, as 10, -0.5, +1,25 and 2.5e-3
abbrev pub is_decimal : List ℕ → Bool
is_decimal s = is_scaled (without_sign s) (position is_exponent_mark (without_sign s))

abbrev pub is_decimal_value : Datum → Bool
is_decimal_value (string s) = is_decimal s
is_decimal_value _ = false

-- absent, or the empty text
abbrev pub is_blank : Datum → Bool
is_blank null = true
is_blank (string []) = true
is_blank _ = false

-- a column of texts that look like decimal numbers, blanks apart
abbrev pub has_decimals : TableColumn → Bool
has_decimals c =
    list_all (λ v. is_blank v || is_decimal_value v) c.values && list_any is_decimal_value c.values

-- no type is given for the name
abbrev pub is_untyped : List TypeOf → Name → Bool
is_untyped types n = not (list_any (λ (t : TypeOf). same_name t.name n) types)

-- a column of decimal numbers that is read as texts unasked
abbrev pub is_told_decimal : List TypeOf → TableColumn → Bool
is_told_decimal types c = is_untyped types c.name && has_decimals c
