-- The widths of lines that are cut.
use Rattle.std.proofs.Common.{◌≡◌, ◌≤◌, ◌<◌, ◌-◌, ◌∷◌, [], ℕ, Bool, true, false, List, cond, length, max, nat_le, nat_lt, refl, arith}
use Rattle.std.specs.List.{fold, list_any, suffix_len}
use Rattle.std.proofs.lemmas.List.Sums.{sum_by-cons, sum_by-take-le}
use Rattle.std.proofs.lemmas.Bool.Decides.{nat_tests}
use Rattle.tb_value.specs.Promise.Datum.{Datum}
use Rattle.tb_value.specs.Promise.Kind.{Kind}
use Rattle.tb_frame.specs.Promise.Table.{TableColumn}
use Rattle.tb_layout.specs.Promise.Characters.{columns_of, cut, is_blank, shown_text, trimmed_text, width_of}
use Rattle.tb_layout.specs.Promise.Lines.{cell_of, column_width, is_cut, is_wide}

cut_step : (b : Bool) (room c : ℕ) (rest : List ℕ) → nat_le (columns_of c) room ≡ b → width_of rest ≤ room - columns_of c → width_of (cond b (c ∷ rest) []) ≤ room
cut_step true room c rest fits less =
    let sum = sum_by-cons columns_of c rest in
    grind (arith, nat_tests, sum, fits, less)
cut_step false room c rest fits less = omega arith

pub cut_fits : (room : ℕ) (cs : List ℕ) → width_of (cut room cs) ≤ room
cut_fits room [] = omega arith
cut_fits room (c ∷ cs) = cut_step (nat_le (columns_of c) room) room c (cut (room - columns_of c) cs) refl (cut_fits (room - columns_of c) cs)

pub trimmed_fits : (room : ℕ) (cs : List ℕ) → width_of (trimmed_text (cut room cs)) ≤ room
trimmed_fits room cs =
    let kept = cut room cs in
    omega (arith, cut_fits room cs, sum_by-take-le columns_of kept (length kept - suffix_len is_blank kept))

-- what is no wider than the line is not wide
any_narrow : (line w : ℕ) (k : Kind) (vs : List Datum) → fold (λ n v. max n (width_of (cell_of k v))) w vs ≤ line
    → (nat_lt line w ≡ false) × (list_any (λ v. is_wide line (cell_of k v)) vs ≡ false)
any_narrow line w k [] low = (grind (arith, nat_tests, low), refl)
any_narrow line w k (v ∷ vs) low =
    let wide = width_of (cell_of k v) in
    let rest = any_narrow line (max w wide) k vs low in
    let most : max w wide ≤ line = let h = rest.0 in grind (arith, nat_tests) in
    let here : nat_lt line wide ≡ false = grind (arith, nat_tests, most) in
    (grind (arith, nat_tests, most), rw here rest.1)

-- no line of a column that is narrower than the line is cut
pub not_cut : (line : ℕ) (c : TableColumn) → column_width line c < line → is_cut line c ≡ false
not_cut line c low =
    let narrow = any_narrow line (width_of (shown_text c.name)) c.kind c.values (omega (arith, low)) in
    rw narrow.0 narrow.1
