-- One group more in its cell.
use Rattle.std.proofs.Common.{◌≡◌, ◌∙◌, ◌<◌, ◌+◌, ℕ, zero, suc, Bool, true, false, cond, eqb, List, ◌∷◌, get_or, set, length, map, replicate, refl, sym, ap, arith, Option, Some}
use Rattle.std.specs.List.{range_with_len}
use Rattle.std.proofs.lemmas.Bool.{eq-eqb, ne_eqb}
use Rattle.std.proofs.lemmas.List.Elements.{All-get_or}
use Rattle.tb_value.specs.Promise.Pairs.{row_numbers}
use Rattle.tb_rows.specs.declared.groups.Groups.{Groups}
use Rattle.tb_agg.specs.Grouped.{AreGroupsOf}
use Rattle.tb_agg.proofs.Steps.{set_range}
use Rattle.tb_pivot.specs.Grid.{last_below}

-- no cell has a group yet
pub no_group : (o : Option ℕ) (b n : ℕ) → replicate n o ≡ map (λ (j : ℕ). o) (range_with_len b n)
no_group o b zero = refl
no_group o b (suc n) = ap (λ (os : List (Option ℕ)). o ∷ os) (no_group o (b + 1) n)

last_more : (p : ℕ → Bool) (n : ℕ) (b : Bool) → p n ≡ b → last_below p (n + 1) ≡ cond b (Some n) (last_below p n)
last_more p n b e =
    let next : n + 1 ≡ suc n = omega arith in
    ap (last_below p) next ∙ ap (λ (c : Bool). cond c (Some n) (last_below p n)) e

-- the next group stands in its cell
pub group_more : (f : ℕ → ℕ) (cells n p : ℕ) (kept : List (Option ℕ)) → kept ≡ map (λ j. last_below (λ k. eqb (f k) j) n) (row_numbers cells) → p ≡ f n → p < cells
    → set kept p (Some n) ≡ map (λ j. last_below (λ k. eqb (f k) j) (n + 1)) (row_numbers cells)
group_more f cells n p kept so_far is low =
    let old : ℕ → Option ℕ = λ j. last_below (λ k. eqb (f k) j) n in
    let new : ℕ → Option ℕ = λ j. last_below (λ k. eqb (f k) j) (n + 1) in
    let here : new (0 + p) ≡ Some n = last_more (λ k. eqb (f k) (0 + p)) n true (eq-eqb (f n) (0 + p) (omega (arith, is))) in
    ap (λ (os : List (Option ℕ)). set os p (Some n)) so_far
    ∙ ap (set (map old (row_numbers cells)) p) (sym here)
    ∙ set_range old new 0 cells p low (λ k other. sym (last_more (λ i. eqb (f i) k) n false (ne_eqb (f n) k (λ same. other (omega (arith, same, is))))))

pub number_low : (n r : ℕ) (g : Groups) → AreGroupsOf n g → r < n → get_or g.numbers.items r 0 < length g.firsts.items
number_low n r g groups low = All-get_or (λ k. k < length g.firsts.items) g.numbers.items r 0 (omega (arith, groups.each, low)) groups.within
