-- The rows of a part stand in the order of the whole.
use Rattle.std.proofs.Common.{◌≡◌, ℕ, ◌<◌, ◌≤◌, Bool, true, false, eqb, nat_lt, cond, List, length, refl, ap, sym, ◌∙◌, arith, ⊎_elim, Option, Some, None}
use Rattle.std.specs.Prelude.{◌==◌}
use Rattle.std.specs.Option.{option_map}
use Rattle.std.specs.Ordering.{nat_cmp}
use Rattle.std.specs.declared.cmp.Ordering.{Ordering}
use Rattle.std.specs.declared.cmp.Ordering.TheVariants.{Less, Equal, Greater}
use Rattle.std.proofs.lemmas.Bool.{cases_eq}
use Rattle.std.proofs.lemmas.Bool.Decides.{nat_tests}
use Rattle.tb_value.specs.Promise.Pairs.{row_cmp}
use Rattle.tb_value.proofs.Ascending.{kept_ascend, nat_cmp_above, nat_cmp_self, pairs_from-Ascends_by}
use Rattle.tb_parts.specs.Promise.Parts.{rows_in, whole_row}
use Rattle.tb_parts.proofs.Among.{IsAmong}

module _ (part : ℕ → ℕ) (h p : ℕ) where
  abbrev rows : List ℕ
  rows = rows_in part h p

  ascend : (a b : ℕ) → a < b → b < length rows → whole_row rows a < whole_row rows b
  ascend a b low high = pairs_from-Ascends_by ◌<◌ rows (kept_ascend (λ i. eqb p (part i)) 0 h) a b 0 low high

  pub order_stays : (a b : ℕ) → a < length rows → b < length rows → nat_lt a b ≡ nat_lt (whole_row rows a) (whole_row rows b)
  order_stays a b la lb = by (nat_lt a b) (nat_lt (whole_row rows a) (whole_row rows b)) refl refl
    where
      before : a < b → whole_row rows a < whole_row rows b
      before low = ascend a b low lb

      behind : b < a → whole_row rows b < whole_row rows a
      behind low = ascend b a low la

      level : a ≡ b → whole_row rows a ≡ whole_row rows b
      level same = ap (whole_row rows) same

      by : (c d : Bool) → nat_lt a b ≡ c → nat_lt (whole_row rows a) (whole_row rows b) ≡ d → c ≡ d
      by true true e f = refl
      by false false e f = refl
      by true false e f = absurd (let low : a < b = grind (arith, nat_tests, e) in let far : whole_row rows b ≤ whole_row rows a = grind (arith, nat_tests, f) in omega (arith, far, before low))
      by false true e f =
          let low : b ≤ a = grind (arith, nat_tests, e) in
          let near : whole_row rows a < whole_row rows b = grind (arith, nat_tests, f) in
          absurd (⊎_elim (λ (same : a ≡ b). omega (arith, near, level same)) (λ (ne : a ≡ b → ⊥). omega (arith, near, behind (omega (arith, low, ne)))) (cases_eq a b))

  abbrev compare : ℕ → ℕ → Bool → Ordering
  compare a b t = cond t Less (cond (a == b) Equal Greater)

  number_stays : (a b : ℕ) → a < length rows → b < length rows → nat_cmp a b ≡ nat_cmp (whole_row rows a) (whole_row rows b)
  number_stays a b la lb = by (nat_lt a b) refl
    where
      by : (c : Bool) → nat_lt a b ≡ c → nat_cmp a b ≡ nat_cmp (whole_row rows a) (whole_row rows b)
      by true e = ap (compare a b) e ∙ sym (ap (compare (whole_row rows a) (whole_row rows b)) (sym (order_stays a b la lb) ∙ e))
      by false e =
          let low : b ≤ a = grind (arith, nat_tests, e) in
          ⊎_elim
          (λ (same : a ≡ b). ap (nat_cmp a) (sym same) ∙ nat_cmp_self a ∙ sym (nat_cmp_self (whole_row rows a)) ∙ ap (λ (x : ℕ). nat_cmp (whole_row rows a) (whole_row rows x)) same)
          (λ (ne : a ≡ b → ⊥).
          let under : b < a = omega (arith, low, ne) in
          nat_cmp_above b a under ∙ sym (nat_cmp_above (whole_row rows b) (whole_row rows a) (ascend b a under la)))
          (cases_eq a b)

  pub row_stays : (x y : Option ℕ) → IsAmong rows x → IsAmong rows y → row_cmp x y ≡ row_cmp (option_map (whole_row rows) x) (option_map (whole_row rows) y)
  row_stays None None u v = refl
  row_stays None (Some b) u v = refl
  row_stays (Some a) None u v = refl
  row_stays (Some a) (Some b) la lb = number_stays a b la lb
