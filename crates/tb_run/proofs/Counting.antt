-- A count that goes on, and bytes that are handed out.
use Rattle.std.proofs.Common.{◌≡◌, ℕ, ◌+◌, ◌<◌, ◌≤◌, Bool, List, [], ◌++◌, Err, take, drop, length, min, arith, subst, sym, ap, ◌∙◌, take-append-drop, length-drop}
use Rattle.std.proofs.lemmas.List.{drop-drop, drop_all}
use Rattle.std.proofs.lemmas.Grind.{common_steps}
use Rattle.tb_run.specs.Ends.{Rose, Counts}
use Rattle.tb_run.specs.Memory.{next_count}

next_kept : (n : ℕ) → n ≤ next_count n
next_kept n = grind (arith, common_steps)

pub next_rose : (n : ℕ) → Rose n (next_count n)
next_rose n = grind (arith, common_steps)

-- what is handed out is the front of what was left, and nothing only at the end
pub handed : (items before room : List ℕ) (at n len : ℕ) → before ≡ drop at items → take n room ≡ take n (drop at items)
    → n ≡ min len (length (drop at items)) → (before ≡ take n room ++ drop (at + n) items) × (n ≡ 0 → 0 < len → drop (at + n) items ≡ [])
handed items before room at n len was front count = (
  was ∙ sym (take-append-drop n (drop at items)) ∙ ap (λ l. l ++ drop n (drop at items)) (sym front) ∙ ap (λ l. take n room ++ l) (drop-drop n at items),
  λ none some. drop_all (at + n) items (omega (arith, length-drop at items)),
)

-- a counted failure
pub failed_counts : {T : Type 0} (exact : Bool) (before now : ℕ) → now ≡ next_count before → Counts {T = T} exact before now (Err (record {}))
failed_counts exact before now e = record {
  kept = subst (λ n. before ≤ n) (sym e) (next_kept before);
  failed = subst (Rose before) (sym e) (next_rose before);
  calm = λ _. tt;
}
