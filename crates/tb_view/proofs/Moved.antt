-- Facts on views whose buffers get other numbers.
use Rattle.std.proofs.Common.{arith, ◌≡◌, ◌≤◌, ◌++◌, ◌∷◌, [], ℕ, List, length, take, drop, set, refl, ap, ◌∙◌}
use Rattle.std.specs.Int.{to_le_bytes, w32}
use Rattle.tb_view.specs.Moved.{renumbered_view}
use Rattle.tb_view.specs.declared.view.View.{View}

four_set : (xs : List ℕ) (a b c d : ℕ) → 8 ≤ length xs → set (set (set (set xs 4 a) 5 b) 6 c) 7 d ≡ take 4 xs ++ (a ∷ b ∷ c ∷ d ∷ []) ++ drop 8 xs
four_set [] a b c d h = absurd (omega arith)
four_set (p ∷ []) a b c d h = absurd (omega arith)
four_set (p ∷ q ∷ []) a b c d h = absurd (omega arith)
four_set (p ∷ q ∷ r ∷ []) a b c d h = absurd (omega arith)
four_set (p ∷ q ∷ r ∷ s ∷ []) a b c d h = absurd (omega arith)
four_set (p ∷ q ∷ r ∷ s ∷ t ∷ []) a b c d h = absurd (omega arith)
four_set (p ∷ q ∷ r ∷ s ∷ t ∷ u ∷ []) a b c d h = absurd (omega arith)
four_set (p ∷ q ∷ r ∷ s ∷ t ∷ u ∷ v ∷ []) a b c d h = absurd (omega arith)
four_set (p ∷ q ∷ r ∷ s ∷ t ∷ u ∷ v ∷ w ∷ xs) a b c d h = refl

-- four bytes of the rest that are written one after another
pub renumbered-by : (v w : View) (n a b c d : ℕ) → 8 ≤ length v.rest → (a ∷ b ∷ c ∷ d ∷ []) ≡ to_le_bytes w32 n → w.length ≡ v.length → w.rest ≡ set (set (set (set v.rest 4 a) 5 b) 6 c) 7 d → w ≡ renumbered_view v n
unfolding renumbered_view
renumbered-by v w n a b c d h bytes len rest =
    let r : w.rest ≡ take 4 v.rest ++ to_le_bytes w32 n ++ drop 8 v.rest = rest ∙ four_set v.rest a b c d h ∙ ap (λ bs. take 4 v.rest ++ bs ++ drop 8 v.rest) bytes in
    λ i. record { length = len i; rest = r i }
