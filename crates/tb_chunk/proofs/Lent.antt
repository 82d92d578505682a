-- Columns that are read through borrows.
use Rattle.std.proofs.Common.{◌≡◌, ◌<◌, ℕ, List, length, get_or, Bor, subst, arith, ap, sym, ◌∙◌}
use Rattle.std.specs.List.{All}
use Rattle.std.proofs.lemmas.List.{length-map, get_or-map}
use Rattle.tb_chunk.specs.Promise.Col.{Col}
use Rattle.tb_chunk.specs.Lent.{lent_columns}

module _ (rs : List (Bor Col)) (n : ℕ) (r : Bor Col) (low : n < length rs) (is : r ≡ get_or rs n r) where
  pub low_lent : n < length (lent_columns rs)
  low_lent = let long = length-map rs (λ (c : Bor Col). c.now) in omega (arith, long, low)

  pub lent_is : r.now ≡ get_or (lent_columns rs) n r.now
  lent_is = ap (λ (c : Bor Col). c.now) is ∙ sym (get_or-map (λ (c : Bor Col). c.now) rs n r r.now low)

  -- what holds of each column holds of this one
  pub lent_has : (P : Col → Type 0) → All P (lent_columns rs) → P r.now
  lent_has P h = subst P (sym lent_is) (h n r.now low_lent)
