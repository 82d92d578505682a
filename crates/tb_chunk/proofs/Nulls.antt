-- How many nulls there are in lists that stand one after another.
use Rattle.std.proofs.Common.{◌≡◌, ◌∙◌, ◌+◌, ℕ, ◌<◌, List, length, map, ap, get_or, drop}
use Rattle.tb_value.specs.Promise.Datum.{Datum}
use Rattle.tb_chunk.specs.Promise.Col.{concatenation}
use Rattle.tb_cell.specs.Promise.Flag.{nulls}
use Rattle.tb_cell.proofs.Nulls.{nulls_two}
use Rattle.tb_chunk.proofs.Lists.{flat_drop}

-- the nulls that are left are those of the next piece and of what is left after it
pub nulls_drop : {X : Type 0} (f : X → List Datum) (xs : List X) (i : ℕ) (x : X) → i < length xs → x ≡ get_or xs i x → length (nulls (concatenation (map f (drop i xs)))) ≡ length (nulls (f x)) + length (nulls (concatenation (map f (drop (i + 1) xs))))
nulls_drop f xs i x h e = ap (λ vs. length (nulls vs)) (flat_drop f xs i x h e) ∙ nulls_two (f x) (concatenation (map f (drop (i + 1) xs)))
