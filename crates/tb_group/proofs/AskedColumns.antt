-- Aggregates beside their columns, as loops over their places read them.
use Rattle.std.proofs.Common.{◌≡◌, ◌∙◌, ◌+◌, ◌<◌, ◌++◌, ℕ, List, [], ◌∷◌, get_or, length, take, refl, sym, ap, arith}
use Rattle.std.specs.Borrow.{Bor}
use Rattle.std.specs.List.{zip}
use Rattle.std.proofs.lemmas.List.{get_or-map, length-map, length-take-le, take_more}
use Rattle.tb_chunk.specs.Lent.{lent_columns}
use Rattle.tb_chunk.specs.Promise.Col.{Col}
use Rattle.tb_chunk.proofs.Lent.{low_lent, lent_is}
use Rattle.tb_frame.specs.Promise.Refusal.{kind_at}
use Rattle.tb_frame.specs.Promise.Table.{plain_column, table_of}
use Rattle.tb_frame.proofs.Fields.{kind_is}

pub many_lent : (rs : List (Bor Col)) → length (table_of (lent_columns rs)) ≡ length rs
many_lent rs = length-map (lent_columns rs) plain_column ∙ length-map rs (λ (r : Bor Col). r.now)

-- the column at a place, as a column of the table
module _ (rs : List (Bor Col)) (p : ℕ) (r : Bor Col) (low : p < length rs) (is : r ≡ get_or rs p r) where
  pub plain_at : plain_column r.now ≡ get_or (table_of (lent_columns rs)) p (plain_column r.now)
  plain_at = sym (get_or-map plain_column (lent_columns rs) p r.now (plain_column r.now) (low_lent rs p r low is) ∙ ap plain_column (sym (lent_is rs p r low is)))

  pub kind_lent : r.now.kind ≡ kind_at (table_of (lent_columns rs)) p
  kind_lent = kind_is (table_of (lent_columns rs)) p (plain_column r.now) (omega (arith, low, many_lent rs)) plain_at

-- two lists side by side, one element more
pub zip_push : {A B : Type 0} (xs : List A) (ys : List B) (x : A) (y : B) → length xs ≡ length ys → zip (xs ++ x ∷ []) (ys ++ y ∷ []) ≡ zip xs ys ++ (x, y) ∷ []
zip_push [] [] x y same = refl
zip_push [] (w ∷ ys) x y same = absurd (omega (arith, same))
zip_push (v ∷ xs) [] x y same = absurd (omega (arith, same))
zip_push {A} {B} (v ∷ xs) (w ∷ ys) x y same = ap (λ (l : List (A × B)). (v, w) ∷ l) (zip_push xs ys x y (omega (arith, same)))

-- the first elements of two lists side by side, one more
pub zip_more : {A B : Type 0} (xs : List A) (ys : List B) (p : ℕ) (x : A) (y : B) → p < length xs → length xs ≡ length ys → x ≡ get_or xs p x → y ≡ get_or ys p y
    → zip (take (p + 1) xs) (take (p + 1) ys) ≡ zip (take p xs) (take p ys) ++ (x, y) ∷ []
zip_more {A} {B} xs ys p x y low same here there =
    (λ t. zip ((take_more xs p x low ∙ ap (λ (z : A). take p xs ++ z ∷ []) (sym here)) t) ((take_more ys p y (omega (arith, low, same)) ∙ ap (λ (z : B). take p ys ++ z ∷ []) (sym there)) t))
    ∙ zip_push (take p xs) (take p ys) x y (length-take-le p xs (omega (arith, low)) ∙ sym (length-take-le p ys (omega (arith, low, same))))
