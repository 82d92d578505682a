-- Rooms that are filled from the front on.
use Rattle.std.proofs.Common.{◌≡◌, ℕ, ◌+◌, ◌<◌, ◌≤◌, List, [], ◌∷◌, ◌++◌, length, take, drop, refl, ap, sym, ◌∙◌, arith, append_assoc, length-append, get_or}
use Rattle.std.specs.Prelude.{replicate}
use Rattle.std.specs.Borrow.{Bor}
use Rattle.std.proofs.Math.Seq.{take-append_seam, drop-append-add}
use Rattle.std.proofs.lemmas.Grind.{flat_map-append}
use Rattle.std.proofs.lemmas.List.{drop-drop, length-replicate, length-take-le, take_more, append-nil}
use Rattle.std.proofs.lemmas.List.Folds.{length-flat_map-take}
use Rattle.tb_row_join.specs.Lists.{concatenated, repeated}

-- more is written behind what was written
pub put-more : (before done rows room new : List ℕ) (at : ℕ) → room ≡ done ++ drop (length done) before → at ≡ length done
    → new ≡ take at room ++ (rows ++ drop (at + length rows) room) → new ≡ (done ++ rows) ++ drop (length (done ++ rows)) before
put-more before done rows room new at was here put =
    let rest = drop (length done) before in
    put
    ∙ (λ t. take (here t) (was t) ++ (rows ++ drop (here t + length rows) (was t)))
    ∙ (λ t. take-append_seam done rest t ++ (rows ++ drop-append-add done rest (length rows) t))
    ∙ ap (λ (l : List ℕ). done ++ (rows ++ l)) (drop-drop (length rows) (length done) before ∙ ap (λ (n : ℕ). drop n before) (sym (length-append done rows)))
    ∙ sym (append_assoc done rows (drop (length (done ++ rows)) before))

-- the numbers of lists, and of more lists behind them
repeated-append : (first : ℕ) (xs ys : List (Bor (List ℕ))) → repeated first (xs ++ ys) ≡ repeated first xs ++ repeated (first + length xs) ys
repeated-append first [] ys = let e : first ≡ first + 0 = omega arith in ap (λ (n : ℕ). repeated n ys) e
repeated-append first (x ∷ xs) ys =
    let e : (first + 1) + length xs ≡ first + length (x ∷ xs) = omega arith in
    ap (λ (l : List ℕ). replicate (length x.now) first ++ l) (repeated-append (first + 1) xs ys)
    ∙ sym (append_assoc (replicate (length x.now) first) (repeated (first + 1) xs) (repeated ((first + 1) + length xs) ys))
    ∙ ap (λ (n : ℕ). (replicate (length x.now) first ++ repeated (first + 1) xs) ++ repeated n ys) e

-- as many as there are elements
pub length-repeated : (first : ℕ) (lists : List (Bor (List ℕ))) → length (repeated first lists) ≡ length (concatenated lists)
length-repeated first [] = refl
length-repeated first (x ∷ xs) =
    length-append (replicate (length x.now) first) (repeated (first + 1) xs)
    ∙ (λ t. length-replicate (length x.now) first t + length-repeated (first + 1) xs t)
    ∙ sym (length-append x.now (concatenated xs))

module _ (lists : List (Bor (List ℕ))) (i : ℕ) (d : Bor (List ℕ)) (low : i < length lists) where
  -- one list more
  pub concatenated-more : concatenated (take (i + 1) lists) ≡ concatenated (take i lists) ++ (get_or lists i d).now
  concatenated-more =
      ap concatenated (take_more lists i d low)
      ∙ flat_map-append (λ (r : Bor (List ℕ)). r.now) (take i lists) (get_or lists i d ∷ [])
      ∙ ap (λ (l : List ℕ). concatenated (take i lists) ++ l) (append-nil (get_or lists i d).now)

  pub repeated-more : repeated 0 (take (i + 1) lists) ≡ repeated 0 (take i lists) ++ replicate (length (get_or lists i d).now) i
  repeated-more =
      let at : 0 + length (take i lists) ≡ i = let t = length-take-le i lists (omega (arith, low)) in omega (arith, t) in
      ap (repeated 0) (take_more lists i d low)
      ∙ repeated-append 0 (take i lists) (get_or lists i d ∷ [])
      ∙ ap (λ (l : List ℕ). repeated 0 (take i lists) ++ l) (append-nil (replicate (length (get_or lists i d).now) (0 + length (take i lists))))
      ∙ ap (λ (n : ℕ). repeated 0 (take i lists) ++ replicate (length (get_or lists i d).now) n) at

  -- the list has room behind those before it
  pub list-fits : length (concatenated (take i lists)) + length (get_or lists i d).now ≤ length (concatenated lists)
  list-fits = length-flat_map-take (λ (r : Bor (List ℕ)). r.now) lists i d low

-- a number written so many times
pub repeat-more : (before done room new : List ℕ) (at times row : ℕ) → room ≡ done ++ drop (length done) before → at ≡ length done
    → new ≡ take at room ++ (replicate times row ++ drop (at + times) room) → new ≡ (done ++ replicate times row) ++ drop (length (done ++ replicate times row)) before
repeat-more before done room new at times row was here put =
    put-more before done (replicate times row) room new at was here
    (put ∙ ap (λ (n : ℕ). take at room ++ (replicate times row ++ drop (at + n) room)) (sym (length-replicate times row)))
