-- The counts of all groups together.
use Rattle.std.proofs.Common.{◌≡◌, ◌∙◌, ◌+◌, ◌+ℤ◌, ◌≤◌, ℕ, zero, suc, ℤ, pos, Bool, true, false, not, cond, List, [], ◌∷◌, filter, fold, length, map, refl, sym, ap, arith}
use Rattle.std.specs.Cmp.{IsEquivalence}
use Rattle.std.specs.Prelude.{sum_by}
use Rattle.std.proofs.lemmas.List.FromFn.{length-range_with_len}
use Rattle.std.proofs.lemmas.List.Sums.{sum_by-cons}
use Rattle.tb_value.specs.Promise.Datum.{Datum, int}
use Rattle.tb_value.specs.Promise.Pairs.{row_numbers}
use Rattle.tb_frame.specs.Promise.Table.{TableColumn, height}
use Rattle.tb_rows.specs.InGroups.{firsts_in, groups_in}
use Rattle.tb_rows.specs.Promise.Rows.{row_value}
use Rattle.tb_rows.proofs.FirstsIn.{firsts_of_all}
use Rattle.tb_agg.specs.Promise.Aggregates.{aggregate, number, total}
use Rattle.tb_agg.specs.declared.table.Aggregate.{Aggregate}
use Rattle.tb_agg.specs.declared.table.Aggregate.TheVariants.{Count}
use Rattle.tb_group.specs.declared.request.GroupAgg.{GroupAgg}
use Rattle.tb_group.specs.Promise.Group.{agg_column, alike, group_firsts, members}
use Rattle.tb_group.specs.Promise.Request.{Request, by_columns}
use Rattle.tb_group.proofs.Alike.{rows_equiv}
use Rattle.tb_group.proofs.PartRows.{part_firsts, part_group}

-- a list parted by a test
parted : (p : ℕ → Bool) (xs : List ℕ) → length (filter p xs) + length (filter (λ x. not (p x)) xs) ≡ length xs
parted p [] = refl
parted p (x ∷ xs) = by (p x) (parted p xs)
  where
    by : (b : Bool) → length (filter p xs) + length (filter (λ y. not (p y)) xs) ≡ length xs
        → length (cond b (x ∷ filter p xs) (filter p xs)) + length (cond (not b) (x ∷ filter (λ y. not (p y)) xs) (filter (λ y. not (p y)) xs)) ≡ length (x ∷ xs)
    by true h = omega (arith, h)
    by false h = omega (arith, h)

module _ (test : ℕ → ℕ → Bool) (same : IsEquivalence test) where
  -- what isn't the same as a row is not the same as what is
  apart_agree : (x a b : ℕ) → test a b ≡ true → not (test x a) ≡ not (test x b)
  apart_agree x a b h = ap not (same.symm x a ∙ same.congr a b x h ∙ same.symm b x)

  -- of rows that are not the same as x, the groups don't have x
  others : (x : ℕ) (xs ys : List ℕ) → sum_by (λ (y : ℕ). length (filter (test y) (x ∷ xs))) (filter (λ y. not (test x y)) ys)
      ≡ sum_by (λ (y : ℕ). length (filter (test y) (filter (λ z. not (test x z)) xs))) (filter (λ y. not (test x y)) ys)
  others x xs [] = refl
  others x xs (y ∷ ys) = by (test x y) refl (others x xs ys)
    where
      keep : ℕ → Bool
      keep z = not (test x z)

      long : ℕ → ℕ
      long z = length (filter (test z) (x ∷ xs))

      short : ℕ → ℕ
      short z = length (filter (test z) (filter keep xs))

      there : test x y ≡ false → long y ≡ short y
      there e =
          ap (λ (c : Bool). length (cond c (x ∷ filter (test y) xs) (filter (test y) xs))) (same.symm y x ∙ e)
          ∙ ap length (sym (part_group test keep (apart_agree x) y (ap not e) xs))

      by : (b : Bool) → test x y ≡ b → sum_by long (filter keep ys) ≡ sum_by short (filter keep ys)
          → sum_by long (cond (not (test x y)) (y ∷ filter keep ys) (filter keep ys)) ≡ sum_by short (cond (not (test x y)) (y ∷ filter keep ys) (filter keep ys))
      by true e k =
          ap (λ (c : Bool). sum_by long (cond (not c) (y ∷ filter keep ys) (filter keep ys))) e ∙ k
          ∙ sym (ap (λ (c : Bool). sum_by short (cond (not c) (y ∷ filter keep ys) (filter keep ys))) e)
      by false e k =
          ap (λ (c : Bool). sum_by long (cond (not c) (y ∷ filter keep ys) (filter keep ys))) e
          ∙ sum_by-cons long y (filter keep ys) ∙ (λ t. there e t + k t) ∙ sym (sum_by-cons short y (filter keep ys))
          ∙ sym (ap (λ (c : Bool). sum_by short (cond (not c) (y ∷ filter keep ys) (filter keep ys))) e)

  fewer : (p : ℕ → Bool) (xs : List ℕ) → length (filter p xs) ≤ length xs
  fewer p xs = omega (arith, parted p xs)

  -- all groups together, of a list of at most `most` rows
  counted_to : (most : ℕ) (xs : List ℕ) → length xs ≤ most → sum_by (λ (y : ℕ). length (filter (test y) xs)) (firsts_in test xs) ≡ length xs
  counted_to most [] low = refl
  counted_to zero (x ∷ xs) low = absurd (omega (arith, low))
  counted_to (suc most) (x ∷ xs) low =
      let keep : ℕ → Bool = λ z. not (test x z) in
      let rest : List ℕ = filter keep xs in
      let ys : List ℕ = firsts_in test xs in
      let swapped : filter keep ys ≡ firsts_in test rest = sym (part_firsts test keep (apart_agree x) xs) in
      let tail : sum_by (λ (y : ℕ). length (filter (test y) (x ∷ xs))) (filter keep ys) ≡ length rest =
      others x xs ys ∙ ap (sum_by (λ (y : ℕ). length (filter (test y) rest))) swapped ∙ counted_to most rest (omega (arith, low, fewer keep xs)) in
      let head : length (filter (test x) (x ∷ xs)) ≡ length (x ∷ filter (test x) xs) = ap (λ (c : Bool). length (cond c (x ∷ filter (test x) xs) (filter (test x) xs))) (same.refl x) in
      omega (arith, tail, head, parted (test x) xs, sum_by-cons (λ (y : ℕ). length (filter (test y) (x ∷ xs))) x (filter keep ys))

  sum_of_lengths : (f : ℕ → List ℕ) (ys : List ℕ) → sum_by (λ (g : List ℕ). length g) (map f ys) ≡ sum_by (λ (y : ℕ). length (f y)) ys
  sum_of_lengths f [] = refl
  sum_of_lengths f (y ∷ ys) = sum_by-cons (λ (g : List ℕ). length g) (f y) (map f ys) ∙ ap (λ (n : ℕ). length (f y) + n) (sum_of_lengths f ys) ∙ sym (sum_by-cons (λ (z : ℕ). length (f z)) y ys)

  pub counted : (xs : List ℕ) → sum_by (λ (g : List ℕ). length g) (groups_in test xs) ≡ length xs
  counted xs = sum_of_lengths (λ x. filter (test x) xs) (firsts_in test xs) ∙ counted_to (length xs) xs (omega arith)

-- a sum of lengths, as an exact sum of values
sums : (g : ℕ → List ℕ) (f : ℕ → Datum) (a : ℕ) (xs : List ℕ) → fold ◌+ℤ◌ (pos a) (map number (map (λ x. int (pos (length (map f (g x))))) xs)) ≡ pos (fold (λ n x. n + length (g x)) a xs)
sums g f a [] = refl
sums g f a (x ∷ xs) = ap (λ (z : ℤ). fold ◌+ℤ◌ z (map number (map (λ y. int (pos (length (map f (g y))))) xs))) (one (g x)) ∙ sums g f (a + length (g x)) xs
  where
    mapped : (rows : List ℕ) → length (map f rows) ≡ length rows
    mapped [] = refl
    mapped (r ∷ rows) = omega (arith, mapped rows)

    one : (rows : List ℕ) → pos a +ℤ pos (length (map f rows)) ≡ pos (a + length rows)
    one rows = ap (λ (n : ℕ). pos a +ℤ pos n) (mapped rows)

lengths_of : (test : ℕ → ℕ → Bool) (rows ys : List ℕ) (a : ℕ) → fold (λ n x. n + length (filter (test x) rows)) a ys ≡ fold (λ n (g : List ℕ). n + length g) a (map (λ x. filter (test x) rows) ys)
lengths_of test rows [] a = refl
lengths_of test rows (y ∷ ys) a = lengths_of test rows ys (a + length (filter (test y) rows))

pub counts : (q : Request) (a : GroupAgg) (v : TableColumn) → a.agg ≡ Count → total (agg_column q a v).values ≡ pos (height q.table)
counts q a v is =
    let h : ℕ = height q.table in
    let test : ℕ → ℕ → Bool = alike q in
    let even : IsEquivalence test = rows_equiv (map (λ (c : TableColumn). c.values) (by_columns q)) in
    ap (λ (k : Aggregate). total (map (λ x. aggregate k (map (row_value v.values) (members q x))) (group_firsts q))) is
    ∙ sums (members q) (row_value v.values) 0 (group_firsts q)
    ∙ ap pos (lengths_of test (row_numbers h) (group_firsts q) 0
    ∙ ap (λ (ys : List ℕ). sum_by (λ (g : List ℕ). length g) (map (λ x. filter (test x) (row_numbers h)) ys)) (firsts_of_all test even h)
    ∙ counted test even (row_numbers h)
    ∙ length-range_with_len 0 h)
