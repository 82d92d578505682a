-- Columns of a number for each row.
use Rattle.std.proofs.Common.{◌≡◌, ◌∙◌, ℕ, ◌<◌, ℤ, pos, List, [], length, map, get_or, ap, sym, subst, arith, rules}
use Rattle.std.specs.List.{All}
use Rattle.std.proofs.lemmas.List.FromFn.{length-map-range_with_len, get_or-map-range_with_len}
use Rattle.tb_value.specs.Promise.Datum.{Datum, int}
use Rattle.tb_value.specs.Promise.Kind.{int64}
use Rattle.tb_value.specs.Promise.Names.{Name}
use Rattle.tb_value.specs.Promise.Pairs.{row_numbers}
use Rattle.tb_value.specs.Promise.Typed.{HasType}
use Rattle.tb_value.proofs.Loops.{map-map}
use Rattle.tb_chunk.specs.Promise.Col.{Col}
use Rattle.tb_frame.specs.Promise.Table.{IsTyped, plain_column}
use Rattle.tb_sample.specs.Promise.Sample.{numbers}

number_typed : (k : ℕ) → k < 9223372036854775808 → HasType int64 (int (pos k))
number_typed k h = search rules

-- numbers of 64 bits are of type Int64
pub numbers_typed : (name : Name) (f : ℕ → ℕ) (n : ℕ) → ((i : ℕ) → i < n → f i < 9223372036854775808) → IsTyped (numbers name f n)
numbers_typed name f n h = λ k d low.
    let in_n : k < n = omega (arith, length-map-range_with_len (λ i. int (pos (f i))) 0 n) in
    let at : get_or (map (λ i. int (pos (f i))) (row_numbers n)) k d ≡ int (pos (f k)) = get_or-map-range_with_len (λ i. int (pos (f i))) 0 n k k d in_n (omega arith) in
    subst (HasType int64) (sym at) (number_typed (f k) (h k in_n))

module _ (f : ℕ → ℕ) (n : ℕ) (zs : List ℤ) (are : zs ≡ map (λ i. pos (f i)) (row_numbers n)) where
  shown : map int zs ≡ map (λ i. int (pos (f i))) (row_numbers n)
  shown = ap (map int) are ∙ map-map int (λ i. pos (f i)) (row_numbers n)

  pub long : length zs ≡ n
  long = ap length are ∙ length-map-range_with_len (λ i. pos (f i)) 0 n

  pub are_typed : ((i : ℕ) → i < n → f i < 9223372036854775808) → All (HasType int64) (map int zs)
  are_typed h = subst (λ (vs : List Datum). All (HasType int64) vs) (sym shown) (numbers_typed [] f n h)

  pub column_is : (name : Name) (c : Col) → plain_column c ≡ record { name = name; kind = int64; values = map int zs } → plain_column c ≡ numbers name f n
  column_is name c e = e ∙ ap (λ (vs : List Datum). record { name = name; kind = int64; values = vs }) shown
