-- Equal flags, as many as keys, list what one flag for all keys lists.
use Rattle.std.proofs.Common.{◌≡◌, ℕ, ◌<◌, Bool, true, false, length, get_or, min, refl, sym, ap, ◌∙◌, arith}
use Rattle.std.specs.Prelude.{replicate}
use Rattle.std.specs.List.{list_all}
use Rattle.std.proofs.lemmas.List.{get_or-replicate}
use Rattle.tb_value.specs.Promise.Datum.{Datum}
use Rattle.tb_value.specs.Promise.Pairs.{row_numbers}
use Rattle.tb_value.specs.Promise.Same.{agrees}
use Rattle.tb_frame.specs.Promise.Join.{field}
use Rattle.tb_frame.specs.Promise.Table.{height}
use Rattle.tb_frame.proofs.Listings.{listing-same}
use Rattle.tb_frame.proofs.Meaning.{rows_all}
use Rattle.tb_join.specs.Laws.{EqualFlags}

both_ways : (a b : Bool) → (a ≡ true → b ≡ true) → (b ≡ true → a ≡ true) → a ≡ b
both_ways true b f g = sym (f refl)
both_ways false true f g = g refl
both_ways false false f g = refl

-- tests that agree at each place below n hold of the same
same_all : (f g : ℕ → Bool) (n : ℕ) → ((p : ℕ) → p < n → f p ≡ g p) → list_all f (row_numbers n) ≡ list_all g (row_numbers n)
same_all f g n same =
    both_ways (list_all f (row_numbers n)) (list_all g (row_numbers n))
    (λ h. (rows_all g n).1 (λ p low. sym (same p low) ∙ (rows_all f n).0 h p low))
    (λ h. (rows_all f n).1 (λ p low. same p low ∙ (rows_all g n).0 h p low))

pub equal_flags : EqualFlags
equal_flags q b =
    let n : ℕ = length q.left_keys in
    let places : ℕ = min n (length q.right_keys) in
    let left : ℕ → ℕ → Datum = λ p i. field q.left_keys p i in
    let right : ℕ → ℕ → Datum = λ p j. field q.right_keys p j in
    listing-same q.args.how (height q.left) (height q.right)
    (λ i j. list_all (λ p. agrees (get_or (replicate n b) p false) (left p i) (right p j)) (row_numbers places))
    (λ i j. list_all (λ p. agrees b (left p i) (right p j)) (row_numbers places))
    (λ i j low under. same_all (λ p. agrees (get_or (replicate n b) p false) (left p i) (right p j)) (λ p. agrees b (left p i) (right p j)) places
    (λ p here. ap (λ (x : Bool). agrees x (left p i) (right p j)) (get_or-replicate n p b false (omega (arith, here)))))
