-- A number and the digits that write it, one digit after another.
use Rattle.std.proofs.Common.{◌≡◌, ◌+◌, ◌-◌, ◌*◌, ◌/◌, ◌%◌, ◌<◌, ◌≤◌, ◌^◌, ◌++◌, ◌∷◌, ◌∙◌, [], ℕ, List, ap, arith, sym, drop, take, get_or, length, append_assoc, add-one}
use Rattle.std.proofs.Math.Nat.{pow-suc, pow-le-pow_right}
use Rattle.std.specs.Fmt.{decimal}
use Rattle.std.proofs.lemmas.Fmt.{decimal_digit, decimal_step}
use Rattle.std.proofs.lemmas.List.{drop_more, take_rest}

-- one more digit behind a number
decimal_more : (n d : ℕ) → 0 < n → d < 10 → n * 10 + d < 2 ^ 64 → decimal (n * 10 + d) ≡ decimal n ++ ((48 + d) ∷ [])
decimal_more n d some low fits =
    let front : (n * 10 + d) / 10 ≡ n = omega arith in
    let last : (n * 10 + d) % 10 ≡ d = omega arith in
    decimal_step (n * 10 + d) (omega arith) fits ∙ ap (λ k. decimal k ++ ((48 + (n * 10 + d) % 10) ∷ [])) front ∙ ap (λ k. decimal n ++ ((48 + k) ∷ [])) last

-- a number of so many digits
small_enough : (n k m : ℕ) → n < 10 ^ k → k ≤ m → n < 10 ^ m
small_enough n k m low few = let grows : 10 ^ k ≤ 10 ^ m = pow-le-pow_right (omega arith) few in omega arith

pub below_most : (n k : ℕ) → n < 10 ^ (k + 1) → k ≤ 17 → n < 1000000000000000000
below_most n k low few = small_enough n (k + 1) 18 low (omega arith)

-- has room for one more
pub has_room : (n k : ℕ) → n < 10 ^ (k + 1) → k < 17 → n < 100000000000000000
has_room n k low few = small_enough n (k + 1) 17 low (omega arith)

pub one_more_below : (n d k : ℕ) → n < 10 ^ (k + 1) → d ≤ 9 → n * 10 + d < 10 ^ (k + 1 + 1)
one_more_below n d k low digit =
    let more : 10 ^ (k + 1 + 1) ≡ 10 ^ (k + 1) * 10 = ap (λ m. 10 ^ m) (add-one (k + 1)) ∙ pow-suc 10 (k + 1) in
    omega arith

-- the first digit, and all behind it
pub first_written : (bytes : List ℕ) (n : ℕ) → 49 ≤ get_or bytes 0 0 → get_or bytes 0 0 ≤ 57 → n ≡ get_or bytes 0 0 - 48 → decimal n ++ take (length bytes - 1) (drop 1 bytes) ≡ bytes
first_written [] n low high is = absurd (omega arith)
first_written (b ∷ bs) n low high is =
    let digit : 48 + n ≡ b = omega arith in
    ap (λ ds. ds ++ take (length (b ∷ bs) - 1) bs) (decimal_digit n (omega arith)) ∙ ap (λ x. x ∷ take (length (b ∷ bs) - 1) bs) digit ∙ ap (λ xs. b ∷ xs) (take_rest (b ∷ bs) 1)

-- one more digit is read
pub more_written : (n d k : ℕ) (others bytes : List ℕ) → 0 < n → n * 10 + d < 2 ^ 64 → d ≤ 9 → get_or others k 0 ≡ 48 + d → k < length others → decimal n ++ drop k others ≡ bytes → decimal (n * 10 + d) ++ drop (k + 1) others ≡ bytes
more_written n d k others bytes some fits digit is there so_far =
    ap (λ ds. ds ++ drop (k + 1) others) (decimal_more n d some (omega arith) fits)
    ∙ append_assoc (decimal n) ((48 + d) ∷ []) (drop (k + 1) others) ∙ ap (λ x. decimal n ++ (x ∷ drop (k + 1) others)) (sym is)
    ∙ ap (λ xs. decimal n ++ xs) (sym (drop_more others k 0 there)) ∙ so_far

-- nothing but a 0
pub zero_written : (bytes : List ℕ) → length bytes < 2 → get_or bytes 0 0 ≡ 48 → decimal 0 ≡ bytes
zero_written [] few is = absurd (omega arith)
zero_written (b ∷ []) few is = decimal_digit 0 (omega arith) ∙ ap (λ x. x ∷ []) (sym is)
zero_written (b ∷ c ∷ bs) few is = absurd (omega arith)
