-- The parts of words around a sign.
use Rattle.std.proofs.Common.{◌≡◌, ◌∙◌, ◌<◌, ◌==◌, ℕ, Bool, true, false, List, Option, Some, None, if◌then◌else◌, length, refl, sym, ap, subst, arith}
use Rattle.std.specs.Prelude.{MatchOption}
use Rattle.std.specs.List.{after_first, before_first, position_or_len}
use Rattle.std.proofs.lemmas.Grind.{common_steps}
use Rattle.std.proofs.lemmas.Str.Pattern.{IsSplitOnceResult, split_once_first}
use denote.Ref.{Bor}
use Rattle.tb_group_front.specs.Promise.Words.{parts_at}

module _ (byte : ℕ) (word : List ℕ) (r : Option (Bor (List ℕ) × Bor (List ℕ))) (h : IsSplitOnceResult byte word r) (low : byte < 128) where
  abbrev is_sign : ℕ → Bool
  is_sign c = c == byte

  cases : MatchOption r (position_or_len is_sign word ≡ length word) (λ x. (position_or_len is_sign word < length word) × (x.0.now ≡ before_first is_sign word) × (x.1.now ≡ after_first is_sign word))
  cases = split_once_first byte word r h low

  pub whole : r ≡ None → parts_at byte word ≡ None
  whole e =
      let same : position_or_len is_sign word ≡ length word = subst (λ (o : Option (Bor (List ℕ) × Bor (List ℕ))). MatchOption o (position_or_len is_sign word ≡ length word) (λ x. (position_or_len is_sign word < length word) × (x.0.now ≡ before_first is_sign word) × (x.1.now ≡ after_first is_sign word))) e cases in
      let yes : (position_or_len is_sign word == length word) ≡ true = grind (arith, common_steps, same) in
      ap (λ (b : Bool). if b then None else Some (before_first is_sign word, after_first is_sign word)) yes

  pub parted : (x : Bor (List ℕ) × Bor (List ℕ)) → r ≡ Some x → parts_at byte word ≡ Some (x.0.now, x.1.now)
  parted x e =
      let found = subst (λ (o : Option (Bor (List ℕ) × Bor (List ℕ))). MatchOption o (position_or_len is_sign word ≡ length word) (λ x. (position_or_len is_sign word < length word) × (x.0.now ≡ before_first is_sign word) × (x.1.now ≡ after_first is_sign word))) e cases in
      let less : position_or_len is_sign word < length word = found.0 in
      let no : (position_or_len is_sign word == length word) ≡ false = grind (arith, common_steps, less) in
      ap (λ (b : Bool). if b then None else Some (before_first is_sign word, after_first is_sign word)) no ∙ (λ i. Some (sym found.1 i, sym found.2 i))
