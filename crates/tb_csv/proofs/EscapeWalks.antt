-- Bytes between quotes, one more at a time.
use Rattle.std.proofs.Common.{◌≡◌, ◌≢◌, ◌<◌, ◌≤◌, ◌+◌, ◌++◌, ◌∷◌, ◌∙◌, [], ℕ, List, length, take, get_or, refl, sym, ap, append_assoc}
use Rattle.std.proofs.lemmas.List.{append-nil, take_all, take_more}
use Rattle.csv.proofs.WriteFacts.{escaped-append, escaped-double, escaped-other}
use Rattle.csv.specs.Writing.{escaped}
use Rattle.tb_csv.specs.Promise.Texts.{style}

pub escaped_none : (separator : ℕ) (xs : List ℕ) → xs ≡ xs ++ escaped (style separator) []
unfolding escaped
escaped_none separator xs = sym (append-nil xs)

grown : (separator : ℕ) (old field : List ℕ) (i : ℕ) → i < length field
    → (old ++ escaped (style separator) (take i field)) ++ escaped (style separator) (get_or field i 0 ∷ []) ≡ old ++ escaped (style separator) (take (i + 1) field)
grown separator old field i low =
    append_assoc old (escaped (style separator) (take i field)) (escaped (style separator) (get_or field i 0 ∷ []))
    ∙ ap (λ (l : List ℕ). old ++ l) (sym (escaped-append (style separator) (take i field) (get_or field i 0 ∷ [])) ∙ ap (escaped (style separator)) (sym (take_more field i 0 low)))

pub escaped_quote : (separator : ℕ) (old so_far one two field : List ℕ) (i : ℕ) → i < length field → get_or field i 0 ≡ 34
    → one ≡ so_far ++ 34 ∷ [] → two ≡ one ++ get_or field i 0 ∷ [] → so_far ≡ old ++ escaped (style separator) (take i field) → two ≡ old ++ escaped (style separator) (take (i + 1) field)
escaped_quote separator old so_far one two field i low quote first second is =
    let both : two ≡ so_far ++ get_or field i 0 ∷ get_or field i 0 ∷ [] = second ∙ ap (λ (l : List ℕ). l ++ get_or field i 0 ∷ []) first ∙ append_assoc so_far (34 ∷ []) (get_or field i 0 ∷ []) ∙ ap (λ n. so_far ++ n ∷ get_or field i 0 ∷ []) (sym quote) in
    both ∙ ap (λ (l : List ℕ). so_far ++ l) (sym (escaped-double (style separator) (get_or field i 0) quote refl))
    ∙ ap (λ (l : List ℕ). l ++ escaped (style separator) (get_or field i 0 ∷ [])) is ∙ grown separator old field i low

pub escaped_byte : (separator : ℕ) (old so_far two field : List ℕ) (i : ℕ) → i < length field → get_or field i 0 ≢ 34
    → two ≡ so_far ++ get_or field i 0 ∷ [] → so_far ≡ old ++ escaped (style separator) (take i field) → two ≡ old ++ escaped (style separator) (take (i + 1) field)
escaped_byte separator old so_far two field i low other second is =
    second ∙ ap (λ (l : List ℕ). so_far ++ l) (sym (escaped-other (style separator) (get_or field i 0) other))
    ∙ ap (λ (l : List ℕ). l ++ escaped (style separator) (get_or field i 0 ∷ [])) is ∙ grown separator old field i low

pub escaped_end : (separator : ℕ) (old new field : List ℕ) (i : ℕ) → length field ≤ i → new ≡ old ++ escaped (style separator) (take i field) → new ≡ old ++ escaped (style separator) field
escaped_end separator old new field i past is = is ∙ ap (λ (l : List ℕ). old ++ escaped (style separator) l) (take_all i field past)
