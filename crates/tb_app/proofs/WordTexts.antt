-- The word that bytes are.
use Rattle.std.proofs.Common.{◌≡◌, List, [], ℕ, Bool, true, false, refl, ap}
use Rattle.std.specs.Str.{IsUtf8, is_utf8}
use Rattle.std.proofs.lemmas.Str.{IsUtf8-from_is_utf8, is_utf8-from_IsUtf8}
use Rattle.tb_app.specs.Promise.Words.{word_from}
use mathlib.Core.Bool.{cond}

pub word_of_text : (bytes : List ℕ) → IsUtf8 bytes → word_from bytes ≡ bytes
word_of_text bytes text = ap (λ b. cond b bytes []) (is_utf8-from_IsUtf8 bytes text)

not_text : {A : Type 0} (x y : A) (bytes : List ℕ) (b : Bool) → is_utf8 bytes ≡ b → ¬ IsUtf8 bytes → cond b x y ≡ y
not_text x y bytes true e nontext = absurd (nontext (IsUtf8-from_is_utf8 bytes e))
not_text x y bytes false e nontext = refl

pub word_of_none : (bytes : List ℕ) → ¬ IsUtf8 bytes → word_from bytes ≡ []
word_of_none bytes nontext = not_text bytes [] bytes (is_utf8 bytes) refl nontext
