-- No text has a float.
use Rattle.std.proofs.Common.{◌≡◌, ℕ, List, [], ◌∷◌, ◌++◌, false, refl, ap, ◌∙◌}
use Rattle.serde_json.specs.Data.{Data}
use Rattle.serde_json.specs.Written.{has_float, compact_text}
use Rattle.tb_value.specs.declared.error.InvalidCause.{InvalidCause}
use Rattle.tb_value.specs.declared.error.InvalidCause.TheVariants.{NoKeys, KeyCounts, NullFlags, KeyKind, BothNone, HeaderType, AggType, NoSupertype}
use Rattle.tb_value.specs.declared.error.ComputeCause.{ComputeCause}
use Rattle.tb_value.specs.declared.error.ComputeCause.TheVariants.{KeyTypes, Validation, TooManyRows, EmptyIndex, EmptyOn, BraceName, ManyInGroup, SumRange, EvaluateLength, Evaluate}
use Rattle.tb_value.specs.declared.error.PolarsError.{PolarsError}
use Rattle.tb_value.specs.declared.error.PolarsError.TheVariants.{ColumnNotFound, InvalidOperation, ComputeError, Duplicate, ShapeMismatch, SchemaMismatch, OutOfMemory}
use Rattle.tb_json.specs.Promise.Text.{invalid_data, compute_data, error_data, text_of_refusal}

plain-invalid : (c : InvalidCause) → has_float (invalid_data c) ≡ false
plain-invalid NoKeys = refl
plain-invalid (KeyCounts l r) = refl
plain-invalid (NullFlags f k) = refl
plain-invalid (KeyKind p) = refl
plain-invalid BothNone = refl
plain-invalid (HeaderType n) = refl
plain-invalid (AggType n) = refl
plain-invalid (NoSupertype n) = refl

plain-compute : (c : ComputeCause) → has_float (compute_data c) ≡ false
plain-compute (KeyTypes p) = refl
plain-compute (Validation s) = refl
plain-compute TooManyRows = refl
plain-compute EmptyIndex = refl
plain-compute EmptyOn = refl
plain-compute (BraceName n) = refl
plain-compute ManyInGroup = refl
plain-compute (SumRange n) = refl
plain-compute (EvaluateLength g v) = refl
plain-compute (Evaluate n) = refl

plain-error : (e : PolarsError) → has_float (error_data e) ≡ false
plain-error (ColumnNotFound n) = refl
plain-error (InvalidOperation c) = plain-invalid c
plain-error (ComputeError c) = plain-compute c
plain-error (Duplicate n) = refl
plain-error ShapeMismatch = refl
plain-error SchemaMismatch = refl
plain-error OutOfMemory = refl

-- a value without a float, its text, and the newline behind it
pub refusal_from : (e : PolarsError) (d : Data) (written all : List ℕ) → d ≡ error_data e → (has_float d ≡ false → written ≡ compact_text d) → all ≡ written ++ 10 ∷ [] → all ≡ text_of_refusal e
unfolding text_of_refusal
refusal_from e d written all is same end = end ∙ ap (λ s. s ++ 10 ∷ []) (same (ap has_float is ∙ plain-error e) ∙ ap compact_text is)
