-- The value that bytes are, and why there is none.
use Rattle.std.proofs.Common.{◌≡◌, ◌∙◌, ℕ, List, Bool, true, false, cond, Option, None, Some, refl, ap}
use Rattle.std.specs.Str.{is_utf8, IsUtf8}
use Rattle.std.specs.Prelude.{Result, Ok, Err, ok_or}
use Rattle.std.proofs.lemmas.Str.{IsUtf8-from_is_utf8, is_utf8-from_IsUtf8}
use Rattle.serde_json.specs.Data.{Data}
use Rattle.serde_json.specs.Read.{read}
use Rattle.tb_request.specs.declared.request.Reason.{Reason}
use Rattle.tb_request.specs.declared.request.Reason.TheVariants.{Json}
use Rattle.tb_request.specs.declared.request.RequestFault.{RequestFault}
use Rattle.tb_request.specs.declared.request.RequestFault.TheVariants.{OutOfMemory, NoRequest}
use Rattle.tb_request.specs.Promise.Reading.{◌>>=◌, value_of, FaultIs}

none_of : {A : Type 0} (b : Bool) (o : Option A) → (b ≡ true → o ≡ None) → cond b o None ≡ None
none_of true o h = h refl
none_of false o h = refl

pub not_read : (bytes : List ℕ) → (IsUtf8 bytes → read bytes ≡ None) → value_of bytes ≡ Err Json
unfolding value_of
not_read bytes h = ap (λ o. ok_or o Json) (none_of (is_utf8 bytes) (read bytes) (λ e. h (IsUtf8-from_is_utf8 bytes e)))

pub text_read : (bytes : List ℕ) (d : Data) → IsUtf8 bytes → read bytes ≡ Some d → value_of bytes ≡ Ok d
unfolding value_of
text_read bytes d h e = ap (λ b. ok_or (cond b (read bytes) None) Json) (is_utf8-from_IsUtf8 bytes h) ∙ ap (λ o. ok_or o Json) e

none_or_json : {A : Type 0} (o : Option A) (reason : Reason) → ok_or o Json ≡ Err reason → ok_or o Json ≡ Err Json
none_or_json None reason e = refl
none_or_json (Some a) reason e = cc

is_json : (bytes : List ℕ) (reason : Reason) → value_of bytes ≡ Err reason → value_of bytes ≡ Err Json
unfolding value_of
is_json bytes reason e = none_or_json (cond (is_utf8 bytes) (read bytes) None) reason e

-- a fault of bytes as a value that is not want of memory says that they are no JSON text
pub no_value : (bytes : List ℕ) (fault : RequestFault) (reason : Reason) → fault ≡ NoRequest reason → FaultIs fault (value_of bytes) → value_of bytes ≡ Err Json
no_value bytes OutOfMemory reason e h = cc
no_value bytes (NoRequest why) reason e h = is_json bytes why h

-- a fault of the first step is one of all
pub fault_passes : {A B : Type 0} (e : RequestFault) (r : Result A Reason) (f : A → Result B Reason) → FaultIs e r → FaultIs e (r >>= f)
fault_passes OutOfMemory r f h = tt
fault_passes (NoRequest reason) r f h = ap (λ s. s >>= f) h
