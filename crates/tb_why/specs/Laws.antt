-- What holds of the places in requests.
use Rattle.std.specs.Prelude.{◌≡◌, ◌↔◌, ℕ, List, [], Some, None, IsSomeAnd, Ok}
use Rattle.serde_json.specs.Data.{Data}
use Rattle.serde_json.specs.Find.{as_object}
use Rattle.tb_request.specs.declared.request.Reason.{Reason}
use Rattle.tb_request.specs.Promise.Reading.{value_of}
use Rattle.tb_why.specs.declared.spot.Command.{Command}
use Rattle.tb_why.specs.Requests.{reason_of, request_spot}

-- a place is found, which is the whole exactly where the whole is no object
abbrev pub HasPlace : Command → Reason → Data → Type 0
HasPlace command reason d =
    IsSomeAnd (request_spot command reason d) (λ s. (s.path ≡ []) ↔ (as_object d ≡ None))

-- so it is for each reason why the text of a value is no request
abbrev pub EachReasonHasAPlace : Type 0
EachReasonHasAPlace =
    (command : Command) (bytes : List ℕ) (d : Data) (reason : Reason) → value_of bytes ≡ Ok d
    → reason_of command bytes ≡ Some reason → HasPlace command reason d
