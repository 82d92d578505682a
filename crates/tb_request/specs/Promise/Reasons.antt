-- The words for why bytes are no request.
use Rattle.std.specs.Prelude.{ℕ, ◌++◌, List, [], ◌∷◌, codes}
use Rattle.tb_request.specs.declared.request.Reason.{Reason}
use Rattle.tb_request.specs.declared.request.Reason.TheVariants as why

-- why bytes are no request
abbrev pub reason_word : Reason → List ℕ
reason_word why.Json = codes "Json"
reason_word why.Shape = codes "Shape"
reason_word why.Value = codes "Value"
reason_word why.Rows = codes "Rows"
reason_word why.Exec = codes "Exec"
reason_word why.Heights = codes "Heights"
reason_word why.Name = codes "Name"
reason_word why.Flag = codes "Flag"

-- the text that tells the reason
abbrev pub bad_request_text : Reason → List ℕ
bad_request_text reason =
    codes "{\"error\":\"BadRequest\",\"reason\":\"" ++ reason_word reason ++ codes "\"}" ++ 10 ∷ []
