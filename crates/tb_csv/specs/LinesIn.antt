-- The lines of a text, without a count of turns.
use Rattle.std.specs.Prelude.{◌++◌, ℕ, List, [], ◌∷◌, if◌then◌else◌}
use Rattle.csv.specs.Machine.{ends_at_end, field_after, fields_after, is_end, step}
use Rattle.csv.specs.declared.parser.Config.{Config}
use Rattle.csv.specs.declared.parser.State.{State}
use Rattle.tb_csv.specs.Promise.Records.{Line}

-- the lines that end from a state on, with the fields and the bytes of the field at hand
unfoldable pub lines_in : Config → State → Line → List ℕ → List ℕ → List Line
lines_in cfg s fields field [] = if ends_at_end s then (fields ++ field ∷ []) ∷ [] else []
lines_in cfg s fields field (c ∷ rest) =
    if is_end (step cfg s c).1
    then fields_after (step cfg s c).1 fields field ∷ lines_in cfg (step cfg s c).0 [] [] rest
    else lines_in cfg (step cfg s c).0 (fields_after (step cfg s c).1 fields field)
    (field_after (step cfg s c).1 c field) rest
