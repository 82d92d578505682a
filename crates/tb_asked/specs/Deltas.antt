-- What the words of `muigratu delta` ask.
use Rattle.std.specs.Prelude.{◌≡◌, codes, option_map, Some}
use Rattle.clap.specs.Matches.{first_value}
use Rattle.clap.specs.declared.parser.matches.Found.{Found}
use Rattle.tb_delta_front.specs.declared.deltas.DeltaCall.{DeltaCall}
use Rattle.tb_words.specs.Words.{name_before, name_behind, IsFlag}

-- the word of --on names the keys of both sides, and --join-nulls says that absent ones match
pub record AsksDelta (words : Found) (c : DeltaCall) : Type 0 where
  pub left : option_map name_before (first_value words (codes "on")) ≡ Some c.left_on
  pub right : option_map name_behind (first_value words (codes "on")) ≡ Some c.right_on
  pub nulls : IsFlag words (codes "join-nulls") c.join_nulls
