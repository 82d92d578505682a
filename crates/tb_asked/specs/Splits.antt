-- What the words of `muigratu split` ask.
use Rattle.std.specs.Prelude.{◌≡◌, ◌≤◌, ℕ, List, Option, codes}
use Rattle.std.specs.Option.{IsSomeAnd}
use Rattle.clap.specs.Matches.{first_value}
use Rattle.clap.specs.declared.parser.matches.Found.{Found}
use Rattle.tb_split_front.specs.declared.call.TheConstants.{MAX_PARTS}
use Rattle.tb_split_front.specs.declared.call.SplitCall.{SplitCall}
use Rattle.tb_words.specs.Numbers.{number_of, IsNumber}
use Rattle.tb_words.specs.Words.{words_given}

-- a word is a number of parts
abbrev pub IsCount : List ℕ → Type 0
IsCount word = IsNumber word × (1 ≤ number_of word) × (number_of word ≤ MAX_PARTS)

abbrev pub IsCountOf : Option (List ℕ) → ℕ → Type 0
IsCountOf word n = IsSomeAnd word (λ w. IsCount w × (n ≡ number_of w))

pub record AsksSplit (words : Found) (c : SplitCall) : Type 0 where
  pub on : c.on.items ≡ words_given words (codes "on")
  pub parts : IsCountOf (first_value words (codes "parts")) c.parts
  pub number : c.number ≡ first_value words (codes "number")
