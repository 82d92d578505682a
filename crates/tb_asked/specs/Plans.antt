-- The files of the tables that a plan names.
use Rattle.std.specs.Prelude.{◌≡◌, ◌==◌, List, ℕ, Option, Some, None, if◌then◌else◌, codes, length, map}
use Rattle.std.specs.List.{after_first, before_first, position_or_len}
use Rattle.clap.specs.declared.parser.matches.Found.{Found}
use Rattle.tb_frame.specs.Promise.Refusal.{repeated_among}
use Rattle.tb_asked.specs.declared.plans.NamedFile.{NamedFile}
use Rattle.tb_words.specs.Words.{is_sign, words_given}

abbrev pub named_file : NamedFile → List ℕ × List ℕ
named_file f = (f.name, f.file.now)

-- a name and a file round the first `=` of a word
abbrev pub file_named : List ℕ → Option (List ℕ × List ℕ)
file_named w = if position_or_len is_sign w == length w then None
    else Some (before_first is_sign w, after_first is_sign w)

-- each word of a plan's tables gives a file under a name, and no two have one name
pub record AskFiles (words : Found) (files : List NamedFile) : Type 0 where
  pub each : map Some (map named_file files) ≡ map file_named (words_given words (codes "TABLES"))
  pub once : repeated_among (map (λ f. f.name) files) ≡ None
