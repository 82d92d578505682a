-- What words of commands mean.
use Rattle.std.specs.Prelude.{◌≡◌, ℕ, ◌==◌, nat_eq, Bool, true, false, List, [], length, map, codes, if◌then◌else◌, Option, Some, None, option_map, unwrap_or, IsSomeAnd}
use Rattle.std.specs.List.{after_first, before_first, list_any, position_or_len}
use Rattle.std.specs.Option.{option_map_or}
use Rattle.std.specs.Borrow.{Bor}
use Rattle.clap.specs.Matches.{matched_of, one_text, raw_uses, raw_values}
use Rattle.clap.specs.declared.parser.matches.Found.{Found}
use Rattle.tb_words.specs.declared.names.Part.{Part}
use Rattle.tb_words.specs.declared.names.Part.TheVariants.{Whole, BeforeSign, BehindSign}
use Rattle.tb_words.specs.declared.fault.WordFault.{WordFault}
use Rattle.tb_words.specs.declared.fault.WordFault.TheVariants.{OutOfMemory}

-- ---- the words of an option

abbrev pub is_blank : {T : Type 0} → List T → Bool
is_blank w = nat_eq (length w) 0

-- those of all its uses, if there is one
abbrev pub words_of : Found → List ℕ → Option (List (List ℕ))
words_of words name = option_map raw_values (matched_of words name)

-- the same, and none where it isn't used
abbrev pub words_given : Found → List ℕ → List (List ℕ)
words_given words name = unwrap_or (words_of words name) []

-- a word and words that are lent
abbrev pub lent : Option (Bor (List ℕ)) → Option (List ℕ)
lent word = option_map (λ w. w.now) word

abbrev pub given_words : Option (Bor (List (Bor (List ℕ)))) → Option (List (List ℕ))
given_words words = option_map (λ ws. map (λ w. w.now) ws.now) words

-- one of them is empty
abbrev pub has_blank : Option (List (List ℕ)) → Bool
has_blank words = option_map_or (λ ws. list_any is_blank ws) words false

-- an option is used without a word behind it, perhaps among other uses
abbrev pub stands_alone : Found → List ℕ → Bool
stands_alone words name =
    option_map_or (λ a. list_any is_blank (raw_uses a)) (matched_of words name) false

-- whether an option is used that takes nothing
pub record IsFlag (words : Found) (name : List ℕ) (b : Bool) : Type 0 where
  pub absent : one_text words name ≡ None → b ≡ false
  pub off : one_text words name ≡ Some (codes "false") → b ≡ false
  pub on : one_text words name ≡ Some (codes "true") → b ≡ true

-- ---- names

abbrev pub is_sign : ℕ → Bool
is_sign c = c == 61

-- the part of a word before its first `=`, or all where there is none
abbrev pub name_before : List ℕ → List ℕ
name_before w = before_first is_sign w

-- the part behind it, or all where there is none
abbrev pub name_behind : List ℕ → List ℕ
name_behind w = (if position_or_len is_sign w == length w then w else after_first is_sign w)

abbrev pub name_in : Part → List ℕ → List ℕ
name_in Whole w = w
name_in BeforeSign w = name_before w
name_in BehindSign w = name_behind w

-- ---- choices

-- what a word means by a table of words, and what is meant where no word is given
abbrev pub word_means : {T : Type 0} → (List ℕ → Option T) → T → Option (List ℕ) → Option T
word_means named absent None = Some absent
word_means named absent (Some word) = named word

-- a word is given that the table has not
abbrev pub IsUnknown : {T : Type 0} → (List ℕ → Option T) → Option (List ℕ) → Type 0
IsUnknown named word = IsSomeAnd word (λ w. named w ≡ None)

-- ---- faults

-- the status of words that ask nothing that can be done, and of want of memory
abbrev pub word_status : WordFault → ℕ
word_status OutOfMemory = 6
word_status _ = 2
