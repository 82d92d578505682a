-- What a fault tells of the words of a command.
use Rattle.std.specs.Prelude.{◌≡◌, ℕ, List, Option, Some, None, codes, map, true, false, IsSome, IsSomeAnd, ⊤, Result, MatchResult}
use Rattle.std.specs.Borrow.{Bor}
use Rattle.std.specs.List.{Contains}
use Rattle.clap.specs.Matches.{first_value}
use Rattle.clap.specs.declared.parser.matches.Found.{Found}
use Rattle.tb_csv.specs.declared.options.TypeOf.{TypeOf}
use Rattle.tb_frame.specs.Promise.Refusal.{repeated_among}
use Rattle.tb_frame.specs.declared.null_flags.JoinNulls.{JoinNulls}
use Rattle.tb_group_front.specs.Promise.Words.{agg_of_word}
use Rattle.tb_request.specs.Promise.Written.{agg_named, coalesce_named, how_named, validation_named}
use Rattle.tb_value.specs.Promise.Names.{Name}
use Rattle.tb_words.specs.Numbers.{separator_in, IsSlice, IsThreads, IsWidth}
use Rattle.tb_words.specs.Words.{has_blank, words_given, words_of, IsUnknown}
use Rattle.tb_words.specs.declared.fault.Choice.{Choice}
use Rattle.tb_words.specs.declared.fault.Choice.TheVariants.{How, Validation, Coalesce, Order, Aggregate, Form, Command}
use Rattle.tb_words.specs.declared.fault.WordFault.{WordFault}
use Rattle.tb_words.specs.declared.fault.WordFault.TheVariants.{TypedTwice, NamedTwice, NoNamedFile, NoWord, EmptyOn, Wanting, NoType, NoSlice, NoKey, NoSeparator, NoAgg, NoWidth, NoParts, NoThreads, OneInput, NotUtf8, OutOfMemory}
use Rattle.tb_asked.specs.Joins.{left_keys, nulls_meant, order_word, unknown_key}
use Rattle.tb_asked.specs.Options.{form_word, type_given, AreTyped}
use Rattle.tb_asked.specs.Plans.{file_named}
use Rattle.tb_asked.specs.Splits.{IsCount}

-- no table has the word of a choice
abbrev pub IsUnmeant : Found → Choice → Type 0
IsUnmeant words How = IsUnknown how_named (first_value words (codes "how"))
IsUnmeant words Validation = IsUnknown validation_named (first_value words (codes "validate"))
IsUnmeant words Coalesce = IsUnknown coalesce_named (first_value words (codes "coalesce"))
IsUnmeant words Order = IsUnknown order_word (first_value words (codes "order"))
IsUnmeant words Aggregate = IsUnknown agg_named (first_value words (codes "agg"))
IsUnmeant words Form = IsUnknown (form_word 0) (first_value words (codes "as"))
IsUnmeant words Command = ⊥

-- a word is one of these, and nothing is given by it
abbrev pub GivesNone : {T : Type 0} → (List ℕ → Option T) → List (List ℕ) → List ℕ → Type 0
GivesNone given words word = Contains words word × (given word ≡ None)

-- the names that the words of --types give types to, and those that the words of a plan's tables give files to
abbrev pub TypeNames : Found → List Name → Type 0
TypeNames words names = (ts : List TypeOf)
    × AreTyped (words_given words (codes "types")) ts × (names ≡ map (λ t. t.name) ts)

abbrev pub FileNames : Found → List Name → Type 0
FileNames words names = (fs : List (List ℕ × List ℕ))
    × (map Some fs ≡ map file_named (words_given words (codes "TABLES")))
    × (names ≡ map (λ f. f.0) fs)

-- want of memory tells nothing of them
abbrev pub Tells : Found → WordFault → Type 0
Tells words EmptyOn = has_blank (words_of words (codes "on")) ≡ true
Tells words (Wanting option) = first_value words option.now ≡ None
Tells words (NoWord choice word) = IsUnmeant words choice
Tells words (NoType word) = GivesNone type_given (words_given words (codes "types")) word.now
Tells words (TypedTwice name) =
    (names : List Name) × TypeNames words names × IsSome (repeated_among names)
Tells words (NoNamedFile word) =
    GivesNone file_named (words_given words (codes "TABLES")) word.now
Tells words (NamedTwice name) =
    (names : List Name) × FileNames words names × IsSome (repeated_among names)
Tells words (NoSlice word) = IsSomeAnd (first_value words (codes "slice")) (λ w. ¬ (IsSlice w))
Tells words (NoKey name) = IsSome (unknown_key (left_keys words) words)
Tells words (NoSeparator word) = IsUnknown separator_in (first_value words (codes "separator"))
Tells words (NoAgg word) = GivesNone agg_of_word (words_given words (codes "agg")) word.now
Tells words (NoWidth word) = IsSomeAnd (first_value words (codes "width")) (λ w. ¬ (IsWidth w))
Tells words (NoParts word) = IsSomeAnd (first_value words (codes "parts")) (λ w. ¬ (IsCount w))
Tells words (NoThreads word) =
    IsSomeAnd (first_value words (codes "threads")) (λ w. ¬ (IsThreads w))
Tells words OneInput = ⊥
Tells words NotUtf8 = ⊥
Tells words OutOfMemory = ⊤

-- in which keys absent values match, or a fault that tells of words whose left keys these are
abbrev pub GivesNulls : List Name → Found → Result JoinNulls WordFault → Type 0
GivesNulls keys words r = MatchResult r
    (λ nulls. (unknown_key keys words ≡ None) × (nulls ≡ nulls_meant keys words))
    (λ e. keys ≡ left_keys words → Tells words e)

-- ---- of single words, and of the words of an option

abbrev pub IsNoType : Bor (List ℕ) → WordFault → Type 0
IsNoType word (NoType w) = (w ≡ word) × (type_given word.now ≡ None)
IsNoType word OutOfMemory = ⊤
IsNoType word _ = ⊥

abbrev pub IsTypeFault : List (List ℕ) → WordFault → Type 0
IsTypeFault given (NoType w) = GivesNone type_given given w.now
IsTypeFault given OutOfMemory = ⊤
IsTypeFault given _ = ⊥

abbrev pub IsNoFile : Bor (List ℕ) → WordFault → Type 0
IsNoFile word (NoNamedFile w) = (w ≡ word) × (file_named word.now ≡ None)
IsNoFile word OutOfMemory = ⊤
IsNoFile word _ = ⊥

abbrev pub IsFileFault : List (List ℕ) → WordFault → Type 0
IsFileFault given (NoNamedFile w) = GivesNone file_named given w.now
IsFileFault given OutOfMemory = ⊤
IsFileFault given _ = ⊥

abbrev pub IsAggFault : List (List ℕ) → WordFault → Type 0
IsAggFault given (NoAgg w) = GivesNone agg_of_word given w.now
IsAggFault given OutOfMemory = ⊤
IsAggFault given _ = ⊥
