-- How files are read and answers are written, as words say it.
use Rattle.std.specs.Prelude.{◌≡◌, ◌==◌, ◌≤◌, ◌^◌, ◌-◌, List, [], ◌∷◌, ℕ, Option, Some, None, codes, if◌then◌else◌, length, map, option_map, unwrap_or}
use Rattle.std.specs.List.{after_last, before_last, position_or_len}
use Rattle.std.specs.Str.{bytes_eq}
use Rattle.clap.specs.Matches.{first_value}
use Rattle.clap.specs.declared.parser.matches.Found.{Found}
use Rattle.tb_csv.specs.declared.field_type.FieldType.{FieldType}
use Rattle.tb_csv.specs.declared.field_type.FieldType.TheVariants as type
use Rattle.tb_csv.specs.declared.options.CsvOptions.{CsvOptions}
use Rattle.tb_csv.specs.declared.options.TypeOf.{TypeOf}
use Rattle.tb_frame.specs.Promise.Refusal.{repeated_among}
use Rattle.tb_value.specs.Promise.Names.{Name}
use Rattle.tb_front.specs.declared.options.TextForm.{TextForm}
use Rattle.tb_front.specs.declared.options.TextForm.TheVariants.{Csv, Json, Layout}
use Rattle.tb_front.specs.declared.options.TextOptions.{TextOptions}
use Rattle.tb_words.specs.Numbers.{number_of, separator_in, IsThreads, IsWidth}
use Rattle.tb_asked.specs.declared.options.Host.{Host}
use Rattle.tb_words.specs.Words.{is_sign, word_means, words_given}

-- ---- types

abbrev pub type_named : List ℕ → Option FieldType
type_named w =
    if bytes_eq w (codes "bool") then Some type.Boolean
    else if bytes_eq w (codes "i8") then Some type.Int8
    else if bytes_eq w (codes "i16") then Some type.Int16
    else if bytes_eq w (codes "i32") then Some type.Int32
    else if bytes_eq w (codes "i64") then Some type.Int64
    else if bytes_eq w (codes "i128") then Some type.Int128
    else if bytes_eq w (codes "u8") then Some type.UInt8
    else if bytes_eq w (codes "u16") then Some type.UInt16
    else if bytes_eq w (codes "u32") then Some type.UInt32
    else if bytes_eq w (codes "u64") then Some type.UInt64
    else if bytes_eq w (codes "str") then Some type.String
    else if bytes_eq w (codes "date") then Some type.Date
    else None

abbrev pub typed_name : TypeOf → Name × FieldType
typed_name t = (t.name, t.field_type)

-- the name before the last `=` of a word, and the type behind it
abbrev pub type_given : List ℕ → Option (Name × FieldType)
type_given w = if position_or_len is_sign w == length w then None
    else option_map (λ t. (before_last is_sign w, t)) (type_named (after_last is_sign w))

-- each word gives the type at its place
abbrev pub AreTyped : List (List ℕ) → List TypeOf → Type 0
AreTyped given types = map Some (map typed_name types) ≡ map type_given given

-- each word of --types gives a type, and no two to one name
pub record AskTypes (words : Found) (types : List TypeOf) : Type 0 where
  pub each : AreTyped (words_given words (codes "types")) types
  pub once : repeated_among (map (λ t. t.name) types) ≡ None

-- ---- fields

-- a comma where no word is given
abbrev pub separator_asked : Found → Option ℕ
separator_asked words = word_means separator_in 44 (first_value words (codes "separator"))

pub record AsksCsv (words : Found) (o : CsvOptions) : Type 0 where
  pub separator : separator_asked words ≡ Some o.separator
  pub types : AskTypes words o.types.items

-- ---- the answer

-- the width of the word, or else that of the screen, or one that cuts nothing
abbrev pub IsWidthOf : Option ℕ → Option (List ℕ) → ℕ → Type 0
IsWidthOf screen None width = width ≡ unwrap_or screen (2 ^ 64 - 1)
IsWidthOf screen (Some word) width = IsWidth word × (width ≡ number_of word)

abbrev pub form_word : ℕ → List ℕ → Option TextForm
form_word width w =
    if bytes_eq w (codes "csv") then Some Csv
    else if bytes_eq w (codes "json") then Some Json
    else if bytes_eq w (codes "table") then Some (Layout width)
    else None

-- comma-separated values where no form is asked
abbrev pub form_meant : ℕ → Found → Option TextForm
form_meant width words = word_means (form_word width) Csv (first_value words (codes "as"))

-- ---- threads

-- the number of the word, or else that of the processors, as far as it is one of 1 to 1,024
abbrev pub IsThreadsOf : ℕ → Option (List ℕ) → ℕ → Type 0
IsThreadsOf processors None n =
    (1 ≤ n) × (n ≤ 1024) × (1 ≤ processors → processors ≤ 1024 → n ≡ processors)
IsThreadsOf processors (Some word) n = IsThreads word × (n ≡ number_of word)

-- ---- the whole

pub record AsksOptions (host : Host) (words : Found) (o : TextOptions) : Type 0 where
  pub csv : AsksCsv words o.csv
  pub width : ℕ
  pub wide : IsWidthOf host.screen (first_value words (codes "width")) width
  pub form : form_meant width words ≡ Some o.form
  pub threads : IsThreadsOf host.processors (first_value words (codes "threads")) o.exec.workers
