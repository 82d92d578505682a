-- What the words of `muigratu join` ask.
use Rattle.std.specs.Prelude.{◌≡◌, List, ℕ, ℤ, Option, Some, None, codes, if◌then◌else◌, map, not, true, false}
use Rattle.std.specs.List.{position}
use Rattle.std.specs.Option.{option_map_or}
use Rattle.std.specs.Str.{bytes_eq}
use Rattle.clap.specs.Matches.{first_value}
use Rattle.clap.specs.declared.parser.matches.Found.{Found}
use Rattle.tb_value.specs.Promise.Names.{Name}
use Rattle.tb_calls.specs.declared.arguments.JoinCall.{JoinCall}
use Rattle.tb_frame.specs.Promise.Naming.{is_among}
use Rattle.tb_frame.specs.declared.args.JoinArgs.{JoinArgs}
use Rattle.tb_frame.specs.declared.args.JoinType.{JoinType}
use Rattle.tb_frame.specs.declared.args.JoinType.TheVariants.{Inner, Full}
use Rattle.tb_frame.specs.declared.args.JoinValidation.{JoinValidation}
use Rattle.tb_frame.specs.declared.args.JoinValidation.TheVariants.{ManyToMany}
use Rattle.tb_frame.specs.declared.args.JoinCoalesce.{JoinCoalesce}
use Rattle.tb_frame.specs.declared.args.JoinCoalesce.TheVariants.{JoinSpecific}
use Rattle.tb_frame.specs.declared.args.MaintainOrderJoin.{MaintainOrderJoin}
use Rattle.tb_frame.specs.declared.args.MaintainOrderJoin.TheVariants as order
use Rattle.tb_frame.specs.declared.null_flags.JoinNulls.{JoinNulls}
use Rattle.tb_frame.specs.declared.null_flags.JoinNulls.TheVariants.{All, Each}
use Rattle.tb_request.specs.Promise.Written.{coalesce_named, how_named, order_named, validation_named}
use Rattle.tb_words.specs.Numbers.{slice_of, IsSlice}
use Rattle.tb_words.specs.Words.{name_before, name_behind, stands_alone, word_means, words_given, words_of}

-- ---- choices, by the tables of requests

abbrev pub how_meant : Found → Option JoinType
how_meant words = word_means how_named Inner (first_value words (codes "how"))

abbrev pub validation_meant : Found → Option JoinValidation
validation_meant words =
    word_means validation_named ManyToMany (first_value words (codes "validate"))

abbrev pub coalesce_meant : Found → Option JoinCoalesce
coalesce_meant words =
    word_means coalesce_named JoinSpecific (first_value words (codes "coalesce"))

-- a hyphen may stand for the line between two words of an order
abbrev pub order_word : List ℕ → Option MaintainOrderJoin
order_word w =
    if bytes_eq w (codes "left-right") then Some order.LeftRight
    else if bytes_eq w (codes "right-left") then Some order.RightLeft
    else order_named w

-- the order where none is asked
abbrev pub order_unasked : JoinType → MaintainOrderJoin
order_unasked Inner = order.LeftRight
order_unasked Full = order.LeftRight
order_unasked _ = order.None

abbrev pub order_meant : JoinType → Found → Option MaintainOrderJoin
order_meant how words =
    word_means order_word (order_unasked how) (first_value words (codes "order"))

-- ---- keys

-- each key stands in a word of --on, the left name before the first `=` and the right one behind it, or one name for both
abbrev pub left_keys : Found → List Name
left_keys words = map name_before (words_given words (codes "on"))

abbrev pub right_keys : Found → List Name
right_keys words = map name_behind (words_given words (codes "on"))

-- ---- keys whose absent values match

-- all where --join-nulls is used without a name, else those that it names
abbrev pub nulls_meant : List Name → Found → JoinNulls
nulls_meant keys words = if stands_alone words (codes "join-nulls") then All true
    else option_map_or (λ names. Each (map (is_among names) keys))
    (words_of words (codes "join-nulls")) (All false)

-- the place of the first of these names that is no left key
abbrev pub unknown_key : List Name → Found → Option ℕ
unknown_key keys words = if stands_alone words (codes "join-nulls") then None
    else position (λ n. not (is_among keys n)) (words_given words (codes "join-nulls"))

-- ---- the slice

-- none where no word is given, and else that of the word
abbrev pub IsSliceOf : Option (List ℕ) → Option (ℤ × ℕ) → Type 0
IsSliceOf None s = s ≡ None
IsSliceOf (Some word) s = IsSlice word × (s ≡ Some (slice_of word))

-- ---- the whole

pub record AsksJoinArgs (words : Found) (keys : List Name) (a : JoinArgs) : Type 0 where
  pub how : how_meant words ≡ Some a.how
  pub validation : validation_meant words ≡ Some a.validation
  pub coalesce : coalesce_meant words ≡ Some a.coalesce
  pub order : order_meant a.how words ≡ Some a.maintain_order
  pub suffix : a.suffix ≡ first_value words (codes "suffix")
  pub slice : IsSliceOf (first_value words (codes "slice")) a.slice
  pub known : unknown_key keys words ≡ None
  pub nulls : a.join_nulls ≡ nulls_meant keys words

pub record AsksJoin (words : Found) (c : JoinCall) : Type 0 where
  pub left : c.left_on.items ≡ left_keys words
  pub right : c.right_on.items ≡ right_keys words
  pub args : AsksJoinArgs words c.left_on.items c.args
