-- What the words of `muigratu unpivot`, `dummies` and `pivot` ask.
use Rattle.std.specs.Prelude.{◌≡◌, List, ℕ, Option, Some, None, codes, option_map}
use Rattle.clap.specs.Matches.{first_value}
use Rattle.clap.specs.declared.parser.matches.Found.{Found}
use Rattle.tb_agg.specs.declared.table.Aggregate.{Aggregate}
use Rattle.tb_calls.specs.declared.arguments.DummiesCall.{DummiesCall}
use Rattle.tb_calls.specs.declared.arguments.PivotCall.{PivotCall}
use Rattle.tb_request.specs.Promise.Written.{agg_named}
use Rattle.tb_unpivot.specs.declared.frame_unpivot.UnpivotArgsIR.{UnpivotArgsIR}
use Rattle.tb_words.specs.Words.{word_means, words_given, words_of, IsFlag}

pub record AsksUnpivot (words : Found) (c : UnpivotArgsIR) : Type 0 where
  pub on : c.on.items ≡ words_given words (codes "on")
  pub index : c.index.items ≡ words_given words (codes "index")
  pub variable_name : c.variable_name ≡ first_value words (codes "variable-name")
  pub value_name : c.value_name ≡ first_value words (codes "value-name")

pub record AsksDummies (words : Found) (c : DummiesCall) : Type 0 where
  pub columns : option_map (λ v. v.items) c.columns ≡ words_of words (codes "columns")
  pub separator : c.separator ≡ first_value words (codes "name-separator")
  pub drop_first : IsFlag words (codes "drop-first") c.drop_first

-- no aggregate where none is asked, and else that of the word by the table of requests
abbrev pub agg_meant : Found → Option (Option Aggregate)
agg_meant words =
    word_means (λ w. option_map Some (agg_named w)) None (first_value words (codes "agg"))

pub record AsksPivot (words : Found) (c : PivotCall) : Type 0 where
  pub on : c.on.items ≡ words_given words (codes "on")
  pub index : option_map (λ v. v.items) c.index ≡ words_of words (codes "index")
  pub values : option_map (λ v. v.items) c.values ≡ words_of words (codes "values")
  pub sort_columns : IsFlag words (codes "sort-columns") c.sort_columns
  pub agg : agg_meant words ≡ Some c.agg
  pub separator : c.separator ≡ first_value words (codes "name-separator")
