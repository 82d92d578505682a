-- What the words of `muigratu group` ask.
use Rattle.std.specs.Prelude.{◌≡◌, codes, map, Some}
use Rattle.clap.specs.declared.parser.matches.Found.{Found}
use Rattle.tb_group_front.specs.Promise.Words.{agg_of_word}
use Rattle.tb_group_front.specs.declared.call.GroupCall.{GroupCall}
use Rattle.tb_words.specs.Words.{words_given, IsFlag}

-- each word of --agg asks for a column
pub record AsksGroup (words : Found) (c : GroupCall) : Type 0 where
  pub by : c.by.items ≡ words_given words (codes "by")
  pub aggs : map Some c.aggs.items ≡ map agg_of_word (words_given words (codes "agg"))
  pub sorts : IsFlag words (codes "sort") c.sorts
