use Rattle.std.proofs.Common.{◌∙◌, [], Some, ap, unwrap_or}
use Rattle.tb_words.specs.Words.{given_words}
use Rattle.tb_words.proofs.WholeWords.{some_words, whole}
use Rattle.tb_words.proofs.names.names_given.Goals as goal

pub returns-in_ok-names_of-in-Some : goal.returns-in_ok-names_of-in-Some
returns-in_ok-names_of-in-Some c =
    ap Some (c.in_ok-names_of-in-Some.ensures ∙ whole (unwrap_or (given_words c.get_strs-words.result) []))
    ∙ some_words c.get_strs-words.result c.in-Some.field-0 c.in-Some.is
    ∙ c.get_strs-words.ensures
