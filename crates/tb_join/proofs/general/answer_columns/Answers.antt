use Rattle.std.proofs.Common.{◌∙◌, ap, sym}
use Rattle.tb_frame.specs.Promise.Table.{table_of}
use Rattle.tb_keys.specs.Asked.{asked_request}
use Rattle.tb_join.proofs.AnswerMade.{columns-are}
use Rattle.tb_join.proofs.general.answer_columns.Goals as goal

pub returns-in_ok-plain_columns-clause-columns : goal.returns-in_ok-plain_columns-clause-columns
returns-in_ok-plain_columns-clause-columns g c =
    let r = c.args.request.now in
    ap table_of c.in_ok-plain_columns.ensures
    ∙ columns-are (asked_request r) r.left.now r.right.now c.args.pairs.now (sym c.coalesces_keys.ensures ∙ c.if-coalesces_keys.false) (λ _. table_of r.left.now) (λ _. table_of r.right.now)
