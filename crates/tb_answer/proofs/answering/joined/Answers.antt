use Rattle.tb_frame.specs.Promise.Table.{table_of}
use Rattle.tb_calls.proofs.Lent.{join_answers, join_settles}
use Rattle.tb_answer.proofs.answering.joined.Goals as goal

pub returns-clause-settles : goal.returns-clause-settles
returns-clause-settles c = join_settles c.args.call _ _ _ _ c.deref.ensures.value c.deref-2.ensures.value _ c.join_alone.ensures.settles

pub returns-clause-answer : goal.returns-clause-answer
returns-clause-answer c = join_answers c.args.call _ _ _ _ c.deref.ensures.value c.deref-2.ensures.value (λ t. table_of t) _ c.join_alone.ensures.answer
