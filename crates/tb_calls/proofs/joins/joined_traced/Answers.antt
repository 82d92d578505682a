use Rattle.tb_frame.specs.Promise.Table.{table_of}
use Rattle.tb_calls.proofs.Lent.{join_answers, join_settles, join_tells}
use Rattle.tb_calls.proofs.joins.joined_traced.Goals as goal

pub returns-clause-settles : goal.returns-clause-settles
returns-clause-settles g c = join_settles c.args.call _ _ _ _ c.deref.ensures.value c.deref-2.ensures.value _ c.join_traced.ensures.settles

pub returns-clause-answer : goal.returns-clause-answer
returns-clause-answer g c = join_answers c.args.call _ _ _ _ c.deref.ensures.value c.deref-2.ensures.value (λ x. table_of x.0) _ c.join_traced.ensures.answer

pub returns-clause-traced : goal.returns-clause-traced
returns-clause-traced g c = join_tells c.args.call _ _ _ _ c.deref.ensures.value c.deref-2.ensures.value _ (λ x. x.1) _ c.join_traced.ensures.traced
