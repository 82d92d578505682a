use Rattle.tb_front.proofs.Joined.{texts_answer, texts_settle}
use Rattle.tb_front.proofs.asking.join_texts.Goals as goal

pub returns-clause-settles : goal.returns-clause-settles
returns-clause-settles g c =
    texts_settle c.args.options.now c.args.call c.args.left.items c.args.right.items _ _ c.deref.ensures.value c.deref-2.ensures.value _ _
    c.in_ok-tables.ensures.left c.in_ok-tables.ensures.right _ c.in_ok-tables.ensures.settles c.join_tables.ensures.settles

pub returns-clause-answer : goal.returns-clause-answer
returns-clause-answer g c =
    texts_answer c.args.options.now c.args.call c.args.left.items c.args.right.items _ _ c.deref.ensures.value c.deref-2.ensures.value _ _
    c.in_ok-tables.ensures.left c.in_ok-tables.ensures.right _ c.join_tables.ensures.answer
