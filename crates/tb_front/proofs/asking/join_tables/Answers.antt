use Rattle.std.proofs.Common.{◌≡◌, ◌∙◌, None, sym}
use Rattle.tb_frame.specs.Promise.Join.{IsAnswer}
use Rattle.tb_frame.specs.Promise.Table.{table_of}
use Rattle.tb_calls.specs.Promise.Asked.{joined_of}
use Rattle.tb_front.specs.Promise.Faults.{key_clash}
use Rattle.tb_front.proofs.Joined.{joining_settles}
use Rattle.tb_front.proofs.Outcomes.{outcome_answers}
use Rattle.tb_front.proofs.Watching.{watched_answer, watched_settles}
use Rattle.tb_front.proofs.asking.join_tables.Goals as goal

pub returns-clause-settles : goal.returns-clause-settles
returns-clause-settles g c =
    let o = c.args.options.now in
    let l = table_of c.args.tables.left in
    let r = table_of c.args.tables.right in
    let none : key_clash l r c.args.call.left_on.items c.args.call.right_on.items ≡ None = sym (λ t. key_clash l r (c.deref.ensures.value t) (c.deref-2.ensures.value t)) ∙ c.in_ok-check_keys.ensures in
    joining_settles o.form o.csv.separator (joined_of c.args.call l r) (key_clash l r c.args.call.left_on.items c.args.call.right_on.items) _ _ none (watched_settles _ _ c.watched-outcome.ensures _ c.joined_traced-outcome.ensures.settles) (watched_answer _ _ c.watched-outcome.ensures _ c.joined_traced-outcome.ensures.answer) c.written.ensures

pub returns-clause-answer : goal.returns-clause-answer
returns-clause-answer g c =
    outcome_answers c.args.options.now.form c.args.options.now.csv.separator (IsAnswer (joined_of c.args.call (table_of c.args.tables.left) (table_of c.args.tables.right))) _ _ (watched_answer _ _ c.watched-outcome.ensures _ c.joined_traced-outcome.ensures.answer) c.written.ensures
