use Rattle.std.proofs.Common.{◌∙◌, List, ap, sym}
use Rattle.tb_node.specs.Seen.{given_tables}
use Rattle.tb_node.specs.declared.tables.NamedTable.{NamedTable}
use Rattle.tb_front.proofs.Dues.{goes_on}
use Rattle.tb_plan_front.specs.Explained.{lines_view}
use Rattle.tb_plan_front.specs.Plans.{given_texts, plan_asked}
use Rattle.tb_plan_front.specs.Promise.Explained.{explained_plan, plan_lines}
use Rattle.tb_plan_front.specs.Promise.Plans.{tables_of}
use Rattle.tb_plan_front.proofs.Planned.{gives_as}
use Rattle.tb_plan_front.proofs.explaining.plan_lines.Goals as goal

pub returns-in-Ok : goal.returns-in-Ok
returns-in-Ok g c =
    let o = c.args.options.now.csv in
    let texts = given_texts c.args.texts.items in
    let a = plan_asked c.args.call in
    gives_as (λ v. lines_view v.items) c.explained_plan.result (plan_lines o texts a) (explained_plan (given_tables c.deref.result.now) a)
    (goes_on (tables_of o texts) (λ t. explained_plan t a) (given_tables c.in-Ok.tables.items) c.in-Ok.ensures ∙ ap (λ (ts : List NamedTable). explained_plan (given_tables ts) a) (sym c.deref.ensures.value))
    c.explained_plan.ensures
