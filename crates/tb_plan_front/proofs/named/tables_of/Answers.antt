use Rattle.std.proofs.Common.{◌≡◌, ◌∙◌, [], Option, Ok, Some, None, ap, sym, subst}
use mathlib.Core.Logic.{◌⊎◌}
use Rattle.tb_node.specs.Seen.{given_tables}
use Rattle.tb_plan_front.specs.Plans.{given_texts}
use Rattle.tb_front.specs.declared.fault.FrontFault.{FrontFault}
use Rattle.tb_front.specs.declared.fault.FrontFault.TheVariants.{OutOfMemory}
use Rattle.tb_front.specs.Promise.Due.{◌>>=◌, each_from, unless}
use Rattle.tb_front.specs.Promise.Faults.{unknown_type}
use Rattle.tb_plan_front.specs.Promise.Plans.{named_table, names_in}
use Rattle.tb_front.proofs.Dues.{due_as, goes_on, passes_by, stopped_by}
use Rattle.tb_plan_front.proofs.named.tables_of.Goals as goal

pub returns-in-Ok-check_names : goal.returns-in-Ok-check_names
returns-in-Ok-check_names g c =
    let o = c.args.options.now in
    let ts = given_tables c.in-Ok.tables.items in
    let none : unknown_type o.types.items (names_in ts) [] ≡ None =
    (λ i. unknown_type (sym c.deref.ensures.value i) (names_in (given_tables (sym c.deref-in-Ok.ensures.value i))) []) ∙ c.in-Ok-check_names.ensures in
    goes_on (each_from (named_table o) 0 (given_texts c.args.texts.items)) (λ t. unless (unknown_type o.types.items (names_in t) []) >>= λ _. Ok t) ts c.in-Ok.ensures
    ∙ passes_by (unknown_type o.types.items (names_in ts) []) (Ok ts) none

pub returns-in-Err-check_names : goal.returns-in-Err-check_names
returns-in-Err-check_names g c =
    let o = c.args.options.now in
    let ts = given_tables c.in-Ok.tables.items in
    let e = c.in-Err-check_names.fault in
    due_as _ _ e (goes_on (each_from (named_table o) 0 (given_texts c.args.texts.items)) (λ t. unless (unknown_type o.types.items (names_in t) []) >>= λ _. Ok t) ts c.in-Ok.ensures)
    (stopped_by (unknown_type o.types.items (names_in ts) []) (Ok ts) e
    (subst (λ (f : Option FrontFault). (e ≡ OutOfMemory) ⊎ (f ≡ Some e)) (λ i. unknown_type (c.deref.ensures.value i) (names_in (given_tables (c.deref-in-Ok.ensures.value i))) []) c.in-Err-check_names.ensures))
