use Rattle.std.proofs.Common.{◌∙◌, ap, sym}
use Rattle.std.specs.Prelude.{◌&&◌}
use Rattle.tb_frame.specs.NameSets.{has_name}
use Rattle.tb_frame.specs.Promise.Naming.{is_among}
use Rattle.tb_frame.specs.Promise.Table.{table_of}
use Rattle.tb_front.specs.declared.fault.Comparison.TheVariants.{Rows}
use Rattle.tb_front.proofs.Undecimal.{alike_settles, first_none}
use Rattle.tb_group_front.proofs.comparing.check_order.Goals as goal

pub returns-then-not-call : goal.returns-then-not-call
returns-then-not-call c =
    let call = c.args.call.now in
    first_none c.args.types.now Rows (λ n. call.sorts && is_among call.by.items n) (table_of c.args.table.now)
    (λ n. ap (λ b. b && is_among call.by.items n) c.if-not-call.true)

pub returns : goal.returns
returns c =
    let call = c.args.call.now in
    alike_settles c.args.types.now Rows (has_name c.in_ok-names.names) (λ n. call.sorts && is_among call.by.items n) (table_of c.args.table.now) c.check_undecimal.result
    (λ n. c.in_ok-names.ensures n ∙ ap (λ ns. is_among ns n) c.deref.ensures.value ∙ sym (ap (λ b. b && is_among call.by.items n) c.if-not-call.false)) c.check_undecimal.ensures
