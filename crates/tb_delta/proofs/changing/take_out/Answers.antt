use Rattle.std.proofs.Common.{◌∙◌, ap, sym, [], if◌then◌else◌}
use Rattle.std.proofs.lemmas.Result.{IfOk-weaker}
use Rattle.tb_value.specs.See.{datum}
use Rattle.tb_value.specs.declared.error.Side.{Side}
use Rattle.tb_delta.specs.Late.{ids_left}
use Rattle.tb_delta.proofs.LateGroups.{kept_ungrouped, taken_grouped}
use Rattle.tb_delta.proofs.changing.take_out.Goals as goal

pub returns-then-is_grouped-clause-taken : goal.returns-then-is_grouped-clause-taken
returns-then-is_grouped-clause-taken c = taken_grouped c.args.groups.now c.take_out.new.self c.args.side c.args.join_nulls (datum c.args.key.now.value) c.args.id (sym c.is_grouped.ensures ∙ c.if-is_grouped.true) c.take_out.ensures.taken

pub returns-else-is_grouped-clause-taken : goal.returns-else-is_grouped-clause-taken
returns-else-is_grouped-clause-taken c = kept_ungrouped c.args.groups.now c.copied.new.self c.args.side c.args.join_nulls (datum c.args.key.now.value) c.args.id (sym c.is_grouped.ensures ∙ c.if-is_grouped.false) c.copied.ensures.keeps

pub returns-else-is_grouped-clause-told : goal.returns-else-is_grouped-clause-told
returns-else-is_grouped-clause-told c = IfOk-weaker c.copied.result _ _ (λ v e. e ∙ ap (λ (d : Side). if c.args.tells then ids_left c.args.groups.now d c.args.key.now else []) c.other.ensures) c.copied.ensures.ids
