use Rattle.std.proofs.Common.{Option, subst}
use Rattle.tb_value.specs.Refusals.{Settles}
use Rattle.tb_value.specs.declared.error.PolarsError.{PolarsError}
use Rattle.tb_frame.specs.Promise.Join.{by_names}
use Rattle.tb_frame.specs.Promise.Refusal.{repeated_name}
use Rattle.tb_frame.specs.Sides.{of_kind}
use Rattle.tb_frame.specs.Promise.Table.{table_of}
use Rattle.tb_keys.proofs.names.check_answer_names.Goals as goal

pub returns : goal.returns
returns c =
    let r = c.args.request.now in
    subst (λ (o : Option PolarsError). Settles c.check_joined_names.result o)
    (λ t. repeated_name (by_names (table_of (c.get_columns.ensures.columns t)) (table_of (c.get_columns-2.ensures.columns t)) r.left_on.now r.right_on.now (of_kind r.how r.args.now)))
    c.check_joined_names.ensures
