use Rattle.std.proofs.Common.{◌∙◌, List, ℕ, get_or, ap, if◌then◌else◌}
use Rattle.std.proofs.lemmas.Result.{on_ok_weaker}
use Rattle.tb_value.specs.See.{datum}
use Rattle.tb_chunk.specs.Promise.Col.{values}
use Rattle.tb_delta.specs.Groups.{ids_at, is_side}
use Rattle.tb_delta.specs.TakenUp.{rows_agreeing}
use Rattle.tb_delta.proofs.TakenUp.{place_agreeing}
use Rattle.tb_delta.proofs.taking_up.add_keys.Goals as goal

pub returns : goal.returns
returns c = on_ok_weaker c.add_column.result (λ put s k.
    put s k
    ∙ ap (λ (l : List ℕ). if is_side c.args.side s then l else ids_at c.args.groups.now s k)
    (ap (λ x. rows_agreeing c.args.join_nulls (values x) (datum k.value)) c.as_materialized_series.ensures
    ∙ place_agreeing c.args.frame.now c.get_columns.ensures.table c.args.on.now c.place_of.result c.index-get_columns-place_of.result c.args.join_nulls (datum k.value) c.place_of.ensures
    (c.index-get_columns-place_of.is ∙ ap (λ cs. get_or cs c.place_of.result c.index-get_columns-place_of.result) c.get_columns.ensures.columns))) c.add_column.ensures
