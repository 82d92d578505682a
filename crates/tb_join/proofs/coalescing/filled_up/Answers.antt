use Rattle.std.proofs.Common.{◌∙◌, Option, Some, length, sym, ap}
use Rattle.std.specs.Option.{option_copied}
use Rattle.tb_chunk.specs.Promise.Col.{Col, values}
use Rattle.tb_join.specs.AnswerColumns.{filled_column}
use Rattle.tb_join.proofs.coalescing.filled_up.Goals as goal

pub coalesce-requires-clause-kind : goal.coalesce-requires-clause-kind
coalesce-requires-clause-kind c = ap (λ (k : Col). k.kind) c.as_materialized_series.ensures ∙ (c.requires c.in-Some.other.now (ap option_copied c.in-Some.is)).0

pub coalesce-requires-clause-len : goal.coalesce-requires-clause-len
coalesce-requires-clause-len c = ap (λ (k : Col). length (values k)) c.as_materialized_series.ensures ∙ (c.requires c.in-Some.other.now (ap option_copied c.in-Some.is)).1

pub returns-in_ok-coalesced-in-Some : goal.returns-in_ok-coalesced-in-Some
returns-in_ok-coalesced-in-Some c =
    c.into_column.ensures ∙ c.in_ok-coalesced-in-Some.ensures ∙ (λ t. filled_column (Some c.in-Some.other.now) (c.as_materialized_series.ensures t)) ∙ ap (λ (o : Option Col). filled_column o c.args.column) (sym (ap option_copied c.in-Some.is))
