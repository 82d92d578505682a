use Rattle.std.proofs.Common.{ap, sym, ◌∙◌}
use Rattle.std.specs.Option.{option_copied}
use Rattle.tb_chunk.specs.Promise.Col.{Col}
use Rattle.tb_nested.proofs.columns.left_column.Goals as goal

pub coalesce_columns-requires-clause-one_type : goal.coalesce_columns-requires-clause-one_type
coalesce_columns-requires-clause-one_type c =
    ap (λ (k : Col). k.kind) c.in_ok-column.ensures
    ∙ c.requires.one_type _ (ap option_copied c.in-Some.is)
    ∙ sym (ap (λ (k : Col). k.kind) (c.into_column-key.ensures ∙ c.in_ok-take_opt-in-Some.ensures))
