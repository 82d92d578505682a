use Rattle.std.proofs.Common.{◌≡◌, ◌∙◌, Option, Some, None, sym, ap, inr}
use Rattle.std.specs.Prelude.{is_none}
use Rattle.std.specs.Option.{option_copied}
use Rattle.tb_value.specs.Promise.Names.{Name}
use Rattle.tb_value.specs.Promise.Refusals.{when}
use Rattle.tb_value.specs.declared.error.PolarsError.TheVariants.{ColumnNotFound}
use Rattle.tb_chunk.specs.Promise.Col.{Col}
use Rattle.tb_frame.specs.NamedColumns.{column_by}
use Rattle.tb_frame.proofs.lookup.known_column.Goals as goal

pub returns-in_ok-copy-in-None-clause-settles : goal.returns-in_ok-copy-in-None-clause-settles
returns-in_ok-copy-in-None-clause-settles c =
    let none : column_by c.args.by_name.now c.args.name.now ≡ None = sym c.get.ensures ∙ ap option_copied c.in-None.is in
    inr (ap (λ (o : Option Col). when (is_none o) (ColumnNotFound c.args.name.now)) none ∙ ap (λ (n : Name). Some (ColumnNotFound n)) (sym c.in_ok-copy-in-None.ensures))
