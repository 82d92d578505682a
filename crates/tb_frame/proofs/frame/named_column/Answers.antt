use Rattle.std.proofs.Common.{◌≡◌, List, ap, sym, ◌∙◌, inr, Option, Some, None, is_none}
use Rattle.std.specs.List.{find}
use Rattle.tb_value.specs.Promise.Names.{Name, same_name}
use Rattle.tb_value.specs.Promise.Refusals.{when}
use Rattle.tb_value.specs.declared.error.PolarsError.TheVariants.{ColumnNotFound}
use Rattle.tb_chunk.specs.Promise.Col.{Col}
use Rattle.tb_frame.proofs.frame.named_column.Goals as goal

pub returns-in_ok-from_str-in-None-clause-settles : goal.returns-in_ok-from_str-in-None-clause-settles
returns-in_ok-from_str-in-None-clause-settles c =
    let name = c.args.name.now in
    let found : List Col → Option Col = λ cs. find (λ (k : Col). same_name k.name name) cs in
    let none : found c.args.columns.now ≡ None = sym c.in-None.ensures in
    inr (ap (λ (o : Option Col). when (is_none o) (ColumnNotFound name)) none ∙ ap (λ (n : Name). Some (ColumnNotFound n)) (sym c.in_ok-from_str-in-None.ensures))
