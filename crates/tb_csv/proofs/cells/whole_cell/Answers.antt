use Rattle.std.proofs.Common.{◌∙◌, ap, option_map, sym, to_z-of_z}
use Rattle.std.specs.Fmt.{signed_decimal}
use Rattle.tb_csv.specs.Promise.Types.{field_value}
use Rattle.tb_csv.proofs.NumberWalks.{number_value}
use Rattle.tb_csv.proofs.cells.whole_cell.Goals as goal

pub returns-in-Some-clause-value : goal.returns-in-Some-clause-value
returns-in-Some-clause-value g c =
    sym (ap (option_map g.N.Cell.shows) c.in-Some.is) ∙ c.of_number.ensures.value ∙ ap (λ z. field_value c.args.field_type (signed_decimal z)) (to_z-of_z c.ranges.number)
    ∙ sym (number_value c.args.field_type c.args.number c.ranges.number)

pub returns-in-None-clause-value : goal.returns-in-None-clause-value
returns-in-None-clause-value g c =
    sym (ap (option_map g.N.Cell.shows) c.in-None.is) ∙ c.of_number.ensures.value ∙ ap (λ z. field_value c.args.field_type (signed_decimal z)) (to_z-of_z c.ranges.number)
    ∙ sym (number_value c.args.field_type c.args.number c.ranges.number)
