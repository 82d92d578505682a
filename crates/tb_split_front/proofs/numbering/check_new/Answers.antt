use Rattle.std.proofs.Common.{◌∙◌, Bool, ap, sym}
use Rattle.tb_value.specs.Promise.Refusals.{when}
use Rattle.tb_value.specs.declared.error.PolarsError.TheVariants.{Duplicate}
use Rattle.tb_frame.specs.Promise.Naming.{is_among}
use Rattle.tb_frame.specs.Promise.Table.{names_of, table_of}
use Rattle.tb_split_front.proofs.numbering.check_new.Goals as goal

pub returns-clause-settles : goal.returns-clause-settles
returns-clause-settles c =
    let n = c.args.name.now in
    ap (λ (b : Bool). when b (Duplicate n))
    (sym (c.contains.ensures ∙ c.in_ok-column_name_set.ensures n ∙ ap (λ cs. is_among (names_of (table_of cs)) n) c.get_columns-columns.ensures.columns) ∙ c.if-contains.false)
