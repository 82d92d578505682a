use Rattle.std.proofs.Common.{◌∙◌, ap, fold}
use Rattle.std.specs.Hash.FoldHasher.{write, finish}
use Rattle.tb_rows.specs.Fields.{fed_fields, fields_at, row_code}
use Rattle.tb_rows.proofs.fields.code_at.Goals as goal

pub returns : goal.returns
unfolding row_code
returns c =
    c.finish.ensures ∙ ap finish (c.hash_fields.ensures ∙ ap (λ s. fold write s (fed_fields (fields_at c.args.columns.now c.args.row))) c.default-state.ensures)
