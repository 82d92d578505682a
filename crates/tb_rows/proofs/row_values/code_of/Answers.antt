use Rattle.std.proofs.Common.{◌∙◌, ap, append-nil, fold, sym}
use Rattle.std.specs.Hash.FoldHasher.{finish, initial, write}
use Rattle.tb_value.specs.Fed.{fed_datum}
use Rattle.tb_value.specs.See.{lent_value}
use Rattle.tb_rows.specs.Fields.{row_code}
use Rattle.tb_rows.proofs.row_values.code_of.Goals as goal

pub returns : goal.returns
unfolding row_code
returns c =
    let fed = fed_datum (lent_value c.args.value) in
    c.finish.ensures ∙ ap finish (c.hash_ref.ensures ∙ ap (λ s. fold write s fed) c.default-state.ensures ∙ ap (fold write initial) (sym (append-nil fed)))
