use Rattle.std.proofs.Common.{◌≡◌, ◌∙◌, ℕ, List, ◌∷◌, [], ◌++◌, ap, sym, arith}
use Rattle.tb_value.specs.Promise.Pairs.{row_numbers}
use Rattle.tb_value.proofs.RowNumbers.{row_numbers_more}
use Rattle.tb_split_front.proofs.numbering.numbers_of.Goals as goal

pub loop-row-preserved : goal.loop-row-preserved
loop-row-preserved c =
    c.in_ok-push.ensures.items ∙ ap (λ (rows : List ℕ). rows ++ c.loop-row.row ∷ []) c.loop-row.invariant ∙ sym (row_numbers_more c.loop-row.row)

pub returns : goal.returns
returns c =
    let end : c.loop-row.row ≡ c.args.rows = omega arith in
    c.loop-row.invariant ∙ ap row_numbers end
