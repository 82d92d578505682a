use Rattle.std.proofs.Common.{◌≡◌, ◌∙◌, ℕ, Bool, List, None, ap, get_or, length}
use Rattle.std.specs.Prelude.{filter}
use Rattle.tb_value.specs.Promise.Pairs.{row_numbers}
use Rattle.tb_build.specs.Keys.{rows_with}
use Rattle.tb_row_join.specs.Lists.{is_bare}
use Rattle.tb_row_join.proofs.unlisted.unmatched_rows.Goals as goal

pub returns : goal.returns
returns g c =
    let eq = g.K.PartialEq.eq in
    let bs = g.B.KeyList.list c.args.built.now in
    let ps = g.P.KeyList.list c.args.probed.now in
    c.in_ok-rows.ensures
    ∙ ap (λ (p : ℕ → Bool). filter p (row_numbers (length bs))) (λ t k. ap is_bare (c.in_ok-tables.ensures.table.rows (get_or bs k None)) t)
    ∙ ap (λ (nulls : Bool). filter (λ k. is_bare (rows_with eq nulls ps (get_or bs k None) (length ps))) (row_numbers (length bs))) c.in_ok-tables.ensures.nulls
