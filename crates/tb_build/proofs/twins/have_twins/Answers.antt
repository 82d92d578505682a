use Rattle.std.proofs.Common.{◌∙◌, ℕ, ◌+◌, List, Option, subst, nat_lt, ap, length}
use Rattle.tb_build.specs.KeyRows.{AreKeyRows}
use Rattle.tb_build.specs.Packed.{key_rows}
use Rattle.tb_build.proofs.Lending.{all-named}
use Rattle.tb_build.proofs.TwinRows.{told-bare, told-off, told-twins}
use Rattle.tb_build.proofs.twins.have_twins.Goals as goal
use Rattle.tb_build.proofs.twins.have_twins.Goals.{then-join_nulls, else-join_nulls}

pub returns-then-has_twins : goal.returns-then-has_twins
returns-then-has_twins g c =
    let eq = g.K.PartialEq.eq in
    let keys = g.L.KeyList.list c.args.list.now in
    told-twins eq g.met.K.Eq.laws c.args.join_nulls keys (key_rows eq c.in_ok-table.table)
    (subst (λ (ks : List (Option g.row.K.Denot)). AreKeyRows eq (λ j. 0 + j) ks (key_rows eq c.in_ok-table.table)) (all-named keys c.len-len.result c.len-len.ensures)
    c.in_ok-table.ensures) (c.has_twins.ensures.some c.if-has_twins.true)

pub returns : goal.returns
returns g c =
    let eq = g.K.PartialEq.eq in
    let keys = g.L.KeyList.list c.args.list.now in
    let t = key_rows eq c.in_ok-table.table in
    let are = subst (λ (ks : List (Option g.row.K.Denot)). AreKeyRows eq (λ j. 0 + j) ks t) (all-named keys c.len-len.result c.len-len.ensures) c.in_ok-table.ensures in
    let lone = c.has_twins.ensures.none c.if-has_twins.false in
    elim c.if-join_nulls.branch [
      | then-join_nulls w ↦ w.result-is ∙ ap (λ (rows : List ℕ). nat_lt 1 (length rows)) w.bare_rows.ensures ∙ told-bare eq g.met.K.Eq.laws c.args.join_nulls keys t are lone w.if-join_nulls.true
      | else-join_nulls w ↦ w.result-is ∙ w.if-join_nulls.false ∙ told-off eq g.met.K.Eq.laws c.args.join_nulls keys t are lone w.if-join_nulls.false
    ]
