use Rattle.std.proofs.Common.{◌∙◌, ◌<◌, ℕ, Bor, length, map, ap, sym, subst}
use Rattle.std.specs.List.{All}
use Rattle.tb_chunk.specs.Promise.Col.{Col, values}
use Rattle.tb_rows.specs.InGroups.{listed_test}
use Rattle.tb_rows.proofs.FirstRows.{firsts_below}
use Rattle.tb_group.specs.Asked.{asked_list}
use Rattle.tb_group.specs.Order.{row_in}
use Rattle.tb_group.specs.Parts.{kept_for, lent_test}
use Rattle.tb_group.proofs.Alike.{rows_equiv}
use Rattle.tb_group.proofs.Members.{firsts_are, groups_are, places_grouped}
use Rattle.tb_group.proofs.part.grouped_part.Goals as goal

pub rows_at-requires : goal.rows_at-requires
rows_at-requires c =
    let rows = c.args.rows.now in
    subst (All (λ (p : ℕ). p < length rows)) (sym (c.firsts.ensures ∙ c.in_ok-groups.ensures.firsts)) (firsts_below (listed_test rows (lent_test c.args.by.now)) (length rows))

pub part_kept-requires-clause-groups : goal.part_kept-requires-clause-groups
part_kept-requires-clause-groups c =
    let lists = map (λ (v : Bor Col). values v.now) c.args.by.now in
    places_grouped (lent_test c.args.by.now) (rows_equiv lists) c.args.rows.now c.in_ok-groups.groups c.in_ok-groups.ensures c.requires.few

pub returns : goal.returns
returns c =
    let by = c.args.by.now in
    let rows = c.args.rows.now in
    let same = rows_equiv (map (λ (v : Bor Col). values v.now) by) in
    let g = c.in_ok-groups.groups in
    let firsts = c.in_ok-firsts.ensures ∙ ap (map (row_in rows)) c.firsts.ensures ∙ firsts_are (lent_test by) same rows g c.in_ok-groups.ensures in
    let kept = c.in_ok-kept.ensures
    ∙ ap (kept_for (asked_list c.args.asked.now)) (groups_are (lent_test by) same rows g c.in_ok-groups.ensures) in
    λ t. record { firsts = firsts t; kept = kept t }
