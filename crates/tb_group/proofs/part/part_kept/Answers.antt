use Rattle.std.proofs.Common.{◌≡◌, ◌∙◌, ◌<◌, ◌++◌, [], ◌∷◌, ap, arith, length, map, refl, subst, sym}
use Rattle.std.specs.List.{All}
use Rattle.std.proofs.lemmas.List.{map_push}
use Rattle.tb_value.specs.Promise.Pairs.{row_numbers}
use Rattle.tb_chunk.specs.Promise.Col.{values}
use Rattle.tb_agg.specs.Grouped.{rows_by_group, rows_of}
use Rattle.tb_agg.specs.Kept.{KeptView, kept_of, shown_kept}
use Rattle.tb_group.specs.Asked.{Asked, asked_as}
use Rattle.tb_group.specs.Order.{row_in}
use Rattle.tb_group.specs.Parts.{rows_in_groups}
use Rattle.tb_group.specs.declared.lookup.AskedColumn.{AskedColumn}
use Rattle.tb_group.proofs.Pieces.{mapped_more}
use Rattle.tb_group.proofs.part.part_kept.Goals as goal

pub of-requires-clause-rows : goal.of-requires-clause-rows
of-requires-clause-rows c =
    let rows = c.args.rows.now in
    let each = c.requires.groups.each in
    let here = subst (λ (a : AskedColumn). All (λ r. r < length (values a.column.now)) rows) (sym c.one-item.is) (c.requires.rows c.loop-one.one-index c.one-item.result c.loop-one-test.true) in
    record {
      named = (sym each, omega (arith, each, c.requires.few));
      within = λ j low. here j 0 (omega (arith, low, each));
    }

pub of-requires-clause-groups : goal.of-requires-clause-groups
of-requires-clause-groups c = record { each = refl; within = c.requires.groups.within; few = c.requires.groups.few }

pub loop-one-preserved : goal.loop-one-preserved
loop-one-preserved c =
    let rows = c.args.rows.now in
    let g = c.args.groups.now in
    let one = c.one-item.result in
    let keep : Asked → KeptView = λ a. kept_of a.0.agg a.1.values (rows_in_groups rows g) in
    let groups : rows_by_group (row_in rows) g ≡ rows_in_groups rows g =
    λ t. map (λ k. map (row_in rows) (rows_of g.numbers.items (c.requires.groups.each t) k)) (row_numbers (length g.firsts.items)) in
    ap (map shown_kept) c.in_ok-push.ensures.items
    ∙ map_push shown_kept c.loop-one.kept.items c.in_ok-of.field-0
    ∙ (λ t. c.loop-one.invariant t ++ (c.in_ok-of.ensures ∙ ap (kept_of one.asked.now.agg (values one.column.now)) groups) t ∷ [])
    ∙ sym (mapped_more asked_as keep c.args.asked.now c.loop-one.one-index one c.loop-one-test.true c.one-item.is)
