use Rattle.std.proofs.Common.{◌≡◌, ◌∙◌, ℕ, List, Option, ap, sym, length, map, subst, append-nil}
use Rattle.std.specs.List.{All}
use Rattle.tb_value.specs.Promise.Datum.{Datum}
use Rattle.tb_value.specs.declared.sorted.IsSorted.{IsSorted}
use Rattle.tb_chunk.specs.Changed.{opt_taken_rows}
use Rattle.tb_chunk.specs.Promise.Col.{Col, values}
use Rattle.tb_chunk.specs.Flag.{FlagHolds}
use Rattle.tb_chunk.specs.Lent.{in_one_chunk}
use Rattle.tb_chunk.specs.Rows.{IsRowOf, value_or_null}
use Rattle.tb_gather.specs.Gathered.{gathered_flag}
use Rattle.tb_gather.proofs.Flags.{flag-of-rows}
use Rattle.tb_gather.proofs.Picked.{taken-whole}
use Rattle.tb_gather.proofs.picking.pick_column.Goals as goal

-- the flag is true of the rows of a column whose values are the same
flag_of : (c d : Col) (rows : List (Option ℕ)) (flag made : IsSorted) → flag ≡ made → values d ≡ values c → d.kind ≡ c.kind → FlagHolds made c.kind (map (value_or_null (values c)) rows) → FlagHolds flag d.kind (map (value_or_null (values d)) rows)
flag_of c d rows flag made is same kind holds = rw (is, same, kind) holds

pub pick_series-requires-clause-rows : goal.pick_series-requires-clause-rows
pick_series-requires-clause-rows g c κs bound =
    let rows = map g.S.RowOf.number c.args.pairs.now in
    subst (λ (k : Col). All (IsRowOf (length (values k))) rows) (sym c.as_materialized_series-series.ensures) c.requires.rows

pub pick_series-requires-clause-flag : goal.pick_series-requires-clause-flag
pick_series-requires-clause-flag g c κs bound =
    let col = c.args.column.now in
    let rows = map g.S.RowOf.number c.args.pairs.now in
    let is : c.gathered_flag-flag.result ≡ gathered_flag c.args.sorted col.flag = c.gathered_flag-flag.ensures ∙ ap (gathered_flag c.args.sorted) c.is_sorted_flag.ensures in
    let same = c.as_materialized_series-series.ensures in
    flag_of col c.as_materialized_series-series.result.now rows c.gathered_flag-flag.result (gathered_flag c.args.sorted col.flag) is (ap values same) (ap (λ (k : Col). k.kind) same) (flag-of-rows col rows c.args.sorted c.len-len.ensures.column c.requires.rows c.requires.in_order)

pub pick_series-requires-2-clause-rows : goal.pick_series-requires-2-clause-rows
pick_series-requires-2-clause-rows g c κs bound =
    let col = c.args.column.now in
    let rows = map g.S.RowOf.number c.args.pairs.now in
    let same : c.in_ok-whole.whole ≡ in_one_chunk col = c.in_ok-whole.ensures ∙ ap in_one_chunk c.as_materialized_series-series.ensures in
    subst (λ (vs : List Datum). All (IsRowOf (length vs)) rows) (sym (ap values same ∙ append-nil (values col))) c.requires.rows

pub pick_series-requires-2-clause-flag : goal.pick_series-requires-2-clause-flag
pick_series-requires-2-clause-flag g c κs bound =
    let col = c.args.column.now in
    let rows = map g.S.RowOf.number c.args.pairs.now in
    let is : c.gathered_flag-flag.result ≡ gathered_flag c.args.sorted col.flag = c.gathered_flag-flag.ensures ∙ ap (gathered_flag c.args.sorted) c.is_sorted_flag.ensures in
    let same : c.in_ok-whole.whole ≡ in_one_chunk col = c.in_ok-whole.ensures ∙ ap in_one_chunk c.as_materialized_series-series.ensures in
    flag_of col c.in_ok-whole.whole rows c.gathered_flag-flag.result (gathered_flag c.args.sorted col.flag) is (ap values same ∙ append-nil (values col)) (ap (λ (k : Col). k.kind) same) (flag-of-rows col rows c.args.sorted c.len-len.ensures.column c.requires.rows c.requires.in_order)

pub returns : goal.returns
returns g c =
    let col = c.args.column.now in
    let rows = map g.S.RowOf.number c.args.pairs.now in
    let is : c.gathered_flag-flag.result ≡ gathered_flag c.args.sorted col.flag = c.gathered_flag-flag.ensures ∙ ap (gathered_flag c.args.sorted) c.is_sorted_flag.ensures in
    let same : c.in_ok-whole.whole ≡ in_one_chunk col = c.in_ok-whole.ensures ∙ ap in_one_chunk c.as_materialized_series-series.ensures in
    let made : c.in_ok-pick_series-2.field-0 ≡ record (opt_taken_rows rows (in_one_chunk col)) { flag = gathered_flag c.args.sorted col.flag } =
    c.in_ok-pick_series-2.ensures ∙ (λ i. let k : Col = record (opt_taken_rows rows (same i)) { flag = is i } in k)
    in
    c.into_column-2.ensures ∙ made ∙ taken-whole rows (gathered_flag c.args.sorted col.flag) col
