use Rattle.std.proofs.Common.{List, ℕ, ℤ, [], ◌∷◌, ◌++◌, ap, arith, sym, ◌∙◌}
use Rattle.std.proofs.lemmas.List.{map_push}
use Rattle.std.proofs.lemmas.List.FromFn.{map-range_with_len_more}
use Rattle.tb_merge.specs.Keys.{key_at}
use Rattle.tb_sorted.specs.SortedRows.{numbered_keys}
use Rattle.tb_sorted.proofs.row_sorting.keys_with_rows.Goals as goal

pub loop-row-preserved : goal.loop-row-preserved
loop-row-preserved g c =
    let row = c.loop-row.row in
    let number = g.N.WholeCell.number in
    let image : g.row.N.Denot × ℕ → ℤ × ℕ = λ p. (number p.0, p.1) in
    let f : ℕ → ℤ × ℕ = λ i. (key_at (g.K.NumberList.keys c.args.list.now) i, i) in
    let item = c.key_with_row.ensures in
    ◌∙◌ {A = List (ℤ × ℕ)} (ap (numbered_keys number) c.in_ok-push.ensures.items)
    (◌∙◌ {A = List (ℤ × ℕ)} (map_push image c.loop-row.rows.items c.key_with_row.result)
    (◌∙◌ {A = List (ℤ × ℕ)} (λ t. c.loop-row.invariant t ++ (item.number t, item.row t) ∷ []) (sym (map-range_with_len_more f 0 row row (omega arith)))))
