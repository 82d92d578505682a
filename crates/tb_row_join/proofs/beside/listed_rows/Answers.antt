use Rattle.std.proofs.Common.{◌∙◌, ◌++◌, ◌∷◌, [], ℕ, List, Bor, ap, sym, arith, get_or, map, None}
use Rattle.std.proofs.lemmas.List.{map_push}
use Rattle.std.proofs.lemmas.List.FromFn.{map-range_with_len_more}
use Rattle.tb_value.specs.Promise.Pairs.{row_numbers}
use Rattle.tb_build.specs.TableView.{rows_at}
use Rattle.tb_row_join.specs.Lists.{beside}
use Rattle.tb_row_join.proofs.beside.listed_rows.Goals as goal

pub loop-row-preserved : goal.loop-row-preserved
loop-row-preserved g c =
    let now : Bor (List ℕ) → List ℕ = λ r. r.now in
    let i = c.loop-row.row in
    let of : ℕ → List ℕ = λ p. beside c.args.how (rows_at g.K.PartialEq.eq g.K.KeyCode.code c.args.tables.now (get_or (g.P.KeyList.list c.args.probed.now) p None)) in
    ap (map now) c.in_ok-push.ensures.items ∙ map_push now c.loop-row.lists.items c.beside.result
    ∙ ap (λ (l : List (List ℕ)). l ++ c.beside.result.now ∷ []) c.loop-row.invariant
    ∙ ap (λ (x : List ℕ). map of (row_numbers i) ++ x ∷ []) (c.beside.ensures ∙ ap (beside c.args.how) c.rows_of.ensures.value)
    ∙ sym (map-range_with_len_more of 0 i i (omega arith))
