use Rattle.std.proofs.Common.{◌∙◌, ◌++◌, ◌∷◌, [], ℕ, List, Bor, ap, sym, arith, get_or, map, None}
use Rattle.std.proofs.lemmas.List.{map_push}
use Rattle.std.proofs.lemmas.List.FromFn.{map-range_with_len_more}
use Rattle.tb_value.specs.Promise.Pairs.{row_numbers}
use Rattle.tb_alone.specs.Tables.{rows_for}
use Rattle.tb_alone.proofs.found.rows_at_each.Goals as goal

pub loop-row-preserved : goal.loop-row-preserved
loop-row-preserved g c =
    let seen : Bor (List ℕ) → List ℕ = λ r. r.now in
    let i = c.loop-row.row in
    let of : ℕ → List ℕ = λ row. rows_for g.K.PartialEq.eq c.args.table.now (get_or (g.L.KeyList.list c.args.list.now) row None) in
    ap (map seen) c.in_ok-push.ensures.items ∙ map_push seen c.loop-row.found.items c.rows_at.result
    ∙ ap (λ (l : List (List ℕ)). l ++ c.rows_at.result.now ∷ []) c.loop-row.invariant
    ∙ ap (λ (x : List ℕ). map of (row_numbers i) ++ x ∷ []) c.rows_at.ensures
    ∙ sym (map-range_with_len_more of 0 i i (omega arith))
