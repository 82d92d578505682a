use Rattle.std.proofs.Common.{◌≡◌, ◌∙◌, Bor, List, get_or, ap, sym, arith}
use Rattle.std.proofs.lemmas.List.{get_or-map, length-map, take_all}
use Rattle.tb_value.specs.Promise.Names.{Name}
use Rattle.tb_chunk.specs.Promise.Col.{Col}
use Rattle.tb_chunk.specs.Lent.{lent_columns}
use Rattle.tb_frame.specs.NamedColumns.{column_by}
use Rattle.tb_keys.specs.Coalescing.{key_beside}
use Rattle.tb_join.proofs.Beside.{kept_beside}
use Rattle.tb_join.proofs.coalescing.columns_beside.Goals as goal

pub loop-place-preserved : goal.loop-place-preserved
loop-place-preserved c =
    let names = c.args.names.now in
    let cols = c.args.columns.now in
    let p = c.loop-place.place in
    let col = c.index-columns-place.result in
    let long = length-map cols (λ (b : Bor Col). b.now) in
    let at_col : col.now ≡ get_or (lent_columns cols) p col.now = ap (λ (b : Bor Col). b.now) c.index-columns-place.is ∙ sym (get_or-map (λ (b : Bor Col). b.now) cols p col col.now (omega (arith, c.loop-place-test.true))) in
    kept_beside names (lent_columns cols) p c.index-names-place.result col.now (omega (arith, c.loop-place-test.true)) (omega (arith, long)) c.index-names-place.is at_col
    (column_by c.loop-place.beside) (column_by c.insert.new.self) c.loop-place.invariant c.in_ok-insert.ensures.puts

pub returns : goal.returns
returns c = λ n. c.loop-place.invariant n ∙ ap (λ (ns : List Name). key_beside ns (lent_columns c.args.columns.now) n) (take_all c.loop-place.place c.args.names.now (omega arith))
