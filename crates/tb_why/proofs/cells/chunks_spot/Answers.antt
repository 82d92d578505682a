use Rattle.std.proofs.Common.{arith, option_map, ap, sym, subst, ◌∙◌}
use Rattle.tb_tree.specs.View.{item_view, listed}
use Rattle.tb_value.specs.SeeKind.{kind_of}
use Rattle.tb_why.specs.Columns.{chunk_spot}
use Rattle.tb_why.specs.Spots.{first_at, spot_view, Finds}
use Rattle.tb_why.proofs.Walks.{Walk-next, Walk-found}
use Rattle.tb_why.proofs.cells.chunks_spot.Goals as goal

pub returns-in-Some : goal.returns-in-Some
returns-in-Some c =
    let f = chunk_spot (kind_of c.args.dtype.now) in
    let found = sym c.in_ok-spot.ensures ∙ ap (option_map spot_view) c.in-Some.is in
    let first = Walk-found f (listed c.items-chunks.result) c.loop-i.i (item_view c.at-chunk.result) (spot_view c.in-Some.spot) (omega arith) c.at-chunk.ensures found c.loop-i.invariant in
    subst (Finds c.under_index.result) (first ∙ ap (first_at f 0) c.items-chunks.ensures) c.under_index.ensures

pub loop-i-preserved : goal.loop-i-preserved
loop-i-preserved c =
    let f = chunk_spot (kind_of c.args.dtype.now) in
    let none = sym c.in_ok-spot.ensures ∙ ap (option_map spot_view) c.in_default.is in
    Walk-next f (listed c.items-chunks.result) c.loop-i.i (item_view c.at-chunk.result) (omega arith) c.at-chunk.ensures none c.loop-i.invariant
