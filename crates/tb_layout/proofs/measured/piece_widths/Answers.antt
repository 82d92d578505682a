use Rattle.std.proofs.Common.{◌≡◌, ◌+◌, ◌*◌, ◌-◌, ◌/◌, ◌≤◌, ◌∙◌, length, map, ap, arith}
use denote.Param.Send.{sendable}
use Rattle.std.proofs.Crossing.{crosses}
use Rattle.std.specs.List.{range_with_len}
use Rattle.std.proofs.lemmas.Slice.Zip.{AllZip-map}
use Rattle.tb_chunk.specs.Promise.Col.{values}
use Rattle.tb_frame.specs.Promise.Table.{plain_column}
use Rattle.rayon.specs.Numbers.{nat_range}
use Rattle.rayon.proofs.ToStd.{nat_range-All}
use Rattle.tb_store.proofs.Crossing.{Column-sync}
use Rattle.tb_layout.specs.Widths.{piece_width}
use Rattle.tb_pieces.specs.declared.pieces.TheConstants.{ROWS_OF_A_PIECE}
use Rattle.tb_layout.proofs.measured.piece_widths.Goals as goal

pub map-requires-send-F : goal.map-requires-send-F
map-requires-send-F g c κs within = search (Column-sync, crosses, sendable) depth 60 fits 20000

pub map-requires-sync-F : goal.map-requires-sync-F
map-requires-sync-F g c κs within = search (Column-sync, crosses, sendable) depth 60 fits 20000

pub collect-requires-send-Self : goal.collect-requires-send-Self
collect-requires-send-Self g c κs within = search (Column-sync, crosses, sendable) depth 60 fits 20000

pub collect-requires-clause-ready : goal.collect-requires-clause-ready
collect-requires-clause-ready g c κs within =
    let ends = c.into_par_iter.ensures in
    let high = length (values c.args.column.now) in
    let inside = nat_range-All (λ i. i * ROWS_OF_A_PIECE ≤ high) 0 (c.len.result / ROWS_OF_A_PIECE + 1) (λ i low last. omega (arith, last, c.len.ensures.len)) in
    rw (c.map.ensures.base, c.with_min_len.ensures.base, c.map.ensures.f, ends.0, ends.1) (λ k d lt. (inside k d lt, λ y h. tt))

pub returns : goal.returns
returns g c =
    let ends = c.into_par_iter.ensures in
    let h = c.in_ok-widths.ensures in
    let high = length (values c.args.column.now) in
    let column = ap (λ f. f.0.now) c.map.ensures.f in
    let line = ap (λ f. f.1.now) c.map.ensures.f in
    let base = ap (λ it. it.base) c.map.ensures.base ∙ c.with_min_len.ensures.base in
    let first = ap (λ r. r.start) base ∙ ends.0 in
    let last = ap (λ r. r.end) base ∙ ends.1 in
    let all : (c.len.result / ROWS_OF_A_PIECE + 1) - 0 ≡ high / ROWS_OF_A_PIECE + 1 = omega (arith, c.len.ensures.len) in
    let places = h.1.1 ∙ (λ i. nat_range (first i) (last i)) ∙ ap (range_with_len 0) all in
    let made = AllZip-map (piece_width c.map.result.f.1.now (plain_column c.map.result.f.0.now)) h.1.0 h.0 h.1.2 in
    h.2 ∙ made ∙ (λ i. map (piece_width (line i) (plain_column (column i))) (places i))
