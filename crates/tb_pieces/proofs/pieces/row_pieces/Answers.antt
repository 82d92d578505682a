use Rattle.std.proofs.Common.{◌≡◌, ℕ, ◌+◌, ◌*◌, ◌-◌, ◌/◌, ◌≤◌, Vec, Global, map, arith, subst}
use Rattle.std.specs.Result.{IfOk}
use Rattle.rayon.proofs.ToStd.{nat_range-All}
use Rattle.tb_pieces.specs.Rows.{piece_bytes}
use Rattle.tb_pieces.specs.declared.pieces.TheConstants.{ROWS_OF_A_PIECE}
use Rattle.tb_pieces.proofs.RowPieces.{rows_chained}
use Rattle.tb_pieces.proofs.pieces.row_pieces.Goals as goal

pub collect-requires-clause-ready : goal.collect-requires-clause-ready
collect-requires-clause-ready g c κs within =
    let ends = c.into_par_iter.ensures in
    let inside = nat_range-All (λ i. i * ROWS_OF_A_PIECE ≤ c.args.height) 0 (c.args.height / ROWS_OF_A_PIECE + 1) (λ i low high. omega (arith, high)) in
    rw (c.map.ensures.base, c.with_min_len.ensures.base, c.map.ensures.f, ends.0, ends.1) (λ k d lt. ((c.requires, inside k d lt), λ y h. tt))

pub returns : goal.returns
returns g c row given =
    let ends = c.into_par_iter.ensures in
    let h = c.in_ok-collect.ensures in
    let all : (c.args.height / ROWS_OF_A_PIECE + 1) - 0 ≡ c.args.height / ROWS_OF_A_PIECE + 1 = omega arith in
    let places = rw (c.map.ensures.base, c.with_min_len.ensures.base, ends.0, ends.1, all) at h.1.1 in
    let zipped = rw c.map.ensures.f at h.1.2 in
    let made = rows_chained (λ (v : Vec ℕ Global). v.items) (λ (w : Vec (Vec ℕ Global) Global). w.items) _ (λ r. piece_bytes r c.args.height) h.1.0 h.0 c.in_ok-collect.field-0 zipped h.2 row given in
    subst (λ ks. IfOk c.in_ok-collect.field-0 (λ v. map (λ (p : Vec ℕ Global). p.items) v.items ≡ map (piece_bytes row c.args.height) ks)) places made
