use Rattle.std.proofs.Common.{◌≡◌, ◌<◌, ◌∙◌, Some, ap, arith, length, pos, subst, sym, ℕ, ℤ}
use Rattle.std.proofs.lemmas.List.{length-map}
use Rattle.tb_chunk.specs.Rows.{IsRowOf}
use Rattle.tb_sorted.specs.SortedRows.{numbered_keys, row_or_none}
use Rattle.tb_sorted.proofs.Places.{numbered_at}
use Rattle.tb_sorted.proofs.row_sorting.row_at.Goals as goal

pub some-requires : goal.some-requires
some-requires g c =
    let number = g.N.WholeCell.number in
    let rows = c.args.rows.now in
    let row = c.in-Some.row in
    let low : row < length rows = subst (IsRowOf (length rows)) (sym c.row.ensures ∙ c.in-Some.is) c.requires.place in
    let image : g.row.N.Denot × ℕ → ℤ × ℕ = λ p. (number p.0, p.1) in
    let long = length-map rows image in
    let same = ap (λ (p : ℤ × ℕ). p.1) (numbered_at number rows row c.index-rows-row.result low (pos 0, 0)) in
    let few = c.requires.rows row (pos 0, 0) (omega (arith, long, low)) in
    omega (arith, same, few)

pub returns-in-Some : goal.returns-in-Some
returns-in-Some g c =
    let number = g.N.WholeCell.number in
    let rows = c.args.rows.now in
    let row = c.in-Some.row in
    let is : c.args.place ≡ Some row = sym c.row.ensures ∙ c.in-Some.is in
    let low : row < length rows = subst (IsRowOf (length rows)) is c.requires.place in
    c.some.ensures ∙ ap (λ (p : ℤ × ℕ). Some p.1) (sym (numbered_at number rows row c.index-rows-row.result low (pos 0, 0)))
    ∙ ap (row_or_none (numbered_keys number rows)) (sym is)
