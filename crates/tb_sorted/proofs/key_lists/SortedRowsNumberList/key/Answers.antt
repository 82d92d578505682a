use Rattle.std.proofs.Common.{arith, pos, sym, ℕ, ℤ}
use Rattle.std.proofs.lemmas.List.{length-map}
use Rattle.tb_sorted.specs.SortedRows.{numbered_keys}
use Rattle.tb_sorted.proofs.Places.{numbered_key}
use Rattle.tb_sorted.proofs.key_lists.SortedRowsNumberList.key.Goals as goal

pub returns : goal.returns
returns g c =
    let number = g.N.WholeCell.number in
    let rows = c.args.self.now.rows.now in
    let keys = length-map (numbered_keys number rows) (λ (p : ℤ × ℕ). p.0) in
    let image : g.row.N.Denot × ℕ → ℤ × ℕ = λ p. (number p.0, p.1) in
    let long = length-map rows image in
    sym (numbered_key number rows c.args.row c.index-self-row.result (omega (arith, keys, long, c.requires)) (pos 0))
