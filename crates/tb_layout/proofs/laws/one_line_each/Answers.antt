use Rattle.std.proofs.Common.{◌≡◌, ◌∙◌, ℕ, List, arith, length, map}
use Rattle.std.proofs.lemmas.List.{length-map}
use Rattle.std.proofs.lemmas.List.FromFn.{length-map-range_with_len}
use Rattle.tb_value.specs.Promise.Pairs.{row_numbers}
use Rattle.tb_frame.specs.Promise.Table.{height}
use Rattle.tb_layout.specs.Promise.Characters.{cut, trimmed_text}
use Rattle.tb_layout.specs.Promise.Lines.{cell_in, shown, side_by_side}
use Rattle.tb_layout.proofs.laws.one_line_each.Goals as goal

pub returns : goal.returns
returns c line t =
    let row = λ (i : ℕ). side_by_side (cell_in line i) (shown line t) in
    let fitted = λ (l : List ℕ). trimmed_text (cut line l) in
    let rows : length (map fitted (map row (row_numbers (height t)))) ≡ height t = length-map (map row (row_numbers (height t))) fitted ∙ length-map-range_with_len row 0 (height t) in
    omega (arith, rows)
