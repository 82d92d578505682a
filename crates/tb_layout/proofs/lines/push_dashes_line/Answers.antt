use Rattle.std.proofs.Common.{◌≡◌, List, OnOk, ℕ, arith, length, subst}
use Rattle.tb_frame.specs.Promise.Table.{table_of}
use Rattle.tb_layout.specs.Promise.Lines.{dashes_in, side_by_side}
use Rattle.tb_layout.proofs.Trimmed.{line_end}
use Rattle.tb_layout.proofs.lines.push_dashes_line.Goals as goal

pub returns : goal.returns
returns c =
    let g = c.args.grid.now in
    let begins : c.len-start.result ≡ length c.args.text.now.items = omega arith in
    subst (λ (s : List ℕ). OnOk c.end_line.result (c.end_line.new.text.items ≡ s))
    (line_end g.line c.len-start.result (side_by_side (dashes_in g.line) (table_of g.columns.now)) c.args.text.now.items c.push_dashes.new.text.items c.in_ok-push_dashes.ensures begins)
    c.end_line.ensures
