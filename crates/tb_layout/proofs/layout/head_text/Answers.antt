use Rattle.tb_frame.specs.Promise.Table.{table_of}
use Rattle.tb_layout.proofs.Laid.{head_written}
use Rattle.tb_layout.proofs.layout.head_text.Goals as goal

pub returns : goal.returns
returns c =
    let g = c.args.grid.now in
    head_written g.line (table_of g.columns.now) c.new-text.result.items c.push_names_line.new.text.items c.push_dashes_line.new.text.items
    c.new-text.ensures.items c.in_ok-push_names_line.ensures c.in_ok-push_dashes_line.ensures
