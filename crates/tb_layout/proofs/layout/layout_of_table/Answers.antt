use Rattle.std.proofs.Common.{◌≡◌, ◌++◌, ◌∙◌, List, ℕ, ap, codes, encode_utf8_all, flat_map, length, take}
use Rattle.tb_value.specs.Promise.Pairs.{row_numbers}
use Rattle.tb_chunk.specs.Promise.Col.{Col}
use Rattle.tb_frame.specs.Promise.Table.{Table, names_of, table_of}
use Rattle.tb_layout.specs.Laid.{ended, head_text, row_bytes}
use Rattle.tb_layout.specs.Promise.Lines.{cut_columns, fitting_columns, left_out, note, shown}
use Rattle.tb_layout.proofs.Laid.{cut_shown, other_columns, shown_columns, written_whole}
use Rattle.tb_layout.proofs.Sides.{shown_high}
use Rattle.tb_layout.proofs.layout.layout_of_table.Goals as goal

pub push_rows-requires : goal.push_rows-requires
push_rows-requires g c =
    let n = fitting_columns c.args.width (table_of c.get_columns-columns.result.now) in (
      search,
      shown_high c.args.table.now c.in_ok-grid.grid.columns.now n c.height.result (c.in_ok-grid.ensures.columns ∙ ap (take n) c.get_columns-columns.ensures.columns)
          c.height.ensures.height c.get_columns-columns.ensures.table.one_height,
    )

pub returns : goal.returns
returns g c =
    let width = c.args.width in
    let cs = c.get_columns-columns.result.now in
    let ks = c.in_ok-grid.grid.columns.now in
    let t = table_of c.args.table.now in
    let same = c.get_columns-columns.ensures.columns in
    let columns : table_of ks ≡ shown width t = shown_columns width cs ks c.in_ok-grid.ensures.columns ∙ ap (λ (ds : List Col). shown width (table_of ds)) same in
    let others : table_of c.columns_behind-others.result.now ≡ left_out width t = other_columns width (length ks) cs c.columns_behind-others.result.now c.in_ok-grid.ensures.count c.columns_behind-others.ensures ∙ ap (λ (ds : List Col). left_out width (table_of ds)) same in
    let line = c.in_ok-grid.ensures.line in
    let cut = c.cut_columns-cut.ensures ∙ (λ i. cut_columns (line i) (columns i)) ∙ cut_shown width t in
    let high = c.height.ensures.height in
    let said = λ (old what : List _) (u : Table). old ++ encode_utf8_all (ended (note what (names_of u))) in
    written_whole width t c.push.new.self c.push_rows.new.text c.push_note.new.text c.push_note-2.new.text
    (c.in_ok-push.ensures.grown ∙ ap (λ (s : List ℕ). s ++ c.in_ok-head.head.items) c.new-text.ensures ∙ c.in_ok-head.ensures ∙ (λ i. encode_utf8_all (head_text (line i) (columns i))))
    (c.in_ok-push_rows.ensures ∙ (λ i. c.push.new.self ++ flat_map (row_bytes (line i) (columns i)) (row_numbers (high i))))
    (c.in_ok-push_note.ensures ∙ ap (said c.push_rows.new.text (codes "cut")) cut)
    (c.in_ok-push_note-2.ensures ∙ ap (said c.push_note.new.text (codes "left out")) others)
