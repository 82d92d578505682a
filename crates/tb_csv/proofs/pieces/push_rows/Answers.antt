use Rattle.std.proofs.Common.{◌≡◌, ◌++◌, ◌∙◌, List, OnOk, length, arith, subst, sym, ℕ}
use denote.Param.Send.{sendable}
use Rattle.std.proofs.Crossing.{crosses}
use Rattle.std.specs.List.{All, flat_map}
use Rattle.std.proofs.lemmas.List.Folds.{flat_map-map}
use Rattle.tb_value.specs.Promise.Pairs.{row_numbers}
use Rattle.tb_chunk.specs.Promise.Col.{Col, values}
use Rattle.tb_frame.specs.Promise.Table.{height, table_of}
use Rattle.tb_store.proofs.Crossing.{Column-sync}
use Rattle.tb_csv.specs.Promise.Texts.{body_text, record_text, row_fields}
use Rattle.tb_csv.specs.Texts.{row_text}
use Rattle.tb_csv.proofs.TextWalks.{body_of_columns, level_columns}
use Rattle.tb_csv.proofs.pieces.push_rows.Goals as goal

pub push_row_pieces-requires-sync-F : goal.push_row_pieces-requires-sync-F
push_row_pieces-requires-sync-F g c κs within = search (Column-sync, crosses, sendable) depth 60 fits 20000

pub push_row_pieces-requires-after_bounds : goal.push_row_pieces-requires-after_bounds
push_row_pieces-requires-after_bounds g c κs within =
    let level : All (λ (k : Col). length (values k) ≡ c.height.result) c.get_columns-columns.result.now = rw (c.get_columns-columns.ensures.columns, c.height.ensures.height) (level_columns c.args.table.now (height (table_of c.args.table.now)) c.get_columns-columns.ensures.table.one_height) in
    λ start end order low k d there. omega (arith, low, level k d there)

pub returns : goal.returns
returns g c =
    let columns = c.get_columns-columns.result.now in
    let high = c.height.result in
    let row = row_text c.args.separator (table_of columns) in
    let body : flat_map row (row_numbers high) ≡ body_text c.args.separator (table_of c.args.table.now) =
    sym (flat_map-map (record_text c.args.separator) (row_fields (table_of columns)) (row_numbers high))
    ∙ body_of_columns c.args.separator columns c.args.table.now high c.get_columns-columns.ensures.columns c.height.ensures.height in
    subst (λ (s : List ℕ). OnOk c.push_row_pieces.result (c.push_row_pieces.new.text ≡ c.args.text.now ++ s)) body (c.push_row_pieces.ensures row (λ start end r order low post. post))
