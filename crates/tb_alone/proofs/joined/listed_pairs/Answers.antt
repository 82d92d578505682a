use Rattle.std.proofs.Common.{arith}
use Rattle.std.specs.Borrow.{Bor}
use Rattle.std.proofs.lemmas.List.{length-map}
use Rattle.tb_chunk.specs.Promise.Col.{Col}
use Rattle.tb_chunk.specs.Lent.{lent_columns}
use Rattle.tb_frame.specs.Promise.Table.{height, table_of}
use Rattle.tb_pairs.proofs.Keys.{level, some_right}
use Rattle.tb_alone.proofs.joined.listed_pairs.Goals as goal

pub row_keys-requires-clause-some : goal.row_keys-requires-clause-some
row_keys-requires-clause-some c =
    let r = c.args.request.now in
    let long = length-map r.left_keys.now (λ (b : Bor Col). b.now) in
    omega (arith, long, c.requires.alike.some)

pub row_keys-requires-clause-rows : goal.row_keys-requires-clause-rows
row_keys-requires-clause-rows c =
    let r = c.args.request.now in
    level (height (table_of r.left.now)) (lent_columns r.left_keys.now) c.requires.alike.some r.left_rows

pub row_keys-requires-2-clause-some : goal.row_keys-requires-2-clause-some
row_keys-requires-2-clause-some c =
    let r = c.args.request.now in
    let long = length-map r.right_keys.now (λ (b : Bor Col). b.now) in
    let some = some_right (lent_columns r.left_keys.now) (lent_columns r.right_keys.now) c.requires.alike in
    omega (arith, long, some)

pub row_keys-requires-2-clause-rows : goal.row_keys-requires-2-clause-rows
row_keys-requires-2-clause-rows c =
    let r = c.args.request.now in
    level (height (table_of r.right.now)) (lent_columns r.right_keys.now) (some_right (lent_columns r.left_keys.now) (lent_columns r.right_keys.now) c.requires.alike) r.right_rows
