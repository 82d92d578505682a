use Rattle.std.proofs.Common.{◌∙◌, ◌<◌, length, arith}
use Rattle.std.proofs.lemmas.List.{length-map}
use Rattle.tb_value.specs.See.{datum, data_of}
use Rattle.tb_delta.proofs.Placed.{key_at, key_low}
use Rattle.tb_delta.proofs.steps.push_row.Goals as goal

pub index-requires : goal.index-requires
index-requires c = omega (arith, key_low c.args.rows.now c.requires.placed (data_of c.args.row.items) c.requires.fits, length-map c.args.row.items datum, c.args.row.ok.0)

pub put_row-requires-clause-keyed : goal.put_row-requires-clause-keyed
put_row-requires-clause-keyed c =
    let low : c.args.rows.now.key < length c.args.row.items = omega (arith, key_low c.args.rows.now c.requires.placed (data_of c.args.row.items) c.requires.fits, length-map c.args.row.items datum) in
    c.in_ok-key.ensures ∙ key_at c.args.rows.now c.requires.placed c.args.row.items c.index.result.now low c.index.ensures
