use Rattle.std.proofs.Common.{length, ap, arith}
use Rattle.tb_rowkey.specs.Places.{places_in}
use Rattle.tb_rowkey.proofs.Written.{keys_count}
use Rattle.tb_rowkey.proofs.row_keys.RowKeys.len.Goals as goal

pub returns-clause-exact : goal.returns-clause-exact
returns-clause-exact c =
    let count = keys_count c.self.inside.bytes.items (places_in c.self.inside.places) in
    omega (arith, c.len.ensures, count, ap length c.self.view_is)
