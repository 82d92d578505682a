use Rattle.std.proofs.Common.{arith}
use Rattle.std.proofs.lemmas.List.{length-map}
use Rattle.tb_alone.specs.Keys.{lent_coded}
use Rattle.tb_alone.proofs.validation.check_side.Goals as goal

pub have_twins-requires : goal.have_twins-requires
have_twins-requires c = omega (arith, length-map c.args.keys.now lent_coded, c.know_rows.ensures.few)
