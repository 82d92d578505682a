use Rattle.std.proofs.Common.{◌==◌}
use Rattle.std.proofs.lemmas.Simd.{length-chunk, zip2_of_maps, zip2_splat}
use lib.Lanes.{chunk}
use Rattle.tb_csv.specs.Plain.{is_field_end}
use Rattle.tb_csv.proofs.PlainLanes.{none_passes, one_of_three, one_passes}
use Rattle.tb_csv.proofs.plain.bytes_before_end.Goals as goal

pub returns-then-ends-eq0 : goal.returns-then-ends-eq0
returns-then-ends-eq0 c =
    let v = chunk c.args.place 16 c.args.text.now in
    let long = length-chunk c.args.place 16 c.args.text.now c.requires in
    none_passes (is_field_end c.args.separator) v _ _ long
    (zip2_of_maps _ _ _ v (zip2_splat _ v 16 c.args.separator long) (zip2_of_maps _ _ _ v (zip2_splat _ v 16 13 long) (zip2_splat _ v 16 10 long)))
    (λ x. one_of_three (x == c.args.separator) (x == 13) (x == 10)) c.if-ends-eq0.true

pub returns-else-ends-eq0 : goal.returns-else-ends-eq0
returns-else-ends-eq0 c =
    let v = chunk c.args.place 16 c.args.text.now in
    let long = length-chunk c.args.place 16 c.args.text.now c.requires in
    one_passes (is_field_end c.args.separator) v _ _ long
    (zip2_of_maps _ _ _ v (zip2_splat _ v 16 c.args.separator long) (zip2_of_maps _ _ _ v (zip2_splat _ v 16 13 long) (zip2_splat _ v 16 10 long)))
    (λ x. one_of_three (x == c.args.separator) (x == 13) (x == 10)) c.if-ends-eq0.false
