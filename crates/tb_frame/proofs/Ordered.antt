-- Where the order is fixed, one list alone is in it.
use Rattle.std.proofs.Common.{◌≡◌, List, refl}
use Rattle.std.specs.Prelude.{◌≢◌, IsPermutation}
use Rattle.tb_value.specs.declared.index.JoinPair.{JoinPair}
use Rattle.tb_value.specs.Promise.Pairs.{left_first, right_first}
use Rattle.tb_frame.specs.Promise.Join.{Ascends}
use Rattle.tb_frame.specs.declared.args.Direction.{Direction}
use Rattle.tb_frame.specs.declared.args.Direction.TheVariants.{Free, ByLeft, ByRight}
use Rattle.tb_value.proofs.Orders.{left_first_total, right_first_total, left_first_same, right_first_same}
use Rattle.tb_value.proofs.Unique.{sorted_once}

pub one_order : (d : Direction) → d ≢ Free → (ps qs list : List JoinPair) → IsPermutation list ps → IsPermutation list qs → Ascends d ps → Ascends d qs → ps ≡ qs
one_order Free fixed ps qs list hp hq ap aq = absurd (fixed refl)
one_order ByLeft fixed ps qs list hp hq ap aq = sorted_once left_first left_first_total left_first_same ps qs list hp hq ap aq
one_order ByRight fixed ps qs list hp hq ap aq = sorted_once right_first right_first_total right_first_same ps qs list hp hq ap aq
