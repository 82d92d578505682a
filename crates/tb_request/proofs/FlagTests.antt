-- The test of a flag is true exactly where the flag is.
use Rattle.std.proofs.Common.{◌≡◌, ◌↔◌, Bool, true, false, ◌&&◌, List, refl}
use Rattle.std.specs.Bool.{Decides, one_answer}
use Rattle.std.specs.Prelude.{IsTrue}
use Rattle.std.proofs.lemmas.Bool.{and_from, and_parts}
use Rattle.tb_value.specs.Promise.Datum.{Datum}
use Rattle.tb_value.specs.Promise.Kind.{Kind}
use Rattle.tb_value.specs.Promise.SameKind.{is_key}
use Rattle.tb_value.specs.declared.sorted.IsSorted.{IsSorted}
use Rattle.tb_value.specs.declared.sorted.IsSorted.TheVariants.{Ascending, Descending, Not}
use Rattle.tb_chunk.specs.Flag.{IsOrdered, FlagHolds}
use Rattle.tb_cell.specs.Promise.Order.{order_of, keeps_order}
use Rattle.tb_chunk.proofs.Follow.{keeps_order_decides}
use Rattle.tb_request.specs.Promise.Flags.{flag_holds}

ordered_Decides : (down : Bool) (t : Kind) (vs : List Datum) → Decides (is_key t && keeps_order down vs) (IsOrdered (order_of down) t vs)
ordered_Decides down t vs = (
  λ h. let p = and_parts (is_key t) (keeps_order down vs) h in (keeps_order_decides down t vs p.0).0 p.1,
  λ h. and_from (is_key t) (keeps_order down vs) h.0 ((keeps_order_decides down t vs h.0).1 h),
)

-- the test of the flag
pub flag_Decides : (f : IsSorted) (t : Kind) (vs : List Datum) → Decides (flag_holds f t vs) (FlagHolds f t vs)
flag_Decides Ascending t vs = ordered_Decides false t vs
flag_Decides Descending t vs = ordered_Decides true t vs
flag_Decides Not t vs = (λ _. tt, λ _. refl)

-- a call that decides the flag gives the test
pub flag_is : (f : IsSorted) (t : Kind) (vs : List Datum) (r : Bool) → IsTrue r ↔ FlagHolds f t vs → r ≡ flag_holds f t vs
flag_is f t vs r h = one_answer r (flag_holds f t vs) h (flag_Decides f t vs)
