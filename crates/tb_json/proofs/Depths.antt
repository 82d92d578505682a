-- How deep values nest that stand in others.
use Rattle.std.proofs.Common.{◌≡◌, ◌<◌, ◌≤◌, ℕ, zero, suc, max, List, [], ◌∷◌, length, get_or, Option, Some, None, String, Global, sym, ap, arith}
use Rattle.serde_json.specs.Data.{Data, null, boolean, number, string, array, object, depth, items_depth, members_depth, Items, Members, member}
use Rattle.serde_json.specs.Find.{as_array, as_object}
use Rattle.serde_json.specs.View.{items_of}

inner : {A : Type 0} (f : A → ℕ) (x y : A) → Some x ≡ Some y → f x ≡ f y
inner f x y e = cc

-- an array nests one level deeper than its values
pub array_depth : (d : Data) (ds : Items) → Some ds ≡ as_array d → depth d ≡ suc (items_depth ds)
array_depth null ds e = cc
array_depth (boolean b) ds e = cc
array_depth (number n) ds e = cc
array_depth (string s) ds e = cc
array_depth (array es) ds e = ap suc (inner items_depth es ds (sym e))
array_depth (object ms) ds e = cc

pub object_depth : (d : Data) (ms : Members) → Some ms ≡ as_object d → depth d ≡ suc (members_depth ms)
object_depth null ms e = cc
object_depth (boolean b) ms e = cc
object_depth (number n) ms e = cc
object_depth (string s) ms e = cc
object_depth (array es) ms e = cc
object_depth (object ns) ms e = ap suc (inner members_depth ns ms (sym e))

-- and no value deeper than all of them
pub depth_at : (ds : List Data) (i : ℕ) (d : Data) → i < length ds → d ≡ get_or ds i d → depth d ≤ items_depth (items_of ds)
depth_at [] i d within is = absurd (omega arith)
depth_at (e ∷ ds) zero d within is = let same : depth d ≡ depth e = ap depth is in omega arith
depth_at (e ∷ ds) (suc i) d within is = let below = depth_at ds i d (omega arith) is in omega arith

pub first_depth : (ms rest : Members) (k : List ℕ) (d : Data) → ms ≡ member k d rest → depth d ≤ members_depth ms
first_depth ms rest k d e = let same : members_depth ms ≡ members_depth (member k d rest) = ap members_depth e in omega arith

pub second_depth : (ms rest : Members) (k l : List ℕ) (d e : Data) → ms ≡ member k d (member l e rest) → depth e ≤ members_depth ms
second_depth ms rest k l d e is = let same : members_depth ms ≡ members_depth (member k d (member l e rest)) = ap members_depth is in omega arith
