-- Walks over values, up to the first that is at fault.
use Rattle.std.proofs.Common.{◌≡◌, ℕ, ◌+◌, ◌-◌, ◌<◌, List, [], ◌∷◌, length, get_or, drop, Option, Some, None, String, Global, string_bytes, refl, sym, ap, ◌∙◌, add-one, cond}
use Rattle.std.proofs.Math.Seq.{drop-cons}
use Rattle.std.specs.Map.{keys_of}
use Rattle.serde_json.specs.Data.{Data, null, boolean, number, string, array, object, Members}
use Rattle.serde_json.specs.Find.{as_object}
use Rattle.tb_tree.specs.View.{members_view}
use Rattle.tb_tree.proofs.Views.{Entry}
use Rattle.tb_value.specs.Promise.Names.{Name}
use Rattle.tb_json.specs.Promise.Lists.{is_among}
use Rattle.tb_why.specs.declared.spot.Step.TheVariants.{Index}
use Rattle.tb_why.specs.Spots.{Spot, under, or_else, first_at, first_in_room}
use Rattle.tb_why.specs.Members.{unknown_in, unknown_among}
use Rattle.tb_request.specs.declared.request.Reason.{Reason}
use Rattle.tb_request.specs.declared.request.Reason.TheVariants as why
use Rattle.tb_request.specs.declared.shape.Format.{Format}
use Rattle.tb_why.specs.Columns.{column_spot, columns_spot, height}

-- the first i values are not at fault
abbrev pub Walk : {A : Type 0} → (A → Option Spot) → List A → ℕ → Type 0
Walk f ds i = first_at f 0 ds ≡ first_at f i (drop i ds)

-- the walk at the value in place i
at_value : {A : Type 0} (f : A → Option Spot) (ds : List A) (i : ℕ) (d : A) → i < length ds → d ≡ get_or ds i d → Walk f ds i
    → first_at f 0 ds ≡ or_else (under (Index i) (f d)) (first_at f (i + 1) (drop (i + 1) ds))
at_value f ds i d low is so_far =
    let same : get_or ds i d ≡ d = sym is in
    so_far ∙ ap (first_at f i) (drop-cons ds i d low) ∙ rw (same, add-one)

pub Walk-next : {A : Type 0} (f : A → Option Spot) (ds : List A) (i : ℕ) (d : A) → i < length ds → d ≡ get_or ds i d → f d ≡ None → Walk f ds i → Walk f ds (i + 1)
Walk-next f ds i d low is none so_far = at_value f ds i d low is so_far ∙ rw none

pub Walk-found : {A : Type 0} (f : A → Option Spot) (ds : List A) (i : ℕ) (d : A) (s : Spot) → i < length ds → d ≡ get_or ds i d → f d ≡ Some s → Walk f ds i → under (Index i) (Some s) ≡ first_at f 0 ds
Walk-found f ds i d s low is found so_far = sym (at_value f ds i d low is so_far ∙ rw found)

-- ---- the same with a room

-- the first i values are not at fault, and of this room they leave so much
abbrev pub RoomWalk : (Data → ℕ) → (ℕ → Data → Option Spot) → ℕ → List Data → ℕ → ℕ → Type 0
RoomWalk size f room ds i left = first_in_room size f room 0 ds ≡ first_in_room size f left i (drop i ds)

room_at_value : (size : Data → ℕ) (f : ℕ → Data → Option Spot) (room : ℕ) (ds : List Data) (i left : ℕ) (d : Data) → i < length ds → d ≡ get_or ds i d → RoomWalk size f room ds i left
    → first_in_room size f room 0 ds ≡ or_else (under (Index i) (f left d)) (first_in_room size f (left - size d) (i + 1) (drop (i + 1) ds))
room_at_value size f room ds i left d low is so_far =
    let same : get_or ds i d ≡ d = sym is in
    so_far ∙ ap (first_in_room size f left i) (drop-cons ds i d low) ∙ rw (same, add-one)

pub RoomWalk-next : (size : Data → ℕ) (f : ℕ → Data → Option Spot) (room : ℕ) (ds : List Data) (i left : ℕ) (d : Data) → i < length ds → d ≡ get_or ds i d → f left d ≡ None
    → RoomWalk size f room ds i left → RoomWalk size f room ds (i + 1) (left - size d)
RoomWalk-next size f room ds i left d low is none so_far = room_at_value size f room ds i left d low is so_far ∙ rw none

pub RoomWalk-found : (size : Data → ℕ) (f : ℕ → Data → Option Spot) (room : ℕ) (ds : List Data) (i left : ℕ) (d : Data) (s : Spot) → i < length ds → d ≡ get_or ds i d → f left d ≡ Some s
    → RoomWalk size f room ds i left → under (Index i) (Some s) ≡ first_in_room size f room 0 ds
RoomWalk-found size f room ds i left d s low is found so_far = sym (room_at_value size f room ds i left d low is so_far ∙ rw found)

-- ---- members of other names

abbrev pub unknown_from : List Name → List (String Global) → Option Name
unknown_from names [] = None
unknown_from names (k ∷ ks) = cond (is_among (string_bytes k) names) (unknown_from names ks) (Some (string_bytes k))

unknown_among-members_view : (names : List Name) (es : List Entry) → unknown_among names (members_view es) ≡ unknown_from names (keys_of es)
unknown_among-members_view names [] = refl
unknown_among-members_view names (e ∷ es) = ap (λ o. cond (is_among (string_bytes e.0) names) o (Some (string_bytes e.0))) (unknown_among-members_view names es)

some_parts : {A B : Type 0} (f : A → B) (x y : A) → Some x ≡ Some y → f x ≡ f y
some_parts f x y e = cc

unknown_in_members : (names : List Name) (d : Data) (ms : Members) → Some ms ≡ as_object d → unknown_in names d ≡ unknown_among names ms
unknown_in_members names null ms e = cc
unknown_in_members names (boolean b) ms e = cc
unknown_in_members names (number n) ms e = cc
unknown_in_members names (string s) ms e = cc
unknown_in_members names (array es) ms e = cc
unknown_in_members names (object ns) ms e = some_parts (unknown_among names) ns ms (sym e)

pub unknown_in-object : (names : List Name) (d : Data) (es : List Entry) → Some (members_view es) ≡ as_object d → unknown_in names d ≡ unknown_from names (keys_of es)
unknown_in-object names d es e = unknown_in_members names d (members_view es) e ∙ unknown_among-members_view names es

-- ---- columns

-- names alone are looked at together
pub columns_spot-single : (f : Format) (reason : Reason) (ds : List Data) → (reason ≡ why.Name → ⊥) → columns_spot f reason ds ≡ first_at (column_spot f reason (height f ds)) 0 ds
columns_spot-single f why.Json ds other = refl
columns_spot-single f why.Shape ds other = refl
columns_spot-single f why.Value ds other = refl
columns_spot-single f why.Rows ds other = refl
columns_spot-single f why.Exec ds other = refl
columns_spot-single f why.Heights ds other = refl
columns_spot-single f why.Name ds other = absurd (other refl)
columns_spot-single f why.Flag ds other = refl
