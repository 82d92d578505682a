use Rattle.std.specs.Prelude.{is_some}
use Rattle.std.specs.Str.{bytes_eq}
use Rattle.std.specs.Map.Iter.{TakesFirst}
use Rattle.serde_json.specs.Data.{Data, Members, member, no_members, depth, members_depth}
use Rattle.serde_json.specs.View.{items_of}
use Rattle.std.proofs.Common.{◌≡◌, ℕ, suc, List, [], ◌∷◌, Option, Some, None, true, false, codes, refl, rules, tests, string_bytes, map, option_map, ◌∙◌, sym, ap, arith}
use Rattle.std.proofs.lemmas.List.{map_push}
use Rattle.tb_tree.specs.View.{view, item_view, listed, members_view}
use Rattle.tb_value.specs.Promise.Kind.{parts_of}
use Rattle.tb_value.specs.SeeKind.{part}
use Rattle.tb_tree.proofs.Views.{view-Object}
use Rattle.tb_json.specs.Promise.Kinds.{part_in, members_part, members_kind, field_named, kind_in, each_part}
use Rattle.tb_json.proofs.LentValues.{ItemsWalk-more, ItemsWalk-fails, ItemsWalk-all}
use Rattle.tb_json.proofs.Depths.{array_depth, depth_at, first_depth, object_depth, second_depth}
use Rattle.tb_json.proofs.FieldWalks.{each_part-each}
use Rattle.tb_json.proofs.read_kinds.+kinds.Goals as goal

pub each_field-returns-in_default : goal.each_field-returns-in_default
each_field-returns-in_default t c =
    ap (option_map parts_of) (ItemsWalk-fails part_in _ _ _ _ (omega arith) c.at.ensures (sym c.in_ok-field.ensures ∙ ap (option_map part) c.in_default.is) c.loop-i.invariant)
    ∙ sym (each_part-each (listed c.args.items))

pub each_field-loop-i-preserved : goal.each_field-loop-i-preserved
each_field-loop-i-preserved t c =
    rw (c.in_ok-push.ensures.items, map_push)
    (ItemsWalk-more part_in _ _ _ _ _ (omega arith) c.at.ensures (sym c.in_ok-field.ensures ∙ ap (option_map part) c.in-Some.is) c.loop-i.invariant)

pub each_field-returns : goal.each_field-returns
each_field-returns t c =
    ap (option_map parts_of) (ItemsWalk-all part_in _ _ _ (omega arith) c.loop-i.invariant)
    ∙ sym (each_part-each (listed c.args.items))

none_left : {A X : Type 0} (shows : A → X) (s t : List X) (r : Option A) → is_some r ≡ false → TakesFirst shows s r t → s ≡ []
none_left shows s t None e h = h.0
none_left shows s t (Some x) e h = cc

two : (ms : Members) (k l : List ℕ) (n d : Data) → ms ≡ member k n (member l d no_members) → bytes_eq k (codes "name") ≡ true → bytes_eq l (codes "type") ≡ true → members_part ms ≡ field_named (kind_in d) n
two ms k l n d e h g = ap members_part e ∙ rw (h, g) refl

pub members_field-returns : goal.members_field-returns
members_field-returns t c =
    let none = none_left _ _ _ _ (sym c.is_some.ensures ∙ c.if-is_some.false) c.next-3.ensures.steps in
    let all = c.in-Some.ensures.steps ∙ ap (λ es. (c.in-Some.first.now, c.in-Some.name.now) ∷ es) (c.in-Some-next.ensures.steps ∙ ap (λ es. (c.in-Some-next.second.now, c.in-Some-next.value.now) ∷ es) none) in
    let seen = ap members_view (sym c.iter-iter.ensures.rest ∙ all) in
    let first : bytes_eq (string_bytes c.in-Some.first.now) (codes "name") ≡ true = first_of (search (rules, tests), grind (arith, tests)) in
    let second : bytes_eq (string_bytes c.in-Some-next.second.now) (codes "type") ≡ true = first_of (search (rules, tests), grind (arith, tests)) in
    let whole = two _ _ _ _ _ seen first second ∙ ap (λ k. field_named k (view c.in-Some.name.now)) (sym c.in_ok-dtype.ensures) in
    rw whole c.named.ensures

pub type_of-returns-in-Object : goal.type_of-returns-in-Object
type_of-returns-in-Object t c =
    let seen = ap (λ v. kind_in (view v)) c.in-Object.is ∙ ap kind_in (view-Object c.in-Object.members) ∙ ap (λ m. members_kind (members_view m.entries)) (sym c.deref.ensures) in
    rw seen c.members_type.ensures

pub type_of-members_type-requires : goal.type_of-members_type-requires
type_of-members_type-requires t c =
    let level = ap (λ v. depth (view v)) c.in-Object.is ∙ ap depth (view-Object c.in-Object.members) ∙ ap (λ m. suc (members_depth (members_view m.entries))) (sym c.deref.ensures) in
    omega (arith, level, c.decreases)

pub members_type-type_of-requires : goal.members_type-type_of-requires
members_type-type_of-requires t c =
    let seen = ap members_view (sym c.iter-iter.ensures.rest ∙ c.in-Some.ensures.steps) in
    let below = first_depth _ _ _ _ seen in
    omega (arith, below, c.decreases)

pub members_type-fields_of-requires : goal.members_type-fields_of-requires
members_type-fields_of-requires t c =
    let seen = ap members_view (sym c.iter-iter.ensures.rest ∙ c.in-Some.ensures.steps) in
    let below = first_depth _ _ _ _ seen in
    omega (arith, below, c.decreases)

pub fields_of-each_field-requires : goal.fields_of-each_field-requires
fields_of-each_field-requires t c =
    let level = array_depth (view c.args.value.now) (items_of (listed c.in-Some.items)) c.in-Some.ensures in
    omega (arith, level, c.decreases)

pub each_field-field_of-requires : goal.each_field-field_of-requires
each_field-field_of-requires t c =
    let below = depth_at (listed c.args.items) c.loop-i.i (item_view c.at.result) (omega arith) c.at.ensures in
    omega (arith, below, c.decreases)

pub field_of-members_field-requires : goal.field_of-members_field-requires
field_of-members_field-requires t c =
    let level = object_depth (item_view c.args.item) (members_view c.in-Some.members.now.entries) c.in-Some.ensures in
    omega (arith, level, c.decreases)

pub members_field-type_of-requires : goal.members_field-type_of-requires
members_field-type_of-requires t c =
    let seen = ap members_view (sym c.iter-iter.ensures.rest ∙ c.in-Some.ensures.steps ∙ ap (λ es. (c.in-Some.first.now, c.in-Some.name.now) ∷ es) c.in-Some-next.ensures.steps) in
    let below = second_depth _ _ _ _ _ _ seen in
    omega (arith, below, c.decreases)
