-- A value, level by level, and a `BTreeMap` beside the members that it stands for.
use Rattle.std.proofs.Common.{◌≡◌, ℕ, ℤ, List, map, length, [], ◌∷◌, Option, Some, None, option_map, String, Vec, BTreeMap, Global, Box, Ordering, Less, Equal, Greater, string_bytes, string_cmp, nat_cmp, is_eq, cond, Bor, refl, ◌∙◌, rules}
use Rattle.std.specs.Cmp.Lexicographic.{slice_cmp}
use Rattle.std.specs.Map.{lookup}
use Rattle.std.specs.Ordering.{match_ordering}
use Rattle.std.specs.BTreeMap.{insert_entry, is_at}
use Rattle.serde_json.specs.Data.{Data, array, object, put}
use Rattle.serde_json.specs.Find.{get_member}
use Rattle.serde_json.specs.View.{items_of}
use Rattle.tb_tree.specs.View.{view, items_view, members_view, two_of, whole}
use Rattle.tb_tree.specs.declared.value.Value.{Value, Array, Object, Wholes, the_lemmas}

abbrev pub Entry : Type 0
Entry = String Global × Value

pub view-Array : (v : Box (Vec Value Global) Global) → view (Array v) ≡ array (items_view v.value.items)
view-Array v = search (rules, the_lemmas)

pub view-Wholes : (v : Box (Vec ℤ Global) Global) → view (Wholes v) ≡ array (items_of (map whole v.value.items))
view-Wholes v = search (rules, the_lemmas)

pub view-Object : (m : Box (BTreeMap (String Global) Value) Global) → view (Object m) ≡ object (members_view m.value.entries)
view-Object m = search (rules, the_lemmas)

members_view-match_ordering : (o : Ordering) (a b c : List Entry) → members_view (match_ordering o a b c) ≡ match_ordering o (members_view a) (members_view b) (members_view c)
members_view-match_ordering Less a b c = refl
members_view-match_ordering Equal a b c = refl
members_view-match_ordering Greater a b c = refl

pub members_view-insert_entry : (es : List Entry) (k : String Global) (v : Value) → members_view (insert_entry string_cmp es k v) ≡ put (string_bytes k) (view v) (members_view es)
members_view-insert_entry [] k v = refl
members_view-insert_entry (e ∷ es) k v = members_view-match_ordering (string_cmp k e.0) _ _ _ ∙ rw (members_view-insert_entry es k v)

found_or : (o : Ordering) (v : Value) (rest : Option Value) (d : Option Data) → option_map view rest ≡ d → option_map view (cond (is_eq o) (Some v) rest) ≡ match_ordering o d (Some (view v)) d
found_or Less v rest d e = e
found_or Equal v rest d e = refl
found_or Greater v rest d e = e

pub view-lookup : (name : List ℕ) (es : List Entry) → option_map view (lookup (is_at (λ k. slice_cmp nat_cmp name (string_bytes k))) es) ≡ get_member name (members_view es)
view-lookup name [] = refl
view-lookup name (e ∷ es) = found_or (slice_cmp nat_cmp name (string_bytes e.0)) e.1 _ _ (view-lookup name es)

-- only two values are a pair
pub no_pair : (ds : List Data) → (length ds ≡ 2 → ⊥) → None ≡ two_of (items_of ds)
no_pair [] h = refl
no_pair (d ∷ []) h = refl
no_pair (d ∷ e ∷ []) h = absurd (h refl)
no_pair (d ∷ e ∷ f ∷ ds) h = refl

pub view_of_ref : (r : Option (Bor Value)) → option_map (λ x. view x.now) r ≡ option_map view (option_map (λ x. x.now) r)
view_of_ref None = refl
view_of_ref (Some x) = refl
