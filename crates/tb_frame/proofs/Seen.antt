-- Names that are looked at one after another, with a set of those seen so far.
use Rattle.std.proofs.Common.{◌≡◌, ℕ, ◌+◌, ◌<◌, Bool, true, false, not, ◌||◌, List, [], length, get_or, take, refl, ap, sym, ◌∙◌, Some, None}
use Rattle.std.specs.List.{find}
use Rattle.std.specs.Option.{option_map}
use Rattle.std.proofs.lemmas.List.Folds.{list_any_more}
use Rattle.std.proofs.lemmas.Cmp.{nat_list_eq_equiv}
use Rattle.tb_value.specs.Promise.Names.{Name, same_name}
use Rattle.tb_value.specs.Promise.Pairs.{row_numbers}
use Rattle.tb_value.proofs.Finds.{find_row_more, find_row_stop}
use Rattle.tb_frame.specs.Promise.Naming.{is_among}
use Rattle.tb_frame.specs.Promise.Refusal.{first_repeated, name_at, repeats}

or_comm : (a b : Bool) → (a || b) ≡ (b || a)
or_comm true true = refl
or_comm true false = refl
or_comm false true = refl
or_comm false false = refl

not_true : (b : Bool) → true ≡ not b → b ≡ false
not_true true h = absurd (cc)
not_true false h = refl

not_false : (b : Bool) → false ≡ not b → b ≡ true
not_false true h = refl
not_false false h = absurd (cc)

module _ (names : List Name) (i : ℕ) (name : Name) (low : i < length names) (is : name ≡ get_or names i []) where
  -- the names seen after one more
  pub seen_more : (old new : Name → Bool) → ((n : Name) → old n ≡ is_among (take i names) n) → ((n : Name) → new n ≡ (same_name name n || old n)) → (n : Name) → new n ≡ is_among (take (i + 1) names) n
  seen_more old new was grown n =
      grown n
      ∙ ap (λ (b : Bool). same_name name n || b) (was n)
      ∙ ap (λ (b : Bool). b || is_among (take i names) n) (nat_list_eq_equiv.symm name n)
      ∙ or_comm (same_name n name) (is_among (take i names) n)
      ∙ ap (λ (x : Name). is_among (take i names) n || same_name n x) is
      ∙ sym (list_any_more (same_name n) names i [] low)

  here : (old : Name → Bool) → ((n : Name) → old n ≡ is_among (take i names) n) → old name ≡ repeats names i
  here old was = was name ∙ ap (λ (x : Name). is_among (take i names) x) is

  -- a new name leaves none that is repeated
  pub fresh_more : (old : Name → Bool) → ((n : Name) → old n ≡ is_among (take i names) n) → find (repeats names) (row_numbers i) ≡ None → true ≡ not (old name) → find (repeats names) (row_numbers (i + 1)) ≡ None
  fresh_more old was none added = find_row_more (repeats names) i (length names) low none (sym (here old was) ∙ not_true (old name) added)

  -- one that was seen is the first that is
  pub repeated_here : (old : Name → Bool) → ((n : Name) → old n ≡ is_among (take i names) n) → find (repeats names) (row_numbers i) ≡ None → false ≡ not (old name) → first_repeated names ≡ Some name
  repeated_here old was none added =
      ap (option_map (name_at names)) (find_row_stop (repeats names) i (length names) low none (sym (here old was) ∙ not_false (old name) added)) ∙ ap (λ (x : Name). Some x) (sym is)
