-- The names of the columns whose values are compared, aggregate by aggregate.
use Rattle.std.proofs.Common.{◌≡◌, ◌∙◌, ◌<◌, ◌+◌, ◌||◌, ℕ, Bool, true, false, List, [], ◌∷◌, ◌++◌, Some, cond, filter, get_or, length, map, take, refl, sym, ap}
use Rattle.std.proofs.lemmas.Cmp.{nat_list_eq_equiv}
use Rattle.std.proofs.lemmas.List.{map-append, take_more}
use Rattle.std.proofs.lemmas.List.Elements.{filter-append}
use Rattle.std.proofs.lemmas.List.Folds.{list_any-append}
use Rattle.tb_value.specs.Promise.Names.{Name, same_name}
use Rattle.tb_frame.specs.Promise.Naming.{is_among}
use Rattle.tb_group.specs.Promise.Request.{agg_sources}
use Rattle.tb_group.specs.declared.request.GroupAgg.{GroupAgg}
use Rattle.tb_front.specs.Promise.Asked.{compares}
use Rattle.tb_group_front.specs.Promise.Grouped.{compared_names}

or_false : (a : Bool) → a ≡ (a || false)
or_false true = refl
or_false false = refl

swap : (a b : Bool) → (a || b) ≡ (b || (a || false))
swap true true = refl
swap true false = refl
swap false true = refl
swap false false = refl

module _ (aggs : List GroupAgg) (i : ℕ) (a : GroupAgg) (low : i < length aggs) (is : a ≡ get_or aggs i a) where
  abbrev so_far : List Name
  so_far = compared_names (take i aggs)

  split : compared_names (take (i + 1) aggs) ≡ so_far ++ compared_names (a ∷ [])
  split =
      ap (λ (xs : List GroupAgg). compared_names xs) (take_more aggs i a low ∙ ap (λ (x : GroupAgg). take i aggs ++ x ∷ []) (sym is))
      ∙ ap (λ (xs : List GroupAgg). agg_sources xs) (filter-append (λ (x : GroupAgg). compares (Some x.agg)) (take i aggs) (a ∷ []))
      ∙ map-append (λ (x : GroupAgg). x.column) (filter (λ (x : GroupAgg). compares (Some x.agg)) (take i aggs)) (filter (λ (x : GroupAgg). compares (Some x.agg)) (a ∷ []))

  one_more : (n : Name) (b : Bool) → compares (Some a.agg) ≡ b → is_among (compared_names (take (i + 1) aggs)) n ≡ (is_among so_far n || is_among (agg_sources (cond b (a ∷ []) [])) n)
  one_more n b e =
      ap (λ (ns : List Name). is_among ns n) split
      ∙ list_any-append (same_name n) so_far (compared_names (a ∷ []))
      ∙ ap (λ (c : Bool). is_among so_far n || is_among (agg_sources (cond c (a ∷ []) [])) n) e

  -- an aggregate that doesn't compare
  pub passed_over : compares (Some a.agg) ≡ false → (old : Name → Bool) → ((n : Name) → old n ≡ is_among so_far n) → (n : Name) → old n ≡ is_among (compared_names (take (i + 1) aggs)) n
  passed_over e old was n = was n ∙ or_false (is_among so_far n) ∙ sym (one_more n false e)

  -- one that does
  pub added : compares (Some a.agg) ≡ true → (old new : Name → Bool) → ((n : Name) → old n ≡ is_among so_far n) → ((n : Name) → new n ≡ (same_name a.column n || old n))
      → (n : Name) → new n ≡ is_among (compared_names (take (i + 1) aggs)) n
  added e old new was grown n =
      grown n
      ∙ ap (λ (b : Bool). b || old n) (nat_list_eq_equiv.symm a.column n)
      ∙ ap (λ (b : Bool). same_name n a.column || b) (was n)
      ∙ swap (same_name n a.column) (is_among so_far n)
      ∙ sym (one_more n true e)
