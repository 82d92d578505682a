-- The columns of some names, taken apart from the others, are found by these names as among all.
use Rattle.std.proofs.Common.{◌≡◌, ◌∙◌, Bool, true, false, cond, List, [], ◌∷◌, get_or, refl, ap, sym, Some, None, is_none}
use Rattle.std.specs.Prelude.{All}
use Rattle.std.specs.List.{cons_option, find}
use Rattle.std.proofs.lemmas.List.Elements.{All-head, All-tail}
use Rattle.std.proofs.lemmas.List.Folds.{list_any_at}
use Rattle.std.proofs.lemmas.Slice.Eq.{bytes_eq-Decides}
use Rattle.tb_value.specs.Promise.Names.{Name, same_name}
use Rattle.tb_chunk.specs.Promise.Col.{Col}
use Rattle.tb_frame.specs.Promise.Frame.{selected_columns}
use Rattle.tb_frame.specs.Promise.Naming.{is_among}
use Rattle.tb_frame.specs.Promise.Refusal.{first_unknown}
use Rattle.tb_frame.specs.Promise.Table.{table_of}
use Rattle.tb_frame.proofs.Selected.{found, unknown, unknown-is}
use Rattle.tb_join.specs.AnswerColumns.{with_names}

-- tests that agree on each item find the same
find-agreed : {X : Type 0} (p q : X → Bool) (xs : List X) → All (λ x. p x ≡ q x) xs → find p xs ≡ find q xs
find-agreed p q [] h = refl
find-agreed p q (x ∷ xs) h = λ t. cond (All-head (λ y. p y ≡ q y) x xs h t) (Some x) (find-agreed p q xs (All-tail (λ y. p y ≡ q y) x xs h) t)

-- each name is one of them
own : (names : List Name) → All (λ n. is_among names n ≡ true) names
own names = λ k d low. list_any_at (same_name (get_or names k d)) names k d low ((bytes_eq-Decides (get_or names k d) (get_or names k d)).1 refl)

module _ (names : List Name) where
  found-among : (n : Name) → is_among names n ≡ true → (cs : List Col) → found n (with_names names cs) ≡ found n cs
  found-among n h [] = refl
  found-among n h (c ∷ cs) = at (is_among names c.name) (same_name c.name n) refl refl (found-among n h cs)
    where
      at : (a b : Bool) → is_among names c.name ≡ a → same_name c.name n ≡ b → found n (with_names names cs) ≡ found n cs → found n (cond a (c ∷ with_names names cs) (with_names names cs)) ≡ cond b (Some c) (found n cs)
      at true b e f rest = λ t. cond (f t) (Some c) (rest t)
      at false true e f rest = let same : is_among names c.name ≡ true = ap (is_among names) ((bytes_eq-Decides c.name n).0 f) ∙ h in absurd (cc)
      at false false e f rest = rest

  unknown-among : (cs : List Col) (n : Name) → is_among names n ≡ true → unknown (with_names names cs) n ≡ unknown cs n
  unknown-among cs n h = sym (unknown-is n (with_names names cs)) ∙ ap is_none (found-among n h cs) ∙ unknown-is n cs

  each-selected : (cs : List Col) (ms : List Name) → All (λ m. is_among names m ≡ true) ms → selected_columns ms (with_names names cs) ≡ selected_columns ms cs
  each-selected cs [] h = refl
  each-selected cs (m ∷ ms) h = λ t. cons_option (found-among m (All-head (λ k. is_among names k ≡ true) m ms h) cs t) (each-selected cs ms (All-tail (λ k. is_among names k ≡ true) m ms h) t)

  pub selected-among : (cs : List Col) → selected_columns names (with_names names cs) ≡ selected_columns names cs
  selected-among cs = each-selected cs names (own names)

  pub known-among : (cs : List Col) → first_unknown (table_of cs) names ≡ None → first_unknown (table_of (with_names names cs)) names ≡ None
  known-among cs h = find-agreed (unknown (with_names names cs)) (unknown cs) names (λ k d low. unknown-among cs (get_or names k d) (own names k d low)) ∙ h
