-- Where the texts of a chunk are put.
use Rattle.std.specs.Prelude.{◌≡◌, ◌+◌, ◌-◌, ◌++◌, ℕ, List, [], ◌∷◌, Option, Some, None, replicate}
use Rattle.std.specs.List.{All}
use Rattle.std.specs.Option.{option_map}
use Rattle.tb_view.specs.View.{view_text, row_text, texts, IsView, IsViewOrNone}
use Rattle.tb_view.specs.declared.view.View.{View}
use Rattle.tb_view.specs.Promise.Layout.{Filling, with_text, filling_of, next_view, next_views}

-- the buffers with the one that is being filled, which may be empty
abbrev pub all_of : Filling → List (List ℕ)
all_of s = s.0 ++ s.1 ∷ []

-- the text is put behind the others, and the view is that of the text
pub record IsPut (t : List ℕ) (old new : Filling) (v : View) : Type 0 where
  pub placed : new ≡ with_text old (Some t)
  pub kept : (vs : List (Option View)) → All (IsViewOrNone (all_of old)) vs
      → All (IsViewOrNone (all_of new)) vs × (texts (all_of new) vs ≡ texts (all_of old) vs)
  pub view : IsView (all_of new) v
  pub text : view_text v (all_of new) ≡ t
  pub is : v ≡ next_view old t

-- the same of an optional text, which may be short
pub record IsRow (o : Option (List ℕ)) (old new : Filling) (w : Option View) : Type 0 where
  pub placed : new ≡ with_text old o
  pub kept : (vs : List (Option View)) → All (IsViewOrNone (all_of old)) vs
      → All (IsViewOrNone (all_of new)) vs × (texts (all_of new) vs ≡ texts (all_of old) vs)
  pub view : IsViewOrNone (all_of new) w
  pub text : row_text (all_of new) w ≡ o
  pub is : w ≡ option_map (next_view old) o

-- what a builder holds: the texts of its rows, their views, and the buffers that they are put into
pub record Building : Type 0 where
  pub rows : List (Option (List ℕ))
  pub views : List (Option View)
  pub laid : Filling

-- the same after these rows, pushed one after another
abbrev pub building_of : List (Option (List ℕ)) → Building
building_of ts = record { rows = ts; views = next_views ([], []) ts; laid = filling_of ts }

-- one more row
abbrev pub with_row : Building → Option (List ℕ) → Building
with_row b o = record
    { rows = b.rows ++ o ∷ []; views = b.views ++ option_map (next_view b.laid) o ∷ []; laid = with_text b.laid o }

-- n more rows of one text, which is put once
abbrev pub with_rows : Building → List ℕ → ℕ → Building
with_rows b t n = record {
  rows = b.rows ++ replicate n (Some t);
  views = b.views ++ replicate n (Some (next_view b.laid t));
  laid = with_text b.laid (Some t);
}

-- n more rows without a text
abbrev pub with_nulls : Building → ℕ → Building
with_nulls b n = record {
  rows = b.rows ++ replicate n None;
  views = b.views ++ replicate n None;
  laid = b.laid;
}
