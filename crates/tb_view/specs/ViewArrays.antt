-- What the chunks of texts hold: views, and the buffers that they stand over.
use Rattle.std.specs.Prelude.{◌≡◌, ◌<◌, ◌+◌, ◌^◌, ◌++◌, ℕ, List, [], ◌∷◌, Option, Some, None, length, map, take, drop, slice_index_or}
use Rattle.std.specs.List.{flat_map}
use Rattle.tb_view.specs.Moved.{moved_view}
use Rattle.tb_view.specs.declared.view.View.{View}
use Rattle.tb_view.specs.Promise.ViewArrays.{ViewArray}

-- the view arrays of chunks, by what the views and the buffers of a chunk are
abbrev pub view_arrays_of : {C : Type 0} → (C → List (Option View)) → (C → List (List ℕ)) → List C
    → List ViewArray
view_arrays_of views buffers chunks =
    map (λ c. record { views = views c; buffers = buffers c }) chunks

-- run k, an empty one where there is none
abbrev pub view_array_at : List ViewArray → ℕ → ViewArray
view_array_at rs k = slice_index_or rs k (record { views = []; buffers = [] })

-- the buffers of all, one after another
abbrev pub all_buffers : List ViewArray → List (List ℕ)
all_buffers rs = flat_map (λ r. r.buffers) rs

-- the views of all, one after another, where the buffers of the first stand from number base on
abbrev pub moved_views : ℕ → List ViewArray → List (Option View)
moved_views base [] = []
moved_views base (r ∷ rs) =
    map (moved_view base) r.views ++ moved_views (base + length r.buffers) rs

-- the buffers of all are few enough for their numbers
abbrev pub HaveFewBuffers : List ViewArray → Type 0
HaveFewBuffers rs = length (all_buffers rs) < 2 ^ 32

-- all as one: each view is moved by the number of buffers before those of its run
abbrev pub joined_view_array : List ViewArray → ViewArray
joined_view_array rs = record { views = moved_views 0 rs; buffers = all_buffers rs }

-- where the buffers of run k begin among all
abbrev pub base_of : List ViewArray → ℕ → ℕ
base_of rs k = length (all_buffers (take k rs))

-- the bases are where the buffers of each run begin
abbrev pub AreBases : List ℕ → List ViewArray → Type 0
AreBases bases rs = (k : ℕ) → k < length rs → slice_index_or bases k 0 ≡ base_of rs k

-- some rows from start on, over the same buffers
abbrev pub window_of : ℕ → ℕ → ViewArray → ViewArray
window_of start len r = record r { views = take len (drop start r.views) }

-- the view of a row, none where there is no row
abbrev pub view_or_none : List (Option View) → Option ℕ → Option View
view_or_none vs None = None
view_or_none vs (Some i) = slice_index_or vs i None

-- the views of these rows, over the same buffers
abbrev pub picked_of : {R : Type 0} → (R → Option ℕ) → List R → ViewArray → ViewArray
picked_of number rows r = record r { views = map (λ i. view_or_none r.views (number i)) rows }

-- as many views as the lists have values
abbrev pub AreViewed : {D : Type 0} → List (List D) → List ViewArray → Type 0
AreViewed lists rs = map (λ r. length r.views) rs ≡ map (λ vs. length vs) lists
