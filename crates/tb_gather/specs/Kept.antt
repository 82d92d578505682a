-- Which buffers the rows that ids name keep, and their views over them.
use Rattle.std.specs.Prelude.{◌<◌, ◌&&◌, if◌then◌else◌, ℕ, Bool, false, not, List, [], ◌∷◌, Option, Some, None, nat_eq, nat_lt, length, map, filter, filter_map, slice_index_or}
use Rattle.std.specs.List.{position}
use Rattle.std.specs.Option.{option_map}
use Rattle.tb_chunk.specs.Moved.{view_at_number, used_buffer}
use Rattle.tb_view.specs.Promise.ViewArrays.{ViewArray}
use Rattle.tb_chunk.specs.ViewArrays.{all_buffers, picked_of, view_array_at, joined_view_array}
use Rattle.tb_view.specs.declared.view.View.{View}
use Rattle.tb_gather.specs.Ids.{Id, row_or_none}
use Rattle.tb_gather.specs.declared.keep.Keep.{Keep}
use Rattle.tb_gather.specs.declared.keep.Keep.TheVariants.{All, Used}

-- a chunk, and a buffer of it
abbrev pub Place : Type 0
Place = ℕ × ℕ

-- the chunk and the buffer are there
abbrev pub IsPlace : List ViewArray → Place → Type 0
IsPlace rs p = (p.0 < length rs) × (p.1 < length (view_array_at rs p.0).buffers)

abbrev pub same_place : Place → Place → Bool
same_place p q = nat_eq p.0 q.0 && nat_eq p.1 q.1

-- the view of the row that an id names; a null id has none, as Null has none
abbrev pub named_view : List ViewArray → Id → Option View
named_view rs None = None
named_view rs (Some p) = slice_index_or (view_array_at rs p.0).views p.1 None

-- where the text of that row lies, none where it is short or there is none
abbrev pub place_of : List ViewArray → Id → Option Place
place_of rs None = None
place_of rs (Some p) = option_map (λ b. (p.0, b)) (used_buffer (named_view rs (Some p)))

-- each place once, in the order in which they come first
abbrev pub each_once : List Place → List Place
each_once [] = []
each_once (p ∷ ps) = p ∷ filter (λ q. not (same_place p q)) (each_once ps)

-- the buffers that the texts of these rows lie in, in the order of first use
abbrev pub used_places : List ViewArray → List Id → List Place
used_places rs ids = each_once (filter_map (place_of rs) ids)

abbrev pub buffer_at : List ViewArray → Place → List ℕ
buffer_at rs p = slice_index_or (view_array_at rs p.0).buffers p.1 []

-- the number of a place among these
abbrev pub number_in : List Place → Option Place → Option ℕ
number_in ps None = None
number_in ps (Some p) = position (same_place p) ps

-- the view of the row that an id names, over the buffers of these places
abbrev pub view_among : List ViewArray → List Place → Id → Option View
view_among rs ps id = view_at_number (number_in ps (place_of rs id)) (named_view rs id)

-- the rows that ids name, over the buffers that their texts lie in
abbrev pub used_view_array : List ViewArray → List Id → ViewArray
used_view_array rs ids = record
    { views = map (view_among rs (used_places rs ids)) ids; buffers = map (buffer_at rs) (used_places rs ids) }

-- whether only buffers in use are kept, of so many chunks and for so many ids
abbrev pub keeps_used : Keep → ℕ → ℕ → Bool
keeps_used All chunks ids = false
keeps_used Used chunks ids = nat_lt 1 chunks && nat_lt ids chunks

-- the rows that ids name, of chunks of these lengths
abbrev pub kept_view_array : Keep → List ℕ → List Id → List ViewArray → ViewArray
kept_view_array keep lens ids rs = (if keeps_used keep (length rs) (length ids)
    then used_view_array rs ids
    else picked_of (row_or_none lens) ids (joined_view_array rs))

-- the buffers that a gather keeps: those of the only chunk; where there are more chunks than ids, those in use; else those of all
abbrev pub kept_buffers : List ViewArray → List Id → List (List ℕ)
kept_buffers (r ∷ []) ids = r.buffers
kept_buffers rs ids = (if nat_lt (length ids) (length rs)
    then map (buffer_at rs) (used_places rs ids)
    else all_buffers rs)
