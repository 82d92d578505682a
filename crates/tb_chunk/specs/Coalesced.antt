-- Two lists of values, of which the second stands in where the first has none.
use Rattle.std.specs.Prelude.{◌++◌, if◌then◌else◌, List, Option, length, map}
use Rattle.std.specs.List.{zip}
use Rattle.tb_value.specs.Promise.Datum.{Datum, is_null}
use Rattle.tb_view.specs.Moved.{moved_view}
use Rattle.tb_view.specs.Promise.ViewArrays.{ViewArray}
use Rattle.tb_view.specs.declared.view.View.{View}
use Rattle.tb_chunk.specs.Promise.Coalesced.{or_else}

-- two lists place by place: the first value, or the second where the first is Null
abbrev pub coalesced_values : List Datum → List Datum → List Datum
coalesced_values xs ys = map (λ (p : Datum × Datum). or_else p.0 p.1) (zip xs ys)

-- their views, over the buffers of both: that of the second where the first value is Null
abbrev pub coalesced_view_array : List Datum → ViewArray → ViewArray → ViewArray
coalesced_view_array vs a b = record {
  views = map
      (λ (p : Datum × (Option View × Option View)).
      if is_null p.0 then moved_view (length a.buffers) p.1.1 else p.1.0)
      (zip vs (zip a.views b.views));
  buffers = a.buffers ++ b.buffers;
}
