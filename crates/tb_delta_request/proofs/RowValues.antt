-- The values of a row as those of a struct.
use Rattle.std.proofs.Common.{◌≡◌, ◌∙◌, List, [], ◌∷◌, map, Option, Some, None, option_map, refl, ap, sym}
use Rattle.serde_json.specs.Data.{Data}
use Rattle.serde_json.specs.View.{items_of}
use Rattle.tb_value.specs.Promise.Datum as value
use Rattle.tb_value.specs.Promise.Datum.{Datum, data_in}
use Rattle.tb_value.specs.Promise.Kind.{parts_of}
use Rattle.tb_value.proofs.Loops.{map-map}
use Rattle.tb_json.specs.Promise.Cells as cells
use Rattle.tb_request.specs.Lent.{written_view}
use Rattle.tb_request.specs.declared.shape.WrittenColumn.{WrittenColumn}
use Rattle.tb_delta_request.specs.Lent.{column_part}
use Rattle.tb_delta_request.specs.Promise.Reading.{part_of, row_in}

listed : (vs : List Datum) → data_in (value.items_of vs) ≡ vs
listed [] = refl
listed (v ∷ vs) = ap (λ (l : List Datum). v ∷ l) (listed vs)

by_parts : (cs : List WrittenColumn) (ds : List Data) → option_map data_in (cells.row_in (parts_of (map column_part cs)) (items_of ds)) ≡ row_in (map written_view cs) ds
by_parts cs ds = ap (λ ps. option_map data_in (cells.row_in (parts_of ps) (items_of ds))) (sym (map-map part_of written_view cs))

pub row_read : (cs : List WrittenColumn) (ds : List Data) (vs : List Datum) → Some (value.items_of vs) ≡ cells.row_in (parts_of (map column_part cs)) (items_of ds) → Some vs ≡ row_in (map written_view cs) ds
row_read cs ds vs e = ap Some (sym (listed vs)) ∙ ap (option_map data_in) e ∙ by_parts cs ds

pub no_row_read : (cs : List WrittenColumn) (ds : List Data) → None ≡ cells.row_in (parts_of (map column_part cs)) (items_of ds) → None ≡ row_in (map written_view cs) ds
no_row_read cs ds e = ap (option_map data_in) e ∙ by_parts cs ds
