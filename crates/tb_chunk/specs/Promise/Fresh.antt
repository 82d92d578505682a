-- What chunks that are made of values hold of texts.
use Rattle.std.specs.Prelude.{List, map}
use Rattle.tb_value.specs.Promise.Datum.{Datum}
use Rattle.tb_view.specs.Promise.Layout.{text_view_array}
use Rattle.tb_value.specs.Promise.Texts.{text_of}
use Rattle.tb_view.specs.Promise.ViewArrays.{ViewArray}

-- the run of a chunk that is made of values: the texts and bytes among them are laid out in their order
abbrev pub fresh_view_array : List Datum → ViewArray
fresh_view_array vs = text_view_array (map text_of vs)

abbrev pub fresh_view_arrays : List (List Datum) → List ViewArray
fresh_view_arrays cs = map fresh_view_array cs
