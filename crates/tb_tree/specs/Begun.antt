-- The first values of an array that is being read.
use Rattle.std.specs.Prelude.{List, map}
use Rattle.serde_json.specs.Data.{Data}
use Rattle.tb_tree.specs.View.{view, whole}
use Rattle.tb_tree.specs.declared.read.Begun.{Begun}
use Rattle.tb_tree.specs.declared.read.Begun.TheVariants.{Wholes, Values}

abbrev pub begun_view : Begun → List Data
begun_view (Wholes ns) = map whole ns.items
begun_view (Values vs) = map view vs.items
