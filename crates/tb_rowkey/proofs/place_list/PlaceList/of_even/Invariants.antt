use Rattle.std.proofs.Common.{◌≡◌, take}
use Rattle.tb_rowkey.specs.PlaceList.{listed_places}
use Rattle.tb_rowkey.proofs.place_list.PlaceList.of_even.Given as goal

abbrev pub invariant-loop-index : goal.invariant-loop-index
invariant-loop-index l = listed_places l.list ≡ take l.index l.even
