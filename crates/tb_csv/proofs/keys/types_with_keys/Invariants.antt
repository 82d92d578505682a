use Rattle.std.proofs.Common.{◌≡◌, ◌++◌, List}
use Rattle.std.specs.List.{flat_map}
use Rattle.tb_value.specs.Promise.Pairs.{row_numbers}
use Rattle.tb_csv.specs.Promise.Keys.{told_key}
use Rattle.tb_csv.specs.Promise.Records.{Record}
use Rattle.tb_csv.specs.Read.{IsRead}
use Rattle.tb_csv.proofs.keys.types_with_keys.Given as goal

abbrev pub invariant-loop-i : goal.invariant-loop-i
invariant-loop-i l =
    (rs os : List Record) → IsRead l.records rs → IsRead l.others os
    → l.told.items ≡ l.types ++ flat_map (told_key l.types rs os l.on l.others_on) (row_numbers l.i)
