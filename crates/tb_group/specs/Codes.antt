-- The codes of rows.
use Rattle.std.specs.Prelude.{ℕ, ◌%◌, ◌^◌, List, map}
use Rattle.tb_value.specs.Promise.Pairs.{row_numbers}
use Rattle.tb_frame.specs.Promise.Table.{TableColumn}
use Rattle.tb_group.specs.Promise.Keys.{key_code}
use Rattle.tb_group.specs.declared.codes.Code.{Code}

-- a number of 64 bits is its own code
abbrev pub own_code : Code → ℕ
own_code c = c.code % 2 ^ 64

-- the codes of the keys of so many rows
abbrev pub codes_by : List TableColumn → ℕ → List ℕ
codes_by cs n = map (key_code cs) (row_numbers n)
