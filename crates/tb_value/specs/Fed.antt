-- What the hash of a value feeds a hasher.
use Rattle.std.specs.Prelude.{[], ◌++◌, length}
use Rattle.std.specs.Hash.{HashWrites}
use Rattle.std.specs.Hash as fed
use Rattle.tb_value.specs.Promise.Datum.{Datum, Items, data_in, null, boolean, int, string, binary, list, struct, end, more}

-- a number for the kind of value, and then what the value holds: of a list or a struct the length, and then each value
abbrev mutual
  pub fed_datum : Datum → HashWrites
  fed_datum null = fed.u8 0
  fed_datum (boolean b) = fed.u8 1 ++ fed.bool b
  fed_datum (int i) = fed.u8 2 ++ fed.i128 i
  fed_datum (string s) = fed.u8 3 ++ fed.str s
  fed_datum (binary s) = fed.u8 4 ++ fed.slice fed.u8 s
  fed_datum (list vs) = fed.u8 5 ++ (fed.usize (length (data_in vs)) ++ fed_each vs)
  fed_datum (struct vs) = fed.u8 6 ++ (fed.usize (length (data_in vs)) ++ fed_each vs)

  pub fed_each : Items → HashWrites
  fed_each end = []
  fed_each (more v vs) = fed_datum v ++ fed_each vs

abbrev pub fed_items : Items → HashWrites
fed_items vs = fed.usize (length (data_in vs)) ++ fed_each vs
