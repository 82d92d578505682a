-- Whole numbers, in place of the fields that are written so.
use Rattle.std.specs.Prelude.{List, map}
use Rattle.tb_value.specs.Promise.Datum.{Datum, int}
use Rattle.tb_value.specs.Promise.Kind as kind
use Rattle.tb_chunk.specs.Chunk.{or_null}
use Rattle.tb_csv.specs.Promise.Records.{Field}
use Rattle.tb_csv.specs.Promise.Texts.{field_of}
use Rattle.tb_csv.specs.declared.numbers.Numbers.{Numbers}
use Rattle.tb_csv.specs.declared.numbers.Numbers.TheVariants as numbers

-- the field that a whole number is written as. An absent one is Null
abbrev pub number_field : Datum → Field
number_field v = field_of kind.int64 v

-- the numbers of a column
abbrev pub numbers_in : Numbers → List Datum
numbers_in (numbers.Narrow cells) = map (or_null int) cells
numbers_in (numbers.Wide cells) = map (or_null int) cells

-- and the fields that they are written as
abbrev pub number_fields : Numbers → List Field
number_fields n = map number_field (numbers_in n)
