-- The type that a `DataType` stands for.
use Rattle.std.specs.Prelude.{List}
use Rattle.tb_value.specs.Promise.Kind as kind
use Rattle.tb_value.specs.Promise.Kind.{Kind, Part, parts_of}
use Rattle.tb_value.specs.declared.dtype.DataType.{DataType, fold-DataType}
use Rattle.tb_value.specs.declared.dtype.DataType.TheOpen.{DataType-F, Field-F, Fields-F}
use Rattle.tb_value.specs.declared.dtype.Field.{Field}
use Rattle.tb_value.specs.declared.dtype.Fields.{Fields, fold-Fields}

-- one level, with each type inside already seen
abbrev pub kind_step : DataType-F Kind Part (List Part) → Kind
kind_step DataType-F.Null = kind.null
kind_step DataType-F.Boolean = kind.boolean
kind_step DataType-F.Int8 = kind.int8
kind_step DataType-F.Int16 = kind.int16
kind_step DataType-F.Int32 = kind.int32
kind_step DataType-F.Int64 = kind.int64
kind_step DataType-F.Int128 = kind.int128
kind_step DataType-F.UInt8 = kind.uint8
kind_step DataType-F.UInt16 = kind.uint16
kind_step DataType-F.UInt32 = kind.uint32
kind_step DataType-F.UInt64 = kind.uint64
kind_step DataType-F.String = kind.string
kind_step DataType-F.Binary = kind.binary
kind_step DataType-F.Date = kind.date
kind_step DataType-F.Time = kind.time
kind_step (DataType-F.Datetime u z) = kind.datetime u z
kind_step (DataType-F.Duration u) = kind.duration u
kind_step (DataType-F.List t) = kind.list t.value
kind_step (DataType-F.Struct ps) = kind.struct (parts_of ps)

abbrev pub part_step : Field-F Kind Part (List Part) → Part
part_step f = (f.name, f.dtype)

abbrev pub parts_step : Fields-F Kind Part (List Part) → List Part
parts_step f = f.items.items

abbrev pub kind_of : DataType → Kind
kind_of = fold-DataType Kind Part (List Part) kind_step part_step parts_step

abbrev pub part : Field → Part
part f = (f.name, kind_of f.dtype)

abbrev pub parts : Fields → List Part
parts = fold-Fields Kind Part (List Part) kind_step part_step parts_step
