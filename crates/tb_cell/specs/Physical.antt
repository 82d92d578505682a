-- The types by which values are stored, and `Physical`, which names them.
use Rattle.tb_value.specs.Promise.Kind.{Kind}
use Rattle.tb_value.specs.Promise.Kind as kind
use Rattle.tb_cell.specs.declared.marker.Physical.{Physical}
use Rattle.tb_cell.specs.declared.marker.Physical.TheVariants as the

-- the type by which values are stored
abbrev pub physical : Kind → Kind
physical kind.date = kind.int32
physical (kind.datetime u z) = kind.int64
physical (kind.duration u) = kind.int64
physical kind.time = kind.int64
physical (kind.list t) = kind.list kind.null
physical (kind.struct ps) = kind.struct kind.end
physical t = t

-- the type that the name stands for
abbrev pub kind_for : Physical → Kind
kind_for the.Null = kind.null
kind_for the.Boolean = kind.boolean
kind_for the.Int8 = kind.int8
kind_for the.Int16 = kind.int16
kind_for the.Int32 = kind.int32
kind_for the.Int64 = kind.int64
kind_for the.Int128 = kind.int128
kind_for the.UInt8 = kind.uint8
kind_for the.UInt16 = kind.uint16
kind_for the.UInt32 = kind.uint32
kind_for the.UInt64 = kind.uint64
kind_for the.String = kind.string
kind_for the.Binary = kind.binary
kind_for the.List = kind.list kind.null
kind_for the.Struct = kind.struct kind.end
