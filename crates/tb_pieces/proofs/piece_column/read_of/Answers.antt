use Rattle.tb_pieces.proofs.piece_column.read_of.Goals as goal

pub returns-in-BooleanType : goal.returns-in-BooleanType
returns-in-BooleanType g c = rw c.in-BooleanType.is (rw c.deref.ensures.value at c.read_from.ensures)

pub returns-in-Int8Type : goal.returns-in-Int8Type
returns-in-Int8Type g c = rw c.in-Int8Type.is (rw c.deref-in-Int8Type.ensures.value at c.read_from-in-Int8Type.ensures)

pub returns-in-Int16Type : goal.returns-in-Int16Type
returns-in-Int16Type g c = rw c.in-Int16Type.is (rw c.deref-in-Int16Type.ensures.value at c.read_from-in-Int16Type.ensures)

pub returns-in-Int32Type : goal.returns-in-Int32Type
returns-in-Int32Type g c = rw c.in-Int32Type.is (rw c.deref-in-Int32Type.ensures.value at c.read_from-in-Int32Type.ensures)

pub returns-in-Int64Type : goal.returns-in-Int64Type
returns-in-Int64Type g c = rw c.in-Int64Type.is (rw c.deref-in-Int64Type.ensures.value at c.read_from-in-Int64Type.ensures)

pub returns-in-Int128Type : goal.returns-in-Int128Type
returns-in-Int128Type g c = rw c.in-Int128Type.is (rw c.deref-in-Int128Type.ensures.value at c.read_from-in-Int128Type.ensures)

pub returns-in-UInt8Type : goal.returns-in-UInt8Type
returns-in-UInt8Type g c = rw c.in-UInt8Type.is (rw c.deref-in-UInt8Type.ensures.value at c.read_from-in-UInt8Type.ensures)

pub returns-in-UInt16Type : goal.returns-in-UInt16Type
returns-in-UInt16Type g c = rw c.in-UInt16Type.is (rw c.deref-in-UInt16Type.ensures.value at c.read_from-in-UInt16Type.ensures)

pub returns-in-UInt32Type : goal.returns-in-UInt32Type
returns-in-UInt32Type g c = rw c.in-UInt32Type.is (rw c.deref-in-UInt32Type.ensures.value at c.read_from-in-UInt32Type.ensures)

pub returns-in-UInt64Type : goal.returns-in-UInt64Type
returns-in-UInt64Type g c = rw c.in-UInt64Type.is (rw c.deref-in-UInt64Type.ensures.value at c.read_from-in-UInt64Type.ensures)

pub returns-in-StringType : goal.returns-in-StringType
returns-in-StringType g c = rw c.in-StringType.is (rw c.deref-in-StringType.ensures.value at c.read_from-in-StringType.ensures)

pub returns-in-BinaryType : goal.returns-in-BinaryType
returns-in-BinaryType g c = rw c.in-BinaryType.is (rw c.deref-in-BinaryType.ensures.value at c.read_from-in-BinaryType.ensures)
