-- What the program's values stand for.
use Rattle.std.specs.Prelude.{List, map, Option, Some, None, option_map, Result, Ok, Err, ◌≡◌}
use Rattle.std.specs.declared.alloc.Global.{Global}
use Rattle.std.specs.declared.vec.Vec.{Vec}
use Rattle.tb_value.specs.declared.dtype.DataType.{DataType}
use Rattle.tb_value.specs.Promise.Kind.{Kind}
use Rattle.tb_value.specs.SeeKind.{kind_of}
use Rattle.tb_request.specs.declared.request.Reason.{Reason}
use Rattle.tb_request.specs.declared.request.RequestFault.{RequestFault}
use Rattle.tb_request.specs.declared.request.RequestFault.TheVariants.{OutOfMemory, NoRequest}

abbrev pub kind_in : Option DataType → Option Kind
kind_in o = option_map kind_of o

-- the types of columns, where they tell one
abbrev pub kinds_of : Vec (Option DataType) Global → List (Option Kind)
kinds_of v = map kind_in v.items

-- the reason why no request was read, which is none where memory was wanting
abbrev pub IsTold : {Q : Type 0} → Result Q RequestFault → Option Reason → Type 0
IsTold (Ok q) told = told ≡ None
IsTold (Err OutOfMemory) told = ⊥
IsTold (Err (NoRequest reason)) told = told ≡ Some reason
