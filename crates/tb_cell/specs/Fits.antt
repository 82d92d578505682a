-- Which values a chunk can hold.
use Rattle.tb_value.specs.Promise.Datum.{Datum}
use Rattle.tb_value.specs.Promise.Datum as value
use Rattle.tb_value.specs.Promise.Kind.{Kind}
use Rattle.tb_value.specs.Promise.Typed.{HasType, IsListOf, IsStructOf}

-- a chunk of a physical type holds the values of that type, and any list or any struct
abbrev pub Fits : Kind → Datum → Type 0
Fits t value.null = Unit {0}
Fits t (value.boolean b) = HasType t (value.boolean b)
Fits t (value.int i) = HasType t (value.int i)
Fits t (value.string s) = HasType t (value.string s)
Fits t (value.binary s) = HasType t (value.binary s)
Fits t (value.list vs) = IsListOf t (λ _. Unit {0})
Fits t (value.struct vs) = IsStructOf t (λ _. Unit {0})
