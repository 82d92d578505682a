-- What a field is at a type.
use Rattle.std.specs.Prelude.{Bool, true, false}
use Rattle.tb_value.specs.Promise.Kind.{Kind}
use Rattle.tb_value.specs.Promise.Kind as kind

-- the type of texts
abbrev pub is_string : Kind → Bool
is_string kind.string = true
is_string _ = false
