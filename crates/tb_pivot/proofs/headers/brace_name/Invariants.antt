use Rattle.std.proofs.Common.{◌≡◌, map, take}
use Rattle.tb_pivot.specs.Promise.Headers.{quoted_text}
use Rattle.tb_pivot.proofs.headers.brace_name.Given as goal

abbrev pub invariant-loop-name : goal.invariant-loop-name
invariant-loop-name l = l.texts.items ≡ map quoted_text (take l.name-index l.names)
