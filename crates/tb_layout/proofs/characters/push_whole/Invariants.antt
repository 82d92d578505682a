use Rattle.std.proofs.Common.{◌≡◌, ◌++◌, encode_utf8_all, flat_map, string_bytes}
use Rattle.tb_layout.specs.Promise.Characters.{visible_text}
use Rattle.tb_layout.proofs.characters.push_whole.Given as goal

abbrev pub invariant-loop-c : goal.invariant-loop-c
invariant-loop-c l = string_bytes l.text ≡ string_bytes l.initial.text ++ encode_utf8_all (flat_map visible_text l.yielded)
