use Rattle.std.proofs.Common.{◌≡◌, ◌+◌, ◌-◌, ◌<◌, ◌≤◌, get_or, length, take}
use Rattle.std.specs.List.{suffix_len}
use Rattle.tb_layout.specs.Promise.Characters.{is_blank}
use Rattle.tb_layout.proofs.characters.blanks_at_end.Given as goal

abbrev pub invariant-loop-end : goal.invariant-loop-end
invariant-loop-end l = record {
  within : l.end ≤ length l.line;
  rest : suffix_len is_blank l.line ≡ (length l.line - l.end) + suffix_len is_blank (take l.end l.line);
  blank : l.end < length l.line → get_or l.line l.end 0 ≡ 32;
}

abbrev pub decreases-loop-end : goal.decreases-loop-end
decreases-loop-end l = l.end
