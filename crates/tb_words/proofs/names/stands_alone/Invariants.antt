use Rattle.std.proofs.Common.{◌≡◌}
use Rattle.std.specs.List.{list_any}
use Rattle.clap.specs.Matches.{found_of, uses_left}
use Rattle.tb_words.specs.Words.{is_blank, stands_alone}
use Rattle.tb_words.proofs.names.stands_alone.Given as goal

-- the uses that are left decide
abbrev pub invariant-loop-names : goal.invariant-loop-names
invariant-loop-names l = stands_alone (found_of l.matches) l.name ≡ list_any is_blank (uses_left l.names-iterator)
