use Rattle.std.proofs.Common.{◌≡◌, ◌<◌, ℕ, get_or, length}
use Rattle.std.specs.BTreeMap.{get}
use Rattle.std.specs.Ordering.{nat_cmp}
use Rattle.tb_rows.specs.Coded.{leader, named_code, same_code}
use Rattle.tb_rows.specs.Names.{name_of}
use Rattle.tb_rows.specs.Places.{AreRecent}
use Rattle.tb_rows.proofs.ByCode.{first_with}
use Rattle.tb_rows.proofs.by_code.code_leaders.Given as goal

-- the first place of each code so far, and the leaders of the places so far
abbrev pub invariant-loop-place : goal.invariant-loop-place
invariant-loop-place g l = record {
  recent : AreRecent l.places;
  kept : (q : ℕ) → get nat_cmp l.places.kept q ≡ first_with (named_code (g.V.RowValues.columns l.rows) (name_of l.names)) l.place q;
  count : length l.leaders.items ≡ l.place;
  each : (j : ℕ) → j < l.place → get_or l.leaders.items j 0 ≡ leader (same_code (g.V.RowValues.columns l.rows) (name_of l.names)) l.len j;
}
