use Rattle.std.proofs.Common.{ℕ, Bool, length}
use Rattle.tb_rows.specs.Both.{in_both}
use Rattle.tb_rows.proofs.Agreeing.{led_groups_are, own_leaders}
use Rattle.tb_rows.proofs.Pairs.{same}
use Rattle.tb_rows.proofs.both.group_both.Goals as goal

pub led_groups-requires-clause-leaders : goal.led_groups-requires-clause-leaders
led_groups-requires-clause-leaders c =
    let xs = c.args.first.now.numbers.items in
    let ys = c.args.second.now.numbers.items in
    let test : ℕ → ℕ → Bool = in_both c.args.first.now c.args.second.now in
    let ls = c.in_ok-leaders.leaders.items in
    own_leaders test (same xs ys) (length xs) ls c.in_ok-leaders.ensures (length ls) c.in_ok-leaders.ensures.count

pub returns : goal.returns
returns c =
    let xs = c.args.first.now.numbers.items in
    let ys = c.args.second.now.numbers.items in
    let test : ℕ → ℕ → Bool = in_both c.args.first.now c.args.second.now in
    let ls = c.in_ok-leaders.leaders.items in
    led_groups_are test (same xs ys) (length xs) ls c.in_ok-leaders.ensures c.led_groups.result (length ls) c.in_ok-leaders.ensures.count c.led_groups.ensures
