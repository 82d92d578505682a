use Rattle.std.proofs.Common.{ℕ, Bool, length, arith}
use Rattle.tb_rows.specs.Fields.{same_at}
use Rattle.tb_rows.specs.InGroups.{named_rows}
use Rattle.tb_rows.specs.Names.{name_of}
use Rattle.tb_rows.proofs.Agreeing.{led_groups_are, own_leaders}
use Rattle.tb_rows.proofs.Numbered.{groups_named, named_few, same_named}
use Rattle.tb_rows.proofs.grouping.group_named.Goals as goal

pub led_groups-requires-clause-leaders : goal.led_groups-requires-clause-leaders
led_groups-requires-clause-leaders c =
    let cs = c.args.columns.now in
    let name = name_of c.args.names in
    let test : ℕ → ℕ → Bool = named_rows name (same_at cs) in
    let ls = c.in_ok-leaders.leaders.items in
    own_leaders test (same_named cs name) c.args.len ls c.in_ok-leaders.ensures (length ls) c.in_ok-leaders.ensures.count

pub led_groups-requires-clause-few : goal.led_groups-requires-clause-few
led_groups-requires-clause-few c = omega (arith, c.in_ok-leaders.ensures.count, named_few c.args.names c.args.len c.requires)

pub returns : goal.returns
returns c =
    let cs = c.args.columns.now in
    let name = name_of c.args.names in
    let test : ℕ → ℕ → Bool = named_rows name (same_at cs) in
    let ls = c.in_ok-leaders.leaders.items in
    groups_named cs name c.led_groups.result c.args.len
    (led_groups_are test (same_named cs name) c.args.len ls c.in_ok-leaders.ensures c.led_groups.result (length ls) c.in_ok-leaders.ensures.count c.led_groups.ensures)
