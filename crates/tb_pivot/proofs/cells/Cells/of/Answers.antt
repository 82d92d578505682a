use Rattle.std.proofs.Common.{arith}
use Rattle.tb_chunk.specs.Lent.{lent_columns}
use Rattle.tb_frame.specs.Promise.Table.{table_of}
use Rattle.tb_pivot.proofs.Alike.{both_groups, groups_fit, lent_groups}
use Rattle.tb_pivot.proofs.cells.Cells.of.Goals as goal

pub group_both-requires-clause-few : goal.group_both-requires-clause-few
group_both-requires-clause-few c =
    let n = c.args.height in
    let is = table_of (lent_columns c.args.columns.now.index.items) in
    let rows = lent_groups c.deref.result.now c.args.columns.now.index.items n c.in_ok-rows.rows c.deref.ensures.value c.in_ok-rows.ensures in
    omega (arith, (groups_fit is n c.in_ok-rows.rows rows c.requires).each, c.requires)

pub group_both-requires-clause-long : goal.group_both-requires-clause-long
group_both-requires-clause-long c =
    let n = c.args.height in
    let is = table_of (lent_columns c.args.columns.now.index.items) in
    let rows = lent_groups c.deref.result.now c.args.columns.now.index.items n c.in_ok-rows.rows c.deref.ensures.value c.in_ok-rows.ensures in
    let os = table_of (lent_columns c.args.columns.now.on.items) in
    let headers = lent_groups c.deref-2.result.now c.args.columns.now.on.items n c.in_ok-headers.headers c.deref-2.ensures.value c.in_ok-headers.ensures in
    omega (arith, (groups_fit is n c.in_ok-rows.rows rows c.requires).each, (groups_fit os n c.in_ok-headers.headers headers c.requires).each)

pub group_both-requires-clause-first : goal.group_both-requires-clause-first
group_both-requires-clause-first c =
    let n = c.args.height in
    let is = table_of (lent_columns c.args.columns.now.index.items) in
    let rows = lent_groups c.deref.result.now c.args.columns.now.index.items n c.in_ok-rows.rows c.deref.ensures.value c.in_ok-rows.ensures in
    (groups_fit is n c.in_ok-rows.rows rows c.requires).within

pub group_both-requires-clause-second : goal.group_both-requires-clause-second
group_both-requires-clause-second c =
    let n = c.args.height in
    let os = table_of (lent_columns c.args.columns.now.on.items) in
    let headers = lent_groups c.deref-2.result.now c.args.columns.now.on.items n c.in_ok-headers.headers c.deref-2.ensures.value c.in_ok-headers.ensures in
    (groups_fit os n c.in_ok-headers.headers headers c.requires).within

pub returns : goal.returns
returns c =
    let n = c.args.height in
    let is = table_of (lent_columns c.args.columns.now.index.items) in
    let rows = lent_groups c.deref.result.now c.args.columns.now.index.items n c.in_ok-rows.rows c.deref.ensures.value c.in_ok-rows.ensures in
    let os = table_of (lent_columns c.args.columns.now.on.items) in
    let headers = lent_groups c.deref-2.result.now c.args.columns.now.on.items n c.in_ok-headers.headers c.deref-2.ensures.value c.in_ok-headers.ensures in
    record {
      groups = both_groups is os n c.in_ok-rows.rows c.in_ok-headers.headers c.in_ok-groups.groups rows headers c.in_ok-groups.ensures;
      rows = rows;
      headers = headers;
    }
