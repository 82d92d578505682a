use Rattle.std.proofs.lemmas.Result.{IfOk-weaker}
use Rattle.tb_rows.specs.Coded.{AreLeaders}
use Rattle.tb_rows.specs.Fields.{same_at}
use Rattle.tb_rows.specs.InGroups.{named_rows}
use Rattle.tb_rows.specs.Names.{name_of}
use Rattle.tb_rows.proofs.ByCode.{leaders_named, own_coded}
use Rattle.tb_rows.proofs.coded.leaders.Goals as goal

pub sorted_leaders-requires : goal.sorted_leaders-requires
sorted_leaders-requires c = own_coded c.args.columns.now (name_of c.args.names) c.args.len c.in_ok-rows.rows.items c.in_ok-rows.ensures

pub returns : goal.returns
returns c =
    let cs = c.args.columns.now in
    let name = name_of c.args.names in
    IfOk-weaker c.sorted_leaders.result _ (λ v. AreLeaders (named_rows name (same_at cs)) c.args.len v.items)
    (λ v led. leaders_named cs name c.args.len c.in_ok-rows.rows.items c.in_ok-rows.ensures v.items led) c.sorted_leaders.ensures
