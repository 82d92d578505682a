use Rattle.std.proofs.Common.{◌≡◌, ◌<◌, length, arith}
use Rattle.tb_frame.specs.Promise.Frame.{selected_columns}
use Rattle.tb_unpivot.proofs.Answered.{none_asked, nothing_asked, some_asked}
use Rattle.tb_unpivot.proofs.Causes.{settled}
use Rattle.tb_unpivot.proofs.lookup.asked.Goals as goal

pub returns-then-width-eq0-clause-settles : goal.returns-then-width-eq0-clause-settles
returns-then-width-eq0-clause-settles c =
    let cs = c.args.table.now in
    let zero : length cs ≡ 0 = omega arith in
    none_asked cs (selected_columns c.args.on.now cs) c.args.on.now c.args.index.now zero

pub returns-then-width-eq0-clause-asked : goal.returns-then-width-eq0-clause-asked
returns-then-width-eq0-clause-asked c =
    let cs = c.args.table.now in
    let zero : length cs ≡ 0 = omega arith in
    nothing_asked cs c.args.on.now c.args.index.now _ zero c.new.ensures.items c.new-then-width-eq0.ensures.items c.null_type.ensures

pub returns-clause-settles : goal.returns-clause-settles
returns-clause-settles c =
    let cs = c.args.table.now in
    let some : 0 < length cs = omega arith in
    settled c.found.result _ _ (some_asked cs (selected_columns c.args.on.now cs) c.args.on.now c.args.index.now some) c.found.ensures.settles
