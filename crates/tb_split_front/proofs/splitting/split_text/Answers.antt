use Rattle.std.proofs.Common.{◌≡◌, IfOk, map, subst}
use Rattle.tb_value.specs.Promise.Pairs.{row_numbers}
use Rattle.tb_frame.specs.Promise.Table.{Table}
use Rattle.tb_front.proofs.OneTable.{read_settles}
use Rattle.tb_split_front.specs.Promise.Parts.{part_text, split_faults}
use Rattle.tb_split_front.proofs.splitting.split_text.Goals as goal

pub returns-clause-settles : goal.returns-clause-settles
returns-clause-settles g c =
    read_settles c.args.options.now c.args.text.items _ (split_faults c.args.call.now) _ c.in_ok-table.ensures.table c.in_ok-table.ensures.settles c.part_texts.ensures.settles

pub returns-clause-texts : goal.returns-clause-texts
returns-clause-texts g c =
    let call = c.args.call.now in
    subst (λ (t : Table). IfOk c.part_texts.result (λ v. v.items ≡ map (part_text c.args.options.now.separator call t) (row_numbers call.parts))) c.in_ok-table.ensures.table c.part_texts.ensures.texts
