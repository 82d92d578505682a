use Rattle.std.proofs.Common.{◌<◌, List, length, ap, ◌∙◌, arith}
use Rattle.std.proofs.lemmas.List.{take_all}
use Rattle.tb_value.specs.Promise.Names.{Name}
use Rattle.tb_frame.specs.Promise.Table.{table_of, names_of}
use Rattle.tb_frame.specs.Promise.Naming.{is_among}
use Rattle.tb_frame.specs.NameSets.{has_name}
use Rattle.tb_frame.proofs.Seen.{seen_more}
use Rattle.tb_frame.proofs.Taking.{length-names, name-at}
use Rattle.tb_frame.proofs.frame.column_name_set.Goals as goal

pub loop-column-preserved : goal.loop-column-preserved
loop-column-preserved c =
    let cs = c.args.columns.now in
    let i = c.loop-column.column-index in
    let long = length-names cs in
    let low : i < length (names_of (table_of cs)) = omega (arith, long) in
    let is = c.name.ensures ∙ name-at cs i c.column-item.result c.loop-column-test.true c.column-item.is in
    seen_more (names_of (table_of cs)) i c.name.result.now low is (has_name c.loop-column.set) (has_name c.insert.new.self) c.loop-column.invariant c.in_ok-insert.ensures.names

pub returns : goal.returns
returns c =
    let cs = c.args.columns.now in
    let long = length-names cs in
    λ n. c.loop-column.invariant n ∙ ap (λ (ns : List Name). is_among ns n) (take_all c.loop-column.column-index (names_of (table_of cs)) (omega (arith, long)))
