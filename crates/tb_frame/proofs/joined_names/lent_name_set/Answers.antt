use Rattle.std.proofs.Common.{◌≡◌, ◌<◌, List, [], length, get_or, map, ap, sym, ◌∙◌, arith, Bor}
use Rattle.std.proofs.lemmas.List.{length-map, get_or-map, take_all}
use Rattle.tb_value.specs.Promise.Names.{Name}
use Rattle.tb_frame.specs.Promise.Naming.{is_among}
use Rattle.tb_frame.specs.NameSets.{has_name}
use Rattle.tb_frame.proofs.Seen.{seen_more}
use Rattle.tb_frame.proofs.joined_names.lent_name_set.Goals as goal

pub loop-name-preserved : goal.loop-name-preserved
loop-name-preserved c =
    let now : Bor Name → Name = λ n. n.now in
    let rs = c.args.names.now in
    let i = c.loop-name.name-index in
    let long = length-map rs now in
    let low : i < length (map now rs) = omega (arith, long) in
    let is : c.name-item.result.now ≡ get_or (map now rs) i [] = ap now c.name-item.is ∙ sym (get_or-map now rs i c.name-item.result [] c.loop-name-test.true) in
    seen_more (map now rs) i c.name-item.result.now low is (has_name c.loop-name.set) (has_name c.insert.new.self) c.loop-name.invariant c.in_ok-insert.ensures.names

pub returns : goal.returns
returns c =
    let now : Bor Name → Name = λ n. n.now in
    let rs = c.args.names.now in
    let long = length-map rs now in
    λ n. c.loop-name.invariant n ∙ ap (λ (ns : List Name). is_among ns n) (take_all c.loop-name.name-index (map now rs) (omega (arith, long)))
