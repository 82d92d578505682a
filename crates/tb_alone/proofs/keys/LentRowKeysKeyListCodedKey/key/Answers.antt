use Rattle.std.proofs.Common.{◌∙◌, ap, sym, subst, arith, Option, None}
use Rattle.std.proofs.lemmas.List.{length-map, get_or-map}
use Rattle.tb_build.specs.KeyLists.{IsLent}
use Rattle.tb_alone.specs.Keys.{lent_coded, same_key}
use Rattle.tb_alone.specs.declared.coded.CodedKey.{CodedKey}
use Rattle.tb_alone.proofs.keys.LentRowKeysKeyListCodedKey.key.Goals as goal

pub returns : goal.returns
returns c =
    let keys = c.args.self.now.keys.now in
    let row = c.args.row in
    let at = get_or-map lent_coded keys row None None (omega (arith, c.requires, length-map keys lent_coded)) in
    subst (λ (o : Option CodedKey). IsLent same_key c.as_key.result o) (ap lent_coded c.get.ensures.value ∙ sym at) c.as_key.ensures
