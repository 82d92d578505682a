use Rattle.std.proofs.Common.{◌≡◌, ◌++◌, ◌∷◌, subst}
use Rattle.std.specs.Prelude.{OnOk}
use Rattle.std.specs.Int.{w128}
use Rattle.std.proofs.lemmas.Int.{to_z-of_z}
use Rattle.tb_rowkey.proofs.fields.push_i128.Goals as goal

pub returns : goal.returns
returns c =
    let all = c.to_be_bytes.ensures in
    subst (λ l. OnOk c.push_present.result (c.push_present.new.bytes.items ≡ c.args.bytes.now.items ++ 1 ∷ l))
    (simp (to_z-of_z w128 c.args.value c.ranges.value) at all) c.push_present.ensures
