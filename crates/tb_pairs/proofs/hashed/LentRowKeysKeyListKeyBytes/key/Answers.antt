use Rattle.std.proofs.Common.{◌≡◌, ◌∙◌, ap, sym, subst, arith, true, Option, None, get_or}
use Rattle.std.specs.Prelude.{nat_eq}
use Rattle.std.specs.Cmp.Lexicographic.{pointwise}
use Rattle.std.proofs.lemmas.List.{length-map, get_or-map}
use Rattle.tb_value.specs.Promise.Datum.{binary}
use Rattle.tb_chunk.specs.Chunk.{or_null}
use Rattle.tb_build.specs.Keys.{keys_match}
use Rattle.tb_build.specs.declared.keys.KeyBytes.{KeyBytes}
use Rattle.tb_pairs.specs.LentKeys.{lent_key}
use Rattle.tb_pairs.proofs.LentKeys.{is_lent}
use Rattle.tb_pairs.proofs.hashed.LentRowKeysKeyListKeyBytes.key.Goals as goal

pub returns : goal.returns
returns c =
    let keys = c.args.self.now.keys.now in
    let row = c.args.row in
    let at = get_or-map lent_key keys row None None (omega (arith, c.requires, length-map keys lent_key)) in
    subst (λ (o : Option KeyBytes). keys_match (λ (x y : KeyBytes). pointwise nat_eq x.bytes.now y.bytes.now) true c.as_key.result o ≡ true) (sym at)
    (is_lent c.as_key.result (get_or keys row None) (c.as_key.ensures ∙ ap (or_null binary) c.get.ensures.value))
