use Rattle.std.proofs.Common.{refl, arith}
use Rattle.std.proofs.lemmas.List.{length-map}
use Rattle.tb_value.specs.Promise.Datum.{binary}
use Rattle.tb_value.specs.Promise.Kind as kind
use Rattle.tb_build.specs.Promise.Codes.{fnv1a}
use Rattle.tb_hash.specs.KeyCells.{same_bytes}
use Rattle.tb_hash.proofs.Hashed.{hashed-values}
use Rattle.tb_pairs.specs.LentKeys.{lent_key, lent_list}
use Rattle.tb_pairs.proofs.LentKeys.{lent_values}
use Rattle.tb_pairs.proofs.hashed.joined_row_keys.Goals as goal

pub hash_keys-requires-clause-left : goal.hash_keys-requires-clause-left
hash_keys-requires-clause-left g c κs within = omega (arith, length-map c.args.left.now lent_key, c.know_rows.ensures.few)

pub hash_keys-requires-clause-right : goal.hash_keys-requires-clause-right
hash_keys-requires-clause-right g c κs within = omega (arith, length-map c.args.right.now lent_key, c.know_rows-2.ensures.few)

pub returns-clause-hashed : goal.returns-clause-hashed
returns-clause-hashed g c =
    let join = c.args.join.now in
    hashed-values (λ k. binary k.bytes.now) _ (λ x. refl) (λ x y. same_bytes x.bytes.now y.bytes.now) join.join_nulls (lent_list c.args.left.now) (lent_list c.args.right.now) _ _ (lent_values c.args.left.now) (lent_values c.args.right.now)
    (λ k. fnv1a k.bytes.now) kind.binary (λ x. refl) join.exec.now join.validate join.how c.hash_keys.result c.hash_keys.ensures.hashed
