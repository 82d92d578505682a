-- Keys of rows that are lent are the keys of the rows.
use Rattle.std.proofs.Common.{◌≡◌, ℕ, true, List, [], ◌∷◌, map, refl, Option, Some, None}
use Rattle.std.specs.Prelude.{nat_eq}
use Rattle.std.specs.Cmp.Lexicographic.{pointwise, bytes_decides}
use Rattle.tb_value.specs.Promise.Datum.{binary}
use Rattle.tb_chunk.specs.Chunk.{or_null}
use Rattle.tb_build.specs.Keys.{keys_match}
use Rattle.tb_build.specs.declared.keys.KeyBytes.{KeyBytes}
use Rattle.tb_pairs.specs.LentKeys.{lent_key, lent_list}

-- a key with the bytes is lent
pub is_lent : (r : Option KeyBytes) (o : Option (List ℕ)) → or_null (λ (k : KeyBytes). binary k.bytes.now) r ≡ or_null binary o → keys_match (λ (x y : KeyBytes). pointwise nat_eq x.bytes.now y.bytes.now) true r (lent_key o) ≡ true
is_lent None None h = refl
is_lent None (Some b) h = cc
is_lent (Some k) None h = cc
is_lent (Some k) (Some b) h = let e : k.bytes.now ≡ b = cc in (bytes_decides k.bytes.now b).1 e

shown : (o : Option (List ℕ)) → or_null (λ (k : KeyBytes). binary k.bytes.now) (lent_key o) ≡ or_null binary o
shown None = refl
shown (Some b) = refl

-- lent keys have the values of the rows' keys
pub lent_values : (keys : List (Option (List ℕ))) → map (or_null (λ (k : KeyBytes). binary k.bytes.now)) (lent_list keys) ≡ map (or_null binary) keys
lent_values [] = refl
lent_values (key ∷ keys) = λ t. shown key t ∷ lent_values keys t
