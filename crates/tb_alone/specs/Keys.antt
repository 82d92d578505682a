-- The keys of rows.
use Rattle.std.specs.Prelude.{◌&&◌, ℕ, Bool, false, List, [], ◌∷◌, map, nat_eq, Option, option_map}
use Rattle.std.specs.Cmp.Lexicographic.{pointwise}
use Rattle.tb_value.specs.declared.error.PolarsError.{PolarsError}
use Rattle.tb_value.specs.declared.error.Side.TheVariants as side
use Rattle.tb_frame.specs.declared.args.JoinType.{JoinType}
use Rattle.tb_frame.specs.declared.args.JoinValidation.{JoinValidation}
use Rattle.tb_frame.specs.Promise.Refusal.{asks_left, asks_right}
use Rattle.tb_build.specs.Keys.{key_twins}
use Rattle.tb_hash.specs.Twins.{validation_cause}
use Rattle.tb_build.specs.Promise.Codes.{fnv1a}
use Rattle.tb_build.specs.declared.keys.KeyBytes.{KeyBytes}
use Rattle.tb_pairs.specs.LentKeys.{lent_key}
use Rattle.tb_alone.specs.declared.coded.CodedKey.{CodedKey}

-- two keys have the same code and the same bytes
abbrev pub same_key : CodedKey → CodedKey → Bool
same_key x y = nat_eq x.code y.code && pointwise nat_eq x.key.bytes.now y.key.bytes.now

-- bytes behind their code
abbrev pub coded_key : KeyBytes → CodedKey
coded_key k = record { code = fnv1a k.bytes.now; key = k }

-- the keys of rows as they are lent
abbrev pub lent_coded : Option (List ℕ) → Option CodedKey
lent_coded key = option_map coded_key (lent_key key)

abbrev pub coded_list : List (Option (List ℕ)) → List (Option CodedKey)
coded_list keys = map lent_coded keys

-- the causes of sides that are asked to have no key twice
abbrev pub key_validations : JoinType → JoinValidation → List (Option CodedKey)
    → List (Option CodedKey) → List (Option PolarsError)
key_validations how validation left right =
    validation_cause side.Left how (asks_left validation) (key_twins same_key false left)
    ∷ validation_cause side.Right how (asks_right validation) (key_twins same_key false right) ∷ []
