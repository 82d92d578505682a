use Rattle.std.proofs.Common.{Bor, List, Option, Some, ℕ, subst, sym}
use Rattle.std.specs.Option.{option_copied}
use Rattle.tb_build.specs.KeyLists.{IsLent}
use Rattle.tb_build.specs.Promise.Codes.{fnv1a}
use Rattle.tb_alone.specs.Keys.{lent_coded, same_key}
use Rattle.tb_alone.proofs.CodedBytes.{is_coded}
use Rattle.tb_alone.proofs.keys.as_key.Goals as goal

pub returns-in-Some : goal.returns-in-Some
returns-in-Some c =
    let b : List ℕ = c.in-Some.bytes.now in
    subst (λ (key : Option (Bor (List ℕ))). IsLent same_key (Some c.coded.result) (lent_coded (option_copied key))) (sym c.in-Some.is)
    (is_coded c.coded.result (record { code = fnv1a b; key = record { bytes = record { ref_ptr = (0, 0); now = b } } }) c.coded.ensures.code c.coded.ensures.bytes)
