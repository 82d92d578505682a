use Rattle.std.proofs.Common.{◌≡◌, ℕ, ◌+◌, ◌-◌, take, drop, rules, arith, sym, ◌∙◌, ap, to_z, of_z, ℤ, Option, w64}
use Rattle.std.specs.Prelude.{FitsSigned}
use Rattle.std.proofs.lemmas.Int.{to_z-of_z}
use Rattle.tb_frame.specs.Promise.Join.{cut, slice}
use Rattle.tb_frame.proofs.Windows.{slice_part}
use Rattle.tb_frame.proofs.arranging.kept_part.Goals as goal

pub returns-in-Some : goal.returns-in-Some
returns-in-Some g c =
    let xs = c.args.items.now in
    let a = c.slice_offsets-start.result.0 in
    let n = c.slice_offsets-start.result.1 in
    let z : ℤ = to_z w64 (of_z w64 c.in-Some.offset) in
    let fits : FitsSigned w64 c.in-Some.offset = search rules in
    let back : z ≡ c.in-Some.offset = to_z-of_z w64 c.in-Some.offset fits in
    let width : (a + n) - a ≡ n = omega arith in
    ap (λ (k : ℕ). take k (drop a xs)) width ∙ slice_part xs z c.in-Some.len c.slice_offsets-start.result c.slice_offsets-start.ensures.exact
    ∙ ap (λ (k : ℤ). slice xs k c.in-Some.len) back ∙ ap (λ (o : Option (ℤ × ℕ)). cut o xs) (sym c.in-Some.is)
