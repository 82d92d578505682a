use Rattle.std.proofs.Common.{◌≡◌, ◌≤◌, ℕ, ◌+◌, ◌-◌, List, length, take, drop, rules, arith, subst, sym, ◌∙◌, ap, to_z, of_z, ℤ, Option, w64}
use Rattle.std.specs.Prelude.{FitsSigned}
use Rattle.std.proofs.lemmas.Int.{to_z-of_z}
use Rattle.std.proofs.lemmas.List.{length-drop}
use Rattle.std.proofs.Math.Seq.{paste}
use Rattle.std.proofs.lemmas.List.Edits.{take-paste}
use Rattle.tb_value.specs.declared.index.JoinPair.{JoinPair}
use Rattle.tb_chunk.specs.Window.{part_from, part_to}
use Rattle.tb_frame.specs.Promise.Join.{cut, slice}
use Rattle.tb_frame.proofs.Windows.{slice_part}
use Rattle.tb_frame.proofs.arranging.cut_pairs.Goals as goal

pub returns-in-Some : goal.returns-in-Some
returns-in-Some c =
    let xs = c.args.pairs.items in
    let a = c.slice_offsets-start.result.0 in
    let n = c.slice_offsets-start.result.1 in
    let z : ℤ = to_z w64 (of_z w64 c.in-Some.offset) in
    let fits : FitsSigned w64 c.in-Some.offset = search rules in
    let back : z ≡ c.in-Some.offset = to_z-of_z w64 c.in-Some.offset fits in
    let width : (a + n) - a ≡ n = omega arith in
    let counted : c.len.result ≡ length xs = search rules in
    let none : (a + n) - a ≡ 0 + ((a + n) - a) = omega arith in
    let within : (a + n) - a ≤ length (drop a xs) = omega (arith, c.slice_offsets-start.ensures.within, c.len.ensures, length-drop a xs) in
    let moved : take ((a + n) - a) c.copy_within.new.self.items ≡ take ((a + n) - a) (drop a xs) =
    ap (λ (ps : List JoinPair). take ((a + n) - a) ps) c.copy_within.ensures.items
    ∙ ap (λ (k : ℕ). take k (paste xs 0 (drop a xs) ((a + n) - a))) none ∙ take-paste xs 0 (drop a xs) ((a + n) - a) (omega arith) within
    in
    c.truncate.ensures.items ∙ ap (λ (k : ℕ). take k c.copy_within.new.self.items) (sym width) ∙ moved ∙ ap (λ (k : ℕ). take k (drop a xs)) width
    ∙ slice_part xs z c.in-Some.len c.slice_offsets-start.result (subst (λ (k : ℕ). c.slice_offsets-start.result ≡ (part_from k z, part_to k z c.in-Some.len - part_from k z)) counted c.slice_offsets-start.ensures.exact)
    ∙ ap (λ (k : ℤ). slice xs k c.in-Some.len) back ∙ ap (λ (o : Option (ℤ × ℕ)). cut o xs) (sym c.in-Some.is)
