use Rattle.std.proofs.Common.{◌≡◌, ◌+◌, ◌*◌, List, ℕ, [], ◌∷◌, ◌++◌, length, refl, ap, sym, subst, arith}
use Rattle.std.proofs.lemmas.Bool.{false≢true}
use Rattle.tb_rowkey.specs.EvenPlaces.{AreEven}
use Rattle.tb_rowkey.proofs.Evens.{are_even, even_count, even_grown, even_last, next_place}
use Rattle.tb_rowkey.proofs.even_places.EvenPlaces.push.Goals as goal

pub invariant_of-self-then-gap-self : goal.invariant_of-self-then-gap-self
invariant_of-self-then-gap-self c =
    let width = c.self.inside.width in
    let gaps = c.self.inside.gaps in
    let next : c.args.place ≡ (gaps + 1) * width = omega (arith, c.in-Some.ensures, c.if-gap-self.true, next_place width gaps) in
    record {
      few = omega (arith, c.requires, even_count width (gaps + 1), ap length c.self.view_is);
      within = omega (arith, next, c.ranges.place.fits);
    }

pub returns-in-Some-clause-places : goal.returns-in-Some-clause-places
returns-in-Some-clause-places c =
    let width = c.self.inside.width in
    let gaps = c.self.inside.gaps in
    let next : (gaps + 1) * width ≡ c.args.place = omega (arith, c.in-Some.ensures, c.if-gap-self.true, next_place width gaps) in
    even_grown width gaps c.args.place c.args.self.now c.self.view_is next

pub returns-in-Some-clause-exact : goal.returns-in-Some-clause-exact
returns-in-Some-clause-exact c =
    let width = c.self.inside.width in
    let gaps = c.self.inside.gaps in
    let next : (gaps + 1) * width ≡ c.args.place = omega (arith, c.in-Some.ensures, c.if-gap-self.true, next_place width gaps) in
    let grown = even_grown width gaps c.args.place c.args.self.now c.self.view_is next in
    (λ _. are_even width (gaps + 1 + 1) (c.args.self.now ++ c.args.place ∷ []) (omega arith) (sym grown), λ _. refl)

pub returns-in_default-clause-exact : goal.returns-in_default-clause-exact
returns-in_default-clause-exact c =
    let width = c.self.inside.width in
    let gaps = c.self.inside.gaps in (
      λ yes. absurd (false≢true yes),
      λ even.
          let same = subst (λ (ps : List ℕ). AreEven (ps ++ c.args.place ∷ [])) (sym c.self.view_is) even in
          let last = even_last width (gaps + 1) c.args.place (omega (arith, c.if-self-eq0.false)) same in
          absurd (omega (arith, last, next_place width gaps, c.in-Some.ensures, c.if-gap-self.false)),
    )

pub returns-in_default-2-clause-exact : goal.returns-in_default-2-clause-exact
returns-in_default-2-clause-exact c =
    let width = c.self.inside.width in
    let gaps = c.self.inside.gaps in (
      λ yes. absurd (false≢true yes),
      λ even.
          let same = subst (λ (ps : List ℕ). AreEven (ps ++ c.args.place ∷ [])) (sym c.self.view_is) even in
          let last = even_last width (gaps + 1) c.args.place (omega (arith, c.if-self-eq0.false)) same in
          absurd (omega (arith, last, next_place width gaps, c.in_default.ensures)),
    )
