use Rattle.std.proofs.Common.{◌≡◌, ◌∙◌, ◌<◌, ◌≤◌, ℕ, true, get_or, length, subst, sym, arith, ⊎_elim}
use Rattle.std.proofs.lemmas.Bool.{cases_lt}
use Rattle.tb_rows.specs.Fields.{same_at}
use Rattle.tb_rows.specs.Names.{name_of}
use Rattle.tb_rows.proofs.ByCode.{leads_low}
use Rattle.tb_rows.proofs.by_code.are_as_led.Goals as goal

pub name-leader-requires : goal.name-leader-requires
name-leader-requires g c =
    let ls = c.args.leaders.now in
    (length ls, leads_low (g.V.RowValues.columns c.args.rows.now) (name_of c.args.names) (length ls) ls c.requires.led c.loop-place.place c.loop-place-test.true, c.requires.named)

pub loop-place-preserved : goal.loop-place-preserved
loop-place-preserved g c = λ j low.
    ⊎_elim
    (λ (before : j < c.loop-place.place). c.loop-place.invariant j before)
    (λ (last : c.loop-place.place ≤ j).
    let own : j ≡ c.loop-place.place = omega (arith, low, last) in
    let name = name_of c.args.names in
    subst (λ (k : ℕ). same_at (g.V.RowValues.columns c.args.rows.now) (name (get_or c.args.leaders.now k 0)) (name k) ≡ true) (sym own)
    (sym (λ t. same_at (g.V.RowValues.columns c.args.rows.now) (c.name-leader.ensures t) (c.name.ensures t)) ∙ sym c.are_same.ensures ∙ c.if-not-are_same.false))
    (cases_lt j c.loop-place.place)
