use Rattle.std.proofs.Common.{◌≡◌, ◌∙◌, ◌-◌, ◌+◌, ℕ, suc, List, ◌∷◌, length, take, drop, arith, ap, sym}
use Rattle.std.proofs.lemmas.List.{length-drop, take_all}
use Rattle.tb_delta_front.specs.Promise.Steps.{lines_of}
use Rattle.tb_delta_front.proofs.FirstLines.{cut_at, no_cut}
use Rattle.tb_delta_front.proofs.lines.first_line.Goals as goal

pub returns-in-Some-clause-lines : goal.returns-in-Some-clause-lines
returns-in-Some-clause-lines c =
    let s = c.args.text.now in
    let i = c.in-Some.end in
    let same : suc i ≡ i + 1 = omega arith in
    let whole : take (length s - (i + 1)) (drop (i + 1) s) ≡ drop (i + 1) s = take_all (length s - (i + 1)) (drop (i + 1) s) (omega (arith, length-drop (i + 1) s)) in
    cut_at i s c.in-Some.ensures.0.high (λ k h. c.in-Some.ensures.0.before k (omega arith) h) c.in-Some.ensures.1
    ∙ ap (λ (j : ℕ). take i s ∷ lines_of (drop j s)) same ∙ ap (λ (r : List ℕ). take i s ∷ lines_of r) (sym whole)

pub returns-in-None-clause-lines : goal.returns-in-None-clause-lines
returns-in-None-clause-lines c = no_cut c.args.text.now c.requires (λ k h. c.in-None.ensures k (omega arith) h)
