use Rattle.std.proofs.Common.{◌≡◌, ◌∙◌, Bor, Global, List, Vec, ℕ, ap, subst}
use Rattle.std.specs.List.{AllZip}
use Rattle.std.specs.Result.{IfOk}
use Rattle.tb_csv.specs.Read.{AreRunsFrom}
use Rattle.tb_csv.specs.declared.run.Run.{Run}
use Rattle.tb_csv.proofs.RunWalks.{all_answered}
use Rattle.tb_csv.proofs.in_pieces.runs_of_each.Goals as goal

pub returns : goal.returns
returns g c =
    let separator : c.map.result.f.1.now ≡ c.args.separator = ap (λ f. f.1.now) c.map.ensures.f in
    let width : c.map.result.f.2.now ≡ c.args.width = ap (λ f. f.2.now) c.map.ensures.f in
    let whole : c.map.result.base.base.slice.now ≡ c.args.pieces.now = ap (λ it. it.base.slice.now) c.map.ensures.base ∙ (ap (λ it. it.slice.now) c.with_min_len.ensures.base ∙ c.par_iter.ensures) in
    let h = c.in_ok-collect.ensures in
    let made = all_answered (λ (p : Bor (List ℕ)) (run : Vec Run Global). AreRunsFrom c.map.result.f.1.now c.map.result.f.2.now p.now run.items) (λ v. v.items) c.map.result.base.base.slice.now h.1.0 h.0 c.in_ok-collect.field-0 h.1.1 h.1.2 h.2 in
    subst (λ ps. IfOk c.in_ok-collect.field-0 (λ v. AllZip (λ (p : Bor (List ℕ)) (run : Vec Run Global). AreRunsFrom c.args.separator c.args.width p.now run.items) ps v.items)) whole
    (subst (λ w. IfOk c.in_ok-collect.field-0 (λ v. AllZip (λ (p : Bor (List ℕ)) (run : Vec Run Global). AreRunsFrom c.args.separator w p.now run.items) c.map.result.base.base.slice.now v.items)) width
    (subst (λ s. IfOk c.in_ok-collect.field-0 (λ v. AllZip (λ (p : Bor (List ℕ)) (run : Vec Run Global). AreRunsFrom s c.map.result.f.2.now p.now run.items) c.map.result.base.base.slice.now v.items)) separator made))
