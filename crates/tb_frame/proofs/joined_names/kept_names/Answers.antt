use Rattle.std.proofs.Common.{◌≡◌, ◌∷◌, Bool, [], not, map, ap, sym, ◌∙◌, Bor, arith, refl}
use Rattle.std.proofs.lemmas.List.{map-append, take_all}
use Rattle.tb_value.specs.Promise.Names.{Name}
use Rattle.tb_value.proofs.Kept.{filter-map, made, skipped}
use Rattle.tb_frame.specs.Promise.Naming.{is_among}
use Rattle.tb_frame.specs.RightColumns.{names_without}
use Rattle.tb_frame.proofs.joined_names.kept_names.Goals as goal
use Rattle.tb_frame.proofs.joined_names.kept_names.Goals.{then-not-contains+in_ok-push, else-not-contains}

pub loop-name-preserved : goal.loop-name-preserved
loop-name-preserved c =
    let now : Bor Name → Name = λ n. n.now in
    let gone = c.args.gone.now in
    let test : Bor Name → Bool = λ n. not (is_among gone n.now) in
    let x = c.name-item.result in
    let kept = c.loop-name.kept.items in
    let named : is_among gone x.now ≡ c.contains.result = sym (c.contains.ensures ∙ c.in_ok-gone.ensures x.now) in
    elim c.if-not-contains.branch [
      | then-not-contains+in_ok-push w ↦
          rw w.kept-is
          (ap (map now) w.in_ok-push.ensures.items ∙ map-append now kept (x ∷ [])
          ∙ made now test c.args.names.now c.loop-name.name-index x c.loop-name-test.true c.name-item.is [] (map now kept) x.now c.loop-name.invariant (ap not (named ∙ w.if-not-contains.true)) refl)
      | else-not-contains w ↦
          rw w.kept-is
          (skipped now test c.args.names.now c.loop-name.name-index x c.loop-name-test.true c.name-item.is [] (map now kept) c.loop-name.invariant (ap not (named ∙ w.if-not-contains.false)))
    ]

pub returns : goal.returns
returns c =
    let now : Bor Name → Name = λ n. n.now in
    c.loop-name.invariant
    ∙ sym (filter-map now (λ n. not (is_among c.args.gone.now n)) _)
    ∙ ap (λ ns. names_without c.args.gone.now (map now ns)) (take_all c.loop-name.name-index c.args.names.now (omega arith))
