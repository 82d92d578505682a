use Rattle.std.proofs.Common.{◌≡◌, ℕ, Bool, true, false, refl, sym, ◌∙◌, ap}
use Rattle.std.specs.Bool.{beq}
use Rattle.std.specs.List.{list_any}
use Rattle.tb_value.specs.Promise.Pairs.{row_numbers, left_only}
use Rattle.tb_value.proofs.RowNumbers.{kept_push, kept_skip}
use Rattle.tb_frame.specs.Promise.Join.{matches}
use Rattle.tb_frame.specs.Promise.Table.{table_of, height}
use Rattle.tb_keys.specs.Asked.{asked_request}
use Rattle.tb_keys.specs.Met.{is_so}
use Rattle.tb_keys.proofs.listing.push_left.Goals as goal
use Rattle.tb_keys.proofs.listing.push_left.Goals.{then-is_left_met-met+in_ok-push, else-is_left_met-met}

so-beq : (met b : Bool) → is_so met b ≡ beq b met
so-beq true true = refl
so-beq true false = refl
so-beq false true = refl
so-beq false false = refl

pub loop-i-preserved : goal.loop-i-preserved
loop-i-preserved c =
    let met = c.args.met in
    let here : ℕ → Bool = λ i. list_any (matches (asked_request c.args.request.now) i) (row_numbers (height (table_of c.args.request.now.right.now))) in
    let test : ℕ → Bool = λ i. is_so met (here i) in
    let is : test c.loop-i.i ≡ beq c.is_left_met.result met = so-beq met (here c.loop-i.i) ∙ ap (λ (b : Bool). beq b met) (sym c.is_left_met.ensures) in
    elim c.if-is_left_met-met.branch [
      | then-is_left_met-met+in_ok-push w ↦
          let step = kept_push left_only test c.loop-i.i c.args.pairs.now.items c.loop-i.pairs.items w.left_only.result c.loop-i.invariant (is ∙ w.if-is_left_met-met.true) w.left_only.ensures in
          rw w.pairs-is (w.in_ok-push.ensures.items ∙ step)
      | else-is_left_met-met w ↦
          let step = kept_skip left_only test c.loop-i.i c.args.pairs.now.items c.loop-i.pairs.items c.loop-i.invariant (is ∙ w.if-is_left_met-met.false) in
          rw w.pairs-is step
    ]
