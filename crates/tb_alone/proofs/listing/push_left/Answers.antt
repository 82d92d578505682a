use Rattle.std.proofs.Common.{◌≡◌, ℕ, Bool, true, false, [], refl, sym, ◌∙◌, ap, arith, length}
use Rattle.std.specs.Prelude.{nat_lt}
use Rattle.std.specs.Bool.{beq}
use Rattle.std.specs.List.{list_any}
use Rattle.tb_value.specs.Promise.Pairs.{row_numbers, left_only}
use Rattle.tb_value.proofs.RowNumbers.{kept_push, kept_skip}
use Rattle.tb_frame.specs.Promise.Join.{matches}
use Rattle.tb_frame.specs.Promise.Table.{table_of, height}
use Rattle.tb_keys.specs.Asked.{asked_request}
use Rattle.tb_keys.specs.Met.{is_so}
use Rattle.tb_alone.proofs.FoundRows.{any_kept, found_here}
use Rattle.tb_alone.proofs.listing.push_left.Goals as goal
use Rattle.tb_alone.proofs.listing.push_left.Goals.{then-has_rows-met+in_ok-push, else-has_rows-met}

so-beq : (met b : Bool) → is_so met b ≡ beq b met
so-beq true true = refl
so-beq true false = refl
so-beq false true = refl
so-beq false false = refl

pub loop-i-preserved : goal.loop-i-preserved
loop-i-preserved c =
    let q = asked_request c.args.request.now in
    let met = c.args.met in
    let i = c.loop-i.i in
    let here : ℕ → Bool = λ i. list_any (matches q i) (row_numbers (height (table_of c.args.request.now.right.now))) in
    let test : ℕ → Bool = λ i. is_so met (here i) in
    let rows = found_here q c.args.found.now c.requires.found i (omega (arith, c.loop-i-test.true, c.height-i-end.ensures.height)) (record { ref_ptr = (0, 0); now = [] }) in
    let has : c.has_rows.result ≡ here i = c.has_rows.ensures ∙ ap (λ xs. nat_lt 0 (length xs)) rows ∙ any_kept (matches q i) (row_numbers (height (table_of c.args.request.now.right.now))) in
    let is : test i ≡ beq c.has_rows.result met = so-beq met (here i) ∙ ap (λ (b : Bool). beq b met) (sym has) in
    elim c.if-has_rows-met.branch [
      | then-has_rows-met+in_ok-push w ↦
          let step = kept_push left_only test i c.args.pairs.now.items c.loop-i.pairs.items w.left_only.result c.loop-i.invariant (is ∙ w.if-has_rows-met.true) w.left_only.ensures in
          rw w.pairs-is (w.in_ok-push.ensures.items ∙ step)
      | else-has_rows-met w ↦
          let step = kept_skip left_only test i c.args.pairs.now.items c.loop-i.pairs.items c.loop-i.invariant (is ∙ w.if-has_rows-met.false) in
          rw w.pairs-is step
    ]
