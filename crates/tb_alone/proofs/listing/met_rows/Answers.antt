use Rattle.std.proofs.Common.{◌≡◌, ◌<◌, ◌+◌, ◌||◌, ℕ, Bool, List, [], false, nat_eq, sym, ◌∙◌, ap, subst, arith, get_or, length}
use Rattle.std.specs.Prelude.{All}
use Rattle.std.specs.List.{list_any}
use Rattle.std.proofs.lemmas.List.{with_items_is}
use Rattle.tb_frame.specs.Promise.Join.{matches}
use Rattle.tb_frame.specs.Promise.Table.{table_of, height}
use Rattle.tb_keys.specs.Asked.{asked_request}
use Rattle.tb_alone.specs.Found.{AreMarked}
use Rattle.tb_alone.proofs.FoundRows.{found_here, found_rows, marked_more}
use Rattle.tb_alone.proofs.listing.met_rows.Goals as goal

pub mark-requires : goal.mark-requires
mark-requires c =
    let q = asked_request c.args.request.now in
    let rows : List ℕ = (get_or c.args.found.now c.loop-i.i (record { ref_ptr = (0, 0); now = [] })).now in
    subst (λ (n : ℕ). All (λ row. row < n) rows) (sym (ap length c.as_mut_slice.ensures.value ∙ c.loop-i.invariant.count))
    (found_rows q c.args.found.now c.requires.found c.loop-i.i (omega (arith, c.loop-i-test.true, c.height-i-end.ensures.height)) (record { ref_ptr = (0, 0); now = [] }))

pub loop-i-preserved : goal.loop-i-preserved
loop-i-preserved c =
    let q = asked_request c.args.request.now in
    let r = height (table_of c.args.request.now.right.now) in
    let i = c.loop-i.i in
    let old = c.loop-i.met.items in
    let new = c.mark.new.met in
    let value = c.as_mut_slice.ensures.value in
    let many : length new ≡ length old = c.mark.ensures.len ∙ ap length value in
    let rows : List ℕ = (get_or c.args.found.now i (record { ref_ptr = (0, 0); now = [] })).now in
    let here = found_here q c.args.found.now c.requires.found i (omega (arith, c.loop-i-test.true, c.height-i-end.ensures.height)) (record { ref_ptr = (0, 0); now = [] }) in
    subst (AreMarked (matches q) (i + 1) r) (sym (with_items_is c.loop-i.met new (omega (arith, many, c.loop-i.met.ok.0))))
    (marked_more (matches q) i r old new rows here c.loop-i.invariant many
    (λ k low. c.mark.ensures.marks k (omega (arith, low, ap length value)) ∙ ap (λ (xs : List Bool). get_or xs k false || list_any (nat_eq k) rows) value))
