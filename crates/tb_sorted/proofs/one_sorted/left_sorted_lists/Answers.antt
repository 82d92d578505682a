use Rattle.std.proofs.Common.{ap, List, ℕ, arith, false, rules, subst, sym, ◌∙◌}
use Rattle.std.proofs.lemmas.List.{length-map}
use Rattle.std.specs.Prelude.{IsPermutation}
use Rattle.tb_value.specs.Refusals.{Settles}
use Rattle.tb_value.specs.declared.index.JoinPair.{JoinPair}
use Rattle.tb_frame.specs.Answer.{AreLeftRows}
use Rattle.tb_sorted.specs.Promise.Keys.{MergeSizes}
use Rattle.tb_sorted.specs.Keys.{number_listing}
use Rattle.tb_sorted.specs.Listed.{IsMergeWithin}
use Rattle.tb_sorted.specs.SortedRows.{numbered_keys}
use Rattle.tb_sorted.proofs.Places.{as_many_keys, left_many, left_places, left_sizes, left_way, lent_rows, rows_few}
use Rattle.tb_keys.specs.Causes.{too_many}
use Rattle.tb_sorted.proofs.one_sorted.left_sorted_lists.Goals as goal

pub merged_lists-requires-clause-keys : goal.merged_lists-requires-clause-keys
merged_lists-requires-clause-keys g c κs within =
    let number = g.N.WholeCell.number in
    let keys = g.A.NumberList.keys c.args.left.now in
    let sorted = lent_rows number keys c.in_ok-rows.rows.items c.deref.result.now c.deref.ensures.value c.in_ok-rows.ensures in
    let many = as_many_keys keys (numbered_keys number c.deref.result.now) sorted in
    record {
      right_sorted = c.requires.right_sorted;
      left_sorted = sorted.ascends;
      right_few = c.requires.right_few;
      left_few = omega (arith, many, c.requires.left_few);
    }

pub returns-in_err-pairs : goal.returns-in_err-pairs
returns-in_err-pairs g c =
    let number = g.N.WholeCell.number in
    let keys = g.A.NumberList.keys c.args.left.now in
    let right = g.B.NumberList.keys c.args.right.now in
    let rows = numbered_keys number c.deref.result.now in
    let sorted = lent_rows number keys c.in_ok-rows.rows.items c.deref.result.now c.deref.ensures.value c.in_ok-rows.ensures in
    let settled = subst (Settles c.from_residual-in_err-pairs.result) (ap too_many (left_many keys rows sorted right)) (search rules) in
    record { settles = settled; pairs = search rules; ascends = search rules; merged = search rules }

pub placed_pairs-requires-clause-places : goal.placed_pairs-requires-clause-places
placed_pairs-requires-clause-places g c κs within =
    let number = g.N.WholeCell.number in
    let keys = g.A.NumberList.keys c.args.left.now in
    let right = g.B.NumberList.keys c.args.right.now in
    let rows = numbered_keys number c.deref.result.now in
    let sorted = lent_rows number keys c.in_ok-rows.rows.items c.deref.result.now c.deref.ensures.value c.in_ok-rows.ensures in
    subst (λ (n : ℕ). AreLeftRows n c.in_ok-pairs.pairs.items) (length-map c.deref.result.now (λ (p : g.row.N.Denot × ℕ). (number p.0, p.1)))
    (left_places keys rows sorted right c.in_ok-pairs.pairs.items c.in_ok-pairs.ensures.pairs)

pub placed_pairs-requires-clause-rows : goal.placed_pairs-requires-clause-rows
placed_pairs-requires-clause-rows g c κs within =
    let number = g.N.WholeCell.number in
    let keys = g.A.NumberList.keys c.args.left.now in
    let sorted = lent_rows number keys c.in_ok-rows.rows.items c.deref.result.now c.deref.ensures.value c.in_ok-rows.ensures in
    rows_few keys (numbered_keys number c.deref.result.now) sorted c.requires.left_few

pub returns : goal.returns
returns g c =
    let number = g.N.WholeCell.number in
    let keys = g.A.NumberList.keys c.args.left.now in
    let right = g.B.NumberList.keys c.args.right.now in
    let rows = numbered_keys number c.deref.result.now in
    let sorted = lent_rows number keys c.in_ok-rows.rows.items c.deref.result.now c.deref.ensures.value c.in_ok-rows.ensures in
    let ps = c.in_ok-pairs.pairs.items in
    let h = c.in_ok-pairs.ensures in
    record {
      settles = sym (ap too_many (left_many keys rows sorted right)) ∙ h.settles;
      pairs = subst (λ (l : List JoinPair). IsPermutation (number_listing false keys right) l) (sym c.placed_pairs.ensures) (left_way keys rows sorted right ps h.pairs);
      ascends = tt;
      merged = subst (λ (s : MergeSizes). IsMergeWithin s c.in_ok-pairs.merged) (left_sizes keys rows sorted right) h.merged;
    }
