use Rattle.std.proofs.Common.{ap, List, ℕ, arith, rules, subst, sym, ◌∙◌}
use Rattle.std.proofs.lemmas.List.{length-map}
use Rattle.std.specs.Prelude.{IsPermutation, IsSorted}
use Rattle.tb_value.specs.Promise.Pairs.{left_first}
use Rattle.tb_value.specs.Refusals.{Settles}
use Rattle.tb_value.specs.declared.index.JoinPair.{JoinPair}
use Rattle.tb_frame.specs.Answer.{AreRightRows}
use Rattle.tb_sorted.specs.Promise.Keys.{MergeSizes}
use Rattle.tb_sorted.specs.Keys.{number_listing}
use Rattle.tb_sorted.specs.Listed.{IsMergeWithin}
use Rattle.tb_sorted.specs.SortedRows.{numbered_keys}
use Rattle.tb_sorted.proofs.Places.{as_many_keys, lent_rows, right_many, right_places, right_sizes, right_way, rows_few, way_permutation, way_sorted}
use Rattle.tb_keys.specs.Causes.{too_many}
use Rattle.tb_sorted.proofs.one_sorted.right_sorted_lists.Goals as goal

pub merged_lists-requires-clause-keys : goal.merged_lists-requires-clause-keys
merged_lists-requires-clause-keys g c κs within =
    let number = g.N.WholeCell.number in
    let keys = g.B.NumberList.keys c.args.right.now in
    let sorted = lent_rows number keys c.in_ok-rows.rows.items c.deref.result.now c.deref.ensures.value c.in_ok-rows.ensures in
    let many = as_many_keys keys (numbered_keys number c.deref.result.now) sorted in
    record {
      left_sorted = c.requires.left_sorted;
      right_sorted = sorted.ascends;
      left_few = c.requires.left_few;
      right_few = omega (arith, many, c.requires.right_few);
    }

pub returns-in_err-pairs : goal.returns-in_err-pairs
returns-in_err-pairs g c =
    let number = g.N.WholeCell.number in
    let keys = g.B.NumberList.keys c.args.right.now in
    let left = g.A.NumberList.keys c.args.left.now in
    let rows = numbered_keys number c.deref.result.now in
    let sorted = lent_rows number keys c.in_ok-rows.rows.items c.deref.result.now c.deref.ensures.value c.in_ok-rows.ensures in
    let settled = subst (Settles c.from_residual-in_err-pairs.result) (ap too_many (right_many keys rows sorted c.args.keep_unmatched left)) (search rules) in
    record { settles = settled; pairs = search rules; ascends = search rules; merged = search rules }

pub placed_pairs-requires-clause-places : goal.placed_pairs-requires-clause-places
placed_pairs-requires-clause-places g c κs within =
    let number = g.N.WholeCell.number in
    let keys = g.B.NumberList.keys c.args.right.now in
    let left = g.A.NumberList.keys c.args.left.now in
    let rows = numbered_keys number c.deref.result.now in
    let sorted = lent_rows number keys c.in_ok-rows.rows.items c.deref.result.now c.deref.ensures.value c.in_ok-rows.ensures in
    subst (λ (n : ℕ). AreRightRows n c.in_ok-pairs.pairs.items) (length-map c.deref.result.now (λ (p : g.row.N.Denot × ℕ). (number p.0, p.1)))
    (right_places keys rows sorted c.args.keep_unmatched left c.in_ok-pairs.pairs.items c.in_ok-pairs.ensures.pairs)

pub placed_pairs-requires-clause-rows : goal.placed_pairs-requires-clause-rows
placed_pairs-requires-clause-rows g c κs within =
    let number = g.N.WholeCell.number in
    let keys = g.B.NumberList.keys c.args.right.now in
    let sorted = lent_rows number keys c.in_ok-rows.rows.items c.deref.result.now c.deref.ensures.value c.in_ok-rows.ensures in
    rows_few keys (numbered_keys number c.deref.result.now) sorted c.requires.right_few

pub returns : goal.returns
returns g c =
    let number = g.N.WholeCell.number in
    let keys = g.B.NumberList.keys c.args.right.now in
    let left = g.A.NumberList.keys c.args.left.now in
    let rows = numbered_keys number c.deref.result.now in
    let sorted = lent_rows number keys c.in_ok-rows.rows.items c.deref.result.now c.deref.ensures.value c.in_ok-rows.ensures in
    let ps = c.in_ok-pairs.pairs.items in
    let h = c.in_ok-pairs.ensures in
    let keep = c.args.keep_unmatched in
    let is = sym (c.placed_pairs.ensures ∙ right_way keys rows sorted keep left ps h.pairs h.ascends) in
    record {
      settles = sym (ap too_many (right_many keys rows sorted keep left)) ∙ h.settles;
      pairs = subst (λ (l : List JoinPair). IsPermutation (number_listing keep left keys) l) is (way_permutation keep left keys);
      ascends = subst (λ (l : List JoinPair). IsSorted left_first l) is (way_sorted keep left keys);
      merged = subst (λ (s : MergeSizes). IsMergeWithin s c.in_ok-pairs.merged) (right_sizes keys rows sorted left) h.merged;
    }
