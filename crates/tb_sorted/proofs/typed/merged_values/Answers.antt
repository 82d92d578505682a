use Rattle.std.proofs.Common.{Bool, map, subst, sym}
use Rattle.tb_frame.specs.declared.args.Direction.TheVariants.{Free}
use Rattle.tb_sorted.specs.Listed.{AreKeysMerged}
use Rattle.tb_sorted.specs.declared.path.SortedFirst.TheVariants as the
use Rattle.tb_sorted.proofs.Numbers.{left_ascends, lists_to_merge, none_kept, right_ascends, shown_merged}
use Rattle.tb_sorted.proofs.typed.merged_values.Goals as goal

pub merged_lists-requires-clause-keys : goal.merged_lists-requires-clause-keys
merged_lists-requires-clause-keys g c κs within =
    let law = (g.met.N.WholeCell g.world.𝓛 g.world.𝓜 g.world.𝓡 ((λ s x. x), (λ x. x), (λ x. x), λ x. x)).shown in
    lists_to_merge g.N.Cell.shows g.N.WholeCell.number law c.args.left.now.values.now c.args.right.now.values.now c.args.first c.args.keep_unmatched c.requires.may c.in-Neither.is

pub right_sorted_lists-requires-clause-left_sorted : goal.right_sorted_lists-requires-clause-left_sorted
right_sorted_lists-requires-clause-left_sorted g c κs within =
    let law = (g.met.N.WholeCell g.world.𝓛 g.world.𝓜 g.world.𝓡 ((λ s x. x), (λ x. x), (λ x. x), λ x. x)).shown in
    left_ascends g.N.Cell.shows g.N.WholeCell.number law c.args.left.now.values.now c.args.right.now.values.now c.args.first c.args.keep_unmatched c.requires.may c.in-Right.is

pub left_sorted_lists-requires-clause-right_sorted : goal.left_sorted_lists-requires-clause-right_sorted
left_sorted_lists-requires-clause-right_sorted g c κs within =
    let law = (g.met.N.WholeCell g.world.𝓛 g.world.𝓜 g.world.𝓡 ((λ s x. x), (λ x. x), (λ x. x), λ x. x)).shown in
    right_ascends g.N.Cell.shows g.N.WholeCell.number law c.args.left.now.values.now c.args.right.now.values.now c.args.first c.args.keep_unmatched c.requires.may c.in-Left.is

pub returns-in-Neither : goal.returns-in-Neither
returns-in-Neither g c =
    let law = (g.met.N.WholeCell g.world.𝓛 g.world.𝓜 g.world.𝓡 ((λ s x. x), (λ x. x), (λ x. x), λ x. x)).shown in
    shown_merged g.N.Cell.shows g.N.WholeCell.number law c.args.left.now.values.now c.args.right.now.values.now c.args.first the.Neither c.args.keep_unmatched c.merged_lists.result c.in-Neither.is c.merged_lists.ensures

pub returns-in-Right : goal.returns-in-Right
returns-in-Right g c =
    let law = (g.met.N.WholeCell g.world.𝓛 g.world.𝓜 g.world.𝓡 ((λ s x. x), (λ x. x), (λ x. x), λ x. x)).shown in
    shown_merged g.N.Cell.shows g.N.WholeCell.number law c.args.left.now.values.now c.args.right.now.values.now c.args.first the.Right c.args.keep_unmatched c.right_sorted_lists.result c.in-Right.is c.right_sorted_lists.ensures

pub returns-in-Left : goal.returns-in-Left
returns-in-Left g c =
    let law = (g.met.N.WholeCell g.world.𝓛 g.world.𝓜 g.world.𝓡 ((λ s x. x), (λ x. x), (λ x. x), λ x. x)).shown in
    let number = g.N.WholeCell.number in
    let ls = c.args.left.now.values.now in
    let rs = c.args.right.now.values.now in
    let none = none_kept g.N.Cell.shows number law ls rs c.args.first c.args.keep_unmatched c.requires.may c.in-Left.is in
    let there = c.left_sorted_lists.result in
    shown_merged g.N.Cell.shows number law ls rs c.args.first the.Left c.args.keep_unmatched there c.in-Left.is
    (subst (λ (keep : Bool). AreKeysMerged Free keep (map number ls) (map number rs) there) (sym none) c.left_sorted_lists.ensures)
