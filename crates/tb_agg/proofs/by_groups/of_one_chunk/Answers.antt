use Rattle.std.proofs.Common.{◌∙◌, Some, ap, arith, false, inr, refl, sym, true}
use Rattle.tb_value.specs.Promise.Names.{Name}
use Rattle.tb_value.specs.declared.error.ComputeCause.TheVariants.{SumRange}
use Rattle.tb_value.specs.declared.error.PolarsError.TheVariants.{ComputeError}
use Rattle.tb_agg.specs.Kept.{shown_kept}
use Rattle.tb_agg.proofs.Own.{own_cause_by, own_column, own_kept, own_taken}
use Rattle.tb_agg.proofs.by_groups.of_one_chunk.Goals as goal

pub of-requires-clause-rows : goal.of-requires-clause-rows
of-requires-clause-rows c =
    let few = c.len-len.ensures.column.short in
    let each = c.requires.groups.each in
    record { named = omega (arith, few, each); within = λ j low. omega (arith, low, each) }

pub of-requires-clause-groups : goal.of-requires-clause-groups
of-requires-clause-groups c = record { each = refl; within = c.requires.groups.within; few = c.requires.groups.few }

pub column-requires-clause-taken : goal.column-requires-clause-taken
column-requires-clause-taken c =
    own_taken c.args.aggregate c.args.groups.now c.args.column.now c.requires.groups (shown_kept c.in_ok-kept.kept) c.in_ok-kept.ensures c.requires.taken

pub column-requires-clause-kept : goal.column-requires-clause-kept
column-requires-clause-kept c =
    own_kept c.args.aggregate c.args.groups.now c.args.column.now c.requires.groups (shown_kept c.in_ok-kept.kept) c.in_ok-kept.ensures c.len-len.ensures.column.short

pub returns-in-Some-clause-settles : goal.returns-in-Some-clause-settles
returns-in-Some-clause-settles c =
    let made = rw c.in-Some.is at c.in_ok-made.ensures in
    own_cause_by c.args.aggregate c.args.groups.now c.args.column.now c.requires.groups (shown_kept c.in_ok-kept.kept) c.in_ok-kept.ensures true made.0

pub returns-in-Some-clause-column : goal.returns-in-Some-clause-column
returns-in-Some-clause-column c =
    let made = rw c.in-Some.is at c.in_ok-made.ensures in
    own_column c.args.aggregate c.args.groups.now c.args.column.now c.requires.groups (shown_kept c.in_ok-kept.kept) c.in_ok-kept.ensures c.requires.taken
    c.in_ok-copy.field-0 c.in-Some.made (c.in_ok-copy.ensures ∙ c.name.ensures) made.1

pub returns-in_ok-name-in-None-clause-settles : goal.returns-in_ok-name-in-None-clause-settles
returns-in_ok-name-in-None-clause-settles c =
    let none = rw c.in-None.is at c.in_ok-made.ensures in
    inr (own_cause_by c.args.aggregate c.args.groups.now c.args.column.now c.requires.groups (shown_kept c.in_ok-kept.kept) c.in_ok-kept.ensures false none
    ∙ ap (λ (n : Name). Some (ComputeError (SumRange n))) (sym (c.in_ok-name-in-None.ensures ∙ c.name-in-None.ensures)))
