use Rattle.std.proofs.Common.{◌≡◌, ◌∙◌, ℕ, Option, map, ap, subst, arith}
use denote.Param.Send.{sendable}
use Rattle.std.proofs.Crossing.{crosses}
use Rattle.std.specs.Option.{option_map}
use Rattle.tb_chunk.specs.Lent.{lent_columns}
use Rattle.tb_frame.specs.Promise.Table.{table_of}
use Rattle.tb_store.proofs.Crossing.{Series-send, Series-sync}
use Rattle.tb_rowkey.specs.Promise.Columns.{row_count}
use Rattle.tb_build.specs.Phases.{AreGiven}
use Rattle.tb_group.specs.Asked.{asked_list}
use Rattle.tb_group.specs.Codes.{codes_by}
use Rattle.tb_group.specs.Parts.{group_count, lent_test, rows_of_part, shown_part, work_view}
use Rattle.tb_group.specs.declared.part.PartGroups.{PartGroups}
use Rattle.tb_group.proofs.PartsDone.{groups_given, views_given}
use Rattle.tb_group.proofs.ScatteredRows.{rows_of_sources, scattered_few}
use Rattle.tb_group.proofs.Starts.{in_order, is_part, many, sizes_are}
use Rattle.tb_group.proofs.parts.grouped_parts.Goals as goal

pub invariant_of-work : goal.invariant_of-work
invariant_of-work g c =
    let cs = lent_columns c.args.by.now in
    let codes = codes_by (table_of cs) (row_count cs) in
    let n = c.args.exec.now.partitions in
    let rows = c.as_slice.ensures.value ∙ c.in_ok-idxs.ensures.idxs in
    record {
      rows = rows_of_sources (table_of cs) (row_count cs) n c.as_slice.result.now rows c.args.asked.now c.requires.sources;
      few = omega (arith, scattered_few (table_of cs) (row_count cs) n c.as_slice.result.now rows, c.requires.few);
    }

pub run_phase-requires-after_bounds : goal.run_phase-requires-after_bounds
run_phase-requires-after_bounds g c κs within = λ part low _.
    let cs = lent_columns c.args.by.now in
    is_part (codes_by (table_of cs) (row_count cs)) c.args.exec.now.partitions c.as_slice.result.now c.as_slice-2.result.now
    (c.as_slice.ensures.value ∙ c.in_ok-idxs.ensures.idxs) (c.as_slice-2.ensures.value ∙ c.in_ok-idxs.ensures.starts) part
    (omega (arith, low, c.partitions-parts.ensures.given))

pub run_phase-requires-send-P-Out : goal.run_phase-requires-send-P-Out
run_phase-requires-send-P-Out g c κs within = search (Series-send, crosses, sendable) depth 60 fits 20000

pub run_phase-requires-sync-P : goal.run_phase-requires-sync-P
run_phase-requires-sync-P g c κs within = search (Series-sync, crosses, sendable) depth 60 fits 20000

pub lengths_between-requires-clause-some : goal.lengths_between-requires-clause-some
lengths_between-requires-clause-some g c =
    let cs = lent_columns c.args.by.now in
    omega (
      arith,
      many (codes_by (table_of cs) (row_count cs)) c.args.exec.now.partitions c.as_slice.result.now c.deref.result.now
          (c.as_slice.ensures.value ∙ c.in_ok-idxs.ensures.idxs) (c.deref.ensures.value ∙ c.in_ok-idxs.ensures.starts),
    )

pub lengths_between-requires-clause-ordered : goal.lengths_between-requires-clause-ordered
lengths_between-requires-clause-ordered g c =
    let cs = lent_columns c.args.by.now in
    in_order (codes_by (table_of cs) (row_count cs)) c.args.exec.now.partitions c.as_slice.result.now c.deref.result.now
    (c.as_slice.ensures.value ∙ c.in_ok-idxs.ensures.idxs) (c.deref.ensures.value ∙ c.in_ok-idxs.ensures.starts)

pub returns-clause-parts : goal.returns-clause-parts
returns-clause-parts g c =
    let cs = lent_columns c.args.by.now in
    let test = lent_test c.args.by.now in
    let asked = asked_list c.args.asked.now in
    let idxs = c.as_slice.result.now in
    let starts = c.as_slice-2.result.now in
    let done = c.in_ok-done.done.items in
    let given = subst (λ (n : ℕ). AreGiven (λ p (o : Option PartGroups). option_map shown_part o ≡ work_view test asked p (rows_of_part idxs starts p)) n done) c.partitions-parts.ensures.given c.in_ok-done.ensures.given in
    ap (map shown_part) c.in_ok-given.ensures
    ∙ views_given test asked (codes_by (table_of cs) (row_count cs)) c.args.exec.now.partitions idxs starts
    (c.as_slice.ensures.value ∙ c.in_ok-idxs.ensures.idxs) (c.as_slice-2.ensures.value ∙ c.in_ok-idxs.ensures.starts) done given

pub returns-clause-traced : goal.returns-clause-traced
returns-clause-traced g c =
    let cs = lent_columns c.args.by.now in
    let codes = codes_by (table_of cs) (row_count cs) in
    let n = c.args.exec.now.partitions in
    let test = lent_test c.args.by.now in
    let asked = asked_list c.args.asked.now in
    let idxs = c.as_slice.result.now in
    let starts = c.as_slice-2.result.now in
    let rows = c.as_slice.ensures.value ∙ c.in_ok-idxs.ensures.idxs in
    let done = c.in_ok-done.done.items in
    let given = subst (λ (m : ℕ). AreGiven (λ p (o : Option PartGroups). option_map shown_part o ≡ work_view test asked p (rows_of_part idxs starts p)) m done) c.partitions-parts.ensures.given c.in_ok-done.ensures.given in
    let sizes = c.in_ok-sizes.ensures ∙ sizes_are codes n idxs c.deref.result.now rows (c.deref.ensures.value ∙ c.in_ok-idxs.ensures.starts) in
    let groups = c.in_ok-groups.ensures ∙ ap (map group_count) c.deref-2.ensures.value
    ∙ groups_given test asked codes n idxs starts rows (c.as_slice-2.ensures.value ∙ c.in_ok-idxs.ensures.starts) done given in
    λ t. record { parts = c.partitions-parts.ensures.given t; sizes = sizes t; groups = groups t }

pub returns-clause-some : goal.returns-clause-some
returns-clause-some g c = omega (arith, c.partitions-parts.ensures.given, c.partitions-parts.ensures.some)

pub returns-clause-let_in : goal.returns-clause-let_in
returns-clause-let_in g c = λ part low. c.in_ok-done.ensures.let_in part (omega (arith, low, c.partitions-parts.ensures.given))
