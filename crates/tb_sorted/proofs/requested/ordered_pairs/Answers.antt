use Rattle.std.proofs.Common.{List, subst, sym}
use Rattle.tb_value.specs.Promise.Datum.{Datum}
use Rattle.tb_chunk.specs.Promise.Col.{concatenation, values}
use Rattle.tb_chunk.specs.Seen.{chunk_lists}
use Rattle.tb_sorted.specs.Columns.{MayMerge}
use Rattle.tb_sorted.specs.Listed.{AreValuesMerged}
use Rattle.tb_sorted.specs.Path.{order_after, sorted_first}
use Rattle.tb_sorted.specs.declared.path.SortedFirst.{SortedFirst}
use Rattle.tb_sorted.proofs.Flagged.{lone_list, may_merge}
use Rattle.tb_sorted.proofs.requested.ordered_pairs.Goals as goal

pub pairs_of_chunks-requires-clause-may : goal.pairs_of_chunks-requires-clause-may
pairs_of_chunks-requires-clause-may c =
    let l = c.args.left.now in
    let r = c.args.right.now in
    let keep = c.args.keep_unmatched in
    let first = sorted_first l r in
    let us = concatenation (chunk_lists c.lone_chunk.result.now) in
    let vs = concatenation (chunk_lists c.lone_chunk-2.result.now) in
    let may = may_merge keep c.args.exec.now l r c.len.ensures.column c.len-2.ensures.column c.requires in
    subst (λ (f : SortedFirst). MayMerge f keep us vs) (sym c.sorted_first.ensures)
    (subst (λ (xs : List Datum). MayMerge first keep xs vs) (sym (lone_list l (chunk_lists c.lone_chunk.result.now) c.lone_chunk.ensures.lists))
    (subst (λ (xs : List Datum). MayMerge first keep (values l) xs) (sym (lone_list r (chunk_lists c.lone_chunk-2.result.now) c.lone_chunk-2.ensures.lists)) may))

pub returns : goal.returns
returns c =
    let l = c.args.left.now in
    let r = c.args.right.now in
    let us = concatenation (chunk_lists c.lone_chunk.result.now) in
    let vs = concatenation (chunk_lists c.lone_chunk-2.result.now) in
    let there = c.pairs_of_chunks.result in
    let keep = c.args.keep_unmatched in
    subst (λ (f : SortedFirst). AreValuesMerged (order_after f) keep (values l) (values r) there) c.sorted_first.ensures
    (subst (λ (xs : List Datum). AreValuesMerged (order_after c.sorted_first.result) keep xs (values r) there) (lone_list l (chunk_lists c.lone_chunk.result.now) c.lone_chunk.ensures.lists)
    (subst (λ (xs : List Datum). AreValuesMerged (order_after c.sorted_first.result) keep us xs there) (lone_list r (chunk_lists c.lone_chunk-2.result.now) c.lone_chunk-2.ensures.lists) c.pairs_of_chunks.ensures))
