use Rattle.std.proofs.Common.{◌∙◌, ap, pos, sym}
use Rattle.tb_value.specs.Promise.Datum.{int}
use Rattle.tb_chunk.specs.Seen.{chunk_lists}
use Rattle.tb_sorted.specs.Columns.{cell_lists}
use Rattle.tb_sorted.specs.Path.{order_after}
use Rattle.tb_sorted.proofs.Numbers.{chunks_merged}
use Rattle.tb_sorted.proofs.typed.pairs_of_chunks.Goals as goal

pub returns-in-Int8Type-Int8Type : goal.returns-in-Int8Type-Int8Type
returns-in-Int8Type-Int8Type c =
    let lists = cell_lists int in
    chunks_merged (order_after c.args.first) c.args.keep_unmatched (lists c.deref.result.now) (lists c.deref-in-Int8Type-Int8Type.result.now) (chunk_lists c.args.left.now) (chunk_lists c.args.right.now) c.pairs_of_cells.result
    (ap lists c.deref.ensures.value ∙ sym (ap chunk_lists c.in-Int8Type-Int8Type.is-0)) (ap lists c.deref-in-Int8Type-Int8Type.ensures.value ∙ sym (ap chunk_lists c.in-Int8Type-Int8Type.is-1)) c.pairs_of_cells.ensures

pub returns-in-Int16Type-Int16Type : goal.returns-in-Int16Type-Int16Type
returns-in-Int16Type-Int16Type c =
    let lists = cell_lists int in
    chunks_merged (order_after c.args.first) c.args.keep_unmatched (lists c.deref-in-Int16Type-Int16Type.result.now) (lists c.deref-in-Int16Type-Int16Type-2.result.now) (chunk_lists c.args.left.now) (chunk_lists c.args.right.now) c.pairs_of_cells-in-Int16Type-Int16Type.result
    (ap lists c.deref-in-Int16Type-Int16Type.ensures.value ∙ sym (ap chunk_lists c.in-Int16Type-Int16Type.is-0)) (ap lists c.deref-in-Int16Type-Int16Type-2.ensures.value ∙ sym (ap chunk_lists c.in-Int16Type-Int16Type.is-1)) c.pairs_of_cells-in-Int16Type-Int16Type.ensures

pub returns-in-Int32Type-Int32Type : goal.returns-in-Int32Type-Int32Type
returns-in-Int32Type-Int32Type c =
    let lists = cell_lists int in
    chunks_merged (order_after c.args.first) c.args.keep_unmatched (lists c.deref-in-Int32Type-Int32Type.result.now) (lists c.deref-in-Int32Type-Int32Type-2.result.now) (chunk_lists c.args.left.now) (chunk_lists c.args.right.now) c.pairs_of_cells-in-Int32Type-Int32Type.result
    (ap lists c.deref-in-Int32Type-Int32Type.ensures.value ∙ sym (ap chunk_lists c.in-Int32Type-Int32Type.is-0)) (ap lists c.deref-in-Int32Type-Int32Type-2.ensures.value ∙ sym (ap chunk_lists c.in-Int32Type-Int32Type.is-1)) c.pairs_of_cells-in-Int32Type-Int32Type.ensures

pub returns-in-Int64Type-Int64Type : goal.returns-in-Int64Type-Int64Type
returns-in-Int64Type-Int64Type c =
    let lists = cell_lists int in
    chunks_merged (order_after c.args.first) c.args.keep_unmatched (lists c.deref-in-Int64Type-Int64Type.result.now) (lists c.deref-in-Int64Type-Int64Type-2.result.now) (chunk_lists c.args.left.now) (chunk_lists c.args.right.now) c.pairs_of_cells-in-Int64Type-Int64Type.result
    (ap lists c.deref-in-Int64Type-Int64Type.ensures.value ∙ sym (ap chunk_lists c.in-Int64Type-Int64Type.is-0)) (ap lists c.deref-in-Int64Type-Int64Type-2.ensures.value ∙ sym (ap chunk_lists c.in-Int64Type-Int64Type.is-1)) c.pairs_of_cells-in-Int64Type-Int64Type.ensures

pub returns-in-Int128Type-Int128Type : goal.returns-in-Int128Type-Int128Type
returns-in-Int128Type-Int128Type c =
    let lists = cell_lists int in
    chunks_merged (order_after c.args.first) c.args.keep_unmatched (lists c.deref-in-Int128Type-Int128Type.result.now) (lists c.deref-in-Int128Type-Int128Type-2.result.now) (chunk_lists c.args.left.now) (chunk_lists c.args.right.now) c.pairs_of_cells-in-Int128Type-Int128Type.result
    (ap lists c.deref-in-Int128Type-Int128Type.ensures.value ∙ sym (ap chunk_lists c.in-Int128Type-Int128Type.is-0)) (ap lists c.deref-in-Int128Type-Int128Type-2.ensures.value ∙ sym (ap chunk_lists c.in-Int128Type-Int128Type.is-1)) c.pairs_of_cells-in-Int128Type-Int128Type.ensures

pub returns-in-UInt8Type-UInt8Type : goal.returns-in-UInt8Type-UInt8Type
returns-in-UInt8Type-UInt8Type c =
    let lists = cell_lists (λ n. int (pos n)) in
    chunks_merged (order_after c.args.first) c.args.keep_unmatched (lists c.deref-in-UInt8Type-UInt8Type.result.now) (lists c.deref-in-UInt8Type-UInt8Type-2.result.now) (chunk_lists c.args.left.now) (chunk_lists c.args.right.now) c.pairs_of_cells-in-UInt8Type-UInt8Type.result
    (ap lists c.deref-in-UInt8Type-UInt8Type.ensures.value ∙ sym (ap chunk_lists c.in-UInt8Type-UInt8Type.is-0)) (ap lists c.deref-in-UInt8Type-UInt8Type-2.ensures.value ∙ sym (ap chunk_lists c.in-UInt8Type-UInt8Type.is-1)) c.pairs_of_cells-in-UInt8Type-UInt8Type.ensures

pub returns-in-UInt16Type-UInt16Type : goal.returns-in-UInt16Type-UInt16Type
returns-in-UInt16Type-UInt16Type c =
    let lists = cell_lists (λ n. int (pos n)) in
    chunks_merged (order_after c.args.first) c.args.keep_unmatched (lists c.deref-in-UInt16Type-UInt16Type.result.now) (lists c.deref-in-UInt16Type-UInt16Type-2.result.now) (chunk_lists c.args.left.now) (chunk_lists c.args.right.now) c.pairs_of_cells-in-UInt16Type-UInt16Type.result
    (ap lists c.deref-in-UInt16Type-UInt16Type.ensures.value ∙ sym (ap chunk_lists c.in-UInt16Type-UInt16Type.is-0)) (ap lists c.deref-in-UInt16Type-UInt16Type-2.ensures.value ∙ sym (ap chunk_lists c.in-UInt16Type-UInt16Type.is-1)) c.pairs_of_cells-in-UInt16Type-UInt16Type.ensures

pub returns-in-UInt32Type-UInt32Type : goal.returns-in-UInt32Type-UInt32Type
returns-in-UInt32Type-UInt32Type c =
    let lists = cell_lists (λ n. int (pos n)) in
    chunks_merged (order_after c.args.first) c.args.keep_unmatched (lists c.deref-in-UInt32Type-UInt32Type.result.now) (lists c.deref-in-UInt32Type-UInt32Type-2.result.now) (chunk_lists c.args.left.now) (chunk_lists c.args.right.now) c.pairs_of_cells-in-UInt32Type-UInt32Type.result
    (ap lists c.deref-in-UInt32Type-UInt32Type.ensures.value ∙ sym (ap chunk_lists c.in-UInt32Type-UInt32Type.is-0)) (ap lists c.deref-in-UInt32Type-UInt32Type-2.ensures.value ∙ sym (ap chunk_lists c.in-UInt32Type-UInt32Type.is-1)) c.pairs_of_cells-in-UInt32Type-UInt32Type.ensures

pub returns-in-UInt64Type-UInt64Type : goal.returns-in-UInt64Type-UInt64Type
returns-in-UInt64Type-UInt64Type c =
    let lists = cell_lists (λ n. int (pos n)) in
    chunks_merged (order_after c.args.first) c.args.keep_unmatched (lists c.deref-in-UInt64Type-UInt64Type.result.now) (lists c.deref-in-UInt64Type-UInt64Type-2.result.now) (chunk_lists c.args.left.now) (chunk_lists c.args.right.now) c.pairs_of_cells-in-UInt64Type-UInt64Type.result
    (ap lists c.deref-in-UInt64Type-UInt64Type.ensures.value ∙ sym (ap chunk_lists c.in-UInt64Type-UInt64Type.is-0)) (ap lists c.deref-in-UInt64Type-UInt64Type-2.ensures.value ∙ sym (ap chunk_lists c.in-UInt64Type-UInt64Type.is-1)) c.pairs_of_cells-in-UInt64Type-UInt64Type.ensures
