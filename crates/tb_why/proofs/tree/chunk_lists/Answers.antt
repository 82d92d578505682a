use Rattle.std.proofs.Common.{map, option_map, ◌∙◌, sym, ap, arith}
use Rattle.std.proofs.lemmas.List.{map_push}
use Rattle.std.proofs.lemmas.List.Elements.{All-append}
use Rattle.tb_tree.specs.View.{listed}
use Rattle.tb_value.specs.See.{data_of}
use Rattle.tb_value.specs.SeeKind.{kind_of}
use Rattle.tb_value.specs.Promise.Typed.{HasType}
use Rattle.tb_chunk.specs.Made.{lists_of}
use Rattle.tb_json.specs.Promise.Cells.{cell_in}
use Rattle.tb_json.specs.Promise.Lists.{each}
use Rattle.tb_json.proofs.Flat.{flat-push}
use Rattle.tb_json.proofs.LentValues.{each-map, ItemsWalk-more, ItemsWalk-fails, ItemsWalk-all}
use Rattle.tb_why.specs.Columns.{items_of}
use Rattle.tb_why.proofs.tree.chunk_lists.Goals as goal

pub returns-in_default-clause-chunks : goal.returns-in_default-clause-chunks
returns-in_default-clause-chunks c =
    let t = kind_of c.args.dtype.now in
    ItemsWalk-fails (λ d. each (cell_in t) (items_of d)) c.items_at-chunks.result (lists_of c.loop-i.lists.items) c.loop-i.i _ (omega arith) c.at.ensures (sym c.in_ok-values.ensures.values ∙ ap (option_map (λ v. data_of v.items)) c.in_default.is) c.loop-i.invariant.walked
    ∙ each-map (each (cell_in t)) items_of (listed c.items_at-chunks.result)
    ∙ ap (λ ds. each (each (cell_in t)) (map items_of ds)) c.items_at-chunks.ensures

pub loop-i-preserved : goal.loop-i-preserved
loop-i-preserved c = record {
  walked =
      rw (c.in_ok-push.ensures.items, map_push)
      (ItemsWalk-more (λ d. each (cell_in (kind_of c.args.dtype.now)) (items_of d)) c.items_at-chunks.result (lists_of c.loop-i.lists.items) c.loop-i.i _ _ (omega arith) c.at.ensures (sym c.in_ok-values.ensures.values ∙ ap (option_map (λ v. data_of v.items)) c.in-Some.is) c.loop-i.invariant.walked);
  typed = rw (c.in_ok-push.ensures.items, map_push, flat-push) (All-append (HasType (kind_of c.args.dtype.now)) _ _ c.loop-i.invariant.typed (rw c.in-Some.is at c.in_ok-values.ensures.typed));
}

pub returns-clause-chunks : goal.returns-clause-chunks
returns-clause-chunks c =
    let t = kind_of c.args.dtype.now in
    ItemsWalk-all (λ d. each (cell_in t) (items_of d)) c.items_at-chunks.result (lists_of c.loop-i.lists.items) c.loop-i.i (omega arith) c.loop-i.invariant.walked
    ∙ each-map (each (cell_in t)) items_of (listed c.items_at-chunks.result)
    ∙ ap (λ ds. each (each (cell_in t)) (map items_of ds)) c.items_at-chunks.ensures

pub returns-clause-typed : goal.returns-clause-typed
returns-clause-typed c = c.loop-i.invariant.typed
