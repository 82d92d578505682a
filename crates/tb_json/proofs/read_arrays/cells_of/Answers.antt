use Rattle.std.proofs.Common.{map, option_map, ◌∙◌, sym, ap, arith}
use Rattle.std.proofs.lemmas.List.{map_push}
use Rattle.std.proofs.lemmas.List.Elements.{All-push}
use Rattle.tb_tree.specs.View.{view}
use Rattle.tb_value.specs.Promise.Typed.{HasType}
use Rattle.tb_chunk.specs.Chunk.{or_null}
use Rattle.tb_json.specs.Promise.Lists.{each}
use Rattle.tb_value.specs.SeeKind.{kind_of}
use Rattle.tb_json.specs.Promise.Cells.{cell_in}
use Rattle.tb_json.proofs.LentValues.{ItemsWalk-more, ItemsWalk-fails, ItemsWalk-all}
use Rattle.tb_json.proofs.read_arrays.cells_of.Goals as goal

pub returns-in_default-clause-cells : goal.returns-in_default-clause-cells
returns-in_default-clause-cells g c =
    ItemsWalk-fails (cell_in (kind_of c.args.dtype.now)) _ _ _ _ (omega arith) c.at.ensures (sym c.in_ok-cell.ensures.value ∙ ap (option_map (or_null g.N.Cell.shows)) c.in_default.is) c.loop-i.invariant.walked

pub loop-i-preserved : goal.loop-i-preserved
loop-i-preserved g c = record {
  walked =
      rw (c.in_ok-push.ensures.ok, map_push)
      (ItemsWalk-more (cell_in (kind_of c.args.dtype.now)) _ _ _ _ _ (omega arith) c.at.ensures (sym c.in_ok-cell.ensures.value ∙ ap (option_map (or_null g.N.Cell.shows)) c.in-Some.is) c.loop-i.invariant.walked);
  typed = rw (c.in_ok-push.ensures.ok, map_push) (All-push (HasType (kind_of c.args.dtype.now)) _ _ c.loop-i.invariant.typed (rw c.in-Some.is at c.in_ok-cell.ensures.typed));
}

pub returns-clause-cells : goal.returns-clause-cells
returns-clause-cells g c =
    ItemsWalk-all (cell_in (kind_of c.args.dtype.now)) _ _ _ (omega arith) c.loop-i.invariant.walked

pub returns-clause-typed : goal.returns-clause-typed
returns-clause-typed g c = c.loop-i.invariant.typed
