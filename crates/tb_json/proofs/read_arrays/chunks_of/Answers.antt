use Rattle.std.proofs.Common.{map, option_map, ◌∙◌, sym, ap}
use Rattle.std.proofs.lemmas.List.{map_push}
use Rattle.std.proofs.lemmas.List.Elements.{All-append}
use Rattle.tb_tree.specs.View.{view}
use Rattle.tb_value.specs.Promise.Typed.{HasType}
use Rattle.tb_json.specs.Promise.Lists.{each, list_in}
use Rattle.tb_json.proofs.Flat.{flat-push}
use Rattle.tb_value.specs.SeeKind.{kind_of}
use Rattle.tb_json.specs.Promise.Cells.{cell_in}
use Rattle.tb_json.proofs.LentValues.{Walk-more, Walk-fails}
use Rattle.tb_json.proofs.read_arrays.chunks_of.Goals as goal

pub returns-in_default-clause-chunks : goal.returns-in_default-clause-chunks
returns-in_default-clause-chunks g c =
    Walk-fails (λ v. list_in (view v)) (each (cell_in (kind_of c.args.dtype.now))) _ _ _ _ c.loop-value-test.true c.value-item.is (ap (each (cell_in (kind_of c.args.dtype.now))) (sym c.items_of.ensures) ∙ sym c.in_ok-chunk.ensures.values ∙ ap (option_map g.C.Chunk.shown) c.in_default.is) c.loop-value.invariant.walked

pub loop-value-preserved : goal.loop-value-preserved
loop-value-preserved g c = record {
  walked =
      rw (c.in_ok-push.ensures.items, map_push)
      (Walk-more (λ v. list_in (view v)) (each (cell_in (kind_of c.args.dtype.now))) _ _ _ _ _ c.loop-value-test.true c.value-item.is (ap (each (cell_in (kind_of c.args.dtype.now))) (sym c.items_of.ensures) ∙ sym c.in_ok-chunk.ensures.values ∙ ap (option_map g.C.Chunk.shown) c.in-Some.is) c.loop-value.invariant.walked);
  typed = rw (c.in_ok-push.ensures.items, map_push, flat-push) (All-append (HasType (kind_of c.args.dtype.now)) _ _ c.loop-value.invariant.typed (rw c.in-Some.is at c.in_ok-chunk.ensures.typed));
}
