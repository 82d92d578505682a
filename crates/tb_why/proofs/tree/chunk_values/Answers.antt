use Rattle.std.proofs.Common.{option_map, ◌∙◌, sym, ap, arith}
use Rattle.std.proofs.lemmas.List.{map_push}
use Rattle.std.proofs.lemmas.List.Elements.{All-push}
use Rattle.tb_value.specs.See.{datum}
use Rattle.tb_value.specs.SeeKind.{kind_of}
use Rattle.tb_value.specs.Promise.Typed.{HasType}
use Rattle.tb_json.specs.Promise.Cells.{cell_in}
use Rattle.tb_json.specs.Promise.Lists.{each}
use Rattle.tb_json.proofs.LentValues.{ItemsWalk-more, ItemsWalk-fails, ItemsWalk-all}
use Rattle.tb_why.proofs.tree.chunk_values.Goals as goal

pub returns-in_default-clause-values : goal.returns-in_default-clause-values
returns-in_default-clause-values c =
    ItemsWalk-fails (cell_in (kind_of c.args.dtype.now)) _ _ _ _ (omega arith) c.at.ensures (sym c.in_ok-value.ensures.value ∙ ap (option_map datum) c.in_default.is) c.loop-i.invariant.walked
    ∙ ap (each (cell_in (kind_of c.args.dtype.now))) c.items-items.ensures

pub loop-i-preserved : goal.loop-i-preserved
loop-i-preserved c = record {
  walked =
      rw (c.in_ok-push.ensures.items, map_push)
      (ItemsWalk-more (cell_in (kind_of c.args.dtype.now)) _ _ _ _ _ (omega arith) c.at.ensures (sym c.in_ok-value.ensures.value ∙ ap (option_map datum) c.in-Some.is) c.loop-i.invariant.walked);
  typed = rw (c.in_ok-push.ensures.items, map_push) (All-push (HasType (kind_of c.args.dtype.now)) _ _ c.loop-i.invariant.typed (rw c.in-Some.is at c.in_ok-value.ensures.typed));
}

pub returns-clause-values : goal.returns-clause-values
returns-clause-values c =
    ItemsWalk-all (cell_in (kind_of c.args.dtype.now)) _ _ _ (omega arith) c.loop-i.invariant.walked
    ∙ ap (each (cell_in (kind_of c.args.dtype.now))) c.items-items.ensures

pub returns-clause-typed : goal.returns-clause-typed
returns-clause-typed c = c.loop-i.invariant.typed
