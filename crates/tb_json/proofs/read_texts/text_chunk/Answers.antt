use Rattle.std.proofs.Common.{map, option_map, ◌∙◌, sym, ap, arith, Some}
use Rattle.std.proofs.lemmas.List.{map_push}
use Rattle.tb_tree.specs.View.{view}
use Rattle.tb_value.specs.Promise.Datum.{string}
use Rattle.tb_value.specs.Promise.Kind as kind
use Rattle.tb_chunk.specs.Chunk.{or_null}
use Rattle.tb_json.specs.Promise.Lists.{each}
use Rattle.tb_json.specs.Promise.Cells.{cell_in}
use Rattle.tb_json.proofs.LentValues.{ItemsWalk-more, ItemsWalk-fails, ItemsWalk-all}
use Rattle.tb_json.proofs.read_texts.text_chunk.Goals as goal

pub returns-in_default-clause-values : goal.returns-in_default-clause-values
returns-in_default-clause-values c =
    ItemsWalk-fails (cell_in kind.string) _ _ _ _ (omega arith) c.at.ensures (sym c.lent_text.ensures ∙ ap (option_map (λ o. or_null string (option_map (λ t. t.now) o))) c.in_default.is) c.loop-i.invariant

pub loop-i-preserved : goal.loop-i-preserved
loop-i-preserved c =
    rw (ap (λ b. b.rows) c.in_ok-push_option.ensures.ok, map_push)
    (ItemsWalk-more (cell_in kind.string) _ _ _ _ _ (omega arith) c.at.ensures (sym c.lent_text.ensures ∙ ap (option_map (λ o. or_null string (option_map (λ t. t.now) o))) c.in-Some.is) c.loop-i.invariant)

pub returns-clause-values : goal.returns-clause-values
returns-clause-values c =
    ap (λ rows. Some (map (or_null string) rows)) c.in_ok-finish.ensures.texts
    ∙ ItemsWalk-all (cell_in kind.string) _ _ _ (omega arith) c.loop-i.invariant

pub returns-clause-typed : goal.returns-clause-typed
returns-clause-typed c = rw c.in_ok-finish.ensures.texts c.in_ok-finish.ensures.typed
