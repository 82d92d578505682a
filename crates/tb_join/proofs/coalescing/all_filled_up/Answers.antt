use Rattle.std.proofs.Common.{◌∙◌, ◌++◌, ◌∷◌, [], Option, sym, ap, subst}
use Rattle.std.specs.List.{All}
use Rattle.std.specs.Option.{ForSome}
use Rattle.std.proofs.lemmas.List.{map_push}
use Rattle.std.proofs.lemmas.List.Elements.{All-head, All-tail}
use Rattle.tb_chunk.specs.Promise.Col.{Col}
use Rattle.tb_frame.specs.NamedColumns.{column_by}
use Rattle.tb_join.specs.AnswerColumns.{Fits, filled_column}
use Rattle.tb_join.proofs.coalescing.all_filled_up.Goals as goal

pub loop-column-init : goal.loop-column-init
loop-column-init c = record { filled = c.in_ok-filled.ensures.items; left = rw c.into_iter-column-iterator.ensures.into_iter_gives.0 c.requires }

pub filled_up-requires : goal.filled_up-requires
filled_up-requires c =
    let x = c.in-Some.column in
    let P : Col → Type 0 = λ k. ForSome (column_by c.args.others.now k.name) (Fits k) in
    let here : P x = All-head P x _ (subst (All P) c.in-Some.ensures.steps.0 c.loop-column.invariant.left) in
    λ k e. here k (ap (column_by c.args.others.now) (sym c.name.ensures) ∙ sym c.get-other.ensures ∙ e)

pub loop-column-preserved : goal.loop-column-preserved
loop-column-preserved c =
    let x = c.in-Some.column in
    let P : Col → Type 0 = λ k. ForSome (column_by c.args.others.now k.name) (Fits k) in
    let made = c.in_ok-filled_up.ensures ∙ ap (λ (o : Option Col). filled_column o x) (c.get-other.ensures ∙ ap (column_by c.args.others.now) c.name.ensures) in
    record {
      filled =
          c.in_ok-push.ensures.items ∙ (λ t. c.loop-column.invariant.filled t ++ made t ∷ [])
          ∙ sym (map_push (λ (k : Col). filled_column (column_by c.args.others.now k.name) k) c.loop-column.yielded x);
      left = All-tail P c.in-Some.column _ (subst (All P) c.in-Some.ensures.steps.0 c.loop-column.invariant.left);
    }
