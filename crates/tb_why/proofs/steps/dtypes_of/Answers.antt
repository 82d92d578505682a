use Rattle.std.proofs.Common.{◌≡◌, ◌∙◌, ◌+◌, ◌<◌, ℕ, List, [], ◌∷◌, ◌++◌, Option, length, map, take, get_or, sym, ap, arith}
use Rattle.std.proofs.lemmas.List.{map_push, take_all, take_more}
use Rattle.serde_json.specs.Data.{Data}
use Rattle.tb_tree.specs.View.{item_view, listed}
use Rattle.tb_value.specs.Promise.Kind.{Kind}
use Rattle.tb_why.specs.Columns.{kind_at}
use Rattle.tb_why.specs.Lent.{kind_in}
use Rattle.tb_why.proofs.steps.dtypes_of.Goals as goal

-- the types of the first columns and that of the next one
kinds_more : (ds : List Data) (i : ℕ) (d : Data) (ks : List (Option Kind)) → i < length ds → d ≡ get_or ds i d → ks ≡ map kind_at (take i ds) → ks ++ kind_at d ∷ [] ≡ map kind_at (take (i + 1) ds)
kinds_more ds i d ks low is so_far =
    (λ j. so_far j ++ kind_at (is j) ∷ [])
    ∙ sym (map_push kind_at (take i ds) (get_or ds i d))
    ∙ ap (map kind_at) (sym (take_more ds i d low))

pub loop-i-init : goal.loop-i-init
loop-i-init c = ap (map kind_in) c.in_ok-dtypes.ensures.items

pub loop-i-preserved : goal.loop-i-preserved
loop-i-preserved c =
    ap (map kind_in) c.in_ok-push.ensures.items
    ∙ map_push kind_in c.loop-i.dtypes.items c.in_ok-dtype.dtype
    ∙ ap (λ k. map kind_in c.loop-i.dtypes.items ++ k ∷ []) c.in_ok-dtype.ensures
    ∙ kinds_more (listed c.args.columns) c.loop-i.i (item_view c.at.result) _ (omega arith) c.at.ensures c.loop-i.invariant

pub returns : goal.returns
returns c = c.loop-i.invariant ∙ ap (map kind_at) (take_all c.loop-i.i (listed c.args.columns) (omega arith))
