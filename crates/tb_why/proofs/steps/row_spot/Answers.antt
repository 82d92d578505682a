use Rattle.std.proofs.Common.{◌≡◌, ◌∙◌, ◌<◌, ℕ, List, Option, Some, None, length, map, get_or, option_map, sym, ap, subst, arith}
use Rattle.std.specs.List.{zip}
use Rattle.std.proofs.lemmas.List.{at_drop_all, get_or-map, length-map}
use Rattle.std.proofs.lemmas.Slice.Zip.{get_or-zip, length-zip}
use Rattle.serde_json.specs.Data.{Data}
use Rattle.tb_tree.specs.View.{item_view, listed}
use Rattle.tb_value.specs.declared.dtype.DataType.{DataType}
use Rattle.tb_why.specs.Lent.{kind_in}
use Rattle.tb_why.specs.Spots.{first_at, spot_view, Finds}
use Rattle.tb_why.specs.Steps.{typed_cell_spot}
use Rattle.tb_why.proofs.Walks.{Walk-next, Walk-found}
use Rattle.tb_why.proofs.steps.row_spot.Goals as goal

-- a value beside the type of its column
pair_at : (ts : List (Option DataType)) (ds : List Data) (i : ℕ) (t : Option DataType) (d : Data) → i < length ts → i < length ds → t ≡ get_or ts i t → d ≡ get_or ds i d → (kind_in t, d) ≡ get_or (zip (map kind_in ts) ds) i (kind_in t, d)
pair_at ts ds i t d low small is too =
    sym (get_or-zip (map kind_in ts) ds i (kind_in t, d) (rw length-map low) small
    ∙ (λ j. ((get_or-map kind_in ts i t (kind_in t) low ∙ ap kind_in (sym is)) j, sym too j)))

pub returns-in-Some : goal.returns-in-Some
returns-in-Some c =
    let types = c.args.dtypes.now in
    let values = listed c.items-values.result in
    let pair = pair_at types values c.loop-i.i _ _ (omega arith) (omega arith) c.index-dtypes-i.is c.at-value.ensures in
    let within : c.loop-i.i < length (zip (map kind_in types) values) = rw (length-zip, length-map) (omega arith) in
    let found = sym c.in_ok-spot.ensures ∙ ap (option_map spot_view) c.in-Some.is in
    let first = Walk-found typed_cell_spot (zip (map kind_in types) values) c.loop-i.i _ (spot_view c.in-Some.spot) within pair found c.loop-i.invariant in
    subst (Finds c.under_index.result) (first ∙ ap (λ ds. first_at typed_cell_spot 0 (zip (map kind_in types) ds)) c.items-values.ensures) c.under_index.ensures

pub loop-i-preserved : goal.loop-i-preserved
loop-i-preserved c =
    let types = c.args.dtypes.now in
    let values = listed c.items-values.result in
    let pair = pair_at types values c.loop-i.i _ _ (omega arith) (omega arith) c.index-dtypes-i.is c.at-value.ensures in
    let within : c.loop-i.i < length (zip (map kind_in types) values) = rw (length-zip, length-map) (omega arith) in
    let none = sym c.in_ok-spot.ensures ∙ ap (option_map spot_view) c.in_default.is in
    Walk-next typed_cell_spot (zip (map kind_in types) values) c.loop-i.i _ within pair none c.loop-i.invariant

pub returns : goal.returns
returns c =
    let types = c.args.dtypes.now in
    let values = listed c.items-values.result in
    sym (c.loop-i.invariant ∙ at_drop_all (first_at typed_cell_spot c.loop-i.i) (zip (map kind_in types) values) c.loop-i.i (rw (length-zip, length-map) (omega arith)))
    ∙ ap (λ ds. first_at typed_cell_spot 0 (zip (map kind_in types) ds)) c.items-values.ensures
