use Rattle.std.proofs.Common.{arith, ◌≡◌, ◌∙◌, ◌+◌, ◌++◌, ◌∷◌, [], ℕ, List, Option, ap, map, take, sym}
use Rattle.std.proofs.lemmas.List.{map_more, take_all}
use Rattle.std.proofs.lemmas.Result.{IfOk-weaker}
use Rattle.tb_value.specs.See.{datum}
use Rattle.tb_value.specs.declared.any_value.AnyValue.{AnyValue}
use Rattle.tb_view.specs.Promise.Layout.{buffers_of, text_view_array}
use Rattle.tb_view.specs.Layout.{Building, building_of, with_row}
use Rattle.tb_value.specs.Promise.Texts.{text_of}
use Rattle.tb_view.specs.View.{texts}
use Rattle.tb_view.specs.declared.view_chunk.ViewChunk.{ViewChunk}
use Rattle.tb_view.proofs.Filled.{built-push}
use Rattle.tb_view.proofs.view_chunk.ViewChunk.from_values.Goals as goal

pub loop-value-preserved : goal.loop-value-preserved
loop-value-preserved c =
    let n = c.loop-value.value-index in
    let values = c.args.values.now in
    let v = c.value-item.result in
    let before : List (Option (List ℕ)) = map (λ x. text_of (datum x)) (take n values) in
    let next : map (λ x. text_of (datum x)) (take (n + 1) values) ≡ before ++ text_of (datum v) ∷ [] = map_more (λ x. text_of (datum x)) values n v (omega arith) ∙ ap (λ x. before ++ text_of (datum x) ∷ []) (sym c.value-item.is) in
    c.in_ok-push_value.ensures ∙ ap (λ b. with_row b (text_of (datum v))) c.loop-value.invariant ∙ built-push before (text_of (datum v)) ∙ ap building_of (sym next)

-- what the builder holds in the end
whole : (vs : List AnyValue) (n : ℕ) (b : Building) → take n vs ≡ vs → b ≡ building_of (map (λ v. text_of (datum v)) (take n vs)) → b ≡ building_of (map (λ v. text_of (datum v)) vs)
whole vs n b all e = e ∙ ap (λ l. building_of (map (λ v. text_of (datum v)) l)) all

pub returns-clause-texts : goal.returns-clause-texts
returns-clause-texts c =
    let vs = c.args.values.now in
    let b = c.loop-value.builder in
    let w = whole vs c.loop-value.value-index b (take_all c.loop-value.value-index vs (omega arith)) c.loop-value.invariant in
    IfOk-weaker c.finish.result (λ (k : ViewChunk). texts k.buffers.items k.views.items ≡ b.rows) (λ (k : ViewChunk). texts k.buffers.items k.views.items ≡ map (λ v. text_of (datum v)) vs) (λ k h. h ∙ ap (λ x. x.rows) w) c.finish.ensures.texts

pub returns-clause-views : goal.returns-clause-views
returns-clause-views c =
    let vs = c.args.values.now in
    let b = c.loop-value.builder in
    let w = whole vs c.loop-value.value-index b (take_all c.loop-value.value-index vs (omega arith)) c.loop-value.invariant in
    IfOk-weaker c.finish.result (λ (k : ViewChunk). k.views.items ≡ b.views) (λ (k : ViewChunk). k.views.items ≡ (text_view_array (map (λ v. text_of (datum v)) vs)).views) (λ k h. h ∙ ap (λ x. x.views) w) c.finish.ensures.views

pub returns-clause-buffers : goal.returns-clause-buffers
returns-clause-buffers c =
    let vs = c.args.values.now in
    let b = c.loop-value.builder in
    let w = whole vs c.loop-value.value-index b (take_all c.loop-value.value-index vs (omega arith)) c.loop-value.invariant in
    IfOk-weaker c.finish.result (λ (k : ViewChunk). k.buffers.items ≡ buffers_of b.laid) (λ (k : ViewChunk). k.buffers.items ≡ (text_view_array (map (λ v. text_of (datum v)) vs)).buffers) (λ k h. h ∙ ap (λ x. buffers_of x.laid) w) c.finish.ensures.buffers
