use Rattle.std.proofs.Common.{arith, ◌≡◌, ◌∙◌, ◌≤◌, ℕ, List, length, ap, take}
use Rattle.std.proofs.lemmas.List.{take_all}
use Rattle.std.proofs.lemmas.Result.{IfOk-weaker}
use Rattle.tb_value.specs.See.{datum}
use Rattle.tb_value.specs.declared.any_value.AnyValue.{AnyValue}
use Rattle.tb_view.specs.Promise.Layout.{buffers_of}
use Rattle.tb_view.specs.Layout.{Building}
use Rattle.tb_view.specs.RunViews.{data_runs, run_building, text_runs, with_run}
use Rattle.tb_value.specs.Promise.Texts.{text_of}
use Rattle.tb_view.specs.View.{texts}
use Rattle.tb_view.specs.declared.view_chunk.ViewChunk.{ViewChunk}
use Rattle.tb_view.proofs.RunViews.{building_more}
use Rattle.tb_view.proofs.view_chunk.ViewChunk.from_runs.Goals as goal

pub loop-value-preserved : goal.loop-value-preserved
loop-value-preserved c =
    let n = c.loop-value.value-index in
    let r = c.loop-value-item.result in
    c.in_ok-push_run.ensures ∙ ap (λ b. with_run b (text_of (datum r.0), r.1)) c.loop-value.invariant ∙ building_more c.args.runs.now n r (omega arith) c.loop-value-item.is

-- what the builder holds in the end
whole : (rs : List (AnyValue × ℕ)) (n : ℕ) (b : Building) → length rs ≤ n → b ≡ run_building (text_runs (data_runs (take n rs))) → b ≡ run_building (text_runs (data_runs rs))
whole rs n b all e = e ∙ ap (λ l. run_building (text_runs (data_runs l))) (take_all n rs all)

pub returns-clause-texts : goal.returns-clause-texts
returns-clause-texts c =
    let rs = c.args.runs.now in
    let b = c.loop-value.builder in
    let w = whole rs c.loop-value.value-index b (omega arith) c.loop-value.invariant in
    IfOk-weaker c.finish.result (λ (k : ViewChunk). texts k.buffers.items k.views.items ≡ b.rows) (λ (k : ViewChunk). texts k.buffers.items k.views.items ≡ (run_building (text_runs (data_runs rs))).rows) (λ k h. h ∙ ap (λ x. x.rows) w) c.finish.ensures.texts

pub returns-clause-views : goal.returns-clause-views
returns-clause-views c =
    let rs = c.args.runs.now in
    let b = c.loop-value.builder in
    let w = whole rs c.loop-value.value-index b (omega arith) c.loop-value.invariant in
    IfOk-weaker c.finish.result (λ (k : ViewChunk). k.views.items ≡ b.views) (λ (k : ViewChunk). k.views.items ≡ (run_building (text_runs (data_runs rs))).views) (λ k h. h ∙ ap (λ x. x.views) w) c.finish.ensures.views

pub returns-clause-buffers : goal.returns-clause-buffers
returns-clause-buffers c =
    let rs = c.args.runs.now in
    let b = c.loop-value.builder in
    let w = whole rs c.loop-value.value-index b (omega arith) c.loop-value.invariant in
    IfOk-weaker c.finish.result (λ (k : ViewChunk). k.buffers.items ≡ buffers_of b.laid) (λ (k : ViewChunk). k.buffers.items ≡ buffers_of (run_building (text_runs (data_runs rs))).laid) (λ k h. h ∙ ap (λ x. buffers_of x.laid) w) c.finish.ensures.buffers
