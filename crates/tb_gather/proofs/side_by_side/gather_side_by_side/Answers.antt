use Rattle.std.proofs.Common.{◌≡◌, ◌∙◌, Bor, sym, ap, map, subst}
use denote.Param.Send.{sendable}
use Rattle.std.proofs.Crossing.{crosses}
use Rattle.std.specs.Result.{IfOk}
use Rattle.tb_value.proofs.Loops.{map-map}
use Rattle.tb_chunk.specs.Promise.Col.{Col}
use Rattle.tb_store.proofs.Crossing.{Column-send, Column-sync}
use Rattle.tb_gather.specs.Gathered.{NameRows, gathered_flag, named_rows}
use Rattle.tb_gather.proofs.Chained.{chained}
use Rattle.tb_gather.proofs.Picked.{All-unmap}
use Rattle.tb_gather.proofs.side_by_side.gather_side_by_side.Goals as goal

pub with_min_len-requires-send-Self : goal.with_min_len-requires-send-Self
with_min_len-requires-send-Self g c κs within = search (Column-sync, crosses, sendable) depth 60 fits 20000

pub with_min_len-requires-send-Self-Item : goal.with_min_len-requires-send-Self-Item
with_min_len-requires-send-Self-Item g c κs within = search (Column-sync, crosses, sendable) depth 60 fits 20000

pub map-requires-send-Self : goal.map-requires-send-Self
map-requires-send-Self g c κs within = search (Column-sync, crosses, sendable) depth 60 fits 20000

pub map-requires-send-Self-Item : goal.map-requires-send-Self-Item
map-requires-send-Self-Item g c κs within = search (Column-sync, crosses, sendable) depth 60 fits 20000

pub map-requires-send-U : goal.map-requires-send-U
map-requires-send-U g c κs within = search (Column-send, crosses, sendable) depth 60 fits 20000

pub collect-requires-send-Self : goal.collect-requires-send-Self
collect-requires-send-Self g c κs within = search (Column-sync, crosses, sendable) depth 60 fits 20000

pub collect-requires-send-Self-Item : goal.collect-requires-send-Self-Item
collect-requires-send-Self-Item g c κs within = search (Column-send, crosses, sendable) depth 60 fits 20000

pub collect-requires-send-C : goal.collect-requires-send-C
collect-requires-send-C g c κs within = search (Column-send, crosses, sendable) depth 60 fits 20000

pub collect-requires-clause-ready : goal.collect-requires-clause-ready
collect-requires-clause-ready g c κs within = rw (c.map.ensures.base, c.map.ensures.f, c.with_min_len.ensures.base, c.par_iter.ensures) λ k d low x is.
    let each = All-unmap (NameRows c.args.by.now) (λ (b : Bor Col). b.now) c.args.columns.now c.requires.named in
    let named : NameRows c.args.by.now x.now.now = subst (λ (b : Bor Col). NameRows c.args.by.now b.now) (sym is) (each k d low) in
    ((search, (named, (c.requires.in_order, c.requires.few))), λ y h. tt)

pub returns : goal.returns
returns g c =
    let by : c.map.result.f.1.now ≡ c.args.by.now = ap (λ f. f.1.now) c.map.ensures.f in
    let sorted : c.map.result.f.2.now ≡ c.args.sorted = ap (λ f. f.2.now) c.map.ensures.f in
    let keep : c.map.result.f.3.now ≡ c.args.keep = ap (λ f. f.3.now) c.map.ensures.f in
    let whole : c.map.result.base.base.slice.now ≡ c.args.columns.now = ap (λ it. it.base.slice.now) c.map.ensures.base ∙ (ap (λ it. it.slice.now) c.with_min_len.ensures.base ∙ c.par_iter.ensures) in
    let h = c.in_ok-collect.ensures in
    subst (λ m. IfOk c.in_ok-collect.field-0 (λ v. v.items ≡ m)) ((λ i. map (λ (b : Bor Col). named_rows (keep i) (by i) (gathered_flag b.now.flag (sorted i)) b.now) (whole i)) ∙ sym (map-map (λ (k : Col). named_rows c.args.keep c.args.by.now (gathered_flag k.flag c.args.sorted) k) (λ (b : Bor Col). b.now) c.args.columns.now))
    (chained (λ (b : Bor Col). named_rows c.map.result.f.3.now c.map.result.f.1.now (gathered_flag b.now.flag c.map.result.f.2.now) b.now) (λ v. v.items) c.map.result.base.base.slice.now h.1.0 h.0 c.in_ok-collect.field-0 h.1.1 h.1.2 h.2)
