use Rattle.std.proofs.Common.{◌≡◌, ◌∙◌, Bor, length, sym, ap, map, subst}
use denote.Param.Send.{sendable}
use Rattle.std.proofs.Crossing.{crosses}
use Rattle.std.specs.List.{All}
use Rattle.std.specs.Result.{IfOk}
use Rattle.tb_value.proofs.Loops.{map-map}
use Rattle.tb_chunk.specs.Promise.Col.{Col, values}
use Rattle.tb_chunk.specs.Rows.{IsRowOf}
use Rattle.tb_store.proofs.Crossing.{Column-send, Column-sync}
use Rattle.tb_gather.specs.Gathered.{gathered_rows}
use Rattle.tb_gather.proofs.Chained.{chained}
use Rattle.tb_gather.proofs.Picked.{All-unmap}
use Rattle.tb_gather.proofs.side_by_side.pick_side_by_side.Goals as goal

pub with_min_len-requires-send-Self : goal.with_min_len-requires-send-Self
with_min_len-requires-send-Self g c κs within = search (Column-sync, crosses, sendable) depth 60 fits 20000

pub with_min_len-requires-send-Self-Item : goal.with_min_len-requires-send-Self-Item
with_min_len-requires-send-Self-Item g c κs within = search (Column-sync, crosses, sendable) depth 60 fits 20000

pub map-requires-send-Self : goal.map-requires-send-Self
map-requires-send-Self g c κs within = search (Column-sync, crosses, sendable) depth 60 fits 20000

pub map-requires-send-Self-Item : goal.map-requires-send-Self-Item
map-requires-send-Self-Item g c κs within = search (Column-sync, crosses, sendable) depth 60 fits 20000

pub map-requires-send-U : goal.map-requires-send-U
map-requires-send-U g c κs within = search (Column-send, crosses, sendable) depth 60 fits 20000

pub collect-requires-send-Self : goal.collect-requires-send-Self
collect-requires-send-Self g c κs within = search (Column-sync, crosses, sendable) depth 60 fits 20000

pub collect-requires-send-Self-Item : goal.collect-requires-send-Self-Item
collect-requires-send-Self-Item g c κs within = search (Column-send, crosses, sendable) depth 60 fits 20000

pub collect-requires-send-C : goal.collect-requires-send-C
collect-requires-send-C g c κs within = search (Column-send, crosses, sendable) depth 60 fits 20000

pub collect-requires-clause-ready : goal.collect-requires-clause-ready
collect-requires-clause-ready g c κs within = rw (c.map.ensures.base, c.map.ensures.f, c.with_min_len.ensures.base, c.par_iter.ensures) λ k d low x is.
    let rows = map g.S.RowOf.number c.args.pairs.now in
    let each = All-unmap (λ (col : Col). All (IsRowOf (length (values col))) rows) (λ (b : Bor Col). b.now) c.args.columns.now c.requires.rows in
    let within : All (IsRowOf (length (values x.now.now))) rows = subst (λ (b : Bor Col). All (IsRowOf (length (values b.now))) rows) (sym is) (each k d low) in
    ((within, (c.requires.in_order, (c.requires.few, (search (crosses, sendable) depth 60 fits 20000, search (crosses, sendable) depth 60 fits 20000)))), λ y h. tt)

pub returns : goal.returns
returns g c =
    let number = g.S.RowOf.number in
    let pairs : c.map.result.f.1.now ≡ c.args.pairs.now = ap (λ f. f.1.now) c.map.ensures.f in
    let sorted : c.map.result.f.2.now ≡ c.args.sorted = ap (λ f. f.2.now) c.map.ensures.f in
    let whole : c.map.result.base.base.slice.now ≡ c.args.columns.now = ap (λ it. it.base.slice.now) c.map.ensures.base ∙ (ap (λ it. it.slice.now) c.with_min_len.ensures.base ∙ c.par_iter.ensures) in
    let h = c.in_ok-collect.ensures in
    subst (λ m. IfOk c.in_ok-collect.field-0 (λ v. v.items ≡ m)) ((λ i. map (λ (b : Bor Col). gathered_rows (map number (pairs i)) (sorted i) b.now) (whole i)) ∙ sym (map-map (gathered_rows (map number c.args.pairs.now) c.args.sorted) (λ (b : Bor Col). b.now) c.args.columns.now))
    (chained (λ (b : Bor Col). gathered_rows (map number c.map.result.f.1.now) c.map.result.f.2.now b.now) (λ v. v.items) c.map.result.base.base.slice.now h.1.0 h.0 c.in_ok-collect.field-0 h.1.1 h.1.2 h.2)
