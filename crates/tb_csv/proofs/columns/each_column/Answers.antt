use Rattle.std.proofs.Common.{◌≡◌, ◌<◌, ◌-◌, ◌∙◌, length, ap, arith, sym, subst}
use denote.Param.Send.{sendable}
use Rattle.std.proofs.Crossing.{crosses}
use Rattle.std.specs.List.{AllZip, range_with_len}
use Rattle.rayon.specs.Numbers.{nat_range}
use Rattle.rayon.proofs.ListFacts.{AllZip-weaken}
use Rattle.rayon.proofs.ToStd.{nat_range-All}
use Rattle.tb_store.proofs.Crossing.{Column-send}
use Rattle.tb_value.specs.Promise.Pairs.{row_numbers}
use Rattle.tb_csv.specs.declared.records.Records.{Records}
use Rattle.tb_csv.specs.Read.{AreRows, IsReadColumn}
use Rattle.tb_csv.proofs.columns.each_column.Goals as goal

pub map-requires-send-U : goal.map-requires-send-U
map-requires-send-U g c κs within = search (Column-send, crosses, sendable) depth 60 fits 20000

pub collect-requires-send-Self-Item : goal.collect-requires-send-Self-Item
collect-requires-send-Self-Item g c κs within = search (Column-send, crosses, sendable) depth 60 fits 20000

pub collect-requires-send-C : goal.collect-requires-send-C
collect-requires-send-C g c κs within = search (Column-send, crosses, sendable) depth 60 fits 20000

pub collect-requires-clause-ready : goal.collect-requires-clause-ready
collect-requires-clause-ready g c κs within =
    let ends = c.into_par_iter.ensures in
    let names = c.args.records.now.names.items in
    let inside = nat_range-All (λ i. i < length names) 0 c.len-width.result (λ i low high. omega (arith, high, c.len-width.ensures)) in
    rw (c.map.ensures.base, c.map.ensures.f, c.with_min_len.ensures.base, ends.0, ends.1) (λ k d lt. ((inside k d lt, c.requires.level), λ y h. tt))

pub returns : goal.returns
returns g c rows are =
    let ends = c.into_par_iter.ensures in
    let names = c.args.records.now.names.items in
    let h = c.in_ok-columns.ensures in
    let records = ap (λ f. f.1.now) c.map.ensures.f in
    let types = ap (λ f. f.2.now) c.map.ensures.f in
    let whole = ap (λ it. it.base) c.map.ensures.base ∙ c.with_min_len.ensures.base in
    let first = ap (λ r. r.start) whole ∙ ends.0 in
    let wide : c.len-width.result ≡ length names = omega (arith, c.len-width.ensures, c.args.records.now.names.ok.0) in
    let last = ap (λ r. r.end) whole ∙ (ends.1 ∙ wide) in
    let many : length names - 0 ≡ length names = omega arith in
    let places = h.1.1 ∙ (λ i. nat_range (first i) (last i)) ∙ ap (range_with_len 0) many in
    let each = AllZip-weaken _ (IsReadColumn c.args.types.now names rows) (λ x u p.
    subst (λ ts. IsReadColumn ts names rows x u) types
    (subst (λ (r : Records). IsReadColumn c.map.result.f.2.now r.names.items rows x u) records
    (p rows (subst (λ (r : Records). AreRows r rows) (sym records) are)))) h.1.0 h.0 h.1.2 in
    subst (λ us. AllZip (IsReadColumn c.args.types.now names rows) (row_numbers (length names)) us) (sym h.2)
    (subst (λ ps. AllZip (IsReadColumn c.args.types.now names rows) ps h.0) places each)
