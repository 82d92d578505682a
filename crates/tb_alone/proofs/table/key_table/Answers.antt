use Rattle.std.proofs.Common.{◌≡◌, ◌∙◌, ℕ, List, ap, sym, subst, arith, length, map}
use Rattle.std.proofs.lemmas.List.{length-map, with_items_is}
use Rattle.tb_build.specs.Packed.{Ascend, KeepsItems, keys_of}
use Rattle.tb_alone.proofs.InOrder.{is-key_table, sorted-ascend}
use Rattle.tb_alone.proofs.table.key_table.Goals as goal

pub invariant_of-result : goal.invariant_of-result
invariant_of-result g c =
    let new = c.sort_items.new.items in
    let long : length new ≡ c.in_ok-items.items.len = omega (arith, ap length c.as_mut_slice.ensures.value, c.sort_items.auto.items, c.in_ok-items.items.ok.0) in
    let after : c.as_slice.result.now ≡ new = c.as_slice.ensures.value ∙ with_items_is c.in_ok-items.items new long in
    let keys : c.in_ok-keys.keys.items ≡ keys_of new = c.in_ok-keys.ensures.keys ∙ ap keys_of after in
    let rows : c.in_ok-keys.rows.items ≡ map (λ (e : g.row.K.Denot × ℕ). e.1) new = c.in_ok-keys.ensures.rows ∙ ap (map (λ (e : g.row.K.Denot × ℕ). e.1)) after in
    record {
      ascend = subst (λ (ks : List g.row.K.Denot). Ascend g.K.Ord.cmp ks 0 (length ks)) (sym keys) (sorted-ascend g.K.Ord.cmp new c.in_ok-sort_items.ensures.sorted);
      long = ap length rows ∙ length-map new (λ (e : g.row.K.Denot × ℕ). e.1) ∙ sym (ap length keys ∙ length-map new (λ (e : g.row.K.Denot × ℕ). e.0));
    }

pub returns : goal.returns
returns g c =
    let eq = g.K.PartialEq.eq in
    let list = g.L.KeyList.list c.args.list.now in
    let new = c.sort_items.new.items in
    let long : length new ≡ c.in_ok-items.items.len = omega (arith, ap length c.as_mut_slice.ensures.value, c.sort_items.auto.items, c.in_ok-items.items.ok.0) in
    let after : c.as_slice.result.now ≡ new = c.as_slice.ensures.value ∙ with_items_is c.in_ok-items.items new long in
    is-key_table eq g.met.K.Eq.laws list c.in_ok-items.items.items new c.in_ok-keys.keys.items c.in_ok-keys.rows.items c.in_ok-items.ensures
    (subst (λ (old : List (g.row.K.Denot × ℕ)). KeepsItems eq old new) c.as_mut_slice.ensures.value c.in_ok-sort_items.ensures.kept)
    (c.in_ok-keys.ensures.keys ∙ ap keys_of after) (c.in_ok-keys.ensures.rows ∙ ap (map (λ (e : g.row.K.Denot × ℕ). e.1)) after)
