-- Rows that are put in order by the keys beside them.
use Rattle.std.proofs.Common.{◌≡◌, ◌∙◌, ℕ, cond, List, [], ◌∷◌, map, refl, ap, sym}
use Rattle.std.specs.Cmp.{IsTotalOrder}
use Rattle.std.specs.Cmp.Lexicographic.{slice_cmp}
use Rattle.std.specs.List.{All}
use Rattle.std.specs.Ordering.{is_lt, ordering_then}
use Rattle.std.specs.declared.cmp.Ordering.{Ordering}
use Rattle.std.specs.declared.cmp.Ordering.TheVariants.{Less, Equal, Greater}
use Rattle.std.proofs.lemmas.Cmp.{on_total, then_total}
use Rattle.std.proofs.lemmas.List.Elements.{All-head, All-tail}
use Rattle.tb_rows.specs.Order.{value_cmp}
use Rattle.tb_rows.specs.Promise.InOrder.{in_order, put}
use Rattle.tb_rows.specs.Promise.Rows.{row_value}
use Rattle.tb_rows.proofs.InOrder.{in_order-all, in_order-map}
use Rattle.tb_rows.proofs.Orders.{value_total}
use Rattle.tb_frame.specs.Promise.Table.{Table, row_at}
use Rattle.tb_group_front.specs.Keyed.{key_value, keyed_cmp, AreKeyed, IsBeside}
use Rattle.tb_group_front.specs.Promise.Sorted.{row_cmp, rows_by}
use Rattle.tb_group_front.specs.declared.keyed.KeyedRow.{KeyedRow}
use Rattle.tb_group_front.proofs.Sorts.{row_cmp_total}

pub keyed_total : (cs : Table) → IsTotalOrder (keyed_cmp cs)
keyed_total cs = then_total (on_total (λ (k : KeyedRow). key_value k.key) value_total) (on_total (λ (k : KeyedRow). k.row) (row_cmp_total cs))

-- two orders of the same answers on what is put in order
module _ {X : Type 0} (r s : X → X → Ordering) (total : IsTotalOrder s) (P : X → Type 0) (same : (x y : X) → P x → P y → r x y ≡ s x y) where
  put_same : (x : X) (ys : List X) → P x → All P ys → put r x ys ≡ put s x ys
  put_same x [] px all = refl
  put_same x (y ∷ ys) px all =
      (λ t. cond (is_lt (same y x (All-head P y ys all) px t)) (y ∷ put_same x ys px (All-tail P y ys all) t) (x ∷ y ∷ ys))

  pub in_order_same : (xs : List X) → All P xs → in_order r xs ≡ in_order s xs
  in_order_same [] all = refl
  in_order_same (x ∷ xs) all =
      let rest = All-tail P x xs all in
      ap (put r x) (in_order_same xs rest) ∙ put_same x (in_order s xs) (All-head P x xs all) (in_order-all s total P xs rest)

then_twice : (o p : Ordering) → ordering_then o (ordering_then o p) ≡ ordering_then o p
then_twice Less p = refl
then_twice Equal p = refl
then_twice Greater p = refl

-- keys that are the values of the first column decide as these do
pub keys_decide : (n : ℕ) (cs : Table) (ks : List KeyedRow) → AreKeyed n cs ks → map (λ (k : KeyedRow). k.row) (in_order (keyed_cmp cs) ks) ≡ rows_by cs n
keys_decide n [] ks h = absurd h
keys_decide n (c ∷ cs) ks h =
    let by_rows : KeyedRow → KeyedRow → Ordering = λ x y. row_cmp (c ∷ cs) x.row y.row in
    let same : (x y : KeyedRow) → IsBeside c.values x → IsBeside c.values y → keyed_cmp (c ∷ cs) x y ≡ by_rows x y
    = λ x y bx by. (λ t. ordering_then (value_cmp (sym bx t) (sym by t)) (row_cmp (c ∷ cs) x.row y.row)) ∙ then_twice (value_cmp (row_value c.values x.row) (row_value c.values y.row)) (slice_cmp value_cmp (row_at cs x.row) (row_at cs y.row)) in
    ap (map (λ (k : KeyedRow). k.row)) (in_order_same (keyed_cmp (c ∷ cs)) by_rows (on_total (λ (k : KeyedRow). k.row) (row_cmp_total (c ∷ cs))) (IsBeside c.values) same ks h.beside)
    ∙ in_order-map (λ (k : KeyedRow). k.row) (row_cmp (c ∷ cs)) ks
    ∙ ap (in_order (row_cmp (c ∷ cs))) h.rows
