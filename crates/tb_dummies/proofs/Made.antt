-- Columns of marks, and the height of all that stand in the place of columns.
use Rattle.std.proofs.Common.{◌≡◌, ◌∙◌, ◌==◌, ℕ, pos, rules, Bool, true, false, cond, List, [], ◌∷◌, length, map, Some, refl, ap}
use Rattle.std.specs.List.{All, flat_map}
use Rattle.std.specs.Cmp.{IsTotalOrder}
use Rattle.std.specs.Cmp.Lexicographic.{on_texts}
use Rattle.std.proofs.lemmas.List.{length-map}
use Rattle.std.proofs.lemmas.List.Elements.{All-nil, All-cons, All-head, All-tail, All-append}
use Rattle.tb_value.specs.Promise.Datum.{int}
use Rattle.tb_value.specs.Promise.Kind as kind
use Rattle.tb_value.specs.Promise.Names.{Name}
use Rattle.tb_value.specs.Promise.Typed.{HasType}
use Rattle.tb_chunk.specs.Chunk.{or_null}
use Rattle.tb_frame.specs.Promise.Table.{Table, TableColumn, by_name}
use Rattle.tb_rows.specs.Promise.Rows.{row_value}
use Rattle.tb_rows.proofs.InOrder.{in_order-all}
use Rattle.tb_dummies.specs.Promise.Dummies.{dummies_of, dummy, in_place_of, mark, value_rows}
use Rattle.tb_dummies.specs.Lent.{mark_in}

-- MARKS AS A COLUMN

map-map : {X Y Z : Type 0} (f : X → Y) (g : Y → Z) (xs : List X) → map g (map f xs) ≡ map (λ x. g (f x)) xs
map-map f g [] = refl
map-map f g (x ∷ xs) = ap (λ l. g (f x) ∷ l) (map-map f g xs)

pub marks_shown : (p : ℕ) (numbers marks : List ℕ) → marks ≡ map (λ n. cond {A = ℕ} (n == p) 1 0) numbers
    → map (or_null (λ n. int (pos n))) (map Some marks) ≡ map (mark_in p) numbers
marks_shown p numbers marks e =
    map-map Some (or_null (λ n. int (pos n))) marks
    ∙ ap (map (λ n. int (pos n))) e ∙ map-map (λ n. cond {A = ℕ} (n == p) 1 0) (λ n. int (pos n)) numbers

mark_typed : (p n : ℕ) → HasType kind.uint8 (mark_in p n)
mark_typed p n = by (n == p)
  where
    by : (b : Bool) → HasType kind.uint8 (int (pos (cond b 1 0)))
    by true = search rules
    by false = search rules

pub marks_typed : (p : ℕ) (numbers : List ℕ) → All (HasType kind.uint8) (map (mark_in p) numbers)
marks_typed p [] = All-nil (HasType kind.uint8)
marks_typed p (n ∷ ns) = All-cons (HasType kind.uint8) (mark_in p n) (map (mark_in p) ns) (mark_typed p n) (marks_typed p ns)

-- THE HEIGHT OF THE COLUMNS IN PLACE

pub by_name_total : IsTotalOrder by_name
by_name_total = on_texts (λ (c : TableColumn). c.name)

module _ (h : ℕ) (separator : Name) (drop_first : Bool) where
  dummies_high : (c : TableColumn) → length c.values ≡ h → (rows : List ℕ) → All (λ (d : TableColumn). length d.values ≡ h) (map (λ i. dummy separator c (row_value c.values i)) rows)
  dummies_high c e [] = All-nil (λ (d : TableColumn). length d.values ≡ h)
  dummies_high c e (i ∷ is) =
      All-cons (λ (d : TableColumn). length d.values ≡ h) (dummy separator c (row_value c.values i)) (map (λ i. dummy separator c (row_value c.values i)) is) (length-map c.values (mark (row_value c.values i)) ∙ e) (dummies_high c e is)

  place_high : (replaced : Name → Bool) (c : TableColumn) → length c.values ≡ h → All (λ (d : TableColumn). length d.values ≡ h) (in_place_of replaced separator drop_first c)
  place_high replaced c e = by (replaced c.name)
    where
      by : (b : Bool) → All (λ (d : TableColumn). length d.values ≡ h) (cond b (dummies_of separator drop_first c) (c ∷ []))
      by true = in_order-all by_name by_name_total (λ (d : TableColumn). length d.values ≡ h) (map (λ i. dummy separator c (row_value c.values i)) (value_rows drop_first c.values)) (dummies_high c e (value_rows drop_first c.values))
      by false = All-cons (λ (d : TableColumn). length d.values ≡ h) c [] e (All-nil (λ (d : TableColumn). length d.values ≡ h))

  pub places_high : (replaced : Name → Bool) (t : Table) → All (λ (c : TableColumn). length c.values ≡ h) t → All (λ (d : TableColumn). length d.values ≡ h) (flat_map (in_place_of replaced separator drop_first) t)
  places_high replaced [] level = All-nil (λ (d : TableColumn). length d.values ≡ h)
  places_high replaced (c ∷ cs) level =
      let P : TableColumn → Type 0 = λ d. length d.values ≡ h in
      All-append P (in_place_of replaced separator drop_first c) (flat_map (in_place_of replaced separator drop_first) cs) (place_high replaced c (All-head P c cs level)) (places_high replaced cs (All-tail P c cs level))
