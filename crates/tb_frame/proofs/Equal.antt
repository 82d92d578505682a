-- Columns and tables that are equal.
use Rattle.std.proofs.Common.{◌≡◌, ◌↔◌, ℕ, suc, ◌<◌, Bool, true, false, List, [], ◌∷◌, length, get_or, refl, ap, sym, ◌∙◌, arith, IsTrue}
use Rattle.std.proofs.lemmas.List.{get_or-map}
use Rattle.std.proofs.lemmas.Slice.Eq.{bytes_eq-Decides}
use Rattle.tb_value.specs.Promise.Datum.{Datum}
use Rattle.tb_value.specs.Promise.Names.{same_name}
use Rattle.tb_value.specs.Promise.Same.{same}
use Rattle.tb_value.specs.Proved.ValueTests.{same-Decides}
use Rattle.tb_value.specs.Promise.SameKind.{same_kind}
use Rattle.tb_value.specs.Proved.TypeTests.{same_kind-Decides}
use Rattle.tb_chunk.specs.Promise.Col.{Col, values}
use Rattle.tb_frame.specs.Promise.Table.{TableColumn, plain_column, table_of}

-- what the test of two values says
pub equal-same : (x y : Datum) → true ≡ same x y → x ≡ y
equal-same x y h = (same-Decides x y).0 (sym h)

pub differ-same : (x y : Datum) → false ≡ same x y → x ≡ y → ⊥
differ-same x y h e = let t : same x y ≡ true = (same-Decides x y).1 e in cc

-- columns of one name and one type are equal exactly where their values are
pub plain-by_values : (a b : Col) (r : Bool) → same_name a.name b.name ≡ true → same_kind a.kind b.kind ≡ true → (IsTrue r ↔ (values a ≡ values b)) → (IsTrue r ↔ (plain_column a ≡ plain_column b))
plain-by_values a b r n k h =
    let names = (bytes_eq-Decides a.name b.name).0 n in
    let kinds = (same_kind-Decides a.kind b.kind).0 k in (
      λ t. let vs = h.0 t in λ i. record { name = names i; kind = kinds i; values = vs i },
      λ e. h.1 (ap (λ (c : TableColumn). c.values) e),
    )

pub differ-names : (a b : Col) → same_name a.name b.name ≡ false → plain_column a ≡ plain_column b → ⊥
differ-names a b h e = let t : same_name a.name b.name ≡ true = (bytes_eq-Decides a.name b.name).1 (ap (λ (c : TableColumn). c.name) e) in cc

pub differ-kinds : (a b : Col) → same_kind a.kind b.kind ≡ false → plain_column a ≡ plain_column b → ⊥
differ-kinds a b h e = let t : same_kind a.kind b.kind ≡ true = (same_kind-Decides a.kind b.kind).1 (ap (λ (c : TableColumn). c.kind) e) in cc

-- tables are equal by their columns
pub table-ext : (xs ys : List Col) → length xs ≡ length ys → ((k : ℕ) (d : Col) → k < length xs → plain_column (get_or xs k d) ≡ plain_column (get_or ys k d)) → table_of xs ≡ table_of ys
table-ext [] [] e h = refl
table-ext [] (y ∷ ys) e h = absurd (omega arith)
table-ext (x ∷ xs) [] e h = absurd (omega arith)
table-ext (x ∷ xs) (y ∷ ys) e h =
    let first = h 0 x (omega arith) in
    let rest = table-ext xs ys (omega arith) (λ k d low. h (suc k) d (omega arith)) in
    λ i. first i ∷ rest i

pub plain-at : (xs ys : List Col) (i : ℕ) (x y : Col) → i < length xs → i < length ys → x ≡ get_or xs i x → y ≡ get_or ys i y → table_of xs ≡ table_of ys → plain_column x ≡ plain_column y
plain-at xs ys i x y low under is its e =
    ap plain_column is ∙ sym (get_or-map plain_column xs i x (plain_column x) low) ∙ ap (λ (t : List TableColumn). get_or t i (plain_column x)) e ∙ get_or-map plain_column ys i y (plain_column x) under ∙ ap plain_column (sym its)
