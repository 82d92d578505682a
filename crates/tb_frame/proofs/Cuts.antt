-- How columns are cut into chunks.
use Rattle.std.proofs.Common.{◌≡◌, ◌↔◌, ℕ, zero, suc, ◌<◌, Bool, true, false, not, List, [], ◌∷◌, length, get_or, map, refl, ap, sym, ◌∙◌, subst, append-nil, arith, Some, IsTrue}
use Rattle.std.specs.Prelude.{All}
use Rattle.std.specs.List.{slice_get}
use Rattle.std.proofs.lemmas.List.{ext_get_or, length-map, get_or-map}
use Rattle.tb_value.specs.Promise.Datum.{Datum}
use Rattle.tb_chunk.specs.Promise.Col.{Col, values}
use Rattle.tb_chunk.specs.Lent.{in_one_chunk}
use Rattle.tb_frame.specs.Promise.Table.{TableColumn, plain_column, table_of, IsTable}
use Rattle.tb_frame.specs.Frame.{lens, AreCutAlike}

-- as many chunks, and each as long as its fellow
pub lens-alike : (a b : Col) → length a.chunks ≡ length b.chunks → ((k : ℕ) → k < length a.chunks → length (get_or a.chunks k []) ≡ length (get_or b.chunks k [])) → lens a ≡ lens b
lens-alike a b count each =
    let len : List Datum → ℕ = λ vs. length vs in
    let p = length-map a.chunks len in
    let q = length-map b.chunks len in
    ext_get_or 0 (lens a) (lens b) (omega arith) (λ k low. get_or-map len a.chunks k [] 0 (omega arith) ∙ each k (omega arith) ∙ sym (get_or-map len b.chunks k [] 0 (omega arith)))

pub lens-count : (a b : Col) → lens a ≡ lens b → length a.chunks ≡ length b.chunks
lens-count a b e =
    let len : List Datum → ℕ = λ vs. length vs in
    sym (length-map a.chunks len) ∙ ap (λ (ns : List ℕ). length ns) e ∙ length-map b.chunks len

pub lens-at : (a b : Col) (k : ℕ) → k < length a.chunks → lens a ≡ lens b → length (get_or a.chunks k []) ≡ length (get_or b.chunks k [])
lens-at a b k low e =
    let len : List Datum → ℕ = λ vs. length vs in
    let count = lens-count a b e in
    sym (get_or-map len a.chunks k [] 0 low) ∙ ap (λ (ns : List ℕ). get_or ns k 0) e ∙ get_or-map len b.chunks k [] 0 (omega arith)

-- each column is cut as the first exactly where any two are cut alike
pub alike-by_first : (cs : List Col) (first : Col) → Some first ≡ slice_get cs 0 → (All (λ (c : Col). lens c ≡ lens first) cs ↔ AreCutAlike cs)
alike-by_first [] first h = absurd (cc)
alike-by_first (c ∷ cs) first h =
    let same : first ≡ c = cc in (
      λ all. λ i j d low high. all i d (omega arith) ∙ sym (all j d high),
      λ alike. λ k d low. at alike k d low ∙ ap lens (sym same),
    )
  where
    at : AreCutAlike (c ∷ cs) → (k : ℕ) (d : Col) → k < length (c ∷ cs) → lens (get_or (c ∷ cs) k d) ≡ lens c
    at alike zero d low = refl
    at alike (suc k) d low = sym (alike 0 (suc k) d (omega arith) low)

false_is_true : IsTrue false → ⊥
false_is_true e = cc

pub not-alike : (P : Type 0) (b : Bool) → (IsTrue b ↔ P) → (IsTrue (not b) ↔ ¬ P)
not-alike P true h = (λ e. absurd (cc), λ no. absurd (no (h.0 refl)))
not-alike P false h = (λ e. λ p. absurd (false_is_true (h.1 p)), λ no. refl)

-- the table is the same
pub plain-whole : (c : Col) → plain_column (in_one_chunk c) ≡ plain_column c
plain-whole c = ap (λ (vs : List Datum). let k : TableColumn = record { name = c.name; kind = c.kind; values = vs } in k) (append-nil (values c))

pub table-whole : (cs : List Col) → table_of (map in_one_chunk cs) ≡ table_of cs
table-whole [] = refl
table-whole (c ∷ cs) = λ t. plain-whole c t ∷ table-whole cs t

pub IsTable-whole : (made cs inside : List Col) → made ≡ map in_one_chunk cs → cs ≡ inside → IsTable (table_of inside) → IsTable (table_of made)
IsTable-whole made cs inside is same t = subst (λ (u : List TableColumn). IsTable u) (sym (ap table_of is ∙ table-whole cs ∙ ap table_of same)) t
