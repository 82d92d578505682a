-- Tables side by side.
use Rattle.std.proofs.Common.{◌≡◌, ◌∙◌, ℕ, List, [], ◌∷◌, length, map, refl, sym, subst, inl, inr}
use Rattle.std.specs.Prelude.{All}
use Rattle.std.proofs.lemmas.List.{map-append}
use Rattle.std.proofs.lemmas.List.Elements.{All-append, All-cons, All-head, All-nil, All-tail}
use Rattle.tb_value.specs.Promise.Names.{Name}
use Rattle.tb_chunk.specs.Promise.Col.{Col}
use Rattle.tb_frame.specs.Frame.{frame_refusal}
use Rattle.tb_frame.specs.Promise.Refusal.{repeated_among}
use Rattle.tb_frame.specs.Promise.Table.{IsTable, Table, TableColumn, height, names_of, plain_column, table_of}
use Rattle.tb_frame.proofs.Causes.{first_cause-one}
use Rattle.tb_frame.proofs.Frames.{level_refusal}
use Rattle.tb_join.specs.AnswerColumns.{column_called, side_by_side}
use Rattle.tb_dispatch.specs.Standing.{AreLevel}

-- a column is as long under another name
called-rows : (taken : List Name) (suffix : Name) (n : ℕ) (cs : List Col) → All (λ (c : TableColumn). length c.values ≡ n) (table_of cs) → All (λ (c : TableColumn). length c.values ≡ n) (table_of (map (column_called taken suffix) cs))
called-rows taken suffix n [] h = All-nil (λ (c : TableColumn). length c.values ≡ n)
called-rows taken suffix n (c ∷ cs) h =
    let high : TableColumn → Type 0 = λ k. length k.values ≡ n in
    All-cons high (plain_column (column_called taken suffix c)) (table_of (map (column_called taken suffix) cs)) (All-head high (plain_column c) (table_of cs) h) (called-rows taken suffix n cs (All-tail high (plain_column c) (table_of cs) h))

both_rows : (suffix : Name) (n : ℕ) (left right : List Col) → All (λ (c : TableColumn). length c.values ≡ n) (table_of left) → All (λ (c : TableColumn). length c.values ≡ n) (table_of right)
    → All (λ (c : TableColumn). length c.values ≡ n) (table_of (side_by_side suffix left right))
both_rows suffix n left right a b =
    let high : TableColumn → Type 0 = λ k. length k.values ≡ n in
    let named : List Col = map (column_called (names_of (table_of left)) suffix) right in
    subst (λ (t : Table). All high t) (sym (map-append plain_column left named)) (All-append high (table_of left) (table_of named) a (called-rows (names_of (table_of left)) suffix n right b))

level : (suffix : Name) (left right : List Col) → AreLevel left right → IsTable (table_of left) → IsTable (table_of right) → (n : ℕ) × All (λ (c : TableColumn). length c.values ≡ n) (table_of (side_by_side suffix left right))
level suffix left right (inl e) a b =
    (height (table_of left), both_rows suffix (height (table_of left)) left right a.one_height (subst (λ (n : ℕ). All (λ (c : TableColumn). length c.values ≡ n) (table_of right)) (sym e) b.one_height))
level suffix left right (inr (inl e)) a b =
    (height (table_of right), both_rows suffix (height (table_of right)) left right (subst (λ (cs : List Col). All (λ (c : TableColumn). length c.values ≡ height (table_of right)) (table_of cs)) (sym e) (All-nil (λ (c : TableColumn). length c.values ≡ height (table_of right)))) b.one_height)
level suffix left right (inr (inr e)) a b =
    (height (table_of left), both_rows suffix (height (table_of left)) left right a.one_height (subst (λ (cs : List Col). All (λ (c : TableColumn). length c.values ≡ height (table_of left)) (table_of cs)) (sym e) (All-nil (λ (c : TableColumn). length c.values ≡ height (table_of left)))))

-- tables side by side are refused as their names are
pub beside_refusal : (suffix : Name) (left right : List Col) → AreLevel left right → IsTable (table_of left) → IsTable (table_of right)
    → frame_refusal (table_of (side_by_side suffix left right)) ≡ repeated_among (names_of (table_of (side_by_side suffix left right)))
beside_refusal suffix left right h a b =
    let t : Table = table_of (side_by_side suffix left right) in
    let high = level suffix left right h a b in
    level_refusal t high.0 high.1 (names_of t) refl ∙ first_cause-one (repeated_among (names_of t))
