-- The key columns of two sides.
use Rattle.std.proofs.Common.{◌≡◌, ◌<◌, ℕ, true, List, [], ◌∷◌, length, get_or, ap, sym, subst, ◌∙◌, arith}
use Rattle.std.specs.Prelude.{All, IsTrue}
use Rattle.std.proofs.lemmas.List.{length-map, get_or_default}
use Rattle.std.proofs.lemmas.List.Elements.{All-head, All-map}
use Rattle.tb_value.specs.Promise.Kind.{Kind}
use Rattle.tb_value.specs.Promise.SameKind.{is_key}
use Rattle.tb_chunk.specs.Promise.Col.{Col, values}
use Rattle.tb_chunk.specs.Col.{IsColumn}
use Rattle.tb_chunk.proofs.Lists.{All-map-at}
use Rattle.tb_rowkey.specs.Promise.Columns.{kinds, row_count}
use Rattle.tb_rowkey.specs.Columns.{AreKeyColumns}
use Rattle.tb_keys.specs.Rows.{HasRows}
use Rattle.tb_pairs.specs.KeyColumns.{AreAlike}

-- ONE SIDE, whose columns have n rows

pub rows_counted : (n : ℕ) (cs : List Col) → 0 < length cs → HasRows n cs → row_count cs ≡ n
rows_counted n [] some h = absurd (omega arith)
rows_counted n (c ∷ cs) some h = All-head (λ (d : Col). length (values d) ≡ n) c cs h

-- they are as long as the first of them
pub level : (n : ℕ) (cs : List Col) → 0 < length cs → HasRows n cs → HasRows (row_count cs) cs
level n cs some h = subst (λ (k : ℕ). HasRows k cs) (sym (rows_counted n cs some h)) h

pub key_columns : (n : ℕ) (cs : List Col) → 0 < length cs → HasRows n cs → All IsColumn cs → All (λ (c : Col). IsTrue (is_key c.kind)) cs → AreKeyColumns cs
key_columns n cs some rows columns keys = record { columns = columns; keys = keys; rows = level n cs some rows }

-- BOTH SIDES

module _ (ls rs : List Col) (alike : AreAlike ls rs) where
  pub as_many : length ls ≡ length rs
  as_many = sym (length-map ls (λ (c : Col). c.kind)) ∙ ap (λ (ts : List Kind). length ts) alike.types ∙ length-map rs (λ (c : Col). c.kind)

  pub some_right : 0 < length rs
  some_right = let e = as_many in let some = alike.some in omega (arith, e, some)

  pub right_keys : All (λ (c : Col). IsTrue (is_key c.kind)) rs
  right_keys =
      let left : All (λ (t : Kind). IsTrue (is_key t)) (kinds ls) = All-map (λ (t : Kind). IsTrue (is_key t)) (λ (c : Col). c.kind) ls alike.keys in
      let right : All (λ (t : Kind). IsTrue (is_key t)) (kinds rs) = subst (λ (ts : List Kind). All (λ (t : Kind). IsTrue (is_key t)) ts) alike.types left in
      λ k d low. All-map-at (λ (t : Kind). IsTrue (is_key t)) (λ (c : Col). c.kind) rs k (get_or rs k d) low (get_or_default rs k d (get_or rs k d) low) right

-- one key on each side
pub one_alike : (a b : Col) → AreAlike (a ∷ []) (b ∷ []) → (is_key a.kind ≡ true) × (a.kind ≡ b.kind)
one_alike a b alike = (All-head (λ (c : Col). IsTrue (is_key c.kind)) a [] alike.keys, let types = alike.types in cc)
