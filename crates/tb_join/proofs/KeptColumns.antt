-- The columns that stand in an answer.
use Rattle.std.proofs.Common.{◌≡◌, ◌<◌, not, List, [], ◌∷◌, length, refl, ap, sym, subst, arith}
use Rattle.std.specs.Prelude.{All}
use Rattle.std.proofs.lemmas.List.Elements.{All-filter, All-head}
use Rattle.tb_value.specs.Promise.Names.{Name}
use Rattle.tb_chunk.specs.Promise.Col.{Col}
use Rattle.tb_frame.specs.Frame.{without_names}
use Rattle.tb_frame.specs.Promise.Naming.{is_among}
use Rattle.tb_frame.specs.Promise.Table.{TableColumn, Table, plain_column, table_of, height, IsTable}
use Rattle.tb_frame.proofs.Frames.{without-table}

-- no names leave none out
pub without_names_none : (cs : List Col) → without_names [] cs ≡ cs
without_names_none [] = refl
without_names_none (c ∷ cs) = ap (λ (ks : List Col). c ∷ ks) (without_names_none cs)

-- a table that keeps a column keeps its height
pub height-without : (names : List Name) (cs : List Col) → IsTable (table_of cs) → 0 < length (without_names names cs) → height (table_of (without_names names cs)) ≡ height (table_of cs)
height-without names cs t some =
    let high : TableColumn → Type 0 = λ c. length c.values ≡ height (table_of cs) in
    first (without_names names cs) some (subst (λ (k : Table). All high k) (sym (without-table names cs)) (All-filter (λ (c : TableColumn). not (is_among names c.name)) high (table_of cs) t.one_height))
  where
    first : (ks : List Col) → 0 < length ks → All (λ (c : TableColumn). length c.values ≡ height (table_of cs)) (table_of ks) → height (table_of ks) ≡ height (table_of cs)
    first [] h all = absurd (omega arith)
    first (k ∷ ks) h all = All-head (λ (c : TableColumn). length c.values ≡ height (table_of cs)) (plain_column k) (table_of ks) all
