-- The tables of the rows of parts.
use Rattle.std.proofs.Common.{◌≡◌, ◌+◌, ◌<◌, ◌++◌, ℕ, List, [], ◌∷◌, get_or, map, take, refl, ap, subst, sym, ◌∙◌, length}
use Rattle.std.specs.Prelude.{All}
use Rattle.std.proofs.lemmas.List.{map-append, take_more}
use Rattle.tb_value.specs.Promise.Names.{Name}
use Rattle.tb_value.specs.Promise.Pairs.{row_numbers}
use Rattle.tb_value.proofs.Loops.{map-map}
use Rattle.tb_chunk.specs.Changed.{taken_rows}
use Rattle.tb_chunk.specs.Promise.Col.{Col}
use Rattle.tb_frame.specs.Promise.Table.{Table, height, table_of}
use Rattle.tb_frame.proofs.Taking.{values-taken}
use Rattle.tb_parts.specs.Promise.Parts.{table_among}
use Rattle.tb_split.specs.Keys.{AreRowsOf}
use Rattle.tb_split.specs.Promise.Split.{rows_by_keys, split_keys, split_table}

taken_among : (rows : List ℕ) (cs : List Col) → table_of (map (taken_rows rows) cs) ≡ table_among rows (table_of cs)
taken_among rows [] = refl
taken_among rows (c ∷ cs) = λ t. record { name = c.name; kind = c.kind; values = values-taken rows c t } ∷ taken_among rows cs t

-- one more table
pub one_more : (cs : List Col) (rows : List (List ℕ)) (i : ℕ) → i < length rows → (old new : List (List Col)) (table : List Col) (taken : List ℕ)
    → map table_of old ≡ map (λ rs. table_among rs (table_of cs)) (take i rows) → taken ≡ get_or rows i [] → table ≡ map (taken_rows taken) cs → new ≡ old ++ table ∷ []
    → map table_of new ≡ map (λ rs. table_among rs (table_of cs)) (take (i + 1) rows)
one_more cs rows i low old new table taken done is made put =
    let among : List ℕ → Table = λ rs. table_among rs (table_of cs) in
    ap (map table_of) put
    ∙ map-append table_of old (table ∷ [])
    ∙ (λ t. done t ++ (ap table_of made ∙ taken_among taken cs ∙ ap among is) t ∷ [])
    ∙ sym (ap (map among) (take_more rows i [] low) ∙ map-append among (take i rows) (get_or rows i [] ∷ []))

-- the tables of the parts are the parts of the table
pub tables_are : (t whole keys : Table) (on : List Name) (h n : ℕ) (rows : List (List ℕ)) → whole ≡ t → keys ≡ split_keys t on → h ≡ height t → rows ≡ map (rows_by_keys keys h n) (row_numbers n)
    → map (λ rs. table_among rs whole) rows ≡ map (split_table t on n) (row_numbers n)
tables_are t whole keys on h n rows same named high are =
    ap (map (λ rs. table_among rs whole)) are
    ∙ map-map (λ rs. table_among rs whole) (rows_by_keys keys h n) (row_numbers n)
    ∙ (λ i. map (λ p. table_among (rows_by_keys (named i) (high i) n p) (same i)) (row_numbers n))

-- the rows of a part
pub rows_at : (h : ℕ) (rows : List (List ℕ)) (i : ℕ) (taken : List ℕ) → All (AreRowsOf h) rows → i < length rows → taken ≡ get_or rows i [] → AreRowsOf h taken
rows_at h rows i taken each low is = subst (AreRowsOf h) (sym is) (each i [] low)
