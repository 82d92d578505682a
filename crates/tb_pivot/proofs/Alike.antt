-- Rows that are told apart by the values of some columns.
use Rattle.std.proofs.Common.{◌≡◌, ◌∙◌, ◌<◌, ◌≤◌, ℕ, Bool, true, false, ◌&&◌, List, [], ◌∷◌, ◌++◌, length, map, refl, sym, ap, subst}
use Rattle.std.specs.Borrow.{Bor}
use Rattle.std.specs.Cmp.{IsEquivalence}
use Rattle.std.specs.Cmp.Lexicographic.{pointwise}
use Rattle.std.specs.List.{All}
use Rattle.tb_value.specs.Promise.Datum.{Datum}
use Rattle.tb_value.specs.Proved.ValueTests.{pulled}
use Rattle.tb_value.specs.Promise.Same.{same}
use Rattle.tb_value.specs.declared.limits.TheConstants.{MAX_ROWS}
use Rattle.tb_chunk.specs.Promise.Col.{Col, values}
use Rattle.tb_chunk.specs.Lent.{lent_columns}
use Rattle.tb_frame.specs.Promise.Table.{TableColumn, table_of}
use Rattle.tb_rows.specs.Both.{in_both}
use Rattle.tb_rows.specs.Grouped.{AreGroups}
use Rattle.tb_rows.specs.Proved.KeyTests.{fields_equiv}
use Rattle.tb_rows.specs.Promise.Rows.{same_rows, row_value}
use Rattle.tb_rows.specs.declared.groups.Groups.{Groups}
use Rattle.tb_rows.proofs.Agreeing.{Agree, groups_agree, numbers_long, numbers_tell}
use Rattle.tb_agg.specs.Grouped.{AreGroupsOf}
use Rattle.tb_pivot.specs.Promise.Pivot.{are_alike}
use Rattle.tb_pivot.proofs.Groups.{are_groups_of}
use Rattle.tb_pivot.proofs.Members.{firsts_low}

abbrev fields_at : List TableColumn → ℕ → List Datum
fields_at cs i = map (λ (c : TableColumn). row_value c.values i) cs

fields_alike : (i j : ℕ) (cs : List TableColumn) → pointwise same (fields_at cs i) (fields_at cs j) ≡ are_alike cs i j
fields_alike i j [] = refl
fields_alike i j (c ∷ cs) = ap (λ (b : Bool). same (row_value c.values i) (row_value c.values j) && b) (fields_alike i j cs)

pub alike_equiv : (cs : List TableColumn) → IsEquivalence (are_alike cs)
alike_equiv cs = subst (λ (test : ℕ → ℕ → Bool). IsEquivalence test) (λ t i j. fields_alike i j cs t) (pulled (fields_at cs) fields_equiv)

and_assoc : (a b c : Bool) → (a && (b && c)) ≡ ((a && b) && c)
and_assoc true b c = refl
and_assoc false b c = refl

-- rows are the same in all columns where they are in the first ones and in the rest
pub both_alike : (cs ds : List TableColumn) (i j : ℕ) → are_alike (cs ++ ds) i j ≡ (are_alike cs i j && are_alike ds i j)
both_alike [] ds i j = refl
both_alike (c ∷ cs) ds i j =
    let here : Bool = same (row_value c.values i) (row_value c.values j) in
    ap (λ (b : Bool). here && b) (both_alike cs ds i j) ∙ and_assoc here (are_alike cs i j) (are_alike ds i j)

lent_values : (cs : List (Bor Col)) → map (λ (c : Bor Col). values c.now) cs ≡ map (λ (c : TableColumn). c.values) (table_of (lent_columns cs))
lent_values [] = refl
lent_values (c ∷ cs) = ap (λ (vs : List (List Datum)). values c.now ∷ vs) (lent_values cs)

-- columns that are lent have their rows in groups as those of a table
pub lent_groups : (ks cs : List (Bor Col)) (n : ℕ) (g : Groups) → ks ≡ cs → AreGroups (same_rows (map (λ (c : Bor Col). values c.now) ks)) n g → AreGroups (are_alike (table_of (lent_columns cs))) n g
lent_groups ks cs n g same groups = subst (λ (lists : List (List Datum)). AreGroups (same_rows lists) n g) (lent_values ks ∙ ap (λ (ds : List (Bor Col)). map (λ (c : TableColumn). c.values) (table_of (lent_columns ds))) same) groups

-- rows in groups by columns have each the number of a group
pub groups_fit : (cs : List TableColumn) (n : ℕ) (g : Groups) → AreGroups (are_alike cs) n g → n ≤ MAX_ROWS → AreGroupsOf n g
groups_fit cs n g groups few = are_groups_of (are_alike cs) (alike_equiv cs) n g groups few

-- rows that are in one group by some columns, and in one by others, are the same in all
pub both_groups : (cs ds : List TableColumn) (n : ℕ) (rows headers g : Groups) → AreGroups (are_alike cs) n rows → AreGroups (are_alike ds) n headers
    → AreGroups (in_both rows headers) (length rows.numbers.items) g → AreGroups (are_alike (cs ++ ds)) n g
both_groups cs ds n rows headers g of_rows of_headers groups =
    groups_agree n (in_both rows headers) (are_alike (cs ++ ds)) agree g
    (subst (λ (k : ℕ). AreGroups (in_both rows headers) k g) (numbers_long (are_alike cs) (alike_equiv cs) n rows of_rows) groups)
  where
    agree : Agree n (in_both rows headers) (are_alike (cs ++ ds))
    agree i j low under =
        let a = numbers_tell (are_alike cs) (alike_equiv cs) n rows of_rows i j low under in
        let b = numbers_tell (are_alike ds) (alike_equiv ds) n headers of_headers i j low under in
        (λ t. a t && b t) ∙ sym (both_alike cs ds i j)

-- groups of the same rows by other columns
pub others_fit : (cs ds : List TableColumn) (n : ℕ) (g others : Groups) → AreGroups (are_alike cs) n g → AreGroups (are_alike ds) n others → n ≤ MAX_ROWS → AreGroupsOf (length g.numbers.items) others
others_fit cs ds n g others groups are few = subst (λ (k : ℕ). AreGroupsOf k others) (sym (groups_fit cs n g groups few).each) (groups_fit ds n others are few)

pub firsts_fit : (cs : List TableColumn) (n : ℕ) (g : Groups) → AreGroups (are_alike cs) n g → n ≤ MAX_ROWS → All (λ r. r < length g.numbers.items) g.firsts.items
firsts_fit cs n g groups few = subst (λ (k : ℕ). All (λ r. r < k) g.firsts.items) (sym (groups_fit cs n g groups few).each) (firsts_low (are_alike cs) (alike_equiv cs) n g groups)
