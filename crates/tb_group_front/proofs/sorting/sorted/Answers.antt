use Rattle.std.proofs.Common.{◌≡◌, ◌<◌, ◌∙◌, ℕ, List, length, map, min, take, ap, sym, subst, arith}
use Rattle.std.specs.List.{All}
use Rattle.std.proofs.lemmas.List.{take_min, take-map}
use Rattle.std.proofs.lemmas.Result.{IfOk-weaker}
use Rattle.tb_chunk.specs.Promise.Col.{Col}
use Rattle.tb_frame.specs.Frame.{taken_rows}
use Rattle.tb_frame.specs.Promise.Table.{height, plain_column, table_of}
use Rattle.tb_group_front.specs.Promise.Sorted.{of_rows, rows_by, sorted_table}
use Rattle.tb_group_front.proofs.Sorts.{rows_below, rows_many, taken_is}
use Rattle.tb_group_front.proofs.sorting.sorted.Goals as goal

-- as many of the first columns as there are
first_columns : (n m : ℕ) (cs ds : List Col) → m ≡ min n (length cs) → cs ≡ ds → table_of (take m cs) ≡ take n (table_of ds)
first_columns n m cs ds few same =
    ap (λ (k : ℕ). table_of (take k cs)) few
    ∙ ap (λ (xs : List Col). table_of xs) (take_min n cs)
    ∙ sym (take-map plain_column n cs)
    ∙ ap (λ (xs : List Col). take n (table_of xs)) same

pub take-requires-clause-rows : goal.take-requires-clause-rows
take-requires-clause-rows c =
    let t = table_of (take c.min.result c.get_columns-columns.result.now) in
    subst (λ (n : ℕ). All (λ r. r < n) c.deref.result.now) c.height.ensures.height
    (subst (λ (rows : List ℕ). All (λ r. r < c.height.result) rows) (sym (c.deref.ensures.value ∙ c.in_ok-rows.ensures)) (rows_below t c.height.result))

pub take-requires-clause-few : goal.take-requires-clause-few
take-requires-clause-few c =
    let t = table_of (take c.min.result c.get_columns-columns.result.now) in
    let many : length c.deref.result.now ≡ c.height.result = ap (λ (rows : List ℕ). length rows) (c.deref.ensures.value ∙ c.in_ok-rows.ensures) ∙ rows_many t c.height.result in
    omega (arith, many, c.height.ensures.short)

pub returns : goal.returns
returns c =
    let cs = c.args.table.now in
    let first = first_columns c.args.count c.min.result c.get_columns-columns.result.now cs c.min.ensures c.get_columns-columns.ensures.columns in
    let rows : c.deref.result.now ≡ rows_by (take c.args.count (table_of cs)) (height (table_of cs)) =
    c.deref.ensures.value ∙ c.in_ok-rows.ensures ∙ (λ i. rows_by (first i) (c.height.ensures.height i)) in
    IfOk-weaker c.take.result (λ t. t ≡ map (taken_rows c.deref.result.now) cs) (λ t. table_of t ≡ sorted_table c.args.count (table_of cs))
    (λ t made. ap (λ (xs : List Col). table_of xs) made ∙ taken_is c.deref.result.now cs ∙ ap (λ (rs : List ℕ). of_rows rs (table_of cs)) rows) c.take.ensures
