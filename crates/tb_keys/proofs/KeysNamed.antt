-- Keys that are the columns of their names.
use Rattle.std.proofs.Common.{◌≡◌, ℕ, ◌<◌, Bool, List, [], length, get_or, ap, sym, ◌∙◌, arith, Option, Some, None}
use Rattle.std.specs.Prelude.{not, slice_get}
use Rattle.std.specs.Option.{option_and_then}
use Rattle.std.specs.List.{find, filter_map}
use Rattle.std.proofs.lemmas.Bool.{not-false}
use Rattle.std.proofs.lemmas.List.{get_or-map, length-map}
use Rattle.std.proofs.lemmas.List.FromFn.{length-range_with_len, get_or-range_with_len}
use Rattle.std.proofs.lemmas.Option.{slice_get-get_or}
use Rattle.tb_value.specs.Promise.Names.{Name}
use Rattle.tb_value.specs.Promise.Pairs.{row_numbers}
use Rattle.tb_value.specs.Promise.SameKind.{same_kind}
use Rattle.tb_value.specs.Proved.TypeTests.{same_kind-Decides}
use Rattle.tb_chunk.specs.Promise.Col.{Col}
use Rattle.tb_frame.specs.Promise.Join.{column_named}
use Rattle.tb_frame.specs.Promise.Naming.{is_among}
use Rattle.tb_frame.specs.Promise.Refusal.{first_unknown, kind_at}
use Rattle.tb_frame.specs.Promise.Table.{TableColumn, Table, plain_column, table_of, names_of}
use Rattle.tb_frame.proofs.Causes.{find_none}
use Rattle.tb_frame.proofs.Selected.{named-key, names-selected, selected-table}

-- the keys have the names that they were selected by
pub keys_named : (cs ks : List Col) (names : List Name) → table_of ks ≡ filter_map (column_named (table_of cs)) names → first_unknown (table_of cs) names ≡ None → names_of (table_of ks) ≡ names
keys_named cs ks names is known = ap names_of (is ∙ sym (selected-table names cs)) ∙ names-selected names cs known

pub keys_many : (cs ks : List Col) (names : List Name) → table_of ks ≡ filter_map (column_named (table_of cs)) names → first_unknown (table_of cs) names ≡ None → length ks ≡ length names
keys_many cs ks names is known = sym (length-map ks plain_column) ∙ sym (length-map (table_of ks) (λ (c : TableColumn). c.name)) ∙ ap (λ (ns : List Name). length ns) (keys_named cs ks names is known)

-- and are the columns that the names name
pub keys_own : (cs ks : List Col) (names : List Name) → table_of ks ≡ filter_map (column_named (table_of cs)) names → first_unknown (table_of cs) names ≡ None
    → (p : ℕ) (d : Col) → p < length ks → option_and_then (column_named (table_of cs)) (slice_get names p) ≡ Some (plain_column (get_or ks p d))
keys_own cs ks names is known p d low =
    let many = keys_many cs ks names is known in
    let low_name : p < length names = omega (arith, many, low) in
    ap (λ (o : Option Name). option_and_then (column_named (table_of cs)) o) (slice_get-get_or names p [] low_name)
    ∙ named-key (table_of cs) names (find_none (λ n. not (is_among (names_of (table_of cs)) n)) names known) p (plain_column d) low_name
    ∙ ap (λ (t : Table). Some (get_or t p (plain_column d))) (sym is)
    ∙ ap (λ (c : TableColumn). Some c) (get_or-map plain_column ks p d (plain_column d) low)

-- where no two types differ, those at a place agree
pub kinds_at : (lk rk : Table) (n p : ℕ) → find (λ p. not (same_kind (kind_at lk p) (kind_at rk p))) (row_numbers n) ≡ None → p < n → kind_at lk p ≡ kind_at rk p
kinds_at lk rk n p none low =
    let test : ℕ → Bool = λ k. not (same_kind (kind_at lk k) (kind_at rk k)) in
    let long : length (row_numbers n) ≡ n = length-range_with_len 0 n in
    let fails = find_none test (row_numbers n) none p 0 (omega (arith, long)) in
    let at : get_or (row_numbers n) p 0 ≡ p = get_or-range_with_len 0 n p 0 low ∙ omega arith in
    (same_kind-Decides (kind_at lk p) (kind_at rk p)).0 (not-false (same_kind (kind_at lk p) (kind_at rk p)) (sym (ap test at) ∙ fails))
