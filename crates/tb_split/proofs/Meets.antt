-- Two tables that are parted by the keys of a join.
use Rattle.std.proofs.Common.{◌≡◌, ◌<◌, ◌≤◌, ℕ, ◌+◌, Bool, List, [], ◌∷◌, Option, Some, None, get_or, is_none, false, length, map, not, refl, ap, sym, ◌∙◌, arith}
use Rattle.std.specs.Prelude.{All, min}
use Rattle.std.specs.List.{find}
use Rattle.std.specs.Option.{option_map}
use Rattle.std.proofs.lemmas.Bool.{not-false}
use Rattle.std.proofs.lemmas.List.{ext_get_or, length-map}
use Rattle.std.proofs.lemmas.List.FromFn.{get_or-range_with_len, length-range_with_len}
use Rattle.tb_value.specs.Promise.Datum.{Datum}
use Rattle.tb_value.specs.Promise.Kind as kind
use Rattle.tb_value.specs.Promise.Kind.{Kind}
use Rattle.tb_value.specs.Promise.Names.{Name}
use Rattle.tb_value.specs.Promise.Pairs.{row_numbers}
use Rattle.tb_value.specs.Promise.SameKind.{same_kind}
use Rattle.tb_value.specs.Proved.TypeTests.{same_kind-Decides}
use Rattle.tb_value.specs.declared.error.ComputeCause.TheVariants.{KeyTypes}
use Rattle.tb_value.specs.declared.error.PolarsError.TheVariants.{ComputeError}
use Rattle.tb_frame.specs.declared.args.JoinArgs.{JoinArgs}
use Rattle.tb_frame.specs.Promise.Join.{Request, by_names}
use Rattle.tb_frame.specs.Promise.Refusal.{join_valid, kind_at}
use Rattle.tb_frame.specs.Promise.Table.{TableColumn, Table, height, row_at}
use Rattle.tb_frame.proofs.Causes.{find_none, map_none}
use Rattle.tb_frame.proofs.Validity.{known_left, known_right, same_counts, same_types}
use Rattle.tb_rowkey.specs.Promise.RowKey.{key_row}
use Rattle.tb_build.specs.CodeLaws.{number_fits}
use Rattle.tb_build.specs.Promise.Codes.{fibonacci}
use Rattle.tb_build.proofs.Parts.{part-below}
use Rattle.tb_parts.specs.Promise.Parts.{IsParted, left_rows, part_request, right_rows, rows_in, table_among}
use Rattle.tb_parts.proofs.Requests.{request_named}
use Rattle.tb_split.proofs.KeyRows.{known_many}
use Rattle.tb_split.specs.Promise.Split.{code_of_key, key_part, kinds_of, split_table}

part_low : (kinds : List Kind) (n : ℕ) → 1 ≤ n → (fields : List Datum) → key_part kinds n fields < n
part_low kinds n some fields =
    let code : ℕ = code_of_key (key_row kinds (λ _. false) fields) in
    part-below (fibonacci code) n (number_fits code) some

-- where no two types differ, those at a place are one
kinds_at : (lk rk : Table) (n p : ℕ) → find (λ p. not (same_kind (kind_at lk p) (kind_at rk p))) (row_numbers n) ≡ None → p < n → kind_at lk p ≡ kind_at rk p
kinds_at lk rk n p none low =
    let test : ℕ → Bool = λ k. not (same_kind (kind_at lk k) (kind_at rk k)) in
    let long : length (row_numbers n) ≡ n = length-range_with_len 0 n in
    let fails = find_none test (row_numbers n) none p 0 (omega (arith, long, low)) in
    let at : get_or (row_numbers n) p 0 ≡ p = get_or-range_with_len 0 n p 0 low ∙ omega arith in
    (same_kind-Decides (kind_at lk p) (kind_at rk p)).0 (not-false (same_kind (kind_at lk p) (kind_at rk p)) (sym (ap test at) ∙ fails))

module _ (l r : Table) (left_on right_on : List Name) (args : JoinArgs) (n : ℕ) (some : 1 ≤ n) (valid : join_valid (by_names l r left_on right_on args)) where
  abbrev q : Request
  q = by_names l r left_on right_on args

  level : length q.left_keys ≡ length q.right_keys
  level = known_many l left_on (known_left q valid) ∙ same_counts q valid ∙ sym (known_many r right_on (known_right q valid))

  abbrev kind_of_column : TableColumn → Kind
  kind_of_column c = c.kind

  same_kinds : kinds_of q.left_keys ≡ kinds_of q.right_keys
  same_kinds =
      let places : ℕ = min (length q.left_keys) (length q.right_keys) in
      let none : find (λ p. not (same_kind (kind_at q.left_keys p) (kind_at q.right_keys p))) (row_numbers places) ≡ None
      = map_none (λ p. ComputeError (KeyTypes p)) (find (λ p. not (same_kind (kind_at q.left_keys p) (kind_at q.right_keys p))) (row_numbers places)) (same_types q valid) in
      let long = length-map q.left_keys kind_of_column in
      let long_right = length-map q.right_keys kind_of_column in
      ext_get_or kind.null (kinds_of q.left_keys) (kinds_of q.right_keys) (long ∙ level ∙ sym long_right)
      (λ p low. kinds_at q.left_keys q.right_keys places p none (omega (arith, low, long, level)))

  abbrev part : List Datum → ℕ
  part = key_part (kinds_of q.left_keys) n

  pub parted : IsParted part n q
  parted = record {
    keys = level;
    left = λ i low. part_low (kinds_of q.left_keys) n some (row_at q.left_keys i);
    right = λ j low. part_low (kinds_of q.left_keys) n some (row_at q.right_keys j);
  }

  pub meets : (p : ℕ) → part_request part q p ≡ by_names (split_table l left_on n p) (split_table r right_on n p) left_on right_on args
  meets p =
      request_named l r left_on right_on args (left_rows part q p) (right_rows part q p)
      ∙ (λ t. by_names (split_table l left_on n p) (table_among (rows_in (λ j. key_part (same_kinds t) n (row_at q.right_keys j)) (height r) p) r) left_on right_on args)
