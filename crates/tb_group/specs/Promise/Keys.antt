-- The keys of rows that are grouped, and how they fall into parts.
use Rattle.std.specs.Prelude.{ℕ, Bool, true, List, [], ◌∷◌, length, map, slice_index_or}
use Rattle.tb_value.specs.Promise.Datum.{Datum}
use Rattle.tb_value.specs.Promise.Kind.{Kind}
use Rattle.tb_value.specs.Promise.Kind as kind
use Rattle.tb_value.specs.Promise.Pairs.{row_numbers}
use Rattle.tb_value.specs.Promise.Same.{same}
use Rattle.tb_frame.specs.Promise.Table.{TableColumn, height}
use Rattle.tb_rows.specs.Promise.Rows.{first_rows, row_value}
use Rattle.tb_rowkey.specs.Promise.RowKey.{key_row}
use Rattle.tb_pool.specs.Promise.ExecView.{ExecView}
use Rattle.tb_build.specs.Promise.Plan.{part_rows, part_sizes}
use Rattle.tb_hash.specs.Promise.Hashing.{value_code}
use Rattle.tb_group.specs.Promise.Request.{Request, by_columns}

-- the key of a row is its value in the one column, and else the key of the row, in which Nulls match
abbrev pub key_at : List TableColumn → ℕ → Datum
key_at (c ∷ []) i = row_value c.values i
key_at cs i = key_row (map (λ (c : TableColumn). c.kind) cs) (λ _. true)
    (map (λ (c : TableColumn). row_value c.values i) cs)

-- the type by which keys have codes
abbrev pub key_type : List TableColumn → Kind
key_type (c ∷ []) = c.kind
key_type cs = kind.binary

-- the code of the key of a row, and those of all rows
abbrev pub key_code : List TableColumn → ℕ → ℕ
key_code cs i = value_code (key_type cs) (key_at cs i)

abbrev pub key_codes : Request → List ℕ
key_codes q = map (key_code (by_columns q)) (row_numbers (height q.table))

-- whether two rows have one key
abbrev pub same_key : List TableColumn → ℕ → ℕ → Bool
same_key cs i j = same (key_at cs i) (key_at cs j)

-- of some rows how many have a key that no row before them has
abbrev pub key_count : List TableColumn → List ℕ → ℕ
key_count cs rows = length
    (first_rows (λ a b. same_key cs (slice_index_or rows a 0) (slice_index_or rows b 0))
    (length rows))

-- into how many parts the rows fell, how many rows each has, and how many keys
pub record GroupedView : Type 0 where
  pub parts : ℕ
  pub sizes : List ℕ
  pub groups : List ℕ

-- always as many parts as there are partitions, however few the rows are
abbrev pub group_trace : ExecView → Request → GroupedView
group_trace exec q = record {
  parts = exec.partitions;
  sizes = part_sizes (key_codes q) exec.partitions;
  groups = map (λ p. key_count (by_columns q) (part_rows (key_codes q) exec.partitions p))
      (row_numbers exec.partitions);
}
