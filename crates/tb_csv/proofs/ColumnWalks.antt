-- The fields of a column, run by run.
use Rattle.std.proofs.Common.{◌≡◌, ◌<◌, ◌≤◌, ◌+◌, ◌*◌, ◌++◌, ◌∷◌, ◌∙◌, [], ℕ, List, None, Some, Vec, Global, append-nil, arith, drop, get_or, inl, inr, length, map, refl, subst, sym, take, ap, true, false, ◌⊎◌}
use Rattle.std.specs.List.{flat_map, list_all}
use Rattle.std.proofs.lemmas.Grind.{flat_map-append}
use Rattle.std.specs.Prelude.{◌&&◌, Bool}
use Rattle.std.proofs.lemmas.List.{drop_more, map-append, take-append-drop, take_more}
use Rattle.std.proofs.lemmas.List.Folds.{list_all-append}
use Rattle.std.proofs.lemmas.List.FromFn.{get_or-map-range_with_len, length-map-range_with_len}
use Rattle.std.proofs.lemmas.List.Sums.{sum_by_more, sum_by_more_le}
use Rattle.tb_value.specs.declared.limits.TheConstants.{MAX_ROWS}
use Rattle.tb_value.specs.Promise.Datum.{Datum}
use Rattle.tb_value.specs.Promise.Names.{Name}
use Rattle.tb_csv.specs.Fields.{fields_in, part_fields}
use Rattle.tb_csv.specs.Promise.Faults.{column_fault}
use Rattle.tb_csv.specs.Promise.Records.{Field}
use Rattle.tb_csv.specs.Promise.Types.{cell_of, is_of}
use Rattle.tb_csv.specs.Read.{HasFields, field_in, held_fields, rows_in, run_column, text_fields}
use Rattle.tb_csv.specs.declared.fault.CsvFault.{CsvFault}
use Rattle.tb_csv.specs.declared.fault.CsvFault.TheVariants.{OutOfMemory}
use Rattle.tb_csv.specs.declared.field_column.FieldColumn.{FieldColumn}
use Rattle.tb_csv.specs.declared.field_type.FieldType.{FieldType}
use Rattle.tb_csv.specs.declared.lent.Fields.{Fields}
use Rattle.tb_csv.specs.declared.run.Run.{Run}
use Rattle.tb_csv.specs.declared.run.RunFields.{RunFields}
use Rattle.tb_csv.specs.declared.run.RunFields.TheVariants as held
use Rattle.tb_csv.specs.declared.run.TextFields.{TextFields}
use Rattle.tb_csv.specs.declared.lent.RunColumn.{RunColumn}
use Rattle.tb_csv.proofs.FieldWalks.{fault_over, fault_stays}
use Rattle.tb_csv.proofs.HeldColumns.{full_column, full_count}
use Rattle.tb_csv.proofs.RunWalks.{column_height}

and-false : (b : Bool) → (b && false) ≡ false
and-false true = refl
and-false false = refl

-- A RUN

pub part_height : (p : RunColumn) → length (part_fields p) ≡ p.run.now.height
part_height p = length-map-range_with_len {X = Field} (field_in p.width p.column p.run.now.fields) 0 p.run.now.height

pub part_at : (p : RunColumn) (i : ℕ) → i < p.run.now.height → get_or (part_fields p) i None ≡ field_in p.width p.column p.run.now.fields i
part_at p i low =
    let at : 0 + i ≡ i = omega arith in get_or-map-range_with_len (field_in p.width p.column p.run.now.fields) 0 p.run.now.height i i None low at

-- where fields stand row by row
pub text_at : (p : RunColumn) (t : TextFields) (i : ℕ) → p.run.now.fields ≡ held.Rows t → i < p.run.now.height
    → get_or (text_fields t) (i * p.width + p.column) None ≡ get_or (part_fields p) i None
text_at p t i is low = sym (part_at p i low ∙ ap (λ (fs : RunFields). field_in p.width p.column fs i) is)

-- where they stand column by column
module _ (p : RunColumn) (cs : Vec FieldColumn Global) (i : ℕ) (is : p.run.now.fields ≡ held.Columns cs) (low : i < p.run.now.height) where
  pub held_at : get_or (get_or (map held_fields cs.items) p.column []) i None ≡ get_or (part_fields p) i None
  held_at = sym (part_at p i low ∙ ap (λ (fs : RunFields). field_in p.width p.column fs i) is)

  full : HasFields p.width p.run.now.height (held.Columns cs)
  full = subst (HasFields p.width p.run.now.height) is p.full

  pub held_column : p.column < length cs.items
  held_column = omega (arith, p.within, full_count p.width p.run.now.height cs full)

  pub held_row : i < length (get_or (map held_fields cs.items) p.column [])
  held_row = omega (arith, low, full_column p.width p.run.now.height cs full p.column p.within)

-- THE RUNS

pub few_fields : (f : Fields) → length (fields_in f) ≤ MAX_ROWS
few_fields f =
    let level = f.level in
    omega (arith, column_height (length f.records.now.names.items) f.column f.records.now.runs.items, level.height, level.few)

module _ (w j : ℕ) (runs : List Run) (i : ℕ) (run : Run) (low : i < length runs) (at : run ≡ get_or runs i run) where
  pub column_more : flat_map (run_column w j) (take (i + 1) runs) ≡ flat_map (run_column w j) (take i runs) ++ run_column w j run
  column_more =
      ap (flat_map (run_column w j)) (take_more runs i run low ∙ ap (λ (r : Run). take i runs ++ r ∷ []) (sym at))
      ∙ flat_map-append (run_column w j) (take i runs) (run ∷ [])
      ∙ ap (λ (fs : List Field). flat_map (run_column w j) (take i runs) ++ fs) (append-nil (run_column w j run))

  pub column_left : flat_map (run_column w j) (drop i runs) ≡ run_column w j run ++ flat_map (run_column w j) (drop (i + 1) runs)
  column_left = ap (flat_map (run_column w j)) (drop_more runs i run low ∙ ap (λ (r : Run). r ∷ drop (i + 1) runs) (sym at))

  pub rows_more : rows_in (take (i + 1) runs) ≡ rows_in (take i runs) + run.height
  rows_more = sum_by_more (λ (r : Run). r.height) runs i run low ∙ ap (λ (r : Run). rows_in (take i runs) + r.height) (sym at)

  pub rows_fit : (f : Fields) → runs ≡ f.records.now.runs.items → rows_in (take i runs) + run.height ≤ MAX_ROWS
  rows_fit f is =
      let more : rows_in (take i runs) + run.height ≤ rows_in runs =
      subst (λ (r : Run). rows_in (take i runs) + r.height ≤ rows_in runs) (sym at) (sum_by_more_le (λ (r : Run). r.height) runs i run low) in
      let level = f.level in
      omega (arith, more, ap rows_in is, level.height, level.few)

  -- whether all fields are of a type
  pub run_passes : (t : FieldType) (fs : List Field) → fs ≡ run_column w j run → list_all (is_of t) fs ≡ true → list_all (is_of t) (flat_map (run_column w j) (take i runs)) ≡ true
      → list_all (is_of t) (flat_map (run_column w j) (take (i + 1) runs)) ≡ true
  run_passes t fs is all so_far =
      ap (list_all (is_of t)) column_more ∙ list_all-append (is_of t) (flat_map (run_column w j) (take i runs)) (run_column w j run) ∙ rw (so_far, sym is, all) refl

  pub run_fails : (t : FieldType) (fs : List Field) → fs ≡ run_column w j run → list_all (is_of t) fs ≡ false → list_all (is_of t) (flat_map (run_column w j) runs) ≡ false
  run_fails t fs is none =
      ap (λ (rs : List Run). list_all (is_of t) (flat_map (run_column w j) rs)) (sym (take-append-drop i runs))
      ∙ ap (list_all (is_of t)) (flat_map-append (run_column w j) (take i runs) (drop i runs) ∙ ap (λ (fs : List Field). flat_map (run_column w j) (take i runs) ++ fs) column_left)
      ∙ list_all-append (is_of t) (flat_map (run_column w j) (take i runs)) (run_column w j run ++ flat_map (run_column w j) (drop (i + 1) runs))
      ∙ ap (λ (b : Bool). list_all (is_of t) (flat_map (run_column w j) (take i runs)) && b)
      (list_all-append (is_of t) (run_column w j run) (flat_map (run_column w j) (drop (i + 1) runs)) ∙ rw (sym is, none) refl)
      ∙ and-false (list_all (is_of t) (flat_map (run_column w j) (take i runs)))

  -- the cells of one more run
  pub cells_over : (t : FieldType) (fs : List Field) (old new : List Datum) → fs ≡ run_column w j run → new ≡ old ++ map (cell_of t) fs
      → old ≡ map (cell_of t) (flat_map (run_column w j) (take i runs)) → new ≡ map (cell_of t) (flat_map (run_column w j) (take (i + 1) runs))
  cells_over t fs old new is push so_far =
      push ∙ ap (λ (l : List Datum). l ++ map (cell_of t) fs) so_far ∙ ap (λ (l : List Field). map (cell_of t) (flat_map (run_column w j) (take i runs)) ++ map (cell_of t) l) is
      ∙ sym (ap (map (cell_of t)) column_more ∙ map-append (cell_of t) (flat_map (run_column w j) (take i runs)) (run_column w j run))

  -- the fault of what is left behind one more run, and that of the run
  pub fault_next : (name : Name) (t : FieldType) (before : ℕ) (fs : List Field) (all : List Field) → fs ≡ run_column w j run → length fs ≡ run.height → column_fault name t (before + 1) fs ≡ None
      → column_fault name t 1 all ≡ column_fault name t (before + 1) (flat_map (run_column w j) (drop i runs))
      → column_fault name t 1 all ≡ column_fault name t ((before + run.height) + 1) (flat_map (run_column w j) (drop (i + 1) runs))
  fault_next name t before fs all is high none so_far =
      let rest = flat_map (run_column w j) (drop (i + 1) runs) in
      let at : (before + 1) + length fs ≡ (before + run.height) + 1 = omega (arith, high) in
      so_far ∙ ap (column_fault name t (before + 1)) (column_left ∙ ap (λ (l : List Field). l ++ rest) (sym is)) ∙ fault_over name t (before + 1) fs rest none
      ∙ ap (λ (k : ℕ). column_fault name t k rest) at

  pub fault_stops : (name : Name) (t : FieldType) (before : ℕ) (fs : List Field) (all : List Field) (e : CsvFault) → fs ≡ run_column w j run
      → (e ≡ OutOfMemory) ⊎ (column_fault name t (before + 1) fs ≡ Some e)
      → column_fault name t 1 all ≡ column_fault name t (before + 1) (flat_map (run_column w j) (drop i runs))
      → (e ≡ OutOfMemory) ⊎ (column_fault name t 1 all ≡ Some e)
  fault_stops name t before fs all e is (inl m) so_far = inl m
  fault_stops name t before fs all e is (inr h) so_far =
      let rest = flat_map (run_column w j) (drop (i + 1) runs) in
      inr (so_far ∙ ap (column_fault name t (before + 1)) (column_left ∙ ap (λ (l : List Field). l ++ rest) (sym is)) ∙ fault_stays name t (before + 1) fs rest e h)
