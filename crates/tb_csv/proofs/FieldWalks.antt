-- Facts on the fields of a column.
use Rattle.std.proofs.Common.{◌≡◌, ◌<◌, ◌+◌, ◌∷◌, ◌++◌, ◌∙◌, [], ℕ, List, true, false, Option, Some, None, append_assoc, arith, option_map, length, map, take, drop, get_or, refl, sym, ap, inl, inr}
use Rattle.std.specs.Prelude.{Bool, is_some, nat_lt}
use Rattle.std.proofs.lemmas.Bool.{cases_Bool}
use Rattle.std.specs.List.{list_all}
use Rattle.std.proofs.lemmas.List.{at_drop_more, map-append, take_more}
use Rattle.std.proofs.lemmas.List.Folds.{list_all_at, list_all_more}
use Rattle.tb_value.specs.Promise.Datum.{Datum, string}
use Rattle.tb_value.specs.Promise.Names.{Name}
use Rattle.tb_chunk.specs.Chunk.{or_null}
use Rattle.tb_csv.specs.Promise.Faults.{column_fault}
use Rattle.tb_csv.specs.Promise.Records.{Field}
use Rattle.tb_csv.specs.Promise.Types.{cell_of, cell_value, is_of, told_type, value_or_null}
use Rattle.tb_csv.specs.declared.fault.CsvFault.{CsvFault}
use Rattle.tb_csv.specs.declared.fault.CsvFault.TheVariants.{NotOfType}
use Rattle.tb_csv.specs.declared.field_type.FieldType.{FieldType}
use Rattle.tb_csv.specs.declared.field_type.FieldType.TheVariants as field

-- a field that is read, and one that isn't
pub read_some : {N : Type 0} (f : N → Datum) (t : FieldType) (s : Field) (o : Option N) (c : N) → option_map f o ≡ cell_value t s → o ≡ Some c → (is_of t s ≡ true) × (cell_of t s ≡ f c)
read_some f t s None c e is = cc
read_some f t s (Some x) c e is = (rw (sym e) refl, rw (sym e) (ap (λ (o : Option _). value_or_null (option_map f o)) is))

pub read_none : {N : Type 0} (f : N → Datum) (t : FieldType) (s : Field) (o : Option N) → option_map f o ≡ cell_value t s → o ≡ None → is_of t s ≡ false
read_none f t s None e is = rw (sym e) refl
read_none f t s (Some x) e is = cc

pub read_is : {N : Type 0} (f : N → Datum) (t : FieldType) (s : Field) (o : Option N) → option_map f o ≡ cell_value t s → is_of t s ≡ is_some o
read_is f t s None e = rw (sym e) refl
read_is f t s (Some x) e = rw (sym e) refl

pub fault_here : (name : Name) (t : FieldType) (n : ℕ) (fs : List Field) (i : ℕ) (f : Field) → i < length fs → f ≡ get_or fs i None
    → is_of t f ≡ false → column_fault name t n (drop i fs) ≡ Some (NotOfType n name t)
fault_here name t n fs i f h at e = at_drop_more (λ xs. column_fault name t n xs) fs i None h ∙ rw (sym at, e) refl

pub fault_more : (name : Name) (t : FieldType) (n : ℕ) (fs : List Field) (i : ℕ) (f : Field) → i < length fs → f ≡ get_or fs i None
    → is_of t f ≡ true → column_fault name t n (drop i fs) ≡ column_fault name t (n + 1) (drop (i + 1) fs)
fault_more name t n fs i f h at e = at_drop_more (λ xs. column_fault name t n xs) fs i None h ∙ rw (sym at, e) refl

pub all_more : (t : FieldType) (fs : List Field) (i : ℕ) (f : Field) → i < length fs → f ≡ get_or fs i None
    → is_of t f ≡ true → list_all (is_of t) (take i fs) ≡ true → list_all (is_of t) (take (i + 1) fs) ≡ true
all_more t fs i f h at e all = list_all_more (is_of t) fs i None h ∙ rw (sym at, e, all) refl

pub all_fails : (t : FieldType) (fs : List Field) (i : ℕ) (f : Field) → i < length fs → f ≡ get_or fs i None
    → is_of t f ≡ false → list_all (is_of t) fs ≡ false
all_fails t fs i f h at e = list_all_at (is_of t) fs i None h (ap (is_of t) (sym at) ∙ e)

pub cells_more : {N : Type 0} (f : N → Datum) (t : FieldType) (fs : List Field) (i : ℕ) (field : Field) (first : List Datum) (cells : List (Option N)) (c : Option N) → i < length fs
    → field ≡ get_or fs i None → cell_of t field ≡ or_null f c → map (or_null f) cells ≡ first ++ map (cell_of t) (take i fs)
    → map (or_null f) (cells ++ c ∷ []) ≡ first ++ map (cell_of t) (take (i + 1) fs)
cells_more f t fs i field first cells c h at e so_far =
    let grown : take (i + 1) fs ≡ take i fs ++ field ∷ [] = take_more fs i None h ∙ ap (λ (x : Field). take i fs ++ x ∷ []) (sym at) in
    map-append (or_null f) cells (c ∷ []) ∙ ap (λ (d : Datum). map (or_null f) cells ++ d ∷ []) (sym e)
    ∙ ap (λ (l : List Datum). l ++ cell_of t field ∷ []) so_far ∙ append_assoc first (map (cell_of t) (take i fs)) (cell_of t field ∷ [])
    ∙ ap (λ (l : List Datum). first ++ l) (sym (ap (map (cell_of t)) grown ∙ map-append (cell_of t) (take i fs) (field ∷ [])))

-- FIELDS BEHIND OTHERS

fault_over-by : (name : Name) (t : FieldType) (n : ℕ) (f : Field) (xs ys : List Field) (b : Bool) → is_of t f ≡ b → column_fault name t n (f ∷ xs) ≡ None
    → (column_fault name t (n + 1) xs ≡ None → column_fault name t (n + 1) (xs ++ ys) ≡ column_fault name t ((n + 1) + length xs) ys)
    → column_fault name t n (f ∷ (xs ++ ys)) ≡ column_fault name t (n + length (f ∷ xs)) ys
fault_over-by name t n f xs ys true is h rest =
    let at : (n + 1) + length xs ≡ n + length (f ∷ xs) = omega arith in
    rw is (rest (rw is at h)) ∙ ap (λ (k : ℕ). column_fault name t k ys) at
fault_over-by name t n f xs ys false is h rest = let no = rw is at h in cc no

-- behind fields of the type the fault is that of the others
pub fault_over : (name : Name) (t : FieldType) (n : ℕ) (xs ys : List Field) → column_fault name t n xs ≡ None
    → column_fault name t n (xs ++ ys) ≡ column_fault name t (n + length xs) ys
fault_over name t n [] ys h =
    let at : n ≡ n + length {A = Field} [] = omega arith in ap (λ (k : ℕ). column_fault name t k ys) at
fault_over name t n (f ∷ xs) ys h = fault_over-by name t n f xs ys (is_of t f) refl h (fault_over name t (n + 1) xs ys)

fault_stays-by : (name : Name) (t : FieldType) (n : ℕ) (f : Field) (xs ys : List Field) (e : CsvFault) (b : Bool) → is_of t f ≡ b → column_fault name t n (f ∷ xs) ≡ Some e
    → (column_fault name t (n + 1) xs ≡ Some e → column_fault name t (n + 1) (xs ++ ys) ≡ Some e) → column_fault name t n (f ∷ (xs ++ ys)) ≡ Some e
fault_stays-by name t n f xs ys e true is h rest = rw is (rest (rw is at h))
fault_stays-by name t n f xs ys e false is h rest = rw is (rw is at h)

-- a fault is that of all fields, whatever stands behind
pub fault_stays : (name : Name) (t : FieldType) (n : ℕ) (xs ys : List Field) (e : CsvFault) → column_fault name t n xs ≡ Some e → column_fault name t n (xs ++ ys) ≡ Some e
fault_stays name t n [] ys e h = cc h
fault_stays name t n (f ∷ xs) ys e h = fault_stays-by name t n f xs ys e (is_of t f) refl h (fault_stays name t (n + 1) xs ys e)

-- TEXTS

-- a text that a chunk can hold is its own cell
pub text_held : (s : Field) → is_of field.String s ≡ true → cell_of field.String s ≡ or_null string s
text_held None h = refl
text_held (Some []) h = refl
text_held (Some (c ∷ cs)) h = elim (cases_Bool (nat_lt (length (c ∷ cs)) 4294967296)) [
  | inl short ↦ rw short refl
  | inr long ↦ cc (rw long at h)
]

-- THE FIRST FIELD THAT IS NONE OF THE TYPE

-- there is none where all fields are of the type
fault_none-by : (name : Name) (t : FieldType) (i : ℕ) (f : Field) (fs : List Field) (b : Bool) → is_of t f ≡ b → column_fault name t i (f ∷ fs) ≡ None
    → (column_fault name t (i + 1) fs ≡ None → list_all (is_of t) fs ≡ true) → list_all (is_of t) (f ∷ fs) ≡ true
fault_none-by name t i f fs true is h rest = rw is (rest (rw is at h))
fault_none-by name t i f fs false is h rest = let no = rw is at h in cc no

pub fault_none : (name : Name) (t : FieldType) (i : ℕ) (fs : List Field) → column_fault name t i fs ≡ None → list_all (is_of t) fs ≡ true
fault_none name t i [] h = refl
fault_none name t i (f ∷ fs) h = fault_none-by name t i f fs (is_of t f) refl h (fault_none name t (i + 1) fs)

none_all-by : (name : Name) (t : FieldType) (i : ℕ) (f : Field) (fs : List Field) (b : Bool) → is_of t f ≡ b → list_all (is_of t) (f ∷ fs) ≡ true
    → (list_all (is_of t) fs ≡ true → column_fault name t (i + 1) fs ≡ None) → column_fault name t i (f ∷ fs) ≡ None
none_all-by name t i f fs true is h rest = rw is (rest (rw is at h))
none_all-by name t i f fs false is h rest = let no = rw is at h in cc no

pub all_none : (name : Name) (t : FieldType) (i : ℕ) (fs : List Field) → list_all (is_of t) fs ≡ true → column_fault name t i fs ≡ None
all_none name t i [] h = refl
all_none name t i (f ∷ fs) h = none_all-by name t i f fs (is_of t f) refl h (all_none name t (i + 1) fs)

-- and else one of them is not
fault_some-by : (name : Name) (t : FieldType) (i : ℕ) (f : Field) (fs : List Field) (e : CsvFault) (b : Bool) → is_of t f ≡ b → column_fault name t i (f ∷ fs) ≡ Some e
    → (column_fault name t (i + 1) fs ≡ Some e → list_all (is_of t) fs ≡ false) → list_all (is_of t) (f ∷ fs) ≡ false
fault_some-by name t i f fs e true is h rest = rw is (rest (rw is at h))
fault_some-by name t i f fs e false is h rest = rw is refl

pub fault_some : (name : Name) (t : FieldType) (i : ℕ) (fs : List Field) (e : CsvFault) → column_fault name t i fs ≡ Some e → list_all (is_of t) fs ≡ false
fault_some name t i [] e h = cc h
fault_some name t i (f ∷ fs) e h = fault_some-by name t i f fs e (is_of t f) refl h (fault_some name t (i + 1) fs e)

-- whole numbers are told first
pub told_numbers : (fs : List Field) → list_all (is_of field.Int64) fs ≡ true → told_type fs ≡ field.Int64
told_numbers fs all = rw all refl
