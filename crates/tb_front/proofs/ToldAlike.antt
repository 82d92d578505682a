-- Keys whose columns are of one type by themselves.
use Rattle.std.proofs.Common.{◌≡◌, ◌≢◌, ◌≤◌, ◌<◌, ◌+◌, ◌++◌, ◌∷◌, ◌∙◌, [], ℕ, zero, suc, List, Bool, true, false, Option, Some, None, length, map, min, get_or, refl, sym, ap, subst, arith, cond}
use Rattle.std.specs.Prelude.{◌&&◌, option_map, position}
use Rattle.std.specs.List.{All, AllPairs, find, flat_map, list_all, range_with_len}
use Rattle.std.proofs.lemmas.List.{get_or-map, length-map}
use Rattle.std.proofs.lemmas.List.Folds.{list_all-append}
use Rattle.std.proofs.lemmas.List.Elements.{All-append, All-cons, All-head, All-nil, All-tail}
use Rattle.std.proofs.lemmas.List.FromFn.{get_or-range_with_len, length-range_with_len}
use Rattle.std.proofs.lemmas.List.Quantifiers.{position-Some}
use Rattle.std.proofs.lemmas.Slice.Eq.{bytes_eq-Decides}
use Rattle.tb_value.specs.Promise.Kind.{Kind}
use Rattle.tb_value.specs.Promise.Names.{Name, same_name}
use Rattle.tb_value.specs.Promise.Pairs.{row_numbers}
use Rattle.tb_value.specs.Promise.Refusals.{first_cause}
use Rattle.tb_frame.specs.Promise.Join.{column_named}
use Rattle.tb_frame.specs.Promise.Refusal.{name_at}
use Rattle.tb_frame.specs.Promise.Table.{Table, TableColumn}
use Rattle.tb_csv.specs.Promise.Faults.{column_fault, types_fault}
use Rattle.tb_csv.specs.Promise.Keys.{fields_named, key_type, told_key, told_of, types_with_keys}
use Rattle.tb_csv.specs.Promise.Records.{Field, Record, column_fields, line_of}
use Rattle.tb_csv.specs.Promise.Tables.{csv_column, csv_columns, csv_table, typed_column}
use Rattle.tb_csv.specs.Promise.Texts.{field_type}
use Rattle.tb_csv.specs.Promise.Types.{column_type, given_type, is_of, kind_at, or_string, or_told, told_type}
use Rattle.tb_csv.specs.declared.field_type.FieldType.{FieldType}
use Rattle.tb_csv.specs.declared.field_type.FieldType.TheVariants as field
use Rattle.tb_csv.specs.declared.options.TypeOf.{TypeOf}

-- THE TYPE OF A KEY

-- the type that three tests tell
abbrev told_by : Bool → Bool → Bool → FieldType
told_by a b c = or_string (cond a (Some field.Int64) (cond b (Some field.Boolean) (cond c (Some field.Date) None)))

told_both : (a b c x y z : Bool) → told_by a b c ≡ told_by x y z → told_by (a && x) (b && y) (c && z) ≡ told_by a b c
told_both true b c true y z e = refl
told_both true b c false true z e = absurd (cc e)
told_both true b c false false true e = absurd (cc e)
told_both true b c false false false e = absurd (cc e)
told_both false true c true y z e = absurd (cc e)
told_both false true c false true z e = refl
told_both false true c false false true e = absurd (cc e)
told_both false true c false false false e = absurd (cc e)
told_both false false true true y z e = absurd (cc e)
told_both false false true false true z e = absurd (cc e)
told_both false false true false false true e = refl
told_both false false true false false false e = absurd (cc e)
told_both false false false true y z e = absurd (cc e)
told_both false false false false true z e = absurd (cc e)
told_both false false false false false true e = absurd (cc e)
told_both false false false false false false e = refl

are : FieldType → List Field → Bool
are t fs = list_all (is_of t) fs

together : (fs gs : List Field) → told_type fs ≡ told_type gs → told_type (fs ++ gs) ≡ told_type fs
unfolding are
together fs gs e =
    (λ i. told_by (list_all-append (is_of field.Int64) fs gs i) (list_all-append (is_of field.Boolean) fs gs i) (list_all-append (is_of field.Date) fs gs i))
    ∙ told_both (are field.Int64 fs) (are field.Boolean fs) (are field.Date fs) (are field.Int64 gs) (are field.Boolean gs) (are field.Date gs) e

-- where the key beside it has the same type by its own text, a key has the type that it has by its own
key_alone : (given beside : Option FieldType) (fs gs : List Field) → or_told fs given ≡ or_told gs beside → key_type given beside fs gs ≡ or_told fs given
key_alone (Some t) beside fs gs e = refl
key_alone None (Some t) fs gs e = elim (list_all (is_of t) fs) as (λ b. cond b t (told_type fs) ≡ told_type fs) [ true ↦ sym e | false ↦ refl ]
key_alone None None fs gs e = together fs gs e

-- THE FIRST OF A NAME

first_at : {X : Type 0} (p : X → Bool) (xs : List X) (i : ℕ) (d : X) → i < length xs → p (get_or xs i d) ≡ true → ((k : ℕ) → k < i → p (get_or xs k d) ≡ false) → find p xs ≡ Some (get_or xs i d)
first_at p [] i d low here before = absurd (omega (arith, low))
first_at p (x ∷ xs) zero d low here before = rw here refl
first_at p (x ∷ xs) (suc i) d low here before = rw (before zero (omega arith)) (first_at p xs i d (omega (arith, low)) here (λ k less. before (suc k) (omega (arith, less))))

-- what holds of all holds of the first that passes, which passes
pub first_holds : {X : Type 0} (P : X → Type 0) (p : X → Bool) (xs : List X) → All P xs → (x : X) → find p xs ≡ Some x → P x × (p x ≡ true)
first_holds P p [] h x e = absurd (cc e)
first_holds {X} P p (y ∷ ys) h x e = at (p y) refl e (first_holds P p ys (All-tail P y ys h) x)
  where
    at : (b : Bool) → p y ≡ b → cond b (Some y) (find p ys) ≡ Some x → (find p ys ≡ Some x → P x × (p x ≡ true)) → P x × (p x ≡ true)
    at true is found rest = let same : y ≡ x = cc found in (subst P same (All-head P y ys h), subst (λ z. p z ≡ true) same is)
    at false is found rest = rest found

-- the type that is given for a name by the first of two lists, and else by the second
given_by : (a b : Option FieldType) → Option FieldType
given_by (Some t) b = Some t
given_by None b = b

given_front : (types more : List TypeOf) (n : Name) → given_type (types ++ more) n ≡ given_by (given_type types n) (given_type more n)
unfolding given_by
given_front [] more n = refl
given_front (t ∷ ts) more n = at (same_name t.name n) (given_front ts more n)
  where
    at : (b : Bool) → given_type (ts ++ more) n ≡ given_by (given_type ts n) (given_type more n) → option_map (λ (u : TypeOf). u.field_type) (cond b (Some t) (find (λ (u : TypeOf). same_name u.name n) (ts ++ more)))
        ≡ given_by (option_map (λ (u : TypeOf). u.field_type) (cond b (Some t) (find (λ (u : TypeOf). same_name u.name n) ts))) (given_type more n)
    at true rest = refl
    at false rest = rest

-- COLUMNS OF A NAME

pub same_is : (m n : Name) → same_name m n ≡ true → m ≡ n
same_is m n h = (bytes_eq-Decides m n).0 h

numbered : (n i : ℕ) → i < n → get_or (row_numbers n) i 0 ≡ i
numbered n i low = get_or-range_with_len 0 n i 0 low ∙ omega arith

column_at : (types : List TypeOf) (names : List Name) (rows : List Record) (i : ℕ) (d : TableColumn) → i < length names → get_or (csv_columns types names rows) i d ≡ csv_column types names rows i
column_at types names rows i d low =
    get_or-map (csv_column types names rows) (row_numbers (length names)) i 0 d (omega (arith, length-range_with_len 0 (length names), low))
    ∙ ap (csv_column types names rows) (numbered (length names) i low)

-- the column of a name is at the place of the name
named_at : (types : List TypeOf) (names : List Name) (rows : List Record) (n : Name) (p : ℕ) → position (λ m. same_name m n) names ≡ Some p
    → (p < length names) × (name_at names p ≡ n) × (column_named (csv_columns types names rows) n ≡ Some (csv_column types names rows p))
named_at types names rows n p found =
    let is = position-Some (λ m. same_name m n) names p [] found in
    let long : length (csv_columns types names rows) ≡ length names = length-map (row_numbers (length names)) (csv_column types names rows) ∙ length-range_with_len 0 (length names) in
    let c = csv_column types names rows p in
    let by : TableColumn → Bool = λ (k : TableColumn). same_name k.name n in
    let first = first_at by (csv_columns types names rows) p c (omega (arith, long, is.0))
    (ap by (column_at types names rows p c is.0) ∙ is.1)
    (λ k less. ap by (column_at types names rows k c (omega (arith, is.0, less))) ∙ is.2 k less) in
    (is.0, same_is (name_at names p) n is.1, first ∙ ap Some (column_at types names rows p c is.0))

-- the type that is read from the type of a column is its own
type_back : (t : FieldType) → or_string (field_type (kind_at t)) ≡ t
type_back field.Boolean = refl
type_back field.Int8 = refl
type_back field.Int16 = refl
type_back field.Int32 = refl
type_back field.Int64 = refl
type_back field.Int128 = refl
type_back field.UInt8 = refl
type_back field.UInt16 = refl
type_back field.UInt32 = refl
type_back field.UInt64 = refl
type_back field.String = refl
type_back field.Date = refl

same_types : (t u : FieldType) → kind_at t ≡ kind_at u → t ≡ u
same_types t u e = sym (type_back t) ∙ ap (λ k. or_string (field_type k)) e ∙ type_back u

-- the type of the column of a name
abbrev pub kind_named : Table → Name → Option Kind
kind_named t n = option_map (λ (c : TableColumn). c.kind) (column_named t n)

typed_named : (types : List TypeOf) (rs : List Record) (n : Name) (fs : List Field) → fields_named rs n ≡ Some fs → kind_named (csv_table types rs) n ≡ Some (kind_at (column_type types n fs))
typed_named types [] n fs e = absurd (cc e)
typed_named types (names ∷ rows) n fs e = at (position (λ m. same_name m n) (line_of names)) refl e
  where
    at : (o : Option ℕ) → position (λ m. same_name m n) (line_of names) ≡ o → option_map (column_fields rows) o ≡ Some fs → kind_named (csv_table types (names ∷ rows)) n ≡ Some (kind_at (column_type types n fs))
    at None is found = absurd (cc found)
    at (Some p) is found =
        let there = named_at types (line_of names) rows n p is in
        let same : column_fields rows p ≡ fs = cc found in
        ap (option_map (λ (c : TableColumn). c.kind)) there.2 ∙ (λ i. Some (kind_at (column_type types (there.1 i) (same i))))

pub same_place : (names : List Name) → AllPairs (λ (a b : Name). a ≢ b) names → (p j : ℕ) → p < length names → j < length names → name_at names p ≡ name_at names j → p ≡ j
same_place [] apart p j low high e = absurd (omega (arith, low))
same_place (n ∷ ns) apart zero zero low high e = refl
same_place (n ∷ ns) apart zero (suc j) low high e = absurd (apart zero (suc j) [] (omega arith) high e)
same_place (n ∷ ns) apart (suc p) zero low high e = absurd (apart zero (suc p) [] (omega arith) low (sym e))
same_place (n ∷ ns) apart (suc p) (suc j) low high e =
    ap (λ (k : ℕ). suc k) (same_place ns (λ a b d less within. apart (suc a) (suc b) d (omega (arith, less)) (omega (arith, within))) p j (omega (arith, low)) (omega (arith, high)) e)

-- ALL KEYS

-- the keys of these names are of the same types in both tables, where both are columns
abbrev pub Agree : Table → Table → List Name → List Name → Type 0
Agree l r on others = (i : ℕ) (t u : Kind) → i < min (length on) (length others) → kind_named l (name_at on i) ≡ Some t → kind_named r (name_at others i) ≡ Some u → t ≡ u

pub all_of : {X : Type 0} (P : X → Type 0) (f : ℕ → List X) (a n : ℕ) → ((i : ℕ) → a ≤ i → i < a + n → All P (f i)) → All P (flat_map f (range_with_len a n))
all_of P f a zero h = All-nil P
all_of P f a (suc n) h =
    All-append P (f a) (flat_map f (range_with_len (a + 1) n)) (h a (omega arith) (omega arith)) (all_of P f (a + 1) n (λ i low high. h i (omega (arith, low)) (omega (arith, high))))

same_in : {X : Type 0} (f g : ℕ → X) (a n : ℕ) → ((i : ℕ) → a ≤ i → i < a + n → f i ≡ g i) → map f (range_with_len a n) ≡ map g (range_with_len a n)
same_in f g a zero h = refl
same_in f g a (suc n) h = λ t. h a (omega arith) (omega arith) t ∷ same_in f g (a + 1) n (λ i low high. h i (omega (arith, low)) (omega (arith, high))) t

module _ (types : List TypeOf) (names : Record) (rows os : List Record) (on others : List Name)
    (apart : AllPairs (λ (a b : Name). a ≢ b) (line_of names)) (agree : Agree (csv_table types (names ∷ rows)) (csv_table types os) on others) where
  -- the type is the one that the column of its name has by its own text
  abbrev IsOwn : TypeOf → Type 0
  IsOwn t = (j : ℕ) → j < length (line_of names) → name_at (line_of names) j ≡ t.name → t.field_type ≡ column_type types t.name (column_fields rows j)

  one_place : (n : Name) (j : ℕ) (fs : List Field) → j < length (line_of names) → name_at (line_of names) j ≡ n → fields_named (names ∷ rows) n ≡ Some fs → fs ≡ column_fields rows j
  one_place n j fs low named e = at (position (λ m. same_name m n) (line_of names)) refl e
    where
      at : (o : Option ℕ) → position (λ m. same_name m n) (line_of names) ≡ o → option_map (column_fields rows) o ≡ Some fs → fs ≡ column_fields rows j
      at None is found = absurd (cc found)
      at (Some p) is found =
          let there = named_at types (line_of names) rows n p is in
          let same : column_fields rows p ≡ fs = cc found in
          sym same ∙ ap (column_fields rows) (same_place (line_of names) apart p j there.0 low (there.1 ∙ sym named))

  own_key : (i : ℕ) → i < min (length on) (length others) → All IsOwn (told_key types (names ∷ rows) os on others i)
  own_key i low = at (fields_named (names ∷ rows) (name_at on i)) (fields_named os (name_at others i)) refl refl
    where
      at : (o q : Option (List Field)) → fields_named (names ∷ rows) (name_at on i) ≡ o → fields_named os (name_at others i) ≡ q → All IsOwn (told_of types (name_at on i) (name_at others i) o q)
      at None q is too = All-nil IsOwn
      at (Some fs) None is too = All-nil IsOwn
      at (Some fs) (Some gs) is too =
          let n = name_at on i in
          let m = name_at others i in
          let kinds : kind_at (column_type types n fs) ≡ kind_at (column_type types m gs) = agree i _ _ low (typed_named types (names ∷ rows) n fs is) (typed_named types os m gs too) in
          let alone = key_alone (given_type types n) (given_type types m) fs gs (same_types _ _ kinds) in
          All-cons IsOwn _ [] (λ j small named. alone ∙ ap (λ x. column_type types n x) (one_place n j fs small named is)) (All-nil IsOwn)

  abbrev told : List TypeOf
  told = flat_map (told_key types (names ∷ rows) os on others) (row_numbers (min (length on) (length others)))

  owns : All IsOwn told
  owns = all_of IsOwn (told_key types (names ∷ rows) os on others) 0 (min (length on) (length others)) (λ i low high. own_key i (omega (arith, high)))

  own_type : (j : ℕ) → j < length (line_of names)
      → column_type (types_with_keys types (names ∷ rows) os on others) (name_at (line_of names) j) (column_fields rows j) ≡ column_type types (name_at (line_of names) j) (column_fields rows j)
  unfolding types_with_keys given_by
  own_type j low = ap (or_told fs) (given_front types told n) ∙ at (given_type types n) refl
    where
      n : Name
      n = name_at (line_of names) j

      fs : List Field
      fs = column_fields rows j

      later : (q : Option TypeOf) → find (λ (u : TypeOf). same_name u.name n) told ≡ q → given_type types n ≡ None → or_told fs (option_map (λ (u : TypeOf). u.field_type) q) ≡ told_type fs
      later None found is = refl
      later (Some t) found is =
          let here = first_holds IsOwn (λ (u : TypeOf). same_name u.name n) told owns t found in
          let named : t.name ≡ n = same_is t.name n here.1 in
          here.0 j low (sym named) ∙ ap (λ m. column_type types m fs) named ∙ ap (or_told fs) is

      at : (o : Option FieldType) → given_type types n ≡ o → or_told fs (given_by o (given_type told n)) ≡ or_told fs o
      at (Some t) is = refl
      at None is = later (find (λ (u : TypeOf). same_name u.name n) told) refl is

  pub own_table : csv_table (types_with_keys types (names ∷ rows) os on others) (names ∷ rows) ≡ csv_table types (names ∷ rows)
  own_table = same_in _ _ 0 (length (line_of names)) (λ j low high. λ i. typed_column (name_at (line_of names) j) (own_type j (omega (arith, high)) i) (column_fields rows j))

  pub own_faults : types_fault (types_with_keys types (names ∷ rows) os on others) (names ∷ rows) ≡ types_fault types (names ∷ rows)
  own_faults = ap first_cause (same_in _ _ 0 (length (line_of names)) (λ j low high. λ i. column_fault (name_at (line_of names) j) (own_type j (omega (arith, high)) i) 1 (column_fields rows j)))
