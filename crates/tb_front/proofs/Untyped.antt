-- Texts of which no type is given: each field is of the type of its column.
use Rattle.std.proofs.Common.{◌≡◌, ◌≢◌, ◌≤◌, ◌<◌, ◌+◌, ◌++◌, ◌∷◌, ◌∙◌, [], ℕ, zero, suc, List, Bool, true, false, Option, Some, None, length, map, min, refl, sym, ap, subst, arith, cond, drop, length-append}
use Rattle.std.specs.Prelude.{◌&&◌, option_map, position, slice_index_or}
use Rattle.std.specs.List.{All, AllPairs, find, flat_map, list_all, range_with_len}
use Rattle.std.proofs.lemmas.Bool.{lt-ltb}
use Rattle.std.proofs.lemmas.List.Folds.{list_all-append}
use Rattle.std.proofs.lemmas.List.Elements.{All-cons, All-head, All-nil, All-push, All-tail}
use Rattle.csv.specs.Machine.{Read, ends_at_end, field_after, fields_after, is_end, next_record, step}
use Rattle.csv.specs.Reading.{is_bom, records_from, records_next, strip_bom}
use Rattle.csv.specs.declared.parser.Action.{Action}
use Rattle.csv.specs.declared.parser.Action.TheVariants as act
use Rattle.csv.specs.declared.parser.Config.{Config}
use Rattle.csv.specs.declared.parser.State.{State}
use Rattle.csv.specs.declared.parser.State.TheVariants as st
use Rattle.tb_value.specs.Promise.Names.{Name, same_name}
use Rattle.tb_value.specs.Promise.Pairs.{row_numbers}
use Rattle.tb_value.specs.Promise.Refusals.{first_cause}
use Rattle.tb_frame.specs.Promise.Refusal.{name_at}
use Rattle.tb_csv.specs.Promise.Faults.{columns_fault, typed_fault, types_fault}
use Rattle.tb_csv.specs.Promise.Keys.{fields_named, told_key, told_of, types_with_keys}
use Rattle.tb_csv.specs.Promise.Records.{Field, Line, Record, column_fields, field, form, line_of, lines_of, marked_fields, marked_records, marks_of, records_of}
use Rattle.tb_csv.specs.Promise.Types.{column_type, is_of, or_string, or_told, told_type}
use Rattle.tb_csv.specs.declared.fault.CsvFault.{CsvFault}
use Rattle.tb_csv.specs.declared.field_type.FieldType.{FieldType}
use Rattle.tb_csv.specs.declared.field_type.FieldType.TheVariants as type
use Rattle.tb_csv.specs.declared.options.TypeOf.{TypeOf}
use Rattle.tb_frame.specs.Promise.Refusal.{first_repeated}
use Rattle.tb_frame.proofs.Causes.{distinct_names}
use Rattle.tb_csv.proofs.Causes.{none_later}
use Rattle.tb_csv.proofs.FieldWalks.{all_none}
use Rattle.tb_front.specs.Promise.Faults.{names_in}
use Rattle.tb_front.proofs.ToldAlike.{all_of, first_holds, same_is, same_place}
use Rattle.std.proofs.lemmas.List.Quantifiers.{position-Some}

-- HOW LONG A FIELD IS

module _ (n : ℕ) where
  abbrev Small : Line → Type 0
  Small fs = All (λ (f : List ℕ). length f ≤ n) fs

  small_fields : (a : Action) (fs : Line) (f : List ℕ) → Small fs → length f ≤ n → Small (fields_after a fs f)
  small_fields act.EndField fs f all less = All-push (λ (g : List ℕ). length g ≤ n) fs f all less
  small_fields act.Skip fs f all less = all
  small_fields act.Copy fs f all less = all
  small_fields act.EndRecord fs f all less = All-push (λ (g : List ℕ). length g ≤ n) fs f all less

  small_field : (a : Action) (c : ℕ) (f rest : List ℕ) → length f + suc (length rest) ≤ n → length (field_after a c f) + length rest ≤ n
  small_field act.Copy c f rest less = omega (arith, less, length-append f (c ∷ []))
  small_field act.EndField c f rest less = omega (arith, less)
  small_field act.Skip c f rest less = omega (arith, less)
  small_field act.EndRecord c f rest less = omega (arith, less)

  next_small : (cfg : Config) (xs : List ℕ) (s : State) (fs : Line) (f : List ℕ) → Small fs → length f + length xs ≤ n → (p : Read) → next_record cfg s fs f xs ≡ Some p
      → Small p.0 × (length p.2 ≤ length xs)
  unfolding next_record
  next_small cfg [] s fs f all less p e = at (ends_at_end s) e
    where
      at : (b : Bool) → cond b (Some (fs ++ (f ∷ []), st.StartRecord, [])) None ≡ Some p → Small p.0 × (length p.2 ≤ 0)
      at true h =
          let q : Read = (fs ++ (f ∷ []), st.StartRecord, []) in
          let same : q ≡ p = cc h in
          subst (λ (r : Read). Small r.0 × (length r.2 ≤ 0)) same (All-push (λ (g : List ℕ). length g ≤ n) fs f all (omega (arith, less)), omega arith)
      at false h = absurd (cc h)
  next_small cfg (c ∷ rest) s fs f all less p e =
      at (is_end (step cfg s c).1) e
      (next_small cfg rest (step cfg s c).0 (fields_after (step cfg s c).1 fs f) (field_after (step cfg s c).1 c f) (small_fields (step cfg s c).1 fs f all (omega (arith, less)))
      (small_field (step cfg s c).1 c f rest less) p)
    where
      a : Action
      a = (step cfg s c).1

      at : (b : Bool) → cond b (Some (fields_after a fs f, (step cfg s c).0, rest)) (next_record cfg (step cfg s c).0 (fields_after a fs f) (field_after a c f) rest) ≡ Some p
          → (next_record cfg (step cfg s c).0 (fields_after a fs f) (field_after a c f) rest ≡ Some p → Small p.0 × (length p.2 ≤ length rest))
          → Small p.0 × (length p.2 ≤ suc (length rest))
      at true h later =
          let q : Read = (fields_after a fs f, (step cfg s c).0, rest) in
          let same : q ≡ p = cc h in
          subst (λ (r : Read). Small r.0 × (length r.2 ≤ suc (length rest))) same (small_fields a fs f all (omega (arith, less)), omega arith)
      at false h later = let more = later h in (more.0, omega (arith, more.1))

  records_small : (cfg : Config) (turns : ℕ) (s : State) (xs : List ℕ) → length xs ≤ n → All Small (records_from cfg turns s xs)
  unfolding records_from
  records_small cfg zero s xs less = All-nil Small
  records_small cfg (suc turns) s xs less = at (next_record cfg s [] [] xs) refl (λ t ys few. records_small cfg turns t ys few)
    where
      at : (o : Option Read) → next_record cfg s [] [] xs ≡ o → ((t : State) (ys : List ℕ) → length ys ≤ n → All Small (records_from cfg turns t ys))
          → All Small (records_next (records_from cfg turns) o)
      at None is later = All-nil Small
      at (Some p) is later =
          let next = next_small cfg xs s [] [] (All-nil (λ (g : List ℕ). length g ≤ n)) (omega (arith, less)) p is in
          All-cons Small p.0 (records_from cfg turns p.1 p.2) next.0 (later p.1 p.2 (omega (arith, less, next.1)))

stripped : (xs : List ℕ) → length (strip_bom xs) ≤ length xs
unfolding strip_bom
stripped [] = omega arith
stripped (a ∷ []) = omega arith
stripped (a ∷ b ∷ []) = omega arith
stripped (a ∷ b ∷ c ∷ rest) = elim (is_bom a b c) as (λ (e : Bool). length (cond e rest (a ∷ b ∷ c ∷ rest)) ≤ length (a ∷ b ∷ c ∷ rest)) [ true ↦ omega arith | false ↦ omega arith ]

lines_small : (separator : ℕ) (text : List ℕ) → All (Small (length text)) (lines_of separator text)
unfolding lines_of
lines_small separator text = records_small (length text) (form separator) (length text + 1) st.StartRecord (strip_bom text) (stripped text)

-- FIELDS THAT ARE TEXTS

-- each field is a text that is not too long
abbrev AreTexts : List Field → Type 0
AreTexts fs = list_all (is_of type.String) fs ≡ true

text_field : (q : Bool) (s : List ℕ) → length s < 4294967296 → is_of type.String (field q s) ≡ true
text_field true [] short = refl
text_field false [] short = refl
text_field q (c ∷ cs) short = rw (lt-ltb (length (c ∷ cs)) 4294967296 short) refl

module _ (n : ℕ) (few : n < 4294967296) where
  text_line : (qs : List Bool) (l : Line) → Small n l → AreTexts (marked_fields qs l)
  text_line qs [] small = refl
  text_line [] (s ∷ ss) small =
      let less = All-head (λ (g : List ℕ). length g ≤ n) s ss small in
      rw (text_field false s (omega (arith, less, few))) (text_line [] ss (All-tail (λ (g : List ℕ). length g ≤ n) s ss small))
  text_line (q ∷ qs) (s ∷ ss) small =
      let less = All-head (λ (g : List ℕ). length g ≤ n) s ss small in
      rw (text_field q s (omega (arith, less, few))) (text_line qs ss (All-tail (λ (g : List ℕ). length g ≤ n) s ss small))

  text_records : (qs : List Bool) (ls : List Line) → All (Small n) ls → All AreTexts (marked_records qs ls)
  text_records qs [] small = All-nil AreTexts
  text_records qs (l ∷ ls) small =
      All-cons AreTexts (marked_fields qs l) (marked_records (drop (length l) qs) ls) (text_line qs l (All-head (Small n) l ls small)) (text_records (drop (length l) qs) ls (All-tail (Small n) l ls small))

-- the fields of a text of fewer than 2^32 bytes
pub all_texts : (separator : ℕ) (text : List ℕ) → length text < 4294967296 → All AreTexts (records_of separator text)
unfolding records_of
all_texts separator text few = text_records (length text) few (marks_of separator text) (lines_of separator text) (lines_small separator text)

both_true : (a b : Bool) → (a && b) ≡ true → (a ≡ true) × (b ≡ true)
both_true true true h = (refl, refl)
both_true true false h = absurd (cc h)
both_true false b h = absurd (cc h)

text_at : (r : Record) (j : ℕ) → AreTexts r → is_of type.String (slice_index_or r j None) ≡ true
text_at [] j all = refl
text_at (f ∷ fs) zero all = (both_true (is_of type.String f) (list_all (is_of type.String) fs) all).0
text_at (f ∷ fs) (suc j) all = text_at fs j (both_true (is_of type.String f) (list_all (is_of type.String) fs) all).1

text_column : (rows : List Record) (j : ℕ) → All AreTexts rows → AreTexts (column_fields rows j)
text_column [] j all = refl
text_column (r ∷ rs) j all = rw (text_at r j (All-head AreTexts r rs all)) (text_column rs j (All-tail AreTexts r rs all))

-- THE TYPE THAT FIELDS TELL

are : FieldType → List Field → Bool
are t fs = list_all (is_of t) fs

told_by : (fs : List Field) (a b c : Bool) → are type.Int64 fs ≡ a → are type.Boolean fs ≡ b → are type.Date fs ≡ c → are type.String fs ≡ true
    → are (or_string (cond a (Some type.Int64) (cond b (Some type.Boolean) (cond c (Some type.Date) None)))) fs ≡ true
told_by fs true b c whole truth day texts = whole
told_by fs false true c whole truth day texts = truth
told_by fs false false true whole truth day texts = day
told_by fs false false false whole truth day texts = texts

-- all fields are of the type that they tell
told_fits : (fs : List Field) → AreTexts fs → list_all (is_of (told_type fs)) fs ≡ true
unfolding are
told_fits fs texts = told_by fs (are type.Int64 fs) (are type.Boolean fs) (are type.Date fs) refl refl refl texts

-- THE TABLE OF SUCH A TEXT

none_all : (f : ℕ → Option CsvFault) (a n : ℕ) → ((i : ℕ) → a ≤ i → i < a + n → f i ≡ None) → first_cause (map f (range_with_len a n)) ≡ None
none_all f a zero h = refl
none_all f a (suc n) h =
    none_later (f a) (map f (range_with_len (a + 1) n)) (h a (omega arith) (omega arith)) (none_all f (a + 1) n (λ i low high. h i (omega (arith, low)) (omega (arith, high))))

fits : (types : List TypeOf) (names : List Name) (rows : List Record)
    → ((j : ℕ) → j < length names → list_all (is_of (column_type types (name_at names j) (column_fields rows j))) (column_fields rows j) ≡ true) → columns_fault types names rows ≡ None
fits types names rows h =
    none_all (typed_fault types names rows) 0 (length names)
    (λ j low high. all_none (name_at names j) (column_type types (name_at names j) (column_fields rows j)) 1 (column_fields rows j) (h j (omega (arith, high))))

-- by its own fields
pub alone : (rs : List Record) → All AreTexts rs → types_fault [] rs ≡ None
alone [] texts = refl
alone (names ∷ rows) texts = fits [] (line_of names) rows (λ j low. told_fits (column_fields rows j) (text_column rows j (All-tail AreTexts names rows texts)))

-- BESIDE ANOTHER TEXT

and_true : (a b : Bool) → a ≡ true → b ≡ true → (a && b) ≡ true
and_true a b h k = rw (h, k) refl

named_texts : (rs : List Record) (n : Name) (fs : List Field) → All AreTexts rs → fields_named rs n ≡ Some fs → AreTexts fs
named_texts [] n fs texts e = absurd (cc e)
named_texts (names ∷ rows) n fs texts e = at (position (λ m. same_name m n) (line_of names)) e
  where
    at : (o : Option ℕ) → option_map (column_fields rows) o ≡ Some fs → AreTexts fs
    at None found = absurd (cc found)
    at (Some p) found =
        let same : column_fields rows p ≡ fs = cc found in
        subst AreTexts same (text_column rows p (All-tail AreTexts names rows texts))

module _ (names : Record) (rows os : List Record) (on others : List Name) (apart : AllPairs (λ (a b : Name). a ≢ b) (line_of names))
    (texts : All AreTexts (names ∷ rows)) (beside : All AreTexts os) where
  -- all fields of the column of its name are of the type
  abbrev IsFit : TypeOf → Type 0
  IsFit t = (j : ℕ) → j < length (line_of names) → name_at (line_of names) j ≡ t.name → list_all (is_of t.field_type) (column_fields rows j) ≡ true

  one_place : (n : Name) (j : ℕ) (fs : List Field) → j < length (line_of names) → name_at (line_of names) j ≡ n → fields_named (names ∷ rows) n ≡ Some fs → fs ≡ column_fields rows j
  one_place n j fs low named e = at (position (λ m. same_name m n) (line_of names)) refl e
    where
      at : (o : Option ℕ) → position (λ m. same_name m n) (line_of names) ≡ o → option_map (column_fields rows) o ≡ Some fs → fs ≡ column_fields rows j
      at None is found = absurd (cc found)
      at (Some p) is found =
          let there = position-Some (λ m. same_name m n) (line_of names) p [] is in
          let same : column_fields rows p ≡ fs = cc found in
          let here : name_at (line_of names) p ≡ n = same_is (name_at (line_of names) p) n there.1 in
          sym same ∙ ap (column_fields rows) (same_place (line_of names) apart p j there.0 low (here ∙ sym named))

  fit_key : (i : ℕ) → All IsFit (told_key [] (names ∷ rows) os on others i)
  fit_key i = at (fields_named (names ∷ rows) (name_at on i)) (fields_named os (name_at others i)) refl refl
    where
      at : (o q : Option (List Field)) → fields_named (names ∷ rows) (name_at on i) ≡ o → fields_named os (name_at others i) ≡ q → All IsFit (told_of [] (name_at on i) (name_at others i) o q)
      at None q is too = All-nil IsFit
      at (Some fs) None is too = All-nil IsFit
      at (Some fs) (Some gs) is too =
          let t = told_type (fs ++ gs) in
          let all = told_fits (fs ++ gs) (list_all-append (is_of type.String) fs gs ∙ and_true _ _ (named_texts (names ∷ rows) (name_at on i) fs texts is) (named_texts os (name_at others i) gs beside too)) in
          let mine = both_true (list_all (is_of t) fs) (list_all (is_of t) gs) (sym (list_all-append (is_of t) fs gs) ∙ all) in
          All-cons IsFit _ [] (λ j small named. ap (list_all (is_of t)) (sym (one_place (name_at on i) j fs small named is)) ∙ mine.0) (All-nil IsFit)

  abbrev told : List TypeOf
  told = flat_map (told_key [] (names ∷ rows) os on others) (row_numbers (min (length on) (length others)))

  fit_told : All IsFit told
  fit_told = all_of IsFit (told_key [] (names ∷ rows) os on others) 0 (min (length on) (length others)) (λ i low high. fit_key i)

  fit_type : (j : ℕ) → j < length (line_of names) → (q : Option TypeOf) → find (λ (u : TypeOf). same_name u.name (name_at (line_of names) j)) told ≡ q
      → list_all (is_of (or_told (column_fields rows j) (option_map (λ (u : TypeOf). u.field_type) q))) (column_fields rows j) ≡ true
  fit_type j low None found = told_fits (column_fields rows j) (text_column rows j (All-tail AreTexts names rows texts))
  fit_type j low (Some t) found =
      let here = first_holds IsFit (λ (u : TypeOf). same_name u.name (name_at (line_of names) j)) told fit_told t found in
      here.0 j low (sym (same_is t.name (name_at (line_of names) j) here.1))

  fit_keys : types_fault (types_with_keys [] (names ∷ rows) os on others) (names ∷ rows) ≡ None
  unfolding types_with_keys
  fit_keys = fits told (line_of names) rows (λ j low. fit_type j low (find (λ (u : TypeOf). same_name u.name (name_at (line_of names) j)) told) refl)

-- by the types of its keys
pub keyed : (rs os : List Record) (on others : List Name) → first_repeated (names_in rs) ≡ None → All AreTexts rs → All AreTexts os → types_fault (types_with_keys [] rs os on others) rs ≡ None
keyed [] os on others apart texts beside = refl
keyed (names ∷ rows) os on others apart texts beside = fit_keys names rows os on others (distinct_names (line_of names) apart) texts beside

-- TEXTS THAT ARE LET GO

-- no fault at the types that its own fields tell
pub alone_told : (types : List TypeOf) (text : List ℕ) (separator : ℕ) → types ≡ [] → length text < 4294967296 → types_fault types (records_of separator text) ≡ None
alone_told types text separator untyped few =
    ap (λ (ts : List TypeOf). types_fault ts (records_of separator text)) untyped ∙ alone (records_of separator text) (all_texts separator text few)

-- nor at the types of its keys
pub keyed_told : (types : List TypeOf) (text others : List ℕ) (separator : ℕ) (on others_on : List Name) → first_repeated (names_in (records_of separator text)) ≡ None
    → types ≡ [] → length text < 4294967296 → length others < 4294967296
    → types_fault (types_with_keys types (records_of separator text) (records_of separator others) on others_on) (records_of separator text) ≡ None
keyed_told types text others separator on others_on apart untyped few beside =
    let rs = records_of separator text in
    let os = records_of separator others in
    ap (λ (ts : List TypeOf). types_fault (types_with_keys ts rs os on others_on) rs) untyped
    ∙ keyed rs os on others_on apart (all_texts separator text few) (all_texts separator others beside)
