-- Columns of runs that are put together.
use Rattle.std.proofs.Common.{◌≡◌, ◌≢◌, ◌<◌, ◌≤◌, ◌==◌, ◌+◌, ◌/◌, ◌%◌, ◌++◌, ◌∷◌, ◌∙◌, [], ℕ, zero, suc, ℤ, pos, negsuc, List, Option, None, Some, Vec, Global, false, append-nil, append_assoc, arith, drop, get_or, inl, inr, length, length-append, map, refl, replicate, set, subst, sym, take, ap}
use Rattle.std.specs.Fmt.{decimal, digit_glyph, digits, digits_onto, signed_decimal}
use Rattle.std.proofs.lemmas.Bool.{cases_Bool, cases_lt}
use Rattle.std.proofs.lemmas.Grind.{get_or-set_at}
use Rattle.std.proofs.lemmas.List.{drop_all, ext_get_or, get_or-map, get_or-replicate, get_or-set_other, get_or_past, length-map, length-replicate, length-set, map-append, map-set, map_push, take_all, take_more}
use Rattle.std.proofs.lemmas.List.Elements.{All-append}
use Rattle.std.proofs.lemmas.List.FromFn.{fill_by_all}
use Rattle.csv.specs.Records.{fields_of}
use Rattle.tb_value.proofs.Loops.{map-map}
use Rattle.tb_value.specs.Promise.Datum.{int}
use Rattle.tb_chunk.specs.Chunk.{or_null}
use Rattle.tb_csv.specs.Numbers.{number_field}
use Rattle.tb_csv.specs.Promise.Records.{Field, Line, Record, bytes_of, field}
use Rattle.tb_csv.specs.Read.{AreAppended, AreRunRows, HasFields, bare_fields, column_in, held_fields}
use Rattle.tb_csv.specs.declared.field_column.FieldColumn.{FieldColumn}
use Rattle.tb_csv.specs.declared.field_column.FieldColumn.TheVariants as stored
use Rattle.tb_csv.specs.declared.numbers.Numbers.TheVariants as numbers
use Rattle.tb_csv.specs.declared.run.RunFields.TheVariants as held
use Rattle.tb_csv.proofs.HeldColumns.{full_column, full_count}

-- FIELDS AS TEXTS

more_digits : (k n : ℕ) (ds : List ℕ) → 0 < length ds → 0 < length (digits_onto k 10 false n ds)
more_digits zero n ds some = some
more_digits (suc k) n ds some =
    let more : 0 < length (digit_glyph false (n % 10) ∷ ds) = omega arith in
    elim (cases_Bool (n / 10 == 0)) [ inl end ↦ rw end more | inr on ↦ rw on (more_digits k (n / 10) (digit_glyph false (n % 10) ∷ ds) more) ]

some_digits : (k n : ℕ) → 0 < length (digits_onto (suc k) 10 false n [])
some_digits k n =
    let more : 0 < length (digit_glyph false (n % 10) ∷ []) = omega arith in
    elim (cases_Bool (n / 10 == 0)) [ inl end ↦ rw end more | inr on ↦ rw on (more_digits k (n / 10) (digit_glyph false (n % 10) ∷ []) more) ]

decimal_some : (n : ℕ) → 0 < length (decimal n)
unfolding digits
decimal_some n = some_digits 63 n

signed_some : (z : ℤ) → 0 < length (signed_decimal z)
signed_some (pos n) = decimal_some n
signed_some (negsuc n) = omega arith

-- the field that is kept by the bytes of one
abbrev again : Field → Field
again f = field false (bytes_of f)

kept : (s : List ℕ) → 0 < length s → again (Some s) ≡ Some s
kept [] some = absurd (omega (arith, some))
kept (c ∷ cs) some = refl

number_again : (n : Option ℤ) → again (number_field (or_null int n)) ≡ number_field (or_null int n)
number_again None = refl
number_again (Some z) = kept (signed_decimal z) (signed_some z)

numbers_again : (ns : List (Option ℤ)) → map again (map number_field (map (or_null int) ns)) ≡ map number_field (map (or_null int) ns)
numbers_again [] = refl
numbers_again (n ∷ ns) = ap (λ (f : Field). f ∷ map again (map number_field (map (or_null int) ns))) (number_again n) ∙ ap (λ (fs : List Field). number_field (or_null int n) ∷ fs) (numbers_again ns)

bare_again : (s : List ℕ) → again (field false s) ≡ field false s
bare_again [] = refl
bare_again (c ∷ cs) = refl

texts_again : (l : Line) → map again (bare_fields l) ≡ bare_fields l
texts_again [] = refl
texts_again (s ∷ ss) = ap (λ (f : Field). f ∷ map again (bare_fields ss)) (bare_again s) ∙ ap (λ (fs : List Field). field false s ∷ fs) (texts_again ss)

held_again : (c : FieldColumn) → map again (held_fields c) ≡ held_fields c
held_again (stored.Numbers (numbers.Narrow cells)) = numbers_again cells
held_again (stored.Numbers (numbers.Wide cells)) = numbers_again cells
held_again (stored.Texts r) = texts_again (fields_of r)

-- a field of a column is what its bytes are, where they stand in no quotes
pub again_at : (c : FieldColumn) (i : ℕ) → i < length (held_fields c) → field false (bytes_of (get_or (held_fields c) i None)) ≡ get_or (held_fields c) i None
again_at c i low = sym (get_or-map again (held_fields c) i None None low) ∙ ap (λ (fs : List Field). get_or fs i None) (held_again c)

-- LISTS BEHIND OTHERS

-- one more item of a list stands behind another
pub pushed_more : {X : Type 0} (first xs old new : List X) (x d : X) (i : ℕ) → new ≡ old ++ x ∷ [] → x ≡ get_or xs i d → i < length xs → old ≡ first ++ take i xs → new ≡ first ++ take (i + 1) xs
pushed_more first xs old new x d i push at low so_far =
    push ∙ ap (λ l. l ++ x ∷ []) so_far ∙ append_assoc first (take i xs) (x ∷ []) ∙ ap (λ y. first ++ (take i xs ++ y ∷ [])) at ∙ ap (λ l. first ++ l) (sym (take_more xs i d low))

-- the bytes of one more field
pub text_more : (first xs : List Field) (old new : Line) (s : List ℕ) (i : ℕ) → new ≡ old ++ s ∷ [] → field false s ≡ get_or xs i None → i < length xs → bare_fields old ≡ first ++ take i xs
    → bare_fields new ≡ first ++ take (i + 1) xs
text_more first xs old new s i push at low so_far =
    pushed_more first xs (bare_fields old) (bare_fields new) (field false s) None i (ap bare_fields push ∙ map_push (field false) old s) at low so_far

-- what is written back of a list that was changed in its place
written_back : {X : Type 0} (len : ℕ) (xs old : List X) → length xs ≡ length old → len ≡ length old → take len (xs ++ drop (length xs) old) ≡ xs
written_back len xs old same is =
    ap (λ l. take len (xs ++ l)) (drop_all (length xs) old (omega (arith, same))) ∙ ap (take len) (append-nil xs) ∙ take_all len xs (omega (arith, same, is))

-- COLUMNS, ONE AFTER ANOTHER

module _ (first second : List FieldColumn) where
  -- those before a place have the others behind them
  pub record AreAppendedTo (place : ℕ) (both : List FieldColumn) : Type 0 where
    pub count : length both ≡ length first
    pub before : (j : ℕ) → j < place → get_or (map held_fields both) j [] ≡ get_or (map held_fields first) j [] ++ get_or (map held_fields second) j []
    pub behind : (j : ℕ) → place ≤ j → get_or (map held_fields both) j [] ≡ get_or (map held_fields first) j []

  pub none_appended : AreAppendedTo 0 first
  none_appended = record { count = refl; before = λ j low. absurd (omega (arith, low)); behind = λ j high. refl }

  module _ (place : ℕ) (both : List FieldColumn) (old other new : FieldColumn) (so_far : AreAppendedTo place both) (low : place < length both) (wide : length second ≡ length first)
      (more : other ≡ get_or second place other) (put : held_fields new ≡ held_fields (get_or both place old) ++ held_fields other) where
    seen : map held_fields (set both place new) ≡ set (map held_fields both) place (held_fields new)
    seen = map-set held_fields both place new

    here : held_fields new ≡ get_or (map held_fields first) place [] ++ get_or (map held_fields second) place []
    here =
        put
        ∙ ap (λ (fs : List Field). fs ++ held_fields other) (sym (get_or-map held_fields both place old [] low) ∙ so_far.behind place (omega arith))
        ∙ ap (λ (fs : List Field). get_or (map held_fields first) place [] ++ fs) (ap held_fields more ∙ sym (get_or-map held_fields second place other [] (omega (arith, low, wide, so_far.count))))

    at : (j : ℕ) → j ≡ place → get_or (map held_fields (set both place new)) j [] ≡ held_fields new
    at j same = ap (λ (fs : List (List Field)). get_or fs j []) seen ∙ get_or-set_at (map held_fields both) place j (held_fields new) [] same (omega (arith, low, length-map both held_fields))

    beside : (j : ℕ) → j ≢ place → get_or (map held_fields (set both place new)) j [] ≡ get_or (map held_fields both) j []
    beside j other = ap (λ (fs : List (List Field)). get_or fs j []) seen ∙ get_or-set_other (map held_fields both) place j (held_fields new) [] other

    pub one_appended : AreAppendedTo (place + 1) (set both place new)
    one_appended = record {
      count = length-set both place new ∙ so_far.count;
      before = λ j below. elim (cases_lt j place) [
        | inl less ↦ beside j (λ e. omega (arith, e, less)) ∙ so_far.before j less
        | inr high ↦ let same : j ≡ place = omega (arith, below, high) in at j same ∙ here ∙ sym (ap (λ k. get_or (map held_fields first) k [] ++ get_or (map held_fields second) k []) same)
      ];
      behind = λ j high. beside j (λ e. omega (arith, e, high)) ∙ so_far.behind j (omega (arith, high));
    }

  pub all_appended : (place len : ℕ) (both : List FieldColumn) → AreAppendedTo place both → length second ≡ length first → length first ≤ place → len ≡ length first
      → AreAppended first second (take len (both ++ drop (length both) first))
  all_appended place len both so_far wide end is =
      subst (AreAppended first second) (sym (written_back len both first so_far.count is)) record {
        fields = λ j. elim (cases_lt j place) [
          | inl less ↦ so_far.before j less
          | inr high ↦
              so_far.behind j high ∙ sym (append-nil (get_or (map held_fields first) j []))
              ∙ ap (λ (fs : List Field). get_or (map held_fields first) j [] ++ fs) (sym (get_or_past (map held_fields second) j [] (omega (arith, high, end, wide, length-map second held_fields))))
        ];
        count = so_far.count;
      }

-- RUNS

-- the fields of a column of full ones
column_is : (w h j : ℕ) (cs : Vec FieldColumn Global) → HasFields w h (held.Columns cs) → j < w → column_in w h j (held.Columns cs) ≡ get_or (map held_fields cs.items) j []
column_is w h j cs full low =
    sym (fill_by_all (λ i. get_or (get_or (map held_fields cs.items) j []) i None) (get_or (map held_fields cs.items) j []) h None (full_column w h cs full j low) (λ k less. refl))

module _ (w h k : ℕ) (cs ds es : Vec FieldColumn Global) (full : HasFields w h (held.Columns cs)) (full' : HasFields w k (held.Columns ds)) (both : AreAppended cs.items ds.items es.items) where
  wide : length es.items ≡ w
  wide = both.count ∙ full_count w h cs full

  high : (j : ℕ) → j < w → length (get_or (map held_fields es.items) j []) ≡ h + k
  high j low =
      ap length (both.fields j) ∙ length-append (get_or (map held_fields cs.items) j []) (get_or (map held_fields ds.items) j [])
      ∙ omega (arith, full_column w h cs full j low, full_column w k ds full' j low)

  high_at : (j : ℕ) → j < w → get_or (map (λ c. length (held_fields c)) es.items) j 0 ≡ h + k
  high_at j low =
      ap (λ (xs : List ℕ). get_or xs j 0) (sym (map-map length held_fields es.items)) ∙ get_or-map length (map held_fields es.items) j [] 0 (omega (arith, low, length-map es.items held_fields, wide)) ∙ high j low

  pub both_full : HasFields w (h + k) (held.Columns es)
  both_full =
      ext_get_or 0 (map (λ c. length (held_fields c)) es.items) (replicate w (h + k)) (length-map es.items (λ c. length (held_fields c)) ∙ wide ∙ sym (length-replicate w (h + k)))
      (λ j low. let less : j < w = omega (arith, low, length-map es.items (λ c. length (held_fields c)), wide) in high_at j less ∙ sym (get_or-replicate w j (h + k) 0 less))

  pub both_rows : (rows more : List Record) → AreRunRows w record { fields = held.Columns cs; height = h } rows → AreRunRows w record { fields = held.Columns ds; height = k } more
      → AreRunRows w record { fields = held.Columns es; height = h + k } (rows ++ more)
  both_rows rows more r m = record {
    columns = λ j low.
        column_is w (h + k) j es both_full low ∙ both.fields j
        ∙ ap (λ (fs : List Field). fs ++ get_or (map held_fields ds.items) j []) (sym (column_is w h j cs full low) ∙ r.columns j low)
        ∙ ap (λ (fs : List Field). map (λ (row : Record). get_or row j None) rows ++ fs) (sym (column_is w k j ds full' low) ∙ m.columns j low)
        ∙ sym (map-append (λ (row : Record). get_or row j None) rows more);
    height = omega (arith, r.height, m.height, length-append rows more);
    level = All-append (λ (row : Record). length row ≡ w) rows more r.level m.level;
  }
