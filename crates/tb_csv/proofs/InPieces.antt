-- A text that was read in pieces.
use Rattle.std.proofs.Common.{append_assoc, ◌≡◌, ◌≢◌, ◌==◌, ◌<◌, ◌≤◌, ◌+◌, ◌*◌, ◌++◌, ◌∷◌, ◌∙◌, [], ℕ, List, Bool, true, false, None, length, map, refl, sym, ap, arith, subst}
use Rattle.std.specs.Prelude.{not, nat_lt}
use Rattle.std.specs.List.{All, AllZip, flat_map}
use Rattle.std.proofs.lemmas.Bool.{eqb-true, le-ltb}
use Rattle.std.proofs.lemmas.List.{append-nil, length-append, length-map, map-append}
use Rattle.std.proofs.lemmas.List.Elements.{All-head, All-tail}
use Rattle.std.proofs.lemmas.List.Sums.{sum_by-cons}
use Rattle.csv.specs.Machine.{line_feed, next_record}
use Rattle.csv.specs.Reading.{records_from, strip_bom}
use Rattle.csv.specs.Records.{fields_of}
use Rattle.tb_value.specs.Promise.Refusals.{first_cause, when}
use Rattle.tb_value.specs.declared.limits.TheConstants.{MAX_ROWS}
use Rattle.tb_csv.specs.Places.{IsFromLineEnd, MarkAlike}
use Rattle.tb_csv.specs.Read.{AreRunRows, AreRunsFrom, AreRunsOf, AreSameFields, HasFields, HaveRows, IsFull, IsLevel, IsRead, IsRunOf, all_fields, column_in, fields_down, rows_in, text_fields}
use Rattle.tb_csv.specs.Promise.Faults.{records_fault, repeated_name, row_fault, rows_fault, text_fault}
use Rattle.tb_csv.specs.Promise.LineNumbers.{has_open_quote, state_behind}
use Rattle.tb_csv.specs.Promise.Records.{Field, Line, Record, is_text, line_of, lines_of, marked_fields, marked_records, marks_of, records_of}
use Rattle.tb_csv.specs.declared.fault.CsvFault.{CsvFault}
use Rattle.tb_csv.specs.declared.fault.CsvFault.TheVariants.{FieldCount, NotUtf8, OpenQuote, TooManyRows}
use Rattle.tb_csv.specs.declared.records.Records.{Records}
use Rattle.tb_csv.specs.declared.run.Run.{Run}
use Rattle.tb_csv.specs.declared.run.RunFields.{RunFields}
use Rattle.tb_csv.specs.declared.run.RunFields.TheVariants as held
use Rattle.tb_csv.specs.declared.run.TextFields.{TextFields}
use Rattle.tb_csv.proofs.Causes.{first_parts, none_later}
use Rattle.tb_csv.proofs.CutText.{no_separator, open_two, records_two}
use Rattle.tb_csv.proofs.JoinedRuns.{more_runs, no_rows, one_run}
use Rattle.tb_csv.proofs.MarkedFields.{marked_all, marked_height, marked_level}
use Rattle.tb_csv.proofs.ReadRecords.{lines_read}
use Rattle.tb_csv.proofs.RecordWalks.{column_of, full_rows, level_rows}

-- ONE PIECE

-- the fields of the rows of a piece, one behind another
module _ (separator width : ℕ) (piece : List ℕ) (flat : List Field) (height : ℕ) (sound : rows_fault width 1 (lines_of separator piece) ≡ None)
    (tall : height ≡ length (lines_of separator piece)) (all : flat ≡ all_fields (records_of separator piece)) where
  pub run_is : (same : RunFields) → has_open_quote separator piece ≡ false → ((j : ℕ) → j < width → column_in width height j same ≡ fields_down width height j flat)
      → HasFields width height same → IsRunOf separator width piece record { fields = same; height = height }
  unfolding records_of
  run_is same shut down full =
      let ls = lines_of separator piece in
      let qs = marks_of separator piece in
      let rows = marked_records qs ls in
      let level = marked_level width qs ls (level_rows width 1 ls sound) in
      let high = tall ∙ sym (marked_height qs ls) in
      record {
        shut = shut;
        sound = sound;
        rows = record {
          columns = λ j low. down j low ∙ column_of flat rows height width width j height all high level refl low refl;
          height = high;
          level = level;
        };
        full = full;
      }

-- the rows that were read of a piece, and its marks
module _ (separator width : ℕ) (piece : List ℕ) (t : TextFields) (height : ℕ) (sound : rows_fault width 1 (lines_of separator piece) ≡ None)
    (tall : height ≡ length (lines_of separator piece)) (fields : fields_of t.fields ≡ all_fields (lines_of separator piece)) where
  pub fields_fill : length (fields_of t.fields) ≡ height * width
  fields_fill =
      let ls = lines_of separator piece in
      ap length fields ∙ full_rows ls width (level_rows width 1 ls sound) ∙ ap (λ n. n * width) (sym tall)

  pub run_read : (same : RunFields) → has_open_quote separator piece ≡ false → MarkAlike t.marks.items (marks_of separator piece) → AreSameFields width height (held.Rows t) same
      → IsRunOf separator width piece record { fields = same; height = height }
  unfolding records_of
  run_read same shut alike are =
      let ls = lines_of separator piece in
      let qs = marks_of separator piece in
      let all : text_fields t ≡ all_fields (marked_records qs ls) = alike 0 (fields_of t.fields) ∙ ap (marked_fields qs) fields ∙ marked_all qs ls in
      run_is separator width piece (text_fields t) height sound tall all same shut are.columns are.full

-- FAULTS OF ROWS

when_not : (b : Bool) (e : CsvFault) → when (not b) e ≡ None → b ≡ true
when_not true e h = refl
when_not false e h = cc h

row_moved : (w i k : ℕ) (r : Line) → row_fault w i r ≡ None → row_fault w k r ≡ None
row_moved w i k r none =
    let both = first_parts (when (not (length r == w)) (FieldCount i w (length r))) _ none in
    let text = first_parts (when (not (is_text r)) (NotUtf8 i)) [] both.1 in
    rw (when_not (length r == w) (FieldCount i w (length r)) both.0, when_not (is_text r) (NotUtf8 i) text.0) refl

-- rows one behind the other have no fault where neither has one, wherever they are counted from
rows_joined : (w i j k : ℕ) (rs ss : List Line) → rows_fault w i rs ≡ None → rows_fault w j ss ≡ None → rows_fault w k (rs ++ ss) ≡ None
rows_joined w i j k [] [] none more = refl
rows_joined w i j k [] (s ∷ ss) none more =
    let both = first_parts (row_fault w j s) (rows_fault w (j + 1) ss ∷ []) more in
    let rest = first_parts (rows_fault w (j + 1) ss) [] both.1 in
    none_later (row_fault w k s) _ (row_moved w j k s both.0) (none_later (rows_fault w (k + 1) ss) [] (rows_joined w i (j + 1) (k + 1) [] ss none rest.0) refl)
rows_joined w i j k (r ∷ rs) ss none more =
    let both = first_parts (row_fault w i r) (rows_fault w (i + 1) rs ∷ []) none in
    let rest = first_parts (rows_fault w (i + 1) rs) [] both.1 in
    none_later (row_fault w k r) _ (row_moved w i k r both.0) (none_later (rows_fault w (k + 1) (rs ++ ss)) [] (rows_joined w (i + 1) j (k + 1) rs ss rest.0 more) refl)

-- ALL PIECES

pub no_bytes : (xs : List ℕ) → true ≡ (length xs == 0) → xs ≡ []
no_bytes [] none = refl
no_bytes (c ∷ cs) none = let zero : length (c ∷ cs) ≡ 0 = eqb-true (length (c ∷ cs)) 0 (sym none) in absurd (omega (arith, zero))

tall_runs : (w : ℕ) (runs : List Run) (parts : List (List Record)) → AllZip (AreRunRows w) runs parts → rows_in runs ≡ length (all_fields parts)
tall_runs w [] [] zipped = refl
tall_runs w [] (p ∷ ps) zipped = absurd zipped
tall_runs w (run ∷ runs) [] zipped = absurd zipped
tall_runs w (run ∷ runs) (p ∷ ps) zipped =
    let here = zipped.0 in
    sum_by-cons (λ (r : Run). r.height) run runs ∙ omega (arith, here.height, tall_runs w runs ps zipped.1, length-append p (all_fields ps))

no_records : (separator : ℕ) → records_of separator [] ≡ []
unfolding records_of lines_of marks_of strip_bom records_from next_record
no_records separator = refl

no_quote : (separator : ℕ) → has_open_quote separator [] ≡ false
unfolding has_open_quote state_behind strip_bom
no_quote separator = refl

module _ (separator : ℕ) (other : (10 == separator) ≡ false) where
  joined : (piece rest : List ℕ) → has_open_quote separator piece ≡ false → IsFromLineEnd rest
      → (records_of separator (piece ++ rest) ≡ records_of separator piece ++ records_of separator rest)
  joined piece [] shut start =
      ap (records_of separator) (append-nil piece) ∙ sym (append-nil (records_of separator piece)) ∙ ap (λ rs. records_of separator piece ++ rs) (sym (no_records separator))
  joined piece (c ∷ rest) shut start =
      subst (λ b. records_of separator (piece ++ b ∷ rest) ≡ records_of separator piece ++ records_of separator (b ∷ rest)) (sym start) (records_two separator other piece rest shut)

  shut_joined : (piece rest : List ℕ) → has_open_quote separator piece ≡ false → IsFromLineEnd rest → has_open_quote separator rest ≡ false → has_open_quote separator (piece ++ rest) ≡ false
  shut_joined piece [] shut start last = ap (has_open_quote separator) (append-nil piece) ∙ shut
  shut_joined piece (c ∷ rest) shut start last =
      subst (λ b. has_open_quote separator (piece ++ b ∷ rest) ≡ false) (sym start)
      (open_two separator other piece rest shut ∙ subst (λ b. has_open_quote separator (b ∷ rest) ≡ false) start last)

  from_append : (piece rest : List ℕ) → IsFromLineEnd piece → IsFromLineEnd rest → IsFromLineEnd (piece ++ rest)
  from_append [] rest start more = more
  from_append (c ∷ piece) rest start more = start

  more_lines : (piece rest : List ℕ) → has_open_quote separator piece ≡ false → IsFromLineEnd rest → lines_of separator (piece ++ rest) ≡ lines_of separator piece ++ lines_of separator rest
  more_lines piece rest shut start =
      sym (lines_read separator (piece ++ rest)) ∙ ap (map line_of) (joined piece rest shut start)
      ∙ map-append line_of (records_of separator piece) (records_of separator rest)
      ∙ rw (lines_read separator piece, lines_read separator rest) refl

  module _ (width : ℕ) where
    pub no_piece : AreRunsOf separator width [] []
    no_piece = record {
      shut = no_quote separator;
      sound = ap (rows_fault width 1) (sym (lines_read separator []) ∙ ap (map line_of) (no_records separator));
      rows = subst (HaveRows width []) (sym (no_records separator)) (no_rows width);
    }

    -- a piece behind others, whatever becomes of their runs
    pub next_piece : (piece rest : List ℕ) (runs others all : List Run) → AreRunsOf separator width piece runs → AreRunsOf separator width rest others → IsFromLineEnd rest
        → ((rows more : List Record) → HaveRows width runs rows → HaveRows width others more → HaveRows width all (rows ++ more)) → AreRunsOf separator width (piece ++ rest) all
    next_piece piece rest runs others all here more start put = record {
      shut = shut_joined piece rest here.shut start more.shut;
      sound = ap (rows_fault width 1) (more_lines piece rest here.shut start) ∙ rows_joined width 1 1 1 (lines_of separator piece) (lines_of separator rest) here.sound more.sound;
      rows = subst (HaveRows width all) (sym (joined piece rest here.shut start)) (put (records_of separator piece) (records_of separator rest) here.rows more.rows);
    }

    pub one_piece : (piece : List ℕ) (run : Run) → IsRunOf separator width piece run → AreRunsOf separator width piece (run ∷ [])
    one_piece piece run is = record { shut = is.shut; sound = is.sound; rows = one_run width run (records_of separator piece) is.rows is.full }

    module _ (apart : separator ≢ line_feed) {X V : Type 0} (text : X → List ℕ) (items : V → List Run) where
      pub all_pieces : (pieces : List X) (parts : List V) → All (λ p. IsFromLineEnd (text p)) pieces → AllZip (λ p v. AreRunsFrom separator width (text p) (items v)) pieces parts
          → AreRunsOf separator width (flat_map text pieces) (flat_map items parts) × IsFromLineEnd (flat_map text pieces)
      all_pieces [] [] start zipped = (no_piece, tt)
      all_pieces [] (v ∷ vs) start zipped = absurd zipped
      all_pieces (p ∷ ps) [] start zipped = absurd zipped
      all_pieces (p ∷ ps) (v ∷ vs) start zipped =
          let first = All-head (λ p. IsFromLineEnd (text p)) p ps start in
          let more = all_pieces ps vs (All-tail (λ p. IsFromLineEnd (text p)) p ps start) zipped.1 in
          let rest = flat_map text ps in (
            next_piece (text p) rest (items v) (flat_map items vs) (items v ++ flat_map items vs) (zipped.0 apart first) more.0 more.1 (more_runs width (items v) (flat_map items vs)),
            from_append (text p) rest first more.1,
          )

    front_from : (part behind : List ℕ) → IsFromLineEnd (part ++ behind) → IsFromLineEnd part
    front_from [] behind start = tt
    front_from (c ∷ part) behind start = start

    -- one more part of a piece is read
    pub next_part : (apart : separator ≢ line_feed) (piece done part behind rest : List ℕ) (run : Run) (runs all : List Run) → done ++ rest ≡ piece → part ++ behind ≡ rest → IsFromLineEnd rest
        → AreRunsOf separator width done runs → IsRunOf separator width part run
        → ((rows more : List Record) → HaveRows width runs rows → HaveRows width (run ∷ []) more → HaveRows width all (rows ++ more))
        → ((done ++ part) ++ behind ≡ piece) × AreRunsOf separator width (done ++ part) all
    next_part apart piece done part behind rest run runs all whole cut start read is put = (
      append_assoc done part behind ∙ ap (λ l. done ++ l) cut ∙ whole,
      next_piece done part runs (run ∷ []) all read (one_piece part run is) (front_from part behind (subst IsFromLineEnd (sym cut) start)) put,
    )

    -- WITH THE NAMES

    when_off : (b : Bool) (e : CsvFault) → when b e ≡ None → b ≡ false
    when_off true e h = cc h
    when_off false e h = refl

    module _ (xs line rest : List ℕ) (first : Record) (r : Records) (whole : line ++ rest ≡ xs) (head : text_fault separator line ≡ None)
        (named : records_of separator line ≡ first ∷ []) (names : r.names.items ≡ line_of first) (wide : length r.names.items ≡ width)
        (start : IsFromLineEnd rest) (read : AreRunsOf separator width rest r.runs.items) (height : r.height ≡ rows_in r.runs.items) (few : r.height ≤ MAX_ROWS) where
      open_part : (when (has_open_quote separator line) OpenQuote ≡ None) × (first_cause (records_fault (map line_of (records_of separator line)) ∷ []) ≡ None)
      open_part = first_parts (when (has_open_quote separator line) OpenQuote) _ head

      line_shut : has_open_quote separator line ≡ false
      line_shut = when_off (has_open_quote separator line) OpenQuote open_part.0

      abbrev rows : List Record
      rows = records_of separator rest

      are : records_of separator xs ≡ first ∷ rows
      are = ap (records_of separator) (sym whole) ∙ joined line rest line_shut start ∙ ap (λ rs. rs ++ rows) named

      tall : r.height ≡ length rows
      tall = height ∙ tall_runs width r.runs.items read.rows.parts.0 read.rows.parts.2 ∙ ap length (sym read.rows.parts.1)

      names_sound : records_fault (line_of first ∷ []) ≡ None
      names_sound = subst (λ rs. records_fault (map line_of rs) ≡ None) named (first_parts (records_fault (map line_of (records_of separator line))) [] open_part.1).0

      lines_sound : records_fault (line_of first ∷ map line_of rows) ≡ None
      lines_sound =
          let a = first_parts (when (not (is_text (line_of first))) (NotUtf8 0)) _ names_sound in
          let b = first_parts (repeated_name (line_of first)) _ a.1 in
          let many : nat_lt MAX_ROWS (length (map line_of rows)) ≡ false = le-ltb MAX_ROWS (length (map line_of rows)) (subst (λ n. n ≤ MAX_ROWS) (tall ∙ sym (length-map rows line_of)) few) in
          let sound : rows_fault (length (line_of first)) 1 (map line_of rows) ≡ None =
          subst (λ w. rows_fault w 1 (map line_of rows) ≡ None) (sym wide ∙ ap length names) (ap (rows_fault width 1) (lines_read separator rest) ∙ read.sound) in
          none_later _ _ a.0 (none_later _ _ b.0 (none_later _ _ sound (none_later (when (nat_lt MAX_ROWS (length (map line_of rows))) TooManyRows) [] (rw many refl) refl)))

      pub sound : text_fault separator xs ≡ None
      sound =
          let shut : has_open_quote separator xs ≡ false = ap (has_open_quote separator) (sym whole) ∙ shut_joined line rest line_shut start read.shut in
          rw (shut, are) (none_later _ [] lines_sound refl)

      pub is_read : IsRead r (records_of separator xs)
      is_read = subst (IsRead r) (sym are) (
        names,
        record {
          runs = (
            read.rows.parts.0,
            read.rows.parts.1,
            subst (λ w. AllZip (AreRunRows w) r.runs.items read.rows.parts.0) (sym wide) read.rows.parts.2,
          );
          height = tall;
          few = subst (λ n. n ≤ MAX_ROWS) tall few;
        },
      )

      pub is_level : IsLevel r
      is_level = record {
        full = subst (λ w. All (IsFull w) r.runs.items) (sym wide) read.rows.full;
        height = height;
        few = few;
      }

-- the whole text, cut behind its first line and then in pieces
pub read_in_pieces : {X V : Type 0} (separator : ℕ) (text : X → List ℕ) (items : V → List Run) (xs line rest : List ℕ) (pieces : List X) (parts : List V) (r : Records) → separator ≢ line_feed
    → line ++ rest ≡ xs → flat_map text pieces ≡ rest → All (λ p. IsFromLineEnd (text p)) pieces
    → text_fault separator line ≡ None → (first : Record) × (records_of separator line ≡ first ∷ []) × (r.names.items ≡ line_of first)
    → AllZip (λ p v. AreRunsFrom separator (length r.names.items) (text p) (items v)) pieces parts → r.runs.items ≡ flat_map items parts
    → r.height ≡ rows_in r.runs.items → r.height ≤ MAX_ROWS
    → (text_fault separator xs ≡ None) × IsRead r (records_of separator xs) × IsLevel r
read_in_pieces separator text items xs line rest pieces parts r other whole cut starts head named zipped runs height few =
    let byte = no_separator separator other in
    let width = length r.names.items in
    let all = all_pieces separator byte width other text items pieces parts starts zipped in
    let read = subst (AreRunsOf separator width rest) (sym runs) (subst (λ ys. AreRunsOf separator width ys (flat_map items parts)) cut all.0) in
    let start = subst IsFromLineEnd cut all.1 in (
      sound separator byte width xs line rest named.0 r whole head named.1 named.2 refl start read height few,
      is_read separator byte width xs line rest named.0 r whole head named.1 named.2 refl start read height few,
      is_level separator byte width xs line rest named.0 r whole head named.1 named.2 refl start read height few,
    )
