-- Walks over the columns of a table that is written.
use Rattle.std.proofs.Common.{◌≡◌, ◌<◌, ◌≤◌, ◌+◌, ◌∷◌, ◌++◌, ◌∙◌, [], ℕ, List, Option, Some, None, length, map, take, get_or, refl, sym, ap, arith, subst, append_assoc, true, false, ◌==◌}
use Rattle.std.specs.Prelude.{Bool, is_none, option_map, cond}
use Rattle.std.proofs.lemmas.Bool.Decides.{nat_tests}
use Rattle.std.proofs.Math.ListN.{get_or-map}
use Rattle.std.specs.List.{All, find, flat_map}
use Rattle.std.proofs.lemmas.List.{append-nil, length-map, map_more, length-take-le, take_all}
use Rattle.std.proofs.lemmas.Grind.{flat_map-append}
use Rattle.tb_value.specs.Promise.Datum.{null}
use Rattle.tb_value.specs.Promise.Names.{Name}
use Rattle.tb_value.specs.Promise.Pairs.{row_numbers}
use Rattle.tb_chunk.specs.Promise.Col.{Col, values}
use Rattle.tb_frame.specs.Promise.Table.{Table, TableColumn, height, names_of, plain_column, table_of}
use Rattle.tb_csv.specs.Promise.Records.{Field, Record}
use Rattle.tb_csv.specs.Promise.Texts.{body_text, csv_text, field_among, field_text, field_type, line_text, no_column, no_text, record_text, records_text, row_fields}
use Rattle.tb_csv.specs.Texts.{gap}
use Rattle.tb_csv.specs.declared.fault.CsvFault.TheVariants.{NoText}

-- the field of a row of a column, among so many
abbrev pub field_in : ℕ → ℕ → Col → Field
field_in width i c = field_among width c.kind (get_or (values c) i null)

fields_in : (width : ℕ) (cs : List Col) (i : ℕ) → map (field_in width i) cs ≡ map (λ (c : TableColumn). field_among width c.kind (get_or c.values i null)) (table_of cs)
fields_in width [] i = refl
fields_in width (c ∷ cs) i = ap (λ (fs : Record). field_in width i c ∷ fs) (fields_in width cs i)

pub row_in : (cs : List Col) (i : ℕ) → map (field_in (length cs) i) cs ≡ row_fields (table_of cs) i
row_in cs i = fields_in (length cs) cs i ∙ ap (λ (n : ℕ). map (λ (c : TableColumn). field_among n c.kind (get_or c.values i null)) (table_of cs)) (sym (length-map cs plain_column))

-- the name of a column, as a field
abbrev pub name_in : Col → Field
name_in c = Some c.name

pub names_in : (cs : List Col) → map name_in cs ≡ map (λ (n : Name). Some n) (names_of (table_of cs))
names_in [] = refl
names_in (c ∷ cs) = ap (λ (fs : Record). Some c.name ∷ fs) (names_in cs)

-- A LINE THAT GROWS

line_push : (separator : ℕ) (fs : Record) (f : Field) → line_text separator (fs ++ f ∷ []) ≡ line_text separator fs ++ (gap separator (length fs) ++ field_text separator f)
line_push separator [] f = append-nil (field_text separator f)
line_push separator (g ∷ fs) f =
    let item = λ (h : Field). separator ∷ field_text separator h in
    let more : flat_map item (fs ++ f ∷ []) ≡ flat_map item fs ++ (separator ∷ field_text separator f) = flat_map-append item fs (f ∷ []) ∙ ap (λ (s : List ℕ). flat_map item fs ++ s) (append-nil (item f)) in
    let later : (length (g ∷ fs) == 0) ≡ false = grind (arith, nat_tests) in
    rw later (ap (λ (s : List ℕ). field_text separator g ++ s) more ∙ sym (append_assoc (field_text separator g) (flat_map item fs) (separator ∷ field_text separator f)))

-- one more field of a line, behind its separator
pub line_more : (separator : ℕ) (f : Col → Field) (cs : List Col) (place : ℕ) (c : Col) (old so_far apart new : List ℕ) (x : Field) → place < length cs → c ≡ get_or cs place c → x ≡ f c
    → apart ≡ so_far ++ gap separator place → new ≡ apart ++ field_text separator x → so_far ≡ old ++ line_text separator (map f (take place cs)) → new ≡ old ++ line_text separator (map f (take (place + 1) cs))
line_more separator f cs place c old so_far apart new x low is field first second before =
    let front = map f (take place cs) in
    let count : length front ≡ place = length-map (take place cs) f ∙ length-take-le place cs (omega (arith, low)) in
    let here : x ≡ f (get_or cs place c) = field ∙ ap f is in
    second ∙ ap (λ (s : List ℕ). s ++ field_text separator x) (first ∙ ap (λ (s : List ℕ). s ++ gap separator place) before)
    ∙ append_assoc (old ++ line_text separator front) (gap separator place) (field_text separator x)
    ∙ append_assoc old (line_text separator front) (gap separator place ++ field_text separator x)
    ∙ ap (λ (s : List ℕ). old ++ s) (ap (λ (n : ℕ). line_text separator front ++ (gap separator n ++ field_text separator x)) (sym count)
    ∙ sym (line_push separator front x)
    ∙ ap (λ (y : Field). line_text separator (front ++ y ∷ [])) here
    ∙ ap (line_text separator) (sym (map_more f cs place c low)))

-- the whole line
pub line_end : (separator : ℕ) (f : Col → Field) (cs : List Col) (place : ℕ) (old so_far new : List ℕ) (r : Record) → length cs ≤ place → map f cs ≡ r
    → new ≡ so_far ++ 10 ∷ [] → so_far ≡ old ++ line_text separator (map f (take place cs)) → new ≡ old ++ record_text separator r
line_end separator f cs place old so_far new r past is push before =
    push ∙ ap (λ (s : List ℕ). s ++ 10 ∷ []) (before ∙ ap (λ (ds : List Col). old ++ line_text separator (map f ds)) (take_all place cs past))
    ∙ append_assoc old (line_text separator (map f cs)) (10 ∷ []) ∙ ap (λ (r : Record). old ++ record_text separator r) is

pub text_more : (separator : ℕ) (rs : List Record) (r : Record) → records_text separator (rs ++ r ∷ []) ≡ records_text separator rs ++ record_text separator r
text_more separator rs r = flat_map-append (record_text separator) rs (r ∷ []) ∙ ap (λ (s : List ℕ). records_text separator rs ++ s) (append-nil (record_text separator r))

picked : (b : Bool) (c : Col) (x : Option TableColumn) (y : Option Col) → option_map (λ (t : TableColumn). NoText t.name) x ≡ option_map (λ (k : Col). NoText k.name) y
    → option_map (λ (t : TableColumn). NoText t.name) (cond b (Some (plain_column c)) x) ≡ option_map (λ (k : Col). NoText k.name) (cond b (Some c) y)
picked true c x y h = refl
picked false c x y h = h

pub no_text_of : (cs : List Col) → no_text (table_of cs) ≡ option_map (λ (c : Col). NoText c.name) (find (λ (c : Col). is_none (field_type c.kind)) cs)
no_text_of [] = refl
no_text_of (c ∷ cs) = picked (is_none (field_type c.kind)) c _ _ (no_text_of cs)

pub level_columns : (cs : List Col) (h : ℕ) → All (λ (c : TableColumn). length c.values ≡ h) (table_of cs) → All (λ (c : Col). length (values c) ≡ h) cs
level_columns cs h all = λ k d low. subst (λ (c : TableColumn). length c.values ≡ h) (get_or-map plain_column cs k d) (all k (plain_column d) (rw (length-map cs plain_column) low))

pub columns_there : (cs : List Col) → false ≡ (length cs == 0) → no_column (table_of cs) ≡ None
columns_there [] e = cc e
columns_there (c ∷ cs) e = refl

abbrev pub names_fields : Table → Record
names_fields t = map (λ (n : Name). Some n) (names_of t)

-- the names and the rows
pub names_and_rows : (separator : ℕ) (t : Table) → record_text separator (names_fields t) ++ body_text separator t ≡ csv_text separator t
unfolding csv_text
names_and_rows separator t = refl

pub body_of_columns : (separator : ℕ) (columns cs : List Col) (h : ℕ) → columns ≡ cs → h ≡ height (table_of cs)
    → records_text separator (map (row_fields (table_of columns)) (row_numbers h)) ≡ body_text separator (table_of cs)
body_of_columns separator columns cs h same high =
    ap (λ (ks : List Col). records_text separator (map (row_fields (table_of ks)) (row_numbers h))) same
    ∙ ap (λ (n : ℕ). records_text separator (map (row_fields (table_of cs)) (row_numbers n))) high
