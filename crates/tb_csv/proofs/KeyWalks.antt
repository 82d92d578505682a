-- The types of keys, told from two texts.
use Rattle.std.proofs.Common.{◌≡◌, ◌+◌, ◌++◌, ◌∷◌, ◌∙◌, [], ℕ, List, Some, None, refl, sym, ap, arith, append_assoc, append-nil}
use Rattle.std.specs.Prelude.{◌&&◌, position}
use Rattle.std.specs.List.{flat_map, list_all}
use Rattle.std.proofs.lemmas.Grind.{flat_map-append}
use Rattle.std.proofs.lemmas.List.Folds.{list_all-append}
use Rattle.tb_value.specs.Promise.Names.{Name, same_name}
use Rattle.tb_value.specs.Promise.Pairs.{row_numbers}
use Rattle.tb_csv.specs.Promise.Keys.{fields_named, told_key, told_of}
use Rattle.tb_csv.specs.Promise.Records.{Field, Record, column_fields, line_of}
use Rattle.tb_csv.specs.Promise.Types.{is_of}
use Rattle.tb_csv.specs.Read.{AreRows, IsRead}
use Rattle.tb_csv.specs.declared.field_type.FieldType.{FieldType}
use Rattle.tb_csv.specs.declared.options.TypeOf.{TypeOf}
use Rattle.tb_frame.specs.Promise.Refusal.{name_at}
use Rattle.tb_csv.specs.declared.records.Records.{Records}
use Rattle.tb_csv.proofs.LineWalks.{range_more}

-- fields side by side are of a type where both are
pub all_both : (t : FieldType) (xs ys : List Field) → list_all (is_of t) (xs ++ ys) ≡ (list_all (is_of t) xs && list_all (is_of t) ys)
all_both t xs ys = list_all-append (is_of t) xs ys

-- the fields of a column that is there, and of one that isn't
pub some_fields : (r : Records) (rs : List Record) (name : Name) (place : ℕ) (fs : List Field) → IsRead r rs → Some place ≡ position (λ n. same_name n name) r.names.items
    → ((rows : List Record) → AreRows r rows → fs ≡ column_fields rows place) → Some fs ≡ fields_named rs name
some_fields r [] name place fs h at column = absurd h
some_fields r (names ∷ rows) name place fs h at column =
    let found : position (λ n. same_name n name) (line_of names) ≡ Some place = ap (position (λ n. same_name n name)) (sym h.0) ∙ sym at in
    rw found (ap Some (column rows h.1))

pub none_fields : (r : Records) (rs : List Record) (name : Name) → IsRead r rs → None ≡ position (λ n. same_name n name) r.names.items → None ≡ fields_named rs name
none_fields r [] name h at = absurd h
none_fields r (names ∷ rows) name h at =
    let found : position (λ n. same_name n name) (line_of names) ≡ None = ap (position (λ n. same_name n name)) (sym h.0) ∙ sym at in
    rw found refl

-- one more place
pub told_more : {X : Type 0} (f : ℕ → List X) (i : ℕ) → flat_map f (row_numbers (i + 1)) ≡ flat_map f (row_numbers i) ++ f i
told_more f i =
    let at : 0 + i ≡ i = omega arith in
    ap (flat_map f) (range_more 0 i ∙ ap (λ (k : ℕ). row_numbers i ++ k ∷ []) at) ∙ flat_map-append f (row_numbers i) (i ∷ []) ∙ ap (λ (l : List _). flat_map f (row_numbers i) ++ l) (append-nil (f i))

-- the type of one more key
pub told_step : (types : List TypeOf) (rs os : List Record) (on others_on : List Name) (i : ℕ) (name other : Name) (front old new told : List TypeOf)
    → name ≡ name_at on i → other ≡ name_at others_on i → told ≡ told_of types name other (fields_named rs name) (fields_named os other)
    → new ≡ old ++ told → old ≡ front ++ flat_map (told_key types rs os on others_on) (row_numbers i) → new ≡ front ++ flat_map (told_key types rs os on others_on) (row_numbers (i + 1))
told_step types rs os on others_on i name other front old new told n o is push before =
    let f = told_key types rs os on others_on in
    let at : told_of types name other (fields_named rs name) (fields_named os other) ≡ f i =
    λ t. told_of types (n t) (o t) (fields_named rs (n t)) (fields_named os (o t)) in
    push ∙ ap (λ (l : List TypeOf). l ++ told) before ∙ append_assoc front (flat_map f (row_numbers i)) told
    ∙ ap (λ (l : List TypeOf). front ++ (flat_map f (row_numbers i) ++ l)) (is ∙ at) ∙ ap (λ (l : List TypeOf). front ++ l) (sym (told_more f i))
