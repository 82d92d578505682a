-- The types of the keys of a text that is joined with another: told from both.
use Rattle.std.specs.Prelude.{◌++◌, ℕ, List, [], ◌∷◌, length, min, position, Option, Some, None, option_map, if◌then◌else◌}
use Rattle.std.specs.List.{flat_map, list_all}
use Rattle.tb_value.specs.Promise.Names.{Name, same_name}
use Rattle.tb_value.specs.Promise.Pairs.{row_numbers}
use Rattle.tb_frame.specs.Promise.Refusal.{name_at}
use Rattle.tb_csv.specs.Promise.Records.{Field, Record, column_fields, line_of}
use Rattle.tb_csv.specs.Promise.Types.{given_type, is_of, told_type}
use Rattle.tb_csv.specs.declared.field_type.FieldType.{FieldType}
use Rattle.tb_csv.specs.declared.options.TypeOf.{TypeOf}

-- the fields of the column of a name, if there is one
abbrev pub fields_named : List Record → Name → Option (List Field)
fields_named [] name = None
fields_named (names ∷ rows) name =
    option_map (column_fields rows) (position (λ n. same_name n name) (line_of names))

-- The type of a key of these fields, beside a key of the other text: the one that is given for its name; where there is none, the one that
-- is given for the other's, if all its fields are of it; and where neither is given, the one that the fields of both tell together.
abbrev pub key_type : Option FieldType → Option FieldType → List Field → List Field → FieldType
key_type (Some t) given fields others = t
key_type None (Some t) fields others = if list_all (is_of t) fields then t else told_type fields
key_type None None fields others = told_type (fields ++ others)

-- the type of a key, if both are columns
abbrev pub told_of : List TypeOf → Name → Name → Option (List Field) → Option (List Field)
    → List TypeOf
told_of types name other (Some fields) (Some others) = record
    { name = name; field_type = key_type (given_type types name) (given_type types other) fields others }
    ∷ []
told_of types name other _ _ = []

-- the type of the key at a place, beside the other text's key there
abbrev pub told_key : List TypeOf → List Record → List Record → List Name → List Name → ℕ
    → List TypeOf
told_key types records others on others_on i =
    told_of types (name_at on i) (name_at others_on i) (fields_named records (name_at on i))
    (fields_named others (name_at others_on i))

-- the types that are given, and those of the keys of a text. Of a name that stands twice among them the first counts
unfoldable pub types_with_keys : List TypeOf → List Record → List Record → List Name → List Name
    → List TypeOf
types_with_keys types records others on others_on =
    types
    ++ flat_map (told_key types records others on others_on)
    (row_numbers (min (length on) (length others_on)))
