-- The rows of steps, a column at a time.
use Rattle.std.proofs.Common.{◌≡◌, ◌∙◌, ◌<◌, ◌≤◌, ℕ, zero, suc, ◌+◌, List, [], ◌∷◌, ◌++◌, length, get_or, drop, Result, Ok, Option, Some, not, true, true≢false, map, String, Global, string_bytes, refl, ap, sym, subst, arith, drop-cons}
use Rattle.std.specs.List.{find}
use Rattle.std.specs.Map.{keys_of}
use Rattle.std.proofs.lemmas.List.{drop_all, length-map, take_all}
use Rattle.serde_json.specs.Data.{Data}
use Rattle.serde_json.specs.Find.{as_object}
use Rattle.tb_tree.specs.View.{members_view}
use Rattle.tb_tree.proofs.Views.{Entry}
use Rattle.tb_value.specs.Promise.Datum.{Datum, items_of}
use Rattle.tb_value.specs.Promise.Kind.{Kind, Part, parts_of}
use Rattle.tb_value.specs.Promise.Kind as kind
use Rattle.tb_value.specs.Promise.Typed.{AreEachOf, FitsFields, HasType}
use Rattle.tb_chunk.specs.Promise.Col.{Col}
use Rattle.tb_date.specs.Promise.Dates.{is_date}
use Rattle.tb_frame.specs.Promise.Naming.{is_among}
use Rattle.tb_frame.specs.Promise.Table.{TableColumn, plain_column, schema_of, table_of}
use Rattle.tb_frame.specs.Promise.Table as table
use Rattle.tb_json.proofs.ValueWalks.{TypedSoFar, TypedSoFar-more}
use Rattle.tb_front.specs.declared.fault.FrontFault.{FrontFault}
use Rattle.tb_front.specs.Promise.Due.{each_from}
use Rattle.tb_delta_front.specs.Promise.Steps.{field_at, fields_in, names_of, unknown_among, unknown_field}
use Rattle.tb_front.proofs.Dues.{IsDue, due_as}
use Rattle.tb_front.proofs.Each.{behind, goes, stopped, ends}

abbrev pub part_of : Col → Part
part_of c = (c.name, c.kind)

abbrev pub schema : List Col → List Part
schema cs = schema_of (table_of cs)

pub schema_at : (cs : List Col) (i : ℕ) (d : Col) → i < length cs → d ≡ get_or cs i d → get_or (schema cs) i (part_of d) ≡ part_of d
schema_at [] i d low is = absurd (omega (arith, low))
schema_at (c ∷ cs) zero d low is = ap part_of (sym is)
schema_at (c ∷ cs) (suc i) d low is = schema_at cs i d (omega (arith, low)) is

pub schema_drop : (cs : List Col) (i : ℕ) (d : Col) → i < length cs → d ≡ get_or cs i d → schema (drop i cs) ≡ part_of d ∷ schema (drop (i + 1) cs)
schema_drop cs i d low is =
    let same : suc i ≡ i + 1 = omega arith in
    ap schema (drop-cons cs i d low) ∙ ap (λ (x : Col). part_of x ∷ schema (drop (suc i) cs)) (sym is) ∙ ap (λ (j : ℕ). part_of d ∷ schema (drop j cs)) same

pub schema_long : (cs : List Col) → length (schema cs) ≡ length cs
schema_long cs = length-map (table_of cs) (λ (c : TableColumn). (c.name, c.kind)) ∙ length-map cs plain_column

-- what is due of each column
abbrev pub field_of : ℕ → Data → ℕ → Part → Result Datum FrontFault
field_of n row place p = field_at n row p

module _ (n : ℕ) (row : Data) (cs : List Col) where
  abbrev f : ℕ → Part → Result Datum FrontFault
  f = field_of n row

  abbrev pub IsRead : List Datum → ℕ → Type 0
  IsRead vs i = fields_in n row (schema cs) ≡ behind vs (each_from f i (schema (drop i cs)))

  -- the next column comes first
  next : (vs : List Datum) (i : ℕ) (d : Col) → i < length cs → d ≡ get_or cs i d → IsRead vs i → fields_in n row (schema cs) ≡ behind vs (each_from f i (part_of d ∷ schema (drop (i + 1) cs)))
  next vs i d low is h = h ∙ ap (λ (ps : List Part). behind vs (each_from f i ps)) (schema_drop cs i d low is)

  pub one_field : (vs : List Datum) (i : ℕ) (d : Col) (v : Datum) → i < length cs → d ≡ get_or cs i d → IsRead vs i → field_at n row (part_of d) ≡ Ok v → IsRead (vs ++ v ∷ []) (i + 1)
  one_field vs i d v low is h here = next vs i d low is h ∙ goes f vs i (part_of d) (schema (drop (i + 1) cs)) v here

  pub no_more : (vs : List Datum) (i : ℕ) (d : Col) (e : FrontFault) → i < length cs → d ≡ get_or cs i d → IsRead vs i → IsDue e (field_at n row (part_of d)) → IsDue e (fields_in n row (schema cs))
  no_more vs i d e low is h here =
      due_as (fields_in n row (schema cs)) (behind vs (each_from f i (part_of d ∷ schema (drop (i + 1) cs)))) e (next vs i d low is h)
      (stopped f vs i (part_of d) (schema (drop (i + 1) cs)) e here)

  pub all_fields : (vs : List Datum) (i : ℕ) → length cs ≤ i → IsRead vs i → fields_in n row (schema cs) ≡ Ok vs
  all_fields vs i past h = h ∙ ap (λ (l : List Col). behind vs (each_from f i (schema l))) (drop_all i cs past) ∙ ends f vs i

pub one_typed : (cs : List Col) (vs : List Datum) (i : ℕ) (d : Col) (v : Datum) → i < length cs → d ≡ get_or cs i d → HasType d.kind v → TypedSoFar (schema cs) vs i → TypedSoFar (schema cs) (vs ++ v ∷ []) (i + 1)
one_typed cs vs i d v low is typed h =
    let P : Part → Type 0 = λ p. HasType p.1 v in
    TypedSoFar-more (schema cs) vs i (part_of d) v (omega (arith, low, schema_long cs)) (subst P (sym (schema_at cs i d low is)) typed) h

pub all_typed : (cs : List Col) (vs : List Datum) (i : ℕ) → length cs ≤ i → TypedSoFar (schema cs) vs i → FitsFields (schema cs) vs
all_typed cs vs i past h = subst (λ ps. AreEachOf (parts_of ps) (items_of vs)) (take_all i (schema cs) (omega (arith, past, schema_long cs))) h

-- the type of days
pub date_is : (t : Kind) → is_date t ≡ true → t ≡ kind.date
date_is kind.null e = absurd (true≢false (sym e))
date_is kind.boolean e = absurd (true≢false (sym e))
date_is kind.int8 e = absurd (true≢false (sym e))
date_is kind.int16 e = absurd (true≢false (sym e))
date_is kind.int32 e = absurd (true≢false (sym e))
date_is kind.int64 e = absurd (true≢false (sym e))
date_is kind.int128 e = absurd (true≢false (sym e))
date_is kind.uint8 e = absurd (true≢false (sym e))
date_is kind.uint16 e = absurd (true≢false (sym e))
date_is kind.uint32 e = absurd (true≢false (sym e))
date_is kind.uint64 e = absurd (true≢false (sym e))
date_is kind.string e = absurd (true≢false (sym e))
date_is kind.binary e = absurd (true≢false (sym e))
date_is kind.date e = refl
date_is kind.time e = absurd (true≢false (sym e))
date_is (kind.datetime u z) e = absurd (true≢false (sym e))
date_is (kind.duration u) e = absurd (true≢false (sym e))
date_is (kind.list u) e = absurd (true≢false (sym e))
date_is (kind.struct ps) e = absurd (true≢false (sym e))

-- ---- the members of a row

abbrev pub first_unknown : List (List ℕ) → List (String Global) → Option (List ℕ)
first_unknown known ks = find (λ n. not (is_among known n)) (map string_bytes ks)

names_members : (es : List Entry) → names_of (members_view es) ≡ map string_bytes (keys_of es)
names_members [] = refl
names_members (e ∷ es) = ap (λ (l : List (List ℕ)). string_bytes e.0 ∷ l) (names_members es)

names_same : (cs : List Col) → map (λ (p : Part). p.0) (schema cs) ≡ table.names_of (table_of cs)
names_same [] = refl
names_same (c ∷ cs) = ap (λ (l : List (List ℕ)). c.name ∷ l) (names_same cs)

pub unknown_is : (cs : List Col) (d : Data) (es : List Entry) → Some (members_view es) ≡ as_object d → unknown_field (schema cs) d ≡ first_unknown (table.names_of (table_of cs)) (keys_of es)
unknown_is cs d es e =
    ap (unknown_among (map (λ (p : Part). p.0) (schema cs))) (sym e)
    ∙ ap (λ (known : List (List ℕ)). find (λ n. not (is_among known n)) (names_of (members_view es))) (names_same cs)
    ∙ ap (find (λ n. not (is_among (table.names_of (table_of cs)) n))) (names_members es)
