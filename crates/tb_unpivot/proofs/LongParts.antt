-- Tables that are made long some columns at a time.
use Rattle.std.proofs.Common.{arith, ◌≡◌, ◌∙◌, ◌≤◌, ◌*◌, ◌-◌, ℕ, List, [], ◌∷◌, length, map, take, drop, None, ap, sym, subst}
use Rattle.std.specs.Borrow.{Bor}
use Rattle.std.specs.List.{All}
use Rattle.std.proofs.Math.Nat.{mul-le-mul_left}
use Rattle.std.proofs.lemmas.List.{length-map, length-take, length-drop, take-map, drop-map, take_all}
use Rattle.std.proofs.lemmas.List.Elements.{All-take, All-drop, All-map, All-weaker}
use Rattle.tb_value.specs.Promise.Kind.{Kind}
use Rattle.tb_value.specs.Promise.Names.{Name}
use Rattle.tb_value.specs.SeeKind.{kind_of}
use Rattle.tb_value.specs.Promise.Refusals.{first_cause}
use Rattle.tb_value.specs.declared.limits.TheConstants.{MAX_ROWS}
use Rattle.tb_chunk.specs.Promise.Col.{Col, concatenation, values}
use Rattle.tb_chunk.specs.Lent.{lent_columns}
use Rattle.tb_frame.specs.Frame.{frame_refusal}
use Rattle.tb_frame.specs.Promise.Refusal.{repeated_among}
use Rattle.tb_frame.specs.Promise.Table.{TableColumn, Table, plain_column, table_of}
use Rattle.tb_supertype.specs.Columns.{CastsTo}
use Rattle.tb_unpivot.specs.Blocks.{AreLevel, HaveRows, LongParts, block_table, columns_from_to, long_names, parts_in, parts_of}
use Rattle.tb_unpivot.specs.Promise.Unpivot.{Request, long_table, unpivot_table}
use Rattle.tb_unpivot.specs.declared.lookup.LongColumns.{LongColumns}
use Rattle.tb_unpivot.proofs.Lists.{level_values, lent_values, un_lent}
use Rattle.tb_unpivot.proofs.LongTables.{long_refusal}

-- A PART OF THE COLUMNS

part_lent : (n first : ℕ) (rs : List (Bor Col)) → lent_columns (take n (drop first rs)) ≡ take n (drop first (lent_columns rs))
part_lent n first rs =
    sym (take-map (λ (r : Bor Col). r.now) n (drop first rs)) ∙ ap (take n) (sym (drop-map (λ (r : Bor Col). r.now) first rs))

part_plain : (n first : ℕ) (cs : List Col) → table_of (take n (drop first cs)) ≡ take n (drop first (table_of cs))
part_plain n first cs = sym (take-map plain_column n (drop first cs)) ∙ ap (take n) (sym (drop-map plain_column first cs))

part_length : (n first : ℕ) (cs : List Col) → length (take n (drop first cs)) ≤ length cs
part_length n first cs = omega (arith, length-take n (drop first cs), length-drop first cs)

level_table : (rows : ℕ) (cs : List Col) → All (λ (c : Col). length (values c) ≡ rows) cs → All (λ (c : TableColumn). length c.values ≡ rows) (table_of cs)
level_table rows cs level = All-map (λ (c : TableColumn). length c.values ≡ rows) plain_column cs level

-- the columns from one place up to another, of those that are found
module _ (rows : ℕ) (a : LongColumns) (variable value : Name) (level : AreLevel rows a variable value) (first last : ℕ) (bs is : List (Bor Col))
    (part : bs ≡ take (last - first) (drop first a.on.items)) (there : is ≡ a.index.items) where
  lent : lent_columns bs ≡ take (last - first) (drop first (lent_columns a.on.items))
  lent = ap lent_columns part ∙ part_lent (last - first) first a.on.items

  beside : lent_columns is ≡ lent_columns a.index.items
  beside = ap lent_columns there

  as_many : length bs ≡ length (lent_columns bs)
  as_many = sym (length-map bs (λ (r : Bor Col). r.now))

  lent_level : All (λ (c : Col). length (values c) ≡ rows) (lent_columns bs)
  lent_level =
      let P : Col → Type 0 = λ c. length (values c) ≡ rows in
      subst (λ (cs : List Col). All P cs) (sym lent) (All-take P (last - first) (drop first (lent_columns a.on.items)) (All-drop P first (lent_columns a.on.items) level.on))

  index_level : All (λ (c : Col). length (values c) ≡ rows) (lent_columns is)
  index_level = subst (λ (cs : List Col). All (λ (c : Col). length (values c) ≡ rows) cs) (sym beside) level.index

  few : rows * length (lent_columns bs) ≤ MAX_ROWS
  few =
      let fewer : length (lent_columns bs) ≤ length (lent_columns a.on.items) = rw lent (part_length (last - first) first (lent_columns a.on.items)) in
      omega (arith, mul-le-mul_left rows fewer, level.few)

  pub part_few : length (concatenation (map (λ (r : Bor Col). values r.now) bs)) ≤ MAX_ROWS
  part_few = rw (lent_values bs) (omega (arith, level_values rows (lent_columns bs) lent_level, few))

  pub part_typed : All (λ (r : Bor Col). CastsTo (kind_of a.dtype) r.now) bs
  part_typed =
      let P : Col → Type 0 = CastsTo (kind_of a.dtype) in
      un_lent P bs (subst (λ (cs : List Col). All P cs) (sym lent) (All-take P (last - first) (drop first (lent_columns a.on.items)) (All-drop P first (lent_columns a.on.items) level.typed)))

  pub part_level : All (λ (r : Bor Col). length (values r.now) * length bs ≤ MAX_ROWS) is
  part_level =
      let P : Col → Type 0 = λ c. length (values c) ≡ rows in
      let Q : Col → Type 0 = λ c. length (values c) * length bs ≤ MAX_ROWS in
      let each : (c : Col) → P c → Q c = λ c e. rw (e, as_many) few in
      un_lent Q is (All-weaker P Q each (lent_columns is) index_level)

  -- their long table has distinct names, as that of all columns
  pub part_refusal : (t : Kind) (long : Table) → long ≡ long_table t (table_of (lent_columns bs)) (table_of (lent_columns is)) variable value → frame_refusal long ≡ None
  part_refusal t long made =
      ap frame_refusal made
      ∙ long_refusal rows t (table_of (lent_columns bs)) (table_of (lent_columns is)) variable value (level_table rows (lent_columns bs) lent_level) (level_table rows (lent_columns is) index_level)
      ∙ ap (λ (cs : List Col). first_cause (repeated_among (long_names (table_of cs) variable value) ∷ [])) beside
      ∙ ap (λ o. first_cause (o ∷ [])) level.distinct

  pub part_is : (t : Kind) → t ≡ kind_of a.dtype
      → long_table t (table_of (lent_columns bs)) (table_of (lent_columns is)) variable value ≡ block_table (parts_in rows a variable value) first last
  part_is t typed =
      let on : table_of (lent_columns bs) ≡ columns_from_to first last (table_of (lent_columns a.on.items)) = ap table_of lent ∙ part_plain (last - first) first (lent_columns a.on.items) in
      λ i. long_table (typed i) (on i) (table_of (beside i)) variable value

-- and all of them have so many rows
pub parts_rows : (rows : ℕ) (a : LongColumns) (variable value : Name) → AreLevel rows a variable value → HaveRows (parts_in rows a variable value)
parts_rows rows a variable value level = record {
  on = level_table rows (lent_columns a.on.items) level.on;
  index = level_table rows (lent_columns a.index.items) level.index;
}

pub parts_width : (rows : ℕ) (a : LongColumns) (variable value : Name) → length (parts_in rows a variable value).on ≡ length a.on.items
parts_width rows a variable value = length-map (lent_columns a.on.items) plain_column ∙ length-map a.on.items (λ (r : Bor Col). r.now)

-- the block of all columns is the long table
pub whole_block : (p : LongParts) (last : ℕ) → last ≡ length p.on → block_table p 0 last ≡ long_table p.kind p.on p.index p.variable p.value
whole_block p last all =
    let some : length p.on ≤ last - 0 = omega (arith, all) in
    ap (λ (on : List TableColumn). long_table p.kind on p.index p.variable p.value) (take_all (last - 0) p.on some)

pub whole_table : (q : Request) (p : LongParts) (last : ℕ) → p ≡ parts_of q → last ≡ length p.on → block_table p 0 last ≡ unpivot_table q
whole_table q p last is all =
    whole_block p last all ∙ ap (λ (r : LongParts). long_table r.kind r.on r.index r.variable r.value) is
