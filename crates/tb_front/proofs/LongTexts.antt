-- The text of a long table, written some columns at a time.
use Rattle.std.proofs.Common.{arith, ◌≡◌, ◌∙◌, ◌≤◌, ◌<◌, ◌+◌, ◌-◌, ◌*◌, ℕ, List, [], ◌∷◌, ◌++◌, length, map, take, drop, Option, Some, None, Result, Ok, Err, ap, sym, refl, subst, append_assoc, length-append}
use mathlib.Core.Logic.{◌⊎◌, inl, inr}
use Rattle.std.specs.List.{All}
use Rattle.std.proofs.Math.Seq.{take-add}
use Rattle.std.proofs.lemmas.Grind.{flat_map-append}
use Rattle.std.proofs.lemmas.List.{append-nil, map-append, take_all}
use Rattle.std.proofs.lemmas.List.Elements.{All-take, All-drop}
use Rattle.tb_value.specs.Promise.Datum.{Datum}
use Rattle.tb_value.specs.Promise.Kind.{Kind}
use Rattle.tb_value.specs.Promise.Kind as kind
use Rattle.tb_value.specs.Promise.Names.{Name}
use Rattle.tb_frame.specs.Promise.Table.{Table, TableColumn, height, names_of, schema_of}
use Rattle.tb_csv.specs.Promise.Texts.{body_text, csv_text, record_text}
use Rattle.tb_csv.specs.Stacked.{below, column_below, kinds_of}
use Rattle.tb_csv.proofs.StackedRows.{body_text-below}
use Rattle.tb_csv.proofs.TextWalks.{names_and_rows, names_fields}
use Rattle.tb_unpivot.specs.Blocks.{HaveRows, LongParts, block_table, columns_from_to}
use Rattle.tb_unpivot.specs.Promise.Unpivot.{long_table, repeated, value_column, variable_column}
use Rattle.tb_unpivot.proofs.LongParts.{whole_block}
use Rattle.tb_unpivot.proofs.LongTables.{long_level, map-long, repeated-add}
use Rattle.tb_front.specs.declared.options.TextForm.TheVariants.{Csv}
use Rattle.tb_front.specs.Promise.Faults.{writing_fault}
use Rattle.tb_front.proofs.Joined.{same_written}

-- LONG TABLES ONE BELOW THE OTHER

below-index : (index : List TableColumn) (m n : ℕ) (t u : Table) → below (map (repeated m) index ++ t) (map (repeated n) index ++ u) ≡ map (repeated (m + n)) index ++ below t u
below-index [] m n t u = refl
below-index (c ∷ cs) m n t u = λ i. record c { values = sym (repeated-add m n c.values) i } ∷ below-index cs m n t u i

-- the names of columns and of more columns, and their values
variable_values : (n : Name) (on more : List TableColumn) → (variable_column n (on ++ more)).values ≡ (variable_column n on).values ++ (variable_column n more).values
variable_values n on more = flat_map-append _ on more

value_values : (n : Name) (t : Kind) (on more : List TableColumn) → (value_column n t (on ++ more)).values ≡ (value_column n t on).values ++ (value_column n t more).values
value_values n t on more = flat_map-append _ on more

-- a long table of columns and of more columns
long-below : (t : Kind) (on more index : List TableColumn) (v w : Name) → long_table t (on ++ more) index v w ≡ below (long_table t on index v w) (long_table t more index v w)
long-below t on more index v w =
    (λ i. map (repeated (length-append on more i)) index
    ++ record { name = v; kind = kind.string; values = variable_values v on more i }
    ∷ record { name = w; kind = t; values = value_values w t on more i }
    ∷ [])
    ∙ sym (below-index index (length on) (length more) (variable_column v on ∷ value_column w t on ∷ []) (variable_column v more ∷ value_column w t more ∷ []))

-- the same types stand in each of them, and the same names
same_kinds : (t : Kind) (on more index : List TableColumn) (v w : Name) → kinds_of (long_table t on index v w) ≡ kinds_of (long_table t more index v w)
same_kinds t on more index v w =
    map-long (λ (c : TableColumn). c.kind) (λ c vs. refl) t on index v w ∙ sym (map-long (λ (c : TableColumn). c.kind) (λ c vs. refl) t more index v w)

same_names : (t : Kind) (on more index : List TableColumn) (v w : Name) → names_of (long_table t on index v w) ≡ names_of (long_table t more index v w)
same_names t on more index v w =
    map-long (λ (c : TableColumn). c.name) (λ c vs. refl) t on index v w ∙ sym (map-long (λ (c : TableColumn). c.name) (λ c vs. refl) t more index v w)

same_schema : (t : Kind) (on more index : List TableColumn) (v w : Name) → schema_of (long_table t on index v w) ≡ schema_of (long_table t more index v w)
same_schema t on more index v w =
    map-long (λ (c : TableColumn). (c.name, c.kind)) (λ c vs. refl) t on index v w ∙ sym (map-long (λ (c : TableColumn). (c.name, c.kind)) (λ c vs. refl) t more index v w)

-- BLOCKS

from_to_more : (first last : ℕ) (on : List TableColumn) → first ≤ last → columns_from_to 0 last on ≡ columns_from_to 0 first on ++ columns_from_to first last on
from_to_more first last on low =
    let whole : last - 0 ≡ first + (last - first) = omega (arith, low) in
    let start : first ≡ first - 0 = omega arith in
    ap (λ n. take n on) whole ∙ take-add first (last - first) on ∙ ap (λ n. take n on ++ take (last - first) (drop first on)) start

module _ (separator : ℕ) (p : LongParts) (rows : HaveRows p) where
  block_level : (first last : ℕ) → All (λ (c : TableColumn). length c.values ≡ p.rows * length (columns_from_to first last p.on)) (block_table p first last)
  block_level first last =
      let P : TableColumn → Type 0 = λ c. length c.values ≡ p.rows in
      long_level p.rows p.kind (columns_from_to first last p.on) p.index p.variable p.value (All-take P (last - first) (drop first p.on) (All-drop P first p.on rows.on)) rows.index

  -- the rows of a block more
  pub block_more : (first last : ℕ) (old so_far new : List ℕ) → first ≤ last → so_far ≡ old ++ body_text separator (block_table p 0 first)
      → new ≡ so_far ++ body_text separator (block_table p first last) → new ≡ old ++ body_text separator (block_table p 0 last)
  block_more first last old so_far new low before push =
      let long = λ (on : List TableColumn). long_table p.kind on p.index p.variable p.value in
      push ∙ ap (λ s. s ++ body_text separator (block_table p first last)) before
      ∙ append_assoc old (body_text separator (block_table p 0 first)) (body_text separator (block_table p first last))
      ∙ ap (λ s. old ++ s)
      (sym (ap (λ on. body_text separator (long on)) (from_to_more first last p.on low)
      ∙ ap (body_text separator) (long-below p.kind (columns_from_to 0 first p.on) (columns_from_to first last p.on) p.index p.variable p.value)
      ∙ body_text-below separator (block_table p 0 first) (block_table p first last) _ _ (block_level 0 first) (block_level first last)
      (same_kinds p.kind (columns_from_to 0 first p.on) (columns_from_to first last p.on) p.index p.variable p.value)))

-- of no column there is no row
none-height : (t : Kind) (index : List TableColumn) (v w : Name) → height (long_table t [] index v w) ≡ 0
none-height t [] v w = refl
none-height t (c ∷ cs) v w = refl

no_rows : (separator : ℕ) (t : Table) → height t ≡ 0 → body_text separator t ≡ []
no_rows separator t none = rw none refl

module _ (separator : ℕ) (p : LongParts) where
  pub none_yet : body_text separator (block_table p 0 0) ≡ []
  none_yet = no_rows separator (block_table p 0 0) (none-height p.kind p.index p.variable p.value)

  -- before a block there is nothing
  pub nothing_more : (old : List ℕ) → old ≡ old ++ body_text separator (block_table p 0 0)
  nothing_more old = sym (ap (λ s. old ++ s) none_yet ∙ append-nil old)

  module _ (long : Table) (is : long ≡ long_table p.kind p.on p.index p.variable p.value) where
    names_alike : names_fields (block_table p 0 0) ≡ names_fields long
    names_alike = ap (λ (ns : List Name). map (λ n. Some n) ns) (same_names p.kind [] p.on p.index p.variable p.value ∙ sym (ap names_of is))

    -- the names and the rows of all blocks are the text of the long table
    pub blocks_text : (names text : List ℕ) (last : ℕ) → last ≡ length p.on → names ≡ csv_text separator (block_table p 0 0)
        → text ≡ names ++ body_text separator (block_table p 0 last) → text ≡ csv_text separator long
    blocks_text names text last all named made =
        let first = record_text separator (names_fields (block_table p 0 0)) in
        made
        ∙ (λ i. (named ∙ sym (names_and_rows separator (block_table p 0 0)) ∙ ap (λ s. first ++ s) none_yet ∙ append-nil first) i ++ body_text separator ((whole_block p last all ∙ sym is) i))
        ∙ ap (λ r. record_text separator r ++ body_text separator long) names_alike
        ∙ names_and_rows separator long

    -- and whether there is one is told by the names and types
    pub blocks_written : writing_fault Csv (block_table p 0 0) ≡ writing_fault Csv long
    blocks_written =
        let alike : schema_of (block_table p 0 0) ≡ schema_of long = same_schema p.kind [] p.on p.index p.variable p.value ∙ sym (ap schema_of is) in
        same_written Csv (block_table p 0 0) (schema_of long) alike ∙ sym (same_written Csv long (schema_of long) refl)
