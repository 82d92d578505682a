-- Two tables with one text are equal.
use Rattle.std.proofs.Common.{◌≡◌, ◌<◌, ◌≤◌, ◌^◌, List, [], ◌∷◌, length, map, Some, refl, sym, ap, ◌∙◌, arith}
use Rattle.std.specs.List.{All}
use Rattle.std.proofs.lemmas.List.{append_cancel_right}
use Rattle.std.proofs.lemmas.List.Elements.{All-head, All-tail, All-map, All-weaker}
use Rattle.serde_json.specs.Data.{Items, no_items, item}
use Rattle.serde_json.specs.View.{items_of}
use Rattle.tb_value.specs.Promise.Datum.{Datum}
use Rattle.tb_value.specs.Promise.Kind.{Kind}
use Rattle.tb_value.specs.Promise.Names.{Name}
use Rattle.tb_value.specs.Promise.Typed.{HasType}
use Rattle.tb_value.specs.declared.limits.TheConstants.{MAX_ROWS}
use Rattle.tb_chunk.specs.Promise.Col.{Col, values}
use Rattle.tb_chunk.specs.Col.{IsColumn}
use Rattle.tb_frame.specs.Promise.Table.{TableColumn, Table, IsTyped, plain_column, table_of, height}
use Rattle.tb_json.specs.Promise.Text.{kind_data, value_data, column_data, table_data, text_of}
use Rattle.tb_json.specs.Promise.Kinds.{kind_in}
use Rattle.tb_json.specs.Writable.{IsWritable}
use Rattle.tb_json.proofs.KindsBack.{kind_in-kind_data}
use Rattle.tb_json.proofs.ReadBack.{compact_text_one_to_one}
use Rattle.tb_json.proofs.TextPlain.{IsPlain-table_data}
use Rattle.tb_json.proofs.ValuesBack.{value_back, value_back-value_data}

same_kind : (t u : Kind) → kind_data t ≡ kind_data u → t ≡ u
same_kind t u e = let both : Some t ≡ Some u = sym (kind_in-kind_data t) ∙ ap kind_in e ∙ kind_in-kind_data u in cc

abbrev values_back : Kind → Items → List Datum
values_back t no_items = []
values_back t (item d ds) = value_back t d ∷ values_back t ds

values_are : (t : Kind) (vs : List Datum) → All (HasType t) vs → values_back t (items_of (map (value_data t) vs)) ≡ vs
values_are t [] h = refl
values_are t (v ∷ vs) h =
    ap (λ w. w ∷ values_back t (items_of (map (value_data t) vs))) (value_back-value_data t v (All-head (HasType t) v vs h))
    ∙ ap (λ ws. v ∷ ws) (values_are t vs (All-tail (HasType t) v vs h))

abbrev column : Name → Kind → List Datum → TableColumn
column n t vs = record { name = n; kind = t; values = vs }

same_column : (c d : TableColumn) → IsTyped c → IsTyped d → column_data c ≡ column_data d → c ≡ d
same_column c d h k e =
    let name : c.name ≡ d.name = cc in
    let word : kind_data c.kind ≡ kind_data d.kind = cc in
    let items : items_of (map (value_data c.kind) c.values) ≡ items_of (map (value_data d.kind) d.values) = cc in
    let kind = same_kind c.kind d.kind word in
    let values : c.values ≡ d.values =
    sym (values_are c.kind c.values h) ∙ ap (values_back c.kind) items
    ∙ ap (λ t. values_back t (items_of (map (value_data d.kind) d.values))) kind ∙ values_are d.kind d.values k in
    ap (λ n. column n c.kind c.values) name ∙ ap (λ t. column d.name t c.values) kind ∙ ap (column d.name d.kind) values

same_columns : (s t : Table) → All IsTyped s → All IsTyped t → items_of (map column_data s) ≡ items_of (map column_data t) → s ≡ t
same_columns [] [] h k e = refl
same_columns [] (d ∷ ds) h k e = cc
same_columns (c ∷ cs) [] h k e = cc
same_columns (c ∷ cs) (d ∷ ds) h k e =
    let first : column_data c ≡ column_data d = cc in
    let rest : items_of (map column_data cs) ≡ items_of (map column_data ds) = cc in
    let p = same_column c d (All-head IsTyped c cs h) (All-head IsTyped d ds k) first in
    let q = same_columns cs ds (All-tail IsTyped c cs h) (All-tail IsTyped d ds k) rest in
    ap (λ x. x ∷ cs) p ∙ ap (λ xs. d ∷ xs) q

same_table : (s t : Table) → IsWritable s → IsWritable t → table_data s ≡ table_data t → s ≡ t
same_table s t h k e =
    let items : items_of (map column_data s) ≡ items_of (map column_data t) = cc in
    same_columns s t h.typed k.typed items

pub text_of_one_to_one : (s t : Table) → IsWritable s → IsWritable t → text_of s ≡ text_of t → s ≡ t
unfolding text_of
text_of_one_to_one s t h k e =
    same_table s t h k (compact_text_one_to_one (table_data s) (table_data t) (IsPlain-table_data s h) (IsPlain-table_data t k) (append_cancel_right _ _ _ e))

-- ---- tables of columns

short_table : (cs : List Col) → All IsColumn cs → height (table_of cs) < 2 ^ 64
short_table [] all = omega arith
short_table (c ∷ cs) all = let first = All-head IsColumn c cs all in let short : length (values c) ≤ MAX_ROWS = first.short in omega arith

pub IsWritable-table_of : (cs : List Col) → All IsColumn cs → IsWritable (table_of cs)
IsWritable-table_of cs all = record {
  typed = All-map IsTyped plain_column cs (All-weaker IsColumn (λ c. IsTyped (plain_column c)) (λ c column. column.typed) cs all);
  short = short_table cs all;
}
