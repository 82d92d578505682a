-- What a request names, as it was found.
use Rattle.std.proofs.Common.{◌≡◌, ◌∙◌, ℕ, Bool, true, false, not, List, [], ◌∷◌, ◌++◌, get_or, Option, Some, None, is_none, length, map, refl, sym, ap, subst, arith}
use Rattle.std.specs.Prelude.{IsSome}
use Rattle.std.specs.List.{All, cons_option, filter_map, find, flat_map, zip}
use Rattle.std.specs.Option.{option_map}
use Rattle.std.proofs.lemmas.List.{get_or-map}
use Rattle.std.proofs.lemmas.List.Elements.{All-cons, All-head, All-nil, All-tail}
use Rattle.std.proofs.lemmas.List.FromFn.{get_or-range_with_len, length-range_with_len}
use Rattle.tb_value.specs.Promise.Kind as kind
use Rattle.tb_value.specs.Promise.Kind.{Kind}
use Rattle.tb_value.specs.Promise.Names.{Name}
use Rattle.tb_value.specs.Promise.Pairs.{row_numbers}
use Rattle.tb_value.specs.Promise.Refusals.{first_cause, when}
use Rattle.tb_value.specs.Promise.SameKind.{is_key}
use Rattle.tb_value.specs.declared.error.InvalidCause.TheVariants.{AggType, KeyKind}
use Rattle.tb_value.specs.declared.error.PolarsError.{PolarsError}
use Rattle.tb_value.specs.declared.error.PolarsError.TheVariants.{ColumnNotFound, InvalidOperation}
use Rattle.tb_frame.specs.Promise.Join.{column_named}
use Rattle.tb_frame.specs.Promise.Naming.{is_among}
use Rattle.tb_frame.specs.Promise.Refusal.{first_unknown, kind_at, unknown_key}
use Rattle.tb_frame.specs.Promise.Table.{Table, TableColumn, names_of}
use Rattle.tb_frame.proofs.Causes.{find_none, map_none}
use Rattle.tb_frame.proofs.Selected.{unnamed-is}
use Rattle.tb_agg.specs.Promise.Aggregates.{result_kind}
use Rattle.tb_group.specs.Asked.{Asked, asked_of}
use Rattle.tb_group.specs.Promise.Group.{agg_column, made_of}
use Rattle.tb_group.specs.Promise.Refusal.{key_kind, of_column, type_cause}
use Rattle.tb_group.specs.Promise.Request.{Request, agg_names, agg_sources}
use Rattle.tb_group.specs.declared.request.GroupAgg.{GroupAgg}

abbrev is_unknown : Table → Name → Bool
is_unknown t n = not (is_among (names_of t) n)

known : (t : Table) (names : List Name) → unknown_key t names ≡ None → All (λ n. is_unknown t n ≡ false) names
known t names h = find_none (is_unknown t) names (map_none (λ (n : Name). ColumnNotFound n) (first_unknown t names) h)

-- aggregates beside their columns, where each name is known
beside_each : (t : Table) (aggs : List GroupAgg) → All (λ n. is_unknown t n ≡ false) (agg_sources aggs)
    → (zip aggs (filter_map (column_named t) (agg_sources aggs)) ≡ asked_of t aggs) × (length (filter_map (column_named t) (agg_sources aggs)) ≡ length aggs)
beside_each t [] h = (refl, refl)
beside_each t (a ∷ aggs) h =
    at (column_named t a.column) refl (unnamed-is a.column t ∙ All-head (λ n. is_unknown t n ≡ false) a.column (agg_sources aggs) h)
    (beside_each t aggs (All-tail (λ n. is_unknown t n ≡ false) a.column (agg_sources aggs) h))
  where
    at : (o : Option TableColumn) → column_named t a.column ≡ o → is_none (column_named t a.column) ≡ false
        → (zip aggs (filter_map (column_named t) (agg_sources aggs)) ≡ asked_of t aggs) × (length (filter_map (column_named t) (agg_sources aggs)) ≡ length aggs)
        → (zip (a ∷ aggs) (cons_option (column_named t a.column) (filter_map (column_named t) (agg_sources aggs))) ≡ cons_option (option_map (λ (v : TableColumn). (a, v)) (column_named t a.column)) (asked_of t aggs))
        × (length (cons_option (column_named t a.column) (filter_map (column_named t) (agg_sources aggs))) ≡ length (a ∷ aggs))
    at None e k later = absurd (let c : true ≡ false = ap is_none (sym e) ∙ k in cc)
    at (Some v) e k later = (
      ap (λ (o : Option TableColumn). zip (a ∷ aggs) (cons_option o (filter_map (column_named t) (agg_sources aggs)))) e
          ∙ ap (λ (l : List Asked). (a, v) ∷ l) later.0
          ∙ sym (ap (λ (o : Option TableColumn). cons_option (option_map (λ (w : TableColumn). (a, w)) o) (asked_of t aggs)) e),
      ap (λ (o : Option TableColumn). length (cons_option o (filter_map (column_named t) (agg_sources aggs)))) e ∙ omega (arith, later.1),
    )

pub asked_found : (t : Table) (aggs : List GroupAgg) → unknown_key t (agg_sources aggs) ≡ None → zip aggs (filter_map (column_named t) (agg_sources aggs)) ≡ asked_of t aggs
asked_found t aggs h = (beside_each t aggs (known t (agg_sources aggs) h)).0

pub asked_many : (t : Table) (aggs : List GroupAgg) → unknown_key t (agg_sources aggs) ≡ None → length (filter_map (column_named t) (agg_sources aggs)) ≡ length aggs
asked_many t aggs h = (beside_each t aggs (known t (agg_sources aggs) h)).1

behind : (o : Option PolarsError) (xs ys : List (Option PolarsError)) → first_cause xs ≡ first_cause ys → first_cause (o ∷ xs) ≡ first_cause (o ∷ ys)
behind None xs ys h = h
behind (Some e) xs ys h = refl

-- causes of aggregates are those of aggregates beside their columns
pub causes_of : (cause : GroupAgg → TableColumn → Option PolarsError) (t : Table) (aggs : List GroupAgg)
    → first_cause (map (λ (a : GroupAgg). of_column (cause a) (column_named t a.column)) aggs) ≡ first_cause (map (λ (p : Asked). cause p.0 p.1) (asked_of t aggs))
causes_of cause t [] = refl
causes_of cause t (a ∷ aggs) = at (column_named t a.column) (causes_of cause t aggs)
  where
    at : (o : Option TableColumn) → first_cause (map (λ (b : GroupAgg). of_column (cause b) (column_named t b.column)) aggs) ≡ first_cause (map (λ (p : Asked). cause p.0 p.1) (asked_of t aggs))
        → first_cause (of_column (cause a) o ∷ map (λ (b : GroupAgg). of_column (cause b) (column_named t b.column)) aggs)
        ≡ first_cause (map (λ (p : Asked). cause p.0 p.1) (cons_option (option_map (λ (v : TableColumn). (a, v)) o) (asked_of t aggs)))
    at None h = h
    at (Some v) h = behind (cause a v) (map (λ (b : GroupAgg). of_column (cause b) (column_named t b.column)) aggs) (map (λ (p : Asked). cause p.0 p.1) (asked_of t aggs)) h

-- and so are the columns that are made
pub columns_of : (q : Request) (aggs : List GroupAgg) → flat_map (λ (a : GroupAgg). made_of q a (column_named q.table a.column)) aggs ≡ map (λ (p : Asked). agg_column q p.0 p.1) (asked_of q.table aggs)
columns_of q [] = refl
columns_of q (a ∷ aggs) = at (column_named q.table a.column) (columns_of q aggs)
  where
    at : (o : Option TableColumn) → flat_map (λ (b : GroupAgg). made_of q b (column_named q.table b.column)) aggs ≡ map (λ (p : Asked). agg_column q p.0 p.1) (asked_of q.table aggs)
        → made_of q a o ++ flat_map (λ (b : GroupAgg). made_of q b (column_named q.table b.column)) aggs
        ≡ map (λ (p : Asked). agg_column q p.0 p.1) (cons_option (option_map (λ (v : TableColumn). (a, v)) o) (asked_of q.table aggs))
    at None h = h
    at (Some v) h = ap (λ (l : List TableColumn). agg_column q a v ∷ l) h

-- where each name is known, the made columns have the names that are asked for
pub names_made : (t : Table) (aggs : List GroupAgg) → unknown_key t (agg_sources aggs) ≡ None → map (λ (p : Asked). p.0.name) (asked_of t aggs) ≡ agg_names aggs
names_made t aggs h = each aggs (known t (agg_sources aggs) h)
  where
    each : (bs : List GroupAgg) → All (λ n. is_unknown t n ≡ false) (agg_sources bs) → map (λ (p : Asked). p.0.name) (asked_of t bs) ≡ agg_names bs
    each [] k = refl
    each (a ∷ bs) k =
        at (column_named t a.column) refl (unnamed-is a.column t ∙ All-head (λ n. is_unknown t n ≡ false) a.column (agg_sources bs) k)
        (each bs (All-tail (λ n. is_unknown t n ≡ false) a.column (agg_sources bs) k))
      where
        at : (o : Option TableColumn) → column_named t a.column ≡ o → is_none (column_named t a.column) ≡ false → map (λ (p : Asked). p.0.name) (asked_of t bs) ≡ agg_names bs
            → map (λ (p : Asked). p.0.name) (cons_option (option_map (λ (v : TableColumn). (a, v)) (column_named t a.column)) (asked_of t bs)) ≡ a.name ∷ agg_names bs
        at None e m later = absurd (let c : true ≡ false = ap is_none (sym e) ∙ m in cc)
        at (Some v) e m later =
            ap (λ (o : Option TableColumn). map (λ (p : Asked). p.0.name) (cons_option (option_map (λ (w : TableColumn). (a, w)) o) (asked_of t bs))) e
            ∙ ap (λ (l : List Name). a.name ∷ l) later

-- where no type is refused, each aggregate takes its column
pub all_taken : (bs : List Asked) → first_cause (map (λ (p : Asked). type_cause p.0 p.1) bs) ≡ None → All (λ (p : Asked). IsSome (result_kind p.0.agg p.1.kind)) bs
all_taken [] h = All-nil (λ (p : Asked). IsSome (result_kind p.0.agg p.1.kind))
all_taken (a ∷ bs) h = at (result_kind a.0.agg a.1.kind) refl (all_taken bs)
  where
    at : (o : Option Kind) → result_kind a.0.agg a.1.kind ≡ o → (first_cause (map (λ (p : Asked). type_cause p.0 p.1) bs) ≡ None → All (λ (p : Asked). IsSome (result_kind p.0.agg p.1.kind)) bs)
        → All (λ (p : Asked). IsSome (result_kind p.0.agg p.1.kind)) (a ∷ bs)
    at None e later = absurd (let c : Some (InvalidOperation (AggType a.0.column)) ≡ None = ap (λ (o : Option Kind). first_cause (when (is_none o) (InvalidOperation (AggType a.0.column)) ∷ map (λ (p : Asked). type_cause p.0 p.1) bs)) (sym e) ∙ h in cc)
    at (Some t) e later = All-cons (λ (p : Asked). IsSome (result_kind p.0.agg p.1.kind)) a bs (subst IsSome (sym e) refl)
        (later (ap (λ (o : Option Kind). first_cause (when (is_none o) (InvalidOperation (AggType a.0.column)) ∷ map (λ (p : Asked). type_cause p.0 p.1) bs)) (sym e) ∙ h))

is_true : (b : Bool) → not b ≡ false → b ≡ true
is_true true e = refl
is_true false e = absurd (cc)

-- and each key is of a key type
pub all_keys : (cs : List TableColumn) → key_kind cs ≡ None → All (λ (c : TableColumn). is_key c.kind ≡ true) cs
all_keys cs h = λ i d low.
    let bad : ℕ → Bool = λ p. not (is_key (kind_at cs p)) in
    let none : All (λ p. bad p ≡ false) (row_numbers (length cs)) = find_none bad (row_numbers (length cs)) (map_none (λ (p : ℕ). InvalidOperation (KeyKind p)) (find bad (row_numbers (length cs))) h) in
    let at : get_or (row_numbers (length cs)) i 0 ≡ i = get_or-range_with_len 0 (length cs) i 0 low ∙ omega arith in
    let fine : is_key (kind_at cs i) ≡ true = is_true (is_key (kind_at cs i)) (ap bad (sym at) ∙ none i 0 (omega (arith, low, length-range_with_len 0 (length cs)))) in
    ap is_key (sym (get_or-map (λ (c : TableColumn). c.kind) cs i d kind.null low)) ∙ fine
