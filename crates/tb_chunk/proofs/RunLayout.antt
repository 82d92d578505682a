-- Facts on runs of values.
use Rattle.std.proofs.Common.{arith, ◌≡◌, ◌∙◌, ◌≤◌, ◌<◌, ◌+◌, ◌++◌, ◌∷◌, [], ℕ, zero, suc, List, Option, Some, None, length, get_or, map, take, drop, replicate, refl, subst, sym, ap, add-one, drop-cons, append-nil, length-append}
use Rattle.std.specs.List.{All, fold, sum_by}
use Rattle.std.proofs.lemmas.List.{append_assoc, flat_map_more, length-map, length-replicate, map-append, map_more, map_push}
use Rattle.std.proofs.lemmas.List.Elements.{All-append, All-head, All-map, All-nil, All-replicate, All-tail, All-weaker}
use Rattle.std.proofs.lemmas.List.Sums.{fold_push, sum_by-cons, sum_by-drop_more}
use Rattle.tb_value.proofs.Counts.{sum_by-map}
use Rattle.tb_value.specs.Promise.Datum.{Datum, null}
use Rattle.tb_value.specs.Promise.Kind.{Kind}
use Rattle.tb_value.specs.Promise.Kind as kind
use Rattle.tb_value.specs.See.{datum, data_of}
use Rattle.tb_value.specs.Promise.Typed.{HasType}
use Rattle.tb_value.specs.declared.any_value.AnyValue.{AnyValue}
use Rattle.tb_cell.specs.Shown.{or_null}
use Rattle.tb_cell.specs.Fits.{Fits}
use Rattle.tb_chunk.specs.Fresh.{no_views}
use Rattle.tb_chunk.specs.Made.{IsShort, IsTyped}
use Rattle.tb_view.specs.Promise.Layout.{buffers_of}
use Rattle.tb_view.specs.Layout.{Building, building_of, with_nulls, with_rows}
use Rattle.tb_chunk.specs.RunLayout.{AreFewRows, AreRunsOf, expansion, total_of}
use Rattle.tb_view.specs.RunViews.{data_runs, laid_runs, run_building, text_runs, with_run}
use Rattle.tb_value.specs.Promise.Texts.{text_of}
use Rattle.tb_view.specs.declared.view.View.{View}
use Rattle.tb_chunk.proofs.Alls.{all_split}
use Rattle.tb_view.proofs.Filled.{map-replicate}
use Rattle.tb_view.proofs.RunViews.{data_more}
use Rattle.tb_cell.proofs.Fitting.{null-only}
use Rattle.tb_chunk.proofs.Lists.{replicate-nulls}

-- what is left is the next count and then what is left after it
pub total_drop : {A : Type 0} (rs : List (A × ℕ)) (i : ℕ) (r : A × ℕ) → i < length rs → r ≡ get_or rs i r → total_of (drop i rs) ≡ r.1 + total_of (drop (i + 1) rs)
total_drop rs i r low is = sum_by-drop_more (λ s. s.1) rs i r low ∙ ap (λ s. s.1 + total_of (drop (i + 1) rs)) (sym is)

pub expansion_more : (rs : List (AnyValue × ℕ)) (n : ℕ) (r : AnyValue × ℕ) → n < length rs → r ≡ get_or rs n r → expansion (data_runs (take (n + 1) rs)) ≡ expansion (data_runs (take n rs)) ++ replicate r.1 (datum r.0)
expansion_more rs n r low is =
    ap expansion (data_more rs n r low is)
    ∙ sym (flat_map_more (λ (s : Datum × ℕ). replicate s.1 s.0) [] (data_runs (take n rs)) (datum r.0, r.1))

-- the rows of a builder are the texts of its runs
pub run_rows : (b : Building) (rs : List (Option (List ℕ) × ℕ)) → (fold with_run b rs).rows ≡ b.rows ++ expansion rs
run_rows b [] = sym (append-nil b.rows)
run_rows b ((o, zero) ∷ rs) = run_rows b rs
run_rows b ((None, suc n) ∷ rs) = run_rows (with_nulls b (suc n)) rs ∙ append_assoc b.rows (replicate (suc n) None) (expansion rs)
run_rows b ((Some t, suc n) ∷ rs) = run_rows (with_rows b t (suc n)) rs ∙ append_assoc b.rows (replicate (suc n) (Some t)) (expansion rs)

-- the texts of all rows
pub text_expansion : (rs : List (Datum × ℕ)) → expansion (text_runs rs) ≡ map text_of (expansion rs)
text_expansion [] = refl
text_expansion (r ∷ rs) =
    let t = text_expansion rs in
    (λ i. sym (map-replicate text_of r.1 r.0) i ++ t i) ∙ sym (map-append text_of (replicate r.1 r.0) (expansion rs))

-- the rows are as many as the counts say
pub expansion_length : {A : Type 0} (rs : List (A × ℕ)) → length (expansion rs) ≡ total_of rs
expansion_length [] = refl
expansion_length (r ∷ rs) =
    omega (arith, length-append (replicate r.1 r.0) (expansion rs), length-replicate r.1 r.0, expansion_length rs, sum_by-cons (λ s. s.1) r rs)

pub data_total : (rs : List (AnyValue × ℕ)) → total_of (data_runs rs) ≡ total_of rs
data_total rs = sum_by-map (λ s. s.1) (λ r. (datum r.0, r.1)) rs

pub data_values : (rs : List (AnyValue × ℕ)) → map (λ r. r.0) (data_runs rs) ≡ map (λ r. datum r.0) rs
data_values [] = refl
data_values (r ∷ rs) = ap (λ vs. datum r.0 ∷ vs) (data_values rs)

-- what holds of the value of each run holds of each row
pub All-expansion : (P : Datum → Type 0) (rs : List (Datum × ℕ)) → All P (map (λ r. r.0) rs) → All P (expansion rs)
All-expansion P [] a = All-nil P
All-expansion P (r ∷ rs) a =
    All-append P (replicate r.1 r.0) (expansion rs) (All-replicate P r.1 r.0 (All-head P r.0 (map (λ s. s.0) rs) a)) (All-expansion P rs (All-tail P r.0 (map (λ s. s.0) rs) a))

-- a run that has no text puts nothing
next_none : (b : Building) (v : Datum) (n : ℕ) (rs : List (Datum × ℕ)) → text_of v ≡ None → fold with_run b (text_runs ((v, suc n) ∷ rs)) ≡ fold with_run (with_nulls b (suc n)) (text_runs rs)
next_none b v n rs e = ap (λ o. fold with_run (with_run b (o, suc n)) (text_runs rs)) e

abbrev HasNoText : Datum → Type 0
HasNoText v = text_of v ≡ None

pub none_viewed : (b : Building) (rs : List (Datum × ℕ)) → All HasNoText (expansion rs) → (fold with_run b (text_runs rs)).views ≡ b.views ++ map (λ _. None) (expansion rs)
none_viewed b [] a = sym (append-nil b.views)
none_viewed b ((v, zero) ∷ rs) a = none_viewed b rs a
none_viewed b ((v, suc n) ∷ rs) a =
    let none : text_of v ≡ None = All-head HasNoText v (replicate n v ++ expansion rs) a in
    let rest : All HasNoText (expansion rs) = (all_split HasNoText (replicate (suc n) v) (expansion rs) a).1 in
    ap (λ x. x.views) (next_none b v n rs none)
    ∙ none_viewed (with_nulls b (suc n)) rs rest
    ∙ append_assoc b.views (replicate (suc n) None) (map (λ _. None) (expansion rs))
    ∙ ap (λ vs. b.views ++ vs) ((λ i. sym (map-replicate (λ (_ : Datum). None) (suc n) v) i ++ map (λ _. None) (expansion rs)) ∙ sym (map-append (λ (_ : Datum). None) (replicate (suc n) v) (expansion rs)))

pub nothing_put : (b : Building) (rs : List (Datum × ℕ)) → All HasNoText (expansion rs) → (fold with_run b (text_runs rs)).laid ≡ b.laid
nothing_put b [] a = refl
nothing_put b ((v, zero) ∷ rs) a = nothing_put b rs a
nothing_put b ((v, suc n) ∷ rs) a =
    let none : text_of v ≡ None = All-head HasNoText v (replicate n v ++ expansion rs) a in
    let rest : All HasNoText (expansion rs) = (all_split HasNoText (replicate (suc n) v) (expansion rs) a).1 in
    ap (λ x. x.laid) (next_none b v n rs none) ∙ nothing_put (with_nulls b (suc n)) rs rest

-- runs whose rows have no text have no view and no buffer
pub laid_runs-none : (rs : List (Datum × ℕ)) → All HasNoText (expansion rs) → laid_runs (text_runs rs) ≡ record { views = map (λ _. None) (expansion rs); buffers = [] }
laid_runs-none rs a =
    let v = none_viewed (building_of []) rs a in
    let b = nothing_put (building_of []) rs a in
    λ i. record { views = v i; buffers = buffers_of (b i) }

-- rows without a view, by how many they are
pub views_of_none : {A : Type 0} (xs : List A) → map {B = Option View} (λ _. None) xs ≡ replicate (length xs) None
views_of_none [] = refl
views_of_none (x ∷ xs) = ap (λ (vs : List (Option View)). None ∷ vs) (views_of_none xs)

cell_no_text : {N : Type 0} (shows : N → Datum) → ((x : N) → text_of (shows x) ≡ None) → (o : Option N) → text_of (or_null shows o) ≡ None
cell_no_text shows none None = refl
cell_no_text shows none (Some x) = none x

-- cells of values that are no texts have no view and no buffer
pub laid_cells : {N : Type 0} (shows : N → Datum) → ((x : N) → text_of (shows x) ≡ None) → (cells : List (Option N)) (rs : List (Datum × ℕ)) → map (or_null shows) cells ≡ expansion rs → no_views cells ≡ laid_runs (text_runs rs)
laid_cells shows none cells rs e =
    let no : All HasNoText (expansion rs) = subst (All HasNoText) e (All-map HasNoText (or_null shows) cells (λ k d h. cell_no_text shows none (get_or cells k d))) in
    let many : length cells ≡ length (expansion rs) = sym (length-map cells (or_null shows)) ∙ ap length e in
    (λ i. record { views = (views_of_none cells ∙ ap (λ n. replicate n None) many ∙ sym (views_of_none (expansion rs))) i; buffers = [] })
    ∙ sym (laid_runs-none rs no)

-- runs of nulls alone
pub null_rows : (rs : List (AnyValue × ℕ)) (n : ℕ) → n ≡ total_of rs → All (Fits kind.null) (map (λ r. datum r.0) rs) → replicate n null ≡ expansion (data_runs rs)
null_rows rs n e a =
    let all : All (Fits kind.null) (expansion (data_runs rs)) = All-expansion (Fits kind.null) (data_runs rs) (rw (data_values rs) a) in
    let many : n ≡ length (expansion (data_runs rs)) = e ∙ sym (data_total rs) ∙ sym (expansion_length (data_runs rs)) in
    ap (λ k. replicate k null) many ∙ replicate-nulls (expansion (data_runs rs)) (All-weaker (Fits kind.null) (λ v. v ≡ null) null-only (expansion (data_runs rs)) all)

pub laid_nulls : (rs : List (AnyValue × ℕ)) (n : ℕ) → n ≡ total_of rs → All (Fits kind.null) (map (λ r. datum r.0) rs) → record { views = replicate n None; buffers = [] } ≡ laid_runs (text_runs (data_runs rs))
laid_nulls rs n e a =
    let shows : ℕ → Datum = λ _. null in
    let cells : List (Option ℕ) = replicate n None in
    let shown : map (or_null shows) cells ≡ expansion (data_runs rs) = map-replicate (or_null shows) n None ∙ null_rows rs n e a in
    (λ i. record { views = sym (map-replicate (λ (_ : Option ℕ). None) n None) i; buffers = [] }) ∙ laid_cells shows (λ _. refl) cells (data_runs rs) shown

-- the texts of runs whose values fit
pub run_texts : (rs : List (AnyValue × ℕ)) → (run_building (text_runs (data_runs rs))).rows ≡ map text_of (expansion (data_runs rs))
run_texts rs = run_rows (building_of []) (text_runs (data_runs rs)) ∙ text_expansion (data_runs rs)

pub all_fit : (t : Kind) (rs : List (AnyValue × ℕ)) → All (Fits t) (map (λ r. datum r.0) rs) → All (Fits t) (expansion (data_runs rs))
all_fit t rs a = All-expansion (Fits t) (data_runs rs) (rw (data_values rs) a)

-- a column of runs of a type is of the type, and short
pub runs_typed : (t : Kind) (rs : List (AnyValue × ℕ)) → All (HasType t) (map (λ r. datum r.0) rs) → IsTyped t (expansion (data_runs rs) ∷ [])
runs_typed t rs a = rw (append-nil (expansion (data_runs rs))) (All-expansion (HasType t) (data_runs rs) (rw (data_values rs) a))

pub runs_short : (rs : List (AnyValue × ℕ)) → AreFewRows rs → IsShort (expansion (data_runs rs) ∷ [])
runs_short rs few = omega (arith, few, ap length (append-nil (expansion (data_runs rs))), expansion_length (data_runs rs), data_total rs)

pub few_data : (rs : List (AnyValue × ℕ)) → AreFewRows rs → AreFewRows (data_runs rs)
few_data rs few = omega (arith, few, data_total rs)

pub few_given : (rs : List (AnyValue × ℕ)) → AreFewRows (data_runs rs) → AreFewRows rs
few_given rs few = omega (arith, few, data_total rs)

-- the values of runs are of a type
pub runs_of_type : (t : Kind) (rs : List (AnyValue × ℕ)) → All (HasType t) (map (λ r. datum r.0) rs) → AreRunsOf t (data_runs rs)
runs_of_type t rs a = rw (data_values rs) a

pub values_of_type : (t : Kind) (rs : List (AnyValue × ℕ)) → AreRunsOf t (data_runs rs) → All (HasType t) (map (λ r. datum r.0) rs)
values_of_type t rs a = subst (All (HasType t)) (data_values rs) a
