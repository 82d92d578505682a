-- Values merged place by place.
use Rattle.std.proofs.Common.{arith, ◌≡◌, ◌≢◌, ℕ, zero, suc, ◌<◌, ◌+◌, Bool, true, false, cond, List, [], ◌∷◌, ◌++◌, Option, None, length, map, get_or, take, refl, ap, sym, ◌∙◌, subst, append-nil}
use Rattle.std.specs.Prelude.{if◌then◌else◌}
use Rattle.std.specs.List.{All, zip}
use Rattle.std.proofs.lemmas.List.Elements.{All-nil, All-cons, All-head, All-tail}
use Rattle.tb_value.specs.Promise.Datum.{Datum, null, is_null}
use Rattle.tb_value.specs.See.{lent_value}
use Rattle.tb_value.specs.Promise.Typed.{HasType}
use Rattle.tb_value.specs.declared.any_value.ValueRef.{ValueRef}
use Rattle.tb_value.specs.declared.any_value.ValueRef.TheVariants as ref
use Rattle.tb_value.specs.declared.sorted.IsSorted.TheVariants.{Not}
use Rattle.tb_chunk.specs.Promise.Col.{Col, concatenation, values}
use Rattle.tb_chunk.specs.Col.{IsColumn}
use Rattle.tb_chunk.specs.Promise.Coalesced.{or_else}
use Rattle.tb_chunk.specs.Coalesced.{coalesced_values, coalesced_view_array}
use Rattle.tb_view.specs.Moved.{moved_view}
use Rattle.tb_view.specs.Promise.ViewArrays.{ViewArray}
use Rattle.tb_view.specs.declared.view.View.{View}

pub length-merged : (xs ys : List Datum) → length xs ≡ length ys → length (coalesced_values xs ys) ≡ length xs
length-merged [] ys h = refl
length-merged (x ∷ xs) [] h = absurd (omega arith)
length-merged (x ∷ xs) (y ∷ ys) h = ap suc (length-merged xs ys (omega arith))

pub merged-more : (xs ys : List Datum) (i : ℕ) → length xs ≡ length ys → i < length xs → take (i + 1) (coalesced_values xs ys) ≡ take i (coalesced_values xs ys) ++ or_else (get_or xs i null) (get_or ys i null) ∷ []
merged-more [] ys i h low = absurd (omega arith)
merged-more (x ∷ xs) [] i h low = absurd (omega arith)
merged-more (x ∷ xs) (y ∷ ys) zero h low = refl
merged-more (x ∷ xs) (y ∷ ys) (suc i) h low =
    let next : suc i + 1 ≡ suc (i + 1) = omega arith in
    ap (λ n. take n (coalesced_values (x ∷ xs) (y ∷ ys))) next ∙ ap (λ zs. or_else x y ∷ zs) (merged-more xs ys i (omega arith) (omega arith))

-- the view of a place, that of the second where the first value is Null
abbrev view_merged : ℕ → Datum × (Option View × Option View) → Option View
view_merged base p = (if is_null p.0 then moved_view base p.1.1 else p.1.0)

length-views_merged : (base : ℕ) (vs : List Datum) (us ws : List (Option View)) → length us ≡ length vs → length ws ≡ length vs → length (map (view_merged base) (zip vs (zip us ws))) ≡ length vs
length-views_merged base [] us ws h g = refl
length-views_merged base (v ∷ vs) [] ws h g = absurd (omega arith)
length-views_merged base (v ∷ vs) (u ∷ us) [] h g = absurd (omega arith)
length-views_merged base (v ∷ vs) (u ∷ us) (w ∷ ws) h g = ap suc (length-views_merged base vs us ws (omega arith) (omega arith))

views_merged-more : (base : ℕ) (vs : List Datum) (us ws : List (Option View)) (i : ℕ) → length us ≡ length vs → length ws ≡ length vs → i < length vs → take (i + 1) (map (view_merged base) (zip vs (zip us ws))) ≡ take i (map (view_merged base) (zip vs (zip us ws))) ++ cond (is_null (get_or vs i null)) (moved_view base (get_or ws i None)) (get_or us i None) ∷ []
views_merged-more base [] us ws i h g low = absurd (omega arith)
views_merged-more base (v ∷ vs) [] ws i h g low = absurd (omega arith)
views_merged-more base (v ∷ vs) (u ∷ us) [] i h g low = absurd (omega arith)
views_merged-more base (v ∷ vs) (u ∷ us) (w ∷ ws) zero h g low = refl
views_merged-more base (v ∷ vs) (u ∷ us) (w ∷ ws) (suc i) h g low =
    let next : suc i + 1 ≡ suc (i + 1) = omega arith in
    ap (λ n. take n (map (view_merged base) (zip (v ∷ vs) (zip (u ∷ us) (w ∷ ws))))) next
    ∙ ap (λ zs. view_merged base (v, (u, w)) ∷ zs) (views_merged-more base vs us ws i (omega arith) (omega arith) (omega arith))

pub length-merged_run : (vs : List Datum) (a b : ViewArray) → length a.views ≡ length vs → length b.views ≡ length vs → length (coalesced_view_array vs a b).views ≡ length vs
length-merged_run vs a b h g = length-views_merged (length a.buffers) vs a.views b.views h g

pub merged_run-more : (vs : List Datum) (a b : ViewArray) (i : ℕ) → length a.views ≡ length vs → length b.views ≡ length vs → i < length vs → take (i + 1) (coalesced_view_array vs a b).views ≡ take i (coalesced_view_array vs a b).views ++ cond (is_null (get_or vs i null)) (moved_view (length a.buffers) (get_or b.views i None)) (get_or a.views i None) ∷ []
merged_run-more vs a b i h g low = views_merged-more (length a.buffers) vs a.views b.views i h g low

pub or_else-null : (x y v : Datum) → v ≡ null → v ≡ x → or_else x y ≡ y
or_else-null x y v e h = ap (λ z. or_else z y) (sym h ∙ e)

pub lent-present : (v : ValueRef) → v ≢ ref.Null → is_null (lent_value v) ≡ false
lent-present ref.Null h = absurd (h refl)
lent-present (ref.Boolean b) h = refl
lent-present (ref.Int i) h = refl
lent-present (ref.String s) h = refl
lent-present (ref.Binary s) h = refl
lent-present (ref.List vs) h = refl
lent-present (ref.Struct vs) h = refl

pub or_else-present : (x y : Datum) → is_null x ≡ false → or_else x y ≡ x
or_else-present x y h = ap (λ b. cond b y x) h

or_else-All : (P : Datum → Type 0) (x y : Datum) (b : Bool) → P x → P y → P (cond b y x)
or_else-All P x y true p q = q
or_else-All P x y false p q = p

pub All-merged : (P : Datum → Type 0) (xs ys : List Datum) → All P xs → All P ys → All P (coalesced_values xs ys)
All-merged P [] ys h g = All-nil P
All-merged P (x ∷ xs) [] h g = All-nil P
All-merged P (x ∷ xs) (y ∷ ys) h g = All-cons P (or_else x y) (coalesced_values xs ys) (or_else-All P x y (is_null x) (All-head P x xs h) (All-head P y ys g)) (All-merged P xs ys (All-tail P x xs h) (All-tail P y ys g))

pub merged_column : (c o d : Col) → IsColumn c → IsColumn o → c.kind ≡ o.kind → length (values c) ≡ length (values o) → d.kind ≡ c.kind → d.chunks ≡ coalesced_values (values c) (values o) ∷ [] → d.flag ≡ Not → IsColumn d
merged_column c o d column other kinds lengths same_kind is not =
    let all : values d ≡ coalesced_values (values c) (values o) = ap concatenation is ∙ append-nil (coalesced_values (values c) (values o)) in
    let typed : All (HasType c.kind) (values o) = subst (λ t. All (HasType t) (values o)) (sym kinds) other.typed in
    record {
      chunked = omega (arith, ap length is);
      short = omega (arith, ap length all, length-merged (values c) (values o) lengths, column.short);
      typed = rw (same_kind, all) (All-merged (HasType c.kind) (values c) (values o) column.typed typed);
      flag_holds = rw not tt;
    }
