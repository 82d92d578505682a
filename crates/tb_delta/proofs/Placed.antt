-- Keys stand at their places.
use Rattle.std.proofs.Common.{◌≡◌, ℕ, zero, suc, ◌<◌, List, [], ◌∷◌, ◌++◌, length, get_or, map, Bool, true, false, cond, refl, ap, arith, sym, ◌∙◌, subst, subst₂}
use Rattle.std.specs.Prelude.{All, AllPairs, unwrap_or}
use Rattle.std.specs.BTreeMap.{BTreeMap}
use Rattle.std.specs.Map.{remove_entry}
use Rattle.std.proofs.lemmas.List.{get_or-map, length-map}
use Rattle.std.proofs.lemmas.List.Elements.{All-push, All-tail}
use Rattle.std.proofs.lemmas.List.Quantifiers.{position-Some}
use Rattle.tb_value.specs.Promise.Datum.{Datum, null}
use Rattle.tb_value.specs.Promise.Kind.{Kind, Part}
use Rattle.tb_value.specs.Promise.Kind as kind
use Rattle.tb_value.specs.Promise.Names.{Name, same_name}
use Rattle.tb_value.specs.Promise.Typed.{FitsFields}
use Rattle.tb_value.specs.See.{data_of, datum}
use Rattle.tb_value.specs.declared.any_value.AnyValue.{AnyValue}
use Rattle.tb_delta.specs.Inside.{AreRows, IsKeyed, IsPlaced, key_of, side_state, stored}
use Rattle.tb_delta.specs.Promise.State.{Row}
use Rattle.tb_delta.specs.declared.side_rows.SideRows.{SideRows}
use Rattle.tb_delta.specs.declared.side_rows.StoredRow.{StoredRow}
use Rattle.tb_delta.proofs.Grouped.{keyed}

pub fits_length : (ps : List Part) (row : List Datum) → FitsFields ps row → length ps ≡ length row
fits_length [] [] f = refl
fits_length [] (v ∷ vs) f = absurd f
fits_length (p ∷ ps) [] f = absurd f
fits_length (p ∷ ps) (v ∷ vs) f = ap suc (fits_length ps vs f.1)

pub key_low : (rows : SideRows) → IsPlaced rows → (row : List Datum) → FitsFields (side_state rows).columns row → rows.key < length row
key_low rows x row fits =
    let there = position-Some (λ (c : Name × Kind). same_name c.0 rows.on) (side_state rows).columns rows.key ([], kind.null) x.place in
    omega (arith, there.0, fits_length (side_state rows).columns row fits)

pub key_at : (rows : SideRows) → IsPlaced rows → (vs : List AnyValue) (v : AnyValue) → rows.key < length vs → v ≡ get_or vs rows.key v → datum v ≡ key_of (side_state rows) (data_of vs)
key_at rows x vs v low is = keyed vs rows.key v low is ∙ ap (λ o. get_or (data_of vs) (unwrap_or o 0) null) (sym x.place)

-- other entries at the same place
pub placed_by : (rows : SideRows) (m : BTreeMap ℕ StoredRow) (n : ℕ) → IsPlaced rows → All (IsKeyed (side_state rows)) m.entries → IsPlaced (record rows { rows = m; ever = n })
placed_by rows m n x all = record { place = x.place; keyed = all }

pub placed_same : (rows : SideRows) (m : BTreeMap ℕ StoredRow) (n : ℕ) → IsPlaced rows → m.entries ≡ rows.rows.entries → IsPlaced (record rows { rows = m; ever = n })
placed_same rows m n x same = placed_by rows m n x (subst (λ es. All (IsKeyed (side_state rows)) es) (sym same) x.keyed)

pub placed_push : (rows : SideRows) (m : BTreeMap ℕ StoredRow) (n : ℕ) (e : ℕ × StoredRow) → IsPlaced rows → IsKeyed (side_state rows) e → m.entries ≡ rows.rows.entries ++ e ∷ [] → IsPlaced (record rows { rows = m; ever = n })
placed_push rows m n e x key is = placed_by rows m n x (subst (λ es. All (IsKeyed (side_state rows)) es) (sym is) (All-push (IsKeyed (side_state rows)) rows.rows.entries e x.keyed key))

all_more : {X : Type 0} (P : X → Type 0) (x : X) (xs : List X) → P x → All P xs → All P (x ∷ xs)
all_more P x xs here rest zero d low = here
all_more P x xs here rest (suc k) d low = rest k d (omega (arith, low))

all_left : {X : Type 0} (P : ℕ × X → Type 0) (test : ℕ → Bool) (es : List (ℕ × X)) → All P es → All P (remove_entry test es)
all_left P test [] all = all
all_left {X} P test (e ∷ es) all = at (test e.0) (all_left P test es (All-tail P e es all))
  where
    at : (b : Bool) → All P (remove_entry test es) → All P (cond b es (e ∷ remove_entry test es))
    at true h = All-tail P e es all
    at false h = all_more P e (remove_entry test es) (all 0 e (omega arith)) h

pub placed_pull : (rows : SideRows) (m : BTreeMap ℕ StoredRow) (test : ℕ → Bool) → IsPlaced rows → m.entries ≡ remove_entry test rows.rows.entries → IsPlaced (record rows { rows = m })
placed_pull rows m test x is = placed_by rows m rows.ever x (subst (λ es. All (IsKeyed (side_state rows)) es) (sym is) (all_left (IsKeyed (side_state rows)) test rows.rows.entries x.keyed))

-- THE ROWS AS ENTRIES

pub rows_low : (rows : SideRows) → AreRows (side_state rows) → (i : ℕ) (d : ℕ × StoredRow) → i < length rows.rows.entries → (get_or rows.rows.entries i d).0 < rows.ever
rows_low rows x i d low =
    let es : List (ℕ × StoredRow) = rows.rows.entries in
    let long : i < length (map stored es) = omega (arith, low, length-map es stored) in
    subst (λ n. n < rows.ever) (ap (λ (r : Row). r.0) (get_or-map stored es i d (stored d) low)) (x.below i (stored d) long)

pub rows_sorted : (rows : SideRows) → AreRows (side_state rows) → AllPairs (λ (a b : ℕ × StoredRow). a.0 < b.0) rows.rows.entries
rows_sorted rows x = λ i j d less low.
    let es : List (ℕ × StoredRow) = rows.rows.entries in
    let long : j < length (map stored es) = omega (arith, low, length-map es stored) in
    let short : i < length es = omega (arith, less, low) in
    subst₂ (λ (a b : Row). a.0 < b.0) (get_or-map stored es i d (stored d) short) (get_or-map stored es j d (stored d) low) (x.ascend i j (stored d) less long)
