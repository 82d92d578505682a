-- Long tables: their height, their names, and one below the other.
use Rattle.std.proofs.Common.{arith, ◌≡◌, ◌∙◌, ◌*◌, ◌+◌, ℕ, zero, suc, List, [], ◌∷◌, ◌++◌, length, map, replicate, ap, sym, refl, length-append}
use Rattle.std.specs.List.{All, flat_map}
use Rattle.std.proofs.Math.Nat.{mul-suc}
use Rattle.std.proofs.lemmas.Grind.{flat_map-append}
use Rattle.std.proofs.lemmas.List.{length-map, map-append, replicate-append-replicate}
use Rattle.std.proofs.lemmas.List.Elements.{All-nil, All-cons, All-head, All-tail, All-map, All-append, All-weaker}
use Rattle.tb_value.specs.Promise.Datum.{Datum, string}
use Rattle.tb_value.specs.Promise.Kind.{Kind}
use Rattle.tb_value.specs.Promise.Names.{Name}
use Rattle.tb_value.specs.Promise.Refusals.{first_cause}
use Rattle.tb_chunk.specs.Promise.Col.{concatenation}
use Rattle.tb_frame.specs.Frame.{frame_refusal}
use Rattle.tb_frame.specs.Promise.Refusal.{repeated_among}
use Rattle.tb_frame.specs.Promise.Table.{TableColumn, names_of}
use Rattle.tb_frame.proofs.Frames.{level_refusal}
use Rattle.tb_supertype.specs.Promise.Cast.{cast}
use Rattle.tb_unpivot.specs.Blocks.{long_names}
use Rattle.tb_unpivot.specs.Promise.Unpivot.{long_table, repeated, value_column, variable_column}

-- THE HEIGHT

length-repeated : (n : ℕ) (vs : List Datum) → length (concatenation (replicate n vs)) ≡ length vs * n
length-repeated zero vs = omega arith
length-repeated (suc n) vs = omega (arith, length-append vs (concatenation (replicate n vs)), length-repeated n vs, mul-suc (length vs) n)

length-each : (f : TableColumn → Datum → Datum) (h : ℕ) (on : List TableColumn) → All (λ (c : TableColumn). length c.values ≡ h) on
    → length (flat_map (λ (o : TableColumn). map (f o) o.values) on) ≡ h * length on
length-each f h [] level = omega arith
length-each f h (c ∷ cs) level =
    let P : TableColumn → Type 0 = λ d. length d.values ≡ h in
    omega (arith, length-append (map (f c) c.values) (flat_map (λ (o : TableColumn). map (f o) o.values) cs), length-map c.values (f c), All-head P c cs level, length-each f h cs (All-tail P c cs level), mul-suc h (length cs))

repeated_level : (h n : ℕ) (index : List TableColumn) → All (λ (c : TableColumn). length c.values ≡ h) index → All (λ (c : TableColumn). length c.values ≡ h * n) (map (repeated n) index)
repeated_level h n index level =
    let each : (c : TableColumn) → length c.values ≡ h → length (repeated n c).values ≡ h * n = λ c e. length-repeated n c.values ∙ ap (λ m. m * n) e in
    All-map (λ (c : TableColumn). length c.values ≡ h * n) (repeated n) index (All-weaker (λ (c : TableColumn). length c.values ≡ h) (λ (c : TableColumn). length (repeated n c).values ≡ h * n) each index level)

-- each column has all rows once for each of the columns that are put one below the other
pub long_level : (h : ℕ) (t : Kind) (on index : List TableColumn) (variable value : Name) → All (λ (c : TableColumn). length c.values ≡ h) on
    → All (λ (c : TableColumn). length c.values ≡ h) index
    → All (λ (c : TableColumn). length c.values ≡ h * length on) (long_table t on index variable value)
long_level h t on index variable value level beside =
    let P : TableColumn → Type 0 = λ c. length c.values ≡ h * length on in
    let made : All P (variable_column variable on ∷ value_column value t on ∷ []) =
    All-cons P (variable_column variable on) (value_column value t on ∷ []) (length-each (λ (o : TableColumn) (v : Datum). string o.name) h on level)
    (All-cons P (value_column value t on) [] (length-each (λ (o : TableColumn). cast t) h on level) (All-nil P))
    in
    All-append P (map (repeated (length on)) index) (variable_column variable on ∷ value_column value t on ∷ []) (repeated_level h (length on) index beside) made

-- WHAT DOESN'T DEPEND ON VALUES

map-repeated : {X : Type 0} (f : TableColumn → X) → ((c : TableColumn) (vs : List Datum) → f (record c { values = vs }) ≡ f c)
    → (n : ℕ) (index : List TableColumn) → map f (map (repeated n) index) ≡ map f index
map-repeated f blind n [] = refl
map-repeated f blind n (c ∷ cs) = λ i. blind c (concatenation (replicate n c.values)) i ∷ map-repeated f blind n cs i

-- neither does it depend on the columns that are put one below the other, as names and types
pub map-long : {X : Type 0} (f : TableColumn → X) → ((c : TableColumn) (vs : List Datum) → f (record c { values = vs }) ≡ f c)
    → (t : Kind) (on index : List TableColumn) (variable value : Name)
    → map f (long_table t on index variable value) ≡ map f index ++ f (variable_column variable on) ∷ f (value_column value t on) ∷ []
map-long {X} f blind t on index variable value =
    map-append f (map (repeated (length on)) index) (variable_column variable on ∷ value_column value t on ∷ [])
    ∙ ap (λ (l : List X). l ++ f (variable_column variable on) ∷ f (value_column value t on) ∷ []) (map-repeated f blind (length on) index)

pub names-long : (t : Kind) (on index : List TableColumn) (variable value : Name) → names_of (long_table t on index variable value) ≡ long_names index variable value
names-long t on index variable value = map-long (λ (c : TableColumn). c.name) (λ c vs. refl) t on index variable value

-- the long table is refused where a name is repeated
pub long_refusal : (h : ℕ) (t : Kind) (on index : List TableColumn) (variable value : Name) → All (λ (c : TableColumn). length c.values ≡ h) on
    → All (λ (c : TableColumn). length c.values ≡ h) index
    → frame_refusal (long_table t on index variable value) ≡ first_cause (repeated_among (long_names index variable value) ∷ [])
long_refusal h t on index variable value level beside =
    level_refusal (long_table t on index variable value) (h * length on) (long_level h t on index variable value level beside) (long_names index variable value) (names-long t on index variable value)

-- ONE BELOW THE OTHER

-- the values of a column, first some times over and then some times more
pub repeated-add : (m n : ℕ) (vs : List Datum) → concatenation (replicate (m + n) vs) ≡ concatenation (replicate m vs) ++ concatenation (replicate n vs)
repeated-add m n vs =
    ap concatenation (sym (replicate-append-replicate m n vs)) ∙ flat_map-append (λ (l : List Datum). l) (replicate m vs) (replicate n vs)
