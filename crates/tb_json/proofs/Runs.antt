-- Items of an array that are written one after another, and chunk after chunk.
use Rattle.std.proofs.Common.{◌≡◌, ◌≤◌, ◌<◌, ◌+◌, ℕ, suc, List, [], ◌∷◌, ◌++◌, length, map, get_or, drop, Bool, true, false, refl, ap, ◌∙◌, sym, add-one, drop-cons, append_assoc, codes}
use Rattle.std.proofs.lemmas.List.{drop_all, map-append}
use Rattle.json.specs.Print.{escape_byte}
use Rattle.serde_json.specs.Data.{Data, array, number, unsigned, string}
use Rattle.serde_json.specs.View.{items_of}
use Rattle.serde_json.specs.Written.{comma_if, compact_text, items_text}
use Rattle.tb_value.specs.Promise.Datum.{Datum}
use Rattle.tb_value.specs.Promise.Kind.{Kind}
use Rattle.tb_chunk.specs.Promise.Col.{concatenation}
use Rattle.tb_chunk.proofs.Lists.{flat_drop}
use Rattle.tb_frame.specs.Promise.Table.{TableColumn, Table, height}
use Rattle.tb_json.specs.Promise.Text.{value_data, kind_data, column_data, text_of, traced_text_of}
use Rattle.tb_json.specs.Written.{heading, open_table, with_items}

pub with_items-append : (s : List ℕ × Bool) (ds es : List Data) → with_items s (ds ++ es) ≡ with_items (with_items s ds) es
with_items-append s [] es = refl
with_items-append s (d ∷ ds) es = with_items-append (s.0 ++ (comma_if s.1 ++ compact_text d), true) ds es

-- what is written behind the last piece is written behind the whole
pub behind_last : (full last more now whole : List ℕ) → now ≡ last ++ more → whole ≡ full ++ last → full ++ now ≡ whole ++ more
behind_last full last more now whole n w = ap (λ l. full ++ l) n ∙ sym (append_assoc full last more) ∙ ap (λ l. l ++ more) (sym w)

-- one item more is written, and is no longer left
pub item_step : (ds : List Data) (i : ℕ) (d : Data) (s comma text : List ℕ) (later : Bool) (all : List ℕ × Bool) → i < length ds → d ≡ get_or ds i d → comma ≡ s ++ comma_if later → text ≡ comma ++ compact_text d → with_items (s, later) (drop i ds) ≡ all → with_items (text, true) (drop (i + 1) ds) ≡ all
item_step ds i d s comma text later all h e c w so_far =
    let cut : drop i ds ≡ d ∷ drop (suc i) ds = rw (drop-cons ds i d) (ap (λ x. x ∷ drop (suc i) ds) (sym e)) in
    rw add-one (ap (λ t. with_items (t, true) (drop (suc i) ds)) (w ∙ ap (λ t. t ++ compact_text d) c ∙ append_assoc s (comma_if later) (compact_text d)) ∙ ap (with_items (s, later)) (sym cut) ∙ so_far)

pub items_end : (ds : List Data) (i : ℕ) (s all : List ℕ × Bool) → length ds ≤ i → with_items s (drop i ds) ≡ all → s ≡ all
items_end ds i s all h so_far = ap (with_items s) (sym (drop_all i ds h)) ∙ so_far

-- one chunk more is written, and is no longer left
pub chunk_step : {X : Type 0} (f : X → List Datum) (k : Kind) (xs : List X) (i : ℕ) (x : X) (now after all : List ℕ × Bool) → i < length xs → x ≡ get_or xs i x → after ≡ with_items now (map (value_data k) (f x)) → with_items now (map (value_data k) (concatenation (map f (drop i xs)))) ≡ all → with_items after (map (value_data k) (concatenation (map f (drop (i + 1) xs)))) ≡ all
chunk_step f k xs i x now after all h e w so_far =
    let rest = concatenation (map f (drop (i + 1) xs)) in
    let cut : map (value_data k) (concatenation (map f (drop i xs))) ≡ map (value_data k) (f x) ++ map (value_data k) rest = ap (map (value_data k)) (flat_drop f xs i x h e) ∙ map-append (value_data k) (f x) rest in
    ap (λ s. with_items s (map (value_data k) rest)) w ∙ sym (with_items-append now (map (value_data k) (f x)) (map (value_data k) rest)) ∙ ap (with_items now) (sym cut) ∙ so_far

pub chunks_end : {X : Type 0} (f : X → List Datum) (k : Kind) (xs : List X) (i : ℕ) (now all : List ℕ × Bool) → length xs ≤ i → with_items now (map (value_data k) (concatenation (map f (drop i xs)))) ≡ all → now ≡ all
chunks_end f k xs i now all h so_far = ap (λ ys. with_items now (map (value_data k) (concatenation (map f ys)))) (sym (drop_all i xs h)) ∙ so_far

-- the bracket behind the items
closed : (s : List ℕ) (later : Bool) (ds : List Data) → (with_items (s, later) ds).0 ++ 93 ∷ [] ≡ s ++ items_text later (items_of ds)
closed s later [] = refl
closed s later (d ∷ ds) =
    let rest = items_text true (items_of ds) in
    closed (s ++ (comma_if later ++ compact_text d)) true ds
    ∙ append_assoc s (comma_if later ++ compact_text d) rest
    ∙ ap (λ t. s ++ t) (append_assoc (comma_if later) (compact_text d) rest)

-- an array, between its brackets
pub array_text : (ds : List Data) (s room opened items text : List ℕ) → room ≡ s → opened ≡ room ++ codes "[" → items ≡ (with_items (opened, false) ds).0 → text ≡ items ++ codes "]" → text ≡ s ++ compact_text (array (items_of ds))
array_text ds s room opened items text r o w c =
    c ∙ ap (λ t. t ++ 93 ∷ []) w ∙ closed opened false ds ∙ ap (λ t. t ++ items_text false (items_of ds)) (o ∙ ap (λ t. t ++ codes "[") r) ∙ append_assoc s (91 ∷ []) (items_text false (items_of ds))

four : (a b c d e : List ℕ) → (((a ++ b) ++ c) ++ d) ++ e ≡ a ++ (b ++ (c ++ (d ++ e)))
four a b c d e = append_assoc ((a ++ b) ++ c) d e ∙ append_assoc (a ++ b) c (d ++ e) ∙ append_assoc a b (c ++ (d ++ e))

behind : (a b c d e : List ℕ) → (a ++ (b ++ (c ++ d))) ++ e ≡ a ++ (b ++ (c ++ (d ++ e)))
behind a b c d e = append_assoc a (b ++ (c ++ d)) e ∙ ap (λ x. a ++ x) (append_assoc b (c ++ d) e ∙ ap (λ x. b ++ x) (append_assoc c d e))

-- an object of a column, member by member
pub column_text : (c : TableColumn) (s headed named arrayed text : List ℕ) → headed ≡ s ++ heading c → named ≡ headed ++ codes ",\"values\":" → arrayed ≡ named ++ compact_text (array (items_of (map (value_data c.kind) c.values))) → text ≡ arrayed ++ codes "}" → text ≡ s ++ compact_text (column_data c)
unfolding escape_byte
column_text c s headed named arrayed text h n a t =
    let name = codes "{\"name\":" in
    let called = compact_text (string c.name) in
    let type = codes ",\"type\":" in
    let kind = compact_text (kind_data c.kind) in
    let values = codes ",\"values\":" in
    let array = compact_text (array (items_of (map (value_data c.kind) c.values))) in
    t ∙ ap (λ x. x ++ codes "}") (a ∙ ap (λ x. x ++ array) (n ∙ ap (λ x. x ++ values) h))
    ∙ four s (heading c) values array (codes "}")
    ∙ ap (λ x. s ++ x) (behind name called type kind (values ++ (array ++ codes "}")))

-- the members of a table
pub open_text : (t : Table) (empty opened items named counted : List ℕ) → empty ≡ [] → opened ≡ empty ++ codes "{\"columns\":[" → items ≡ (with_items (opened, false) (map column_data t)).0 → named ≡ items ++ codes "],\"height\":" → counted ≡ named ++ compact_text (number (unsigned (height t))) → counted ≡ open_table t
open_text t empty opened items named counted z o i n h =
    let columns = items_text false (items_of (map column_data t)) in
    let behind_columns = codes ",\"height\":" in
    let count = compact_text (number (unsigned (height t))) in
    let start = codes "{\"columns\":[" in
    let all : named ≡ (start ++ columns) ++ behind_columns =
    n ∙ ap (λ x. x ++ codes "],\"height\":") i ∙ sym (append_assoc (with_items (opened, false) (map column_data t)).0 (93 ∷ []) behind_columns)
    ∙ ap (λ x. x ++ behind_columns) (closed opened false (map column_data t) ∙ ap (λ x. x ++ columns) (o ∙ ap (λ x. x ++ start) z)) in
    h ∙ ap (λ x. x ++ count) all ∙ append_assoc (start ++ columns) behind_columns count ∙ append_assoc start columns (behind_columns ++ count)

-- the object of a table, and the newline behind it
pub table_text : (t : Table) → open_table t ++ codes "}\n" ≡ text_of t
unfolding text_of escape_byte
table_text t =
    let columns = items_text false (items_of (map column_data t)) in
    let behind_columns = codes ",\"height\":" in
    let count = compact_text (number (unsigned (height t))) in
    let start = codes "{\"columns\":[" in
    behind start columns behind_columns count (codes "}\n")
    ∙ sym (append_assoc start (columns ++ (behind_columns ++ (count ++ codes "}"))) (10 ∷ []) ∙ ap (λ x. start ++ x) (behind columns behind_columns count (codes "}") (10 ∷ [])))

-- and the same with a trace
pub traced_text : (t : Table) (trace : Data) (named told text : List ℕ) → named ≡ open_table t ++ codes ",\"trace\":" → told ≡ named ++ compact_text trace → text ≡ told ++ codes "}\n" → text ≡ traced_text_of t trace
unfolding traced_text_of escape_byte
traced_text t trace named told text n w e =
    let columns = items_text false (items_of (map column_data t)) in
    let behind_columns = codes ",\"height\":" in
    let count = compact_text (number (unsigned (height t))) in
    let start = codes "{\"columns\":[" in
    let key = codes ",\"trace\":" in
    let how = compact_text trace in
    e ∙ ap (λ x. x ++ codes "}\n") (w ∙ ap (λ x. x ++ how) n)
    ∙ append_assoc (open_table t ++ key) how (codes "}\n") ∙ append_assoc (open_table t) key (how ++ codes "}\n")
    ∙ behind start columns behind_columns count (key ++ (how ++ codes "}\n"))
    ∙ sym (append_assoc start (columns ++ (behind_columns ++ (count ++ (key ++ (how ++ codes "}"))))) (10 ∷ [])
    ∙ ap (λ x. start ++ x) (behind columns behind_columns count (key ++ (how ++ codes "}")) (10 ∷ [])
    ∙ ap (λ x. columns ++ (behind_columns ++ (count ++ x))) (append_assoc key (how ++ codes "}") (10 ∷ []) ∙ ap (λ x. key ++ x) (append_assoc how (codes "}") (10 ∷ [])))))
