-- Rows of tables that stand one below the other.
use Rattle.std.proofs.Common.{◌≡◌, ◌<◌, ◌+◌, ◌∷◌, ◌++◌, ◌∙◌, [], ℕ, zero, suc, List, length, get_or, map, refl, sym, ap, arith}
use Rattle.std.specs.List.{All, range_with_len}
use Rattle.std.proofs.Math.ListN.{get_or-append}
use Rattle.std.proofs.lemmas.List.{get_or-append-add, length-append, length-map, map-append}
use Rattle.std.proofs.lemmas.List.Elements.{All-tail}
use Rattle.std.proofs.lemmas.Grind.{flat_map-append}
use Rattle.tb_value.specs.Promise.Datum.{null}
use Rattle.tb_value.specs.Promise.Pairs.{row_numbers}
use Rattle.tb_value.proofs.RowNumbers.{range_cut}
use Rattle.tb_frame.specs.Promise.Table.{Table, TableColumn, height}
use Rattle.tb_csv.specs.Promise.Records.{Record}
use Rattle.tb_csv.specs.Promise.Texts.{body_text, field_among, record_text, records_text, row_fields}
use Rattle.tb_csv.specs.Stacked.{below, kinds_of}

-- what is made of numbers in a row is what is made of as many others
moved : {X : Type 0} (f g : ℕ → X) (m a n : ℕ) → ((i : ℕ) → i < a + n → f (m + i) ≡ g i)
    → map f (range_with_len (m + a) n) ≡ map g (range_with_len a n)
moved f g m a zero alike = refl
moved {X} f g m a (suc n) alike =
    let next : (m + a) + 1 ≡ m + (a + 1) = omega arith in
    ap (λ (x : X). x ∷ map f (range_with_len ((m + a) + 1) n)) (alike a (omega arith))
    ∙ ap (λ (xs : List X). g a ∷ xs) (ap (λ (b : ℕ). map f (range_with_len b n)) next ∙ moved f g m (a + 1) n (λ i low. alike i (omega (arith, low))))

length-below : (t u : Table) → length (below t u) ≡ length t
length-below [] u = refl
length-below (c ∷ cs) [] = refl
length-below (c ∷ cs) (d ∷ ds) = ap (λ n. suc n) (length-below cs ds)

height-below : (t u : Table) → kinds_of t ≡ kinds_of u → height (below t u) ≡ height t + height u
height-below [] [] alike = refl
height-below [] (d ∷ ds) alike = cc alike
height-below (c ∷ cs) [] alike = cc alike
height-below (c ∷ cs) (d ∷ ds) alike = length-append c.values d.values

same_width : (t u : Table) → kinds_of t ≡ kinds_of u → length t ≡ length u
same_width t u alike = sym (length-map t (λ (c : TableColumn). c.kind)) ∙ ap length alike ∙ length-map u (λ (c : TableColumn). c.kind)

-- the fields of a row of the first table, in a record of so many
above : (n : ℕ) (t u : Table) (m i : ℕ) → All (λ (c : TableColumn). length c.values ≡ m) t → kinds_of t ≡ kinds_of u → i < m
    → map (λ (c : TableColumn). field_among n c.kind (get_or c.values i null)) (below t u) ≡ map (λ (c : TableColumn). field_among n c.kind (get_or c.values i null)) t
above n [] u m i level alike low = refl
above n (c ∷ cs) [] m i level alike low = absurd (cc alike)
above n (c ∷ cs) (d ∷ ds) m i level alike low =
    let long : length c.values ≡ m = level 0 c (omega arith) in
    let tails : kinds_of cs ≡ kinds_of ds = cc alike in
    let rest = map (λ (c : TableColumn). field_among n c.kind (get_or c.values i null)) (below cs ds) in
    ap (λ v. field_among n c.kind v ∷ rest) (get_or-append c.values d.values null i (omega (arith, long, low)))
    ∙ ap (λ (fs : Record). field_among n c.kind (get_or c.values i null) ∷ fs) (above n cs ds m i (All-tail (λ (x : TableColumn). length x.values ≡ m) c cs level) tails low)

-- the fields of a row of the second table, in a record of so many
under : (n : ℕ) (t u : Table) (m i : ℕ) → All (λ (c : TableColumn). length c.values ≡ m) t → kinds_of t ≡ kinds_of u
    → map (λ (c : TableColumn). field_among n c.kind (get_or c.values (m + i) null)) (below t u) ≡ map (λ (c : TableColumn). field_among n c.kind (get_or c.values i null)) u
under n [] [] m i level alike = refl
under n [] (d ∷ ds) m i level alike = cc alike
under n (c ∷ cs) [] m i level alike = cc alike
under n (c ∷ cs) (d ∷ ds) m i level alike =
    let long : length c.values ≡ m = level 0 c (omega arith) in
    let kind : c.kind ≡ d.kind = cc alike in
    let tails : kinds_of cs ≡ kinds_of ds = cc alike in
    let rest = map (λ (c : TableColumn). field_among n c.kind (get_or c.values (m + i) null)) (below cs ds) in
    ap (λ k. field_among n c.kind (get_or (c.values ++ d.values) (k + i) null) ∷ rest) (sym long)
    ∙ ap (λ v. field_among n c.kind v ∷ rest) (get_or-append-add c.values d.values i null)
    ∙ ap (λ k. field_among n k (get_or d.values i null) ∷ rest) kind
    ∙ ap (λ (fs : Record). field_among n d.kind (get_or d.values i null) ∷ fs) (under n cs ds m i (All-tail (λ (x : TableColumn). length x.values ≡ m) c cs level) tails)

stacked : (separator : ℕ) (t u : Table) (m n : ℕ) → All (λ (c : TableColumn). length c.values ≡ m) t → kinds_of t ≡ kinds_of u
    → height t ≡ m → height u ≡ n → body_text separator (below t u) ≡ body_text separator t ++ body_text separator u
stacked separator t u m n level alike first second =
    let rows = row_fields (below t u) in
    let text = records_text separator in
    let all : height (below t u) ≡ m + n = omega (arith, height-below t u alike, first, second) in
    let wide = length-below t u in
    let at : (i : ℕ) → 0 + i ≡ i = λ i. omega arith in
    let behind : 0 + m ≡ m + 0 = omega arith in
    ap (λ h. text (map rows (row_numbers h))) all
    ∙ ap (λ is. text (map rows is)) (range_cut 0 m n)
    ∙ ap text (map-append rows (row_numbers m) (range_with_len (0 + m) n))
    ∙ flat_map-append (record_text separator) (map rows (row_numbers m)) (map rows (range_with_len (0 + m) n))
    ∙ ap (λ rs. text rs ++ text (map rows (range_with_len (0 + m) n)))
    (moved rows (row_fields t) 0 0 m (λ i low. ap rows (at i) ∙ ap (λ w. map (λ (c : TableColumn). field_among w c.kind (get_or c.values i null)) (below t u)) wide ∙ above (length t) t u m i level alike (omega (arith, low)))
    ∙ ap (λ h. map (row_fields t) (row_numbers h)) (sym first))
    ∙ ap (λ rs. body_text separator t ++ text rs)
    (ap (λ a. map rows (range_with_len a n)) behind
    ∙ moved rows (row_fields u) m 0 n (λ i low. ap (λ w. map (λ (c : TableColumn). field_among w c.kind (get_or c.values (m + i) null)) (below t u)) (wide ∙ same_width t u alike) ∙ under (length u) t u m i level alike)
    ∙ ap (λ h. map (row_fields u) (row_numbers h)) (sym second))

-- the rows of a table below another are the rows of the one behind those of the other
pub body_text-below : (separator : ℕ) (t u : Table) (m n : ℕ) → All (λ (c : TableColumn). length c.values ≡ m) t → All (λ (c : TableColumn). length c.values ≡ n) u
    → kinds_of t ≡ kinds_of u → body_text separator (below t u) ≡ body_text separator t ++ body_text separator u
body_text-below separator [] [] m n level level' alike = refl
body_text-below separator [] (d ∷ ds) m n level level' alike = cc alike
body_text-below separator (c ∷ cs) [] m n level level' alike = cc alike
body_text-below separator (c ∷ cs) (d ∷ ds) m n level level' alike =
    stacked separator (c ∷ cs) (d ∷ ds) m n level alike (level 0 c (omega arith)) (level' 0 d (omega arith))
