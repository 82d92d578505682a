-- Walks over the columns of a table that is laid out.
use Rattle.std.proofs.Common.{◌≡◌, ◌<◌, ◌≤◌, ◌+◌, ◌-◌, ◌∷◌, ◌++◌, ◌∙◌, [], ℕ, Bool, true, false, List, Option, Some, encode_utf8_all, length, map, take, get_or, refl, sym, ap, arith, subst, append-nil, append_assoc, replicate}
use Rattle.std.specs.List.{All}
use Rattle.std.proofs.Math.ListN as listn
use Rattle.std.proofs.lemmas.List.Elements.{All-take}
use Rattle.std.proofs.lemmas.List.{get_or-map, get_or_default, length-map, take_all, take_more}
use Rattle.tb_value.specs.Promise.Datum.{Datum}
use Rattle.tb_value.specs.Promise.Kind as kind
use Rattle.tb_value.specs.Promise.Kind.{Kind}
use Rattle.tb_value.specs.declared.sorted.IsSorted.TheVariants.{Not}
use Rattle.tb_chunk.specs.Promise.Col.{Col, values}
use Rattle.tb_frame.specs.Promise.Table.{TableColumn, height, plain_column, table_of}
use Rattle.tb_layout.specs.Promise.Characters.{cut, width_of}
use Rattle.tb_layout.specs.Promise.Lines.{blanks, cell_of, column_width, dashes_in, padded_cell, side_by_side}
use Rattle.tb_layout.specs.Room.{with_cut}
use Rattle.tb_layout.proofs.Room.{cut_more, cut_whole}

sides_push : (f : TableColumn → List ℕ) (cs : List Col) (c : Col) → side_by_side f (table_of (cs ++ c ∷ [])) ≡ side_by_side f (table_of cs) ++ (f (plain_column c) ++ blanks 2)
sides_push f [] c = append-nil (f (plain_column c) ++ blanks 2)
sides_push f (d ∷ cs) c =
    let first = f (plain_column d) ++ blanks 2 in
    ap (λ (s : List ℕ). first ++ s) (sides_push f cs c) ∙ sym (append_assoc first (side_by_side f (table_of cs)) (f (plain_column c) ++ blanks 2))

-- one more column is appended
pub side_more : (f : TableColumn → List ℕ) (cs : List Col) (k : ℕ) (c : Col) (old new x : List ℕ) → k < length cs → c ≡ get_or cs k c → x ≡ f (plain_column c) → new ≡ old ++ (x ++ blanks 2) → old ≡ side_by_side f (table_of (take k cs)) → new ≡ side_by_side f (table_of (take (k + 1) cs))
side_more f cs k c old new x low is cell push so_far =
    push ∙ ap (λ (s : List ℕ). s ++ (x ++ blanks 2)) so_far
    ∙ ap (λ (s : List ℕ). side_by_side f (table_of (take k cs)) ++ (s ++ blanks 2)) cell
    ∙ sym (sides_push f (take k cs) c)
    ∙ ap (λ (d : Col). side_by_side f (table_of (take k cs ++ d ∷ []))) is
    ∙ ap (λ (ds : List Col). side_by_side f (table_of ds)) (sym (take_more cs k c low))

-- the columns before a place, and that at it
sides_next : (f : TableColumn → List ℕ) (cs : List Col) (k : ℕ) (c : Col) (x : List ℕ) → k < length cs → c ≡ get_or cs k c → x ≡ f (plain_column c)
    → side_by_side f (table_of (take k cs)) ++ (x ++ blanks 2) ≡ side_by_side f (table_of (take (k + 1) cs))
sides_next f cs k c x low is cell =
    let front = side_by_side f (table_of (take k cs)) in
    side_more f cs k c front (front ++ (x ++ blanks 2)) x low is cell refl refl

-- one more column is written into a line
pub cut_side : (f : TableColumn → List ℕ) (cs : List Col) (k : ℕ) (c : Col) (p q r : List ℕ × Option ℕ) (x : List ℕ) → k < length cs → c ≡ get_or cs k c → x ≡ f (plain_column c)
    → r ≡ with_cut q (x ++ blanks 2) → q ≡ with_cut p (side_by_side f (table_of (take k cs))) → r ≡ with_cut p (side_by_side f (table_of (take (k + 1) cs)))
cut_side f cs k c p q r x low is cell push so_far =
    let front = side_by_side f (table_of (take k cs)) in
    push ∙ ap (λ (t : List ℕ × Option ℕ). with_cut t (x ++ blanks 2)) so_far
    ∙ sym (cut_more p front (x ++ blanks 2))
    ∙ ap (with_cut p) (sides_next f cs k c x low is cell)

-- all columns are written into a line
pub cut_line : (f : TableColumn → List ℕ) (cs : List Col) (k line : ℕ) (old : List ℕ) (p : List ℕ × Option ℕ) → length cs ≤ k
    → p ≡ with_cut (old, Some line) (side_by_side f (table_of (take k cs))) → p.0 ≡ old ++ encode_utf8_all (cut line (side_by_side f (table_of cs)))
cut_line f cs k line old p all written =
    ap (λ (q : List ℕ × Option ℕ). q.0) (written ∙ ap (λ (ds : List Col). with_cut (old, Some line) (side_by_side f (table_of ds))) (take_all k cs all))
    ∙ cut_whole (side_by_side f (table_of cs)) old line

-- the width at the place of a column is that of the column
pub width_at : (line : ℕ) (cs : List Col) (ws : List ℕ) (k : ℕ) (c : Col) (w : ℕ) → ws ≡ map (column_width line) (table_of cs) → k < length cs → c ≡ get_or cs k c → w ≡ get_or ws k w → w ≡ column_width line (plain_column c)
width_at line cs ws k c w are low is at =
    at ∙ ap (λ (ns : List ℕ). get_or ns k w) are
    ∙ get_or-map (column_width line) (table_of cs) k (plain_column c) w (rw (length-map cs plain_column) low)
    ∙ ap (column_width line) (get_or-map plain_column cs k c (plain_column c) low ∙ ap plain_column (sym is))

no_column : Col
no_column = record { name = []; kind = kind.null; chunks = []; flag = Not; view_arrays = [] }

-- one more column's dashes are written into a line
pub cut_dashes : (line : ℕ) (cs : List Col) (ws : List ℕ) (k w : ℕ) (p q m r : List ℕ × Option ℕ) → ws ≡ map (column_width line) (table_of cs) → k < length cs → w ≡ get_or ws k w
    → m ≡ with_cut q (replicate w 45) → r ≡ with_cut m (blanks 2) → q ≡ with_cut p (side_by_side (dashes_in line) (table_of (take k cs))) → r ≡ with_cut p (side_by_side (dashes_in line) (table_of (take (k + 1) cs)))
cut_dashes line cs ws k w p q m r are low at dashes gap so_far =
    let c = get_or cs k no_column in
    let is = get_or_default cs k no_column c low in
    cut_side (dashes_in line) cs k c p q r (replicate w 45) low is
    (ap (λ n. replicate n 45) (width_at line cs ws k c w are low is at))
    (gap ∙ ap (λ (t : List ℕ × Option ℕ). with_cut t (blanks 2)) dashes ∙ sym (cut_more q (replicate w 45) (blanks 2))) so_far

-- a cell is written that is as wide as its text is long, behind blanks
pub blanks_first : (right : Bool) (w m : ℕ) (text cell : List ℕ) (p q r : List ℕ × Option ℕ) → right ≡ true → m ≡ w - width_of cell → cell ≡ text
    → q ≡ with_cut p (blanks m) → r ≡ with_cut q text → r ≡ with_cut p (padded_cell right w cell)
blanks_first right w m text cell p q r is missing same before push =
    push ∙ ap (λ (t : List ℕ × Option ℕ). with_cut t text) before ∙ sym (cut_more p (blanks m) text)
    ∙ ap (λ n. with_cut p (blanks n ++ text)) missing
    ∙ ap (λ (s : List ℕ). with_cut p (blanks (w - width_of cell) ++ s)) (sym same)
    ∙ ap (λ b. with_cut p (padded_cell b w cell)) (sym is)

-- or before them
pub blanks_last : (right : Bool) (w m : ℕ) (text cell : List ℕ) (p q r : List ℕ × Option ℕ) → right ≡ false → m ≡ w - width_of cell → cell ≡ text
    → q ≡ with_cut p text → r ≡ with_cut q (blanks m) → r ≡ with_cut p (padded_cell right w cell)
blanks_last right w m text cell p q r is missing same before push =
    push ∙ ap (λ (t : List ℕ × Option ℕ). with_cut t (blanks m)) before ∙ sym (cut_more p text (blanks m))
    ∙ ap (λ n. with_cut p (text ++ blanks n)) missing
    ∙ ap (λ (s : List ℕ). with_cut p (s ++ blanks (w - width_of cell))) (sym same)
    ∙ ap (λ b. with_cut p (padded_cell b w cell)) (sym is)

pub padded_same : (a b : Bool) (v w : ℕ) (s t : List ℕ) → a ≡ b → v ≡ w → s ≡ t → padded_cell a v s ≡ padded_cell b w t
padded_same a b v w s t right wide same = ap (λ x. padded_cell x v s) right ∙ ap (λ x. padded_cell b x s) wide ∙ ap (λ x. padded_cell b w x) same

pub cell_same : (k l : Kind) (v w : Datum) → k ≡ l → v ≡ w → cell_of k v ≡ cell_of l w
cell_same k l v w kinds values = ap (λ t. cell_of t v) kinds ∙ ap (cell_of l) values

-- a row below the height of columns is one of each
pub row_below : (cs : List Col) (i h : ℕ) → i < h → All (λ (c : Col). length (values c) ≡ h) cs → All (λ (c : Col). i < length (values c)) cs
row_below cs i h low all = λ k d within. let high = all k d within in omega (arith, low, high)

-- the columns that are shown are as high as the table
pub shown_high : (cs ks : List Col) (n h : ℕ) → ks ≡ take n cs → h ≡ height (table_of cs)
    → All (λ (c : TableColumn). length c.values ≡ height (table_of cs)) (table_of cs) → All (λ (c : Col). length (values c) ≡ h) ks
shown_high cs ks n h same high all = rw (same, high) (All-take (λ (c : Col). length (values c) ≡ height (table_of cs)) n cs (λ k d within.
    subst (λ (c : TableColumn). length c.values ≡ height (table_of cs)) (listn.get_or-map plain_column cs k d) (all k (plain_column d) (rw (length-map cs plain_column) within))))
