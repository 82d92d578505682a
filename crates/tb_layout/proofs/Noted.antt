-- The names in a note.
use Rattle.std.proofs.Common.{◌≡◌, ◌<◌, ◌+◌, ◌∷◌, ◌++◌, ◌∙◌, ◌==◌, [], ℕ, List, false, codes, length, take, get_or, refl, sym, ap, arith, append-nil, append_assoc}
use Rattle.std.specs.List.{flat_map}
use Rattle.std.proofs.lemmas.Bool.Decides.{nat_tests}
use Rattle.std.proofs.lemmas.Grind.{flat_map-append}
use Rattle.std.proofs.lemmas.List.{length-map, length-take-le, take_more}
use Rattle.tb_value.specs.Promise.Names.{Name}
use Rattle.tb_chunk.specs.Promise.Col.{Col}
use Rattle.tb_frame.specs.Promise.Table.{TableColumn, names_of, plain_column, table_of}
use Rattle.tb_layout.specs.Notes.{gap}
use Rattle.tb_layout.specs.Promise.Lines.{listed}

listed_push : (ns : List Name) (n : Name) → listed (ns ++ n ∷ []) ≡ listed ns ++ (gap (length ns) ++ n)
listed_push [] n = append-nil n
listed_push (m ∷ ns) n =
    let item = λ (k : Name). codes ", " ++ k in
    let more : flat_map item (ns ++ n ∷ []) ≡ flat_map item ns ++ (codes ", " ++ n) = flat_map-append item ns (n ∷ []) ∙ ap (λ (s : List ℕ). flat_map item ns ++ s) (append-nil (item n)) in
    let later : (length (m ∷ ns) == 0) ≡ false = grind (arith, nat_tests) in
    rw later (ap (λ (s : List ℕ). m ++ s) more ∙ sym (append_assoc m (flat_map item ns) (codes ", " ++ n)))

names_push : (cs : List Col) (c : Col) → names_of (table_of (cs ++ c ∷ [])) ≡ names_of (table_of cs) ++ c.name ∷ []
names_push [] c = refl
names_push (d ∷ cs) c = ap (λ (ns : List Name). d.name ∷ ns) (names_push cs c)

-- one more name, behind what stands before it
pub listed_more : (cs : List Col) (place : ℕ) (c : Col) (old so_far apart new : List ℕ) → place < length cs → c ≡ get_or cs place c
    → apart ≡ so_far ++ gap place → new ≡ apart ++ c.name → so_far ≡ old ++ listed (names_of (table_of (take place cs)))
    → new ≡ old ++ listed (names_of (table_of (take (place + 1) cs)))
listed_more cs place c old so_far apart new low is first second before =
    let front = names_of (table_of (take place cs)) in
    let count : length front ≡ place = length-map (table_of (take place cs)) (λ (d : TableColumn). d.name) ∙ length-map (take place cs) plain_column ∙ length-take-le place cs (omega (arith, low)) in
    second ∙ ap (λ (s : List ℕ). s ++ c.name) (first ∙ ap (λ (s : List ℕ). s ++ gap place) before)
    ∙ append_assoc (old ++ listed front) (gap place) c.name
    ∙ append_assoc old (listed front) (gap place ++ c.name)
    ∙ ap (λ (s : List ℕ). old ++ s) (ap (λ (n : ℕ). listed front ++ (gap n ++ c.name)) (sym count)
    ∙ sym (listed_push front c.name)
    ∙ ap listed (sym (names_push (take place cs) c) ∙ ap (λ (ds : List Col). names_of (table_of ds)) (ap (λ (d : Col). take place cs ++ d ∷ []) is ∙ sym (take_more cs place c low))))
