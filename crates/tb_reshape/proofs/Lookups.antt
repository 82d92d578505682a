-- The columns of a table by their names.
use Rattle.std.proofs.Common.{◌≡◌, ◌≢◌, ◌∙◌, suc, Bool, false, cond, List, [], ◌∷◌, ◌++◌, get_or, Option, Some, refl, sym, ap, arith, append_assoc}
use Rattle.std.specs.List.{All, AllPairs, cons_option, filter_map}
use Rattle.std.proofs.lemmas.Bool.{false_from_ne_true}
use Rattle.std.proofs.lemmas.List.Elements.{All-append, All-cons, All-head, All-nil, All-tail}
use Rattle.std.proofs.lemmas.Slice.Eq.{bytes_eq-Decides}
use Rattle.tb_value.specs.Promise.Names.{Name, same_name}
use Rattle.tb_frame.specs.Promise.Join.{column_named}
use Rattle.tb_frame.specs.Promise.Table.{TableColumn, Table, names_of}

abbrev pub Differ : Name → TableColumn → Type 0
Differ n c = c.name ≢ n

-- columns of other names are passed by
pub past : (n : Name) (before rest : Table) → All (Differ n) before → column_named (before ++ rest) n ≡ column_named rest n
past n [] rest differ = refl
past n (c ∷ cs) rest differ =
    let other : same_name c.name n ≡ false = false_from_ne_true (same_name c.name n) (λ t. All-head (Differ n) c cs differ ((bytes_eq-Decides c.name n).0 t)) in
    ap (λ (b : Bool). cond b (Some c) (column_named (cs ++ rest) n)) other ∙ past n cs rest (All-tail (Differ n) c cs differ)

pub at_front : (c : TableColumn) (rest : Table) → column_named (c ∷ rest) c.name ≡ Some c
at_front c rest = ap (λ (b : Bool). cond b (Some c) (column_named rest c.name)) ((bytes_eq-Decides c.name c.name).1 refl)

pairs_head : (n : Name) (ns : List Name) → AllPairs (λ (a b : Name). a ≢ b) (n ∷ ns) → All (λ (m : Name). n ≢ m) ns
pairs_head n ns apart = λ k d low. apart 0 (suc k) d (omega arith) (omega (arith, low))

pairs_tail : (n : Name) (ns : List Name) → AllPairs (λ (a b : Name). a ≢ b) (n ∷ ns) → AllPairs (λ (a b : Name). a ≢ b) ns
pairs_tail n ns apart = λ i j d less low. apart (suc i) (suc j) d (omega (arith, less)) (omega (arith, low))

each_found : (before cs rest : Table) → All (λ (n : Name). All (Differ n) before) (names_of cs) → AllPairs (λ (a b : Name). a ≢ b) (names_of cs) → filter_map (column_named (before ++ (cs ++ rest))) (names_of cs) ≡ cs
each_found before [] rest differ apart = refl
each_found before (c ∷ cs) rest differ apart =
    let N : Name → Type 0 = λ n. All (Differ n) before in
    let here : column_named (before ++ (c ∷ (cs ++ rest))) c.name ≡ Some c = past c.name before (c ∷ (cs ++ rest)) (All-head N c.name (names_of cs) differ) ∙ at_front c (cs ++ rest) in
    let head : All (λ (m : Name). c.name ≢ m) (names_of cs) = pairs_head c.name (names_of cs) apart in
    let tail : All N (names_of cs) = All-tail N c.name (names_of cs) differ in
    let more : All (λ (n : Name). All (Differ n) (before ++ c ∷ [])) (names_of cs) = λ k d low. All-append (Differ (get_or (names_of cs) k d)) before (c ∷ []) (tail k d low) (All-cons (Differ (get_or (names_of cs) k d)) c [] (head k d low) (All-nil (Differ (get_or (names_of cs) k d)))) in
    ap (λ (o : Option TableColumn). cons_option o (filter_map (column_named (before ++ (c ∷ (cs ++ rest)))) (names_of cs))) here
    ∙ ap (λ (t : Table). c ∷ filter_map (column_named t) (names_of cs)) (sym (append_assoc before (c ∷ []) (cs ++ rest)))
    ∙ ap (λ (ds : Table). c ∷ ds) (each_found (before ++ c ∷ []) cs rest more (pairs_tail c.name (names_of cs) apart))

-- columns of distinct names that stand first are found by these
pub first_found : (cs rest : Table) → AllPairs (λ (a b : Name). a ≢ b) (names_of cs) → filter_map (column_named (cs ++ rest)) (names_of cs) ≡ cs
first_found cs rest apart = each_found [] cs rest (λ k d low. All-nil (Differ (get_or (names_of cs) k d))) apart
