-- The columns of tables, with the names of these beside them.
use Rattle.std.proofs.Common.{◌≡◌, ◌∙◌, append-nil, append_assoc, List, [], ◌∷◌, ◌++◌, length, map, sym, ap, arith}

-- what is made of the items so far, and of those that are left
pub Beside-next : {X Y B : Type 0} (g : Y → B) (h : X → Y) (done more : List B) (old new : List X) (x : X) (all : List B)
    → more ≡ done ++ g (h x) ∷ [] → old ≡ x ∷ new → done ++ map g (map h old) ≡ all → more ++ map g (map h new) ≡ all
Beside-next g h done more old new x all grown is so_far =
    ap (λ ys. ys ++ map g (map h new)) grown
    ∙ append_assoc done (g (h x) ∷ []) (map g (map h new))
    ∙ ap (λ xs. done ++ map g (map h xs)) (sym is)
    ∙ so_far

-- where none is left, all is made
pub Beside-end : {X Y B : Type 0} (g : Y → B) (h : X → Y) (done : List B) (rest : List X) (all : List B)
    → length rest ≡ 0 → done ++ map g (map h rest) ≡ all → done ≡ all
Beside-end g h done [] all none so_far = sym (append-nil done) ∙ so_far
Beside-end g h done (x ∷ xs) all none so_far = absurd (omega (arith, none))
