-- The built rows of each probed row, as lists of row numbers.
use Rattle.std.specs.Prelude.{ℕ, ◌+◌, Bool, true, false, not, nat_eq, List, [], ◌∷◌, ◌++◌, length, map, filter, replicate, None}
use Rattle.std.specs.Borrow.{Bor}
use Rattle.std.specs.List.{flat_map, list_any}
use Rattle.tb_value.specs.Index.{to_number}
use Rattle.tb_value.specs.Promise.Pairs.{row_numbers}
use Rattle.tb_frame.specs.declared.args.JoinType.{JoinType}
use Rattle.tb_frame.specs.declared.args.JoinType.TheVariants.{Inner, Left, Right, Full, Semi, Anti}

-- what lists hold that are lent
abbrev pub seen : List (Bor (List ℕ)) → List (List ℕ)
seen lists = map (λ r. r.now) lists

-- lists that are lent, one after another
abbrev pub concatenated : List (Bor (List ℕ)) → List ℕ
concatenated lists = flat_map (λ (r : Bor (List ℕ)). r.now) lists

-- of each list its number, counted from the first one on, as often as it has elements
abbrev pub repeated : ℕ → List (Bor (List ℕ)) → List ℕ
repeated first [] = []
repeated first (list ∷ lists) = replicate (length list.now) first ++ repeated (first + 1) lists

-- the number that stands for no row
abbrev pub no_row : ℕ
no_row = to_number None

-- a row alone, where it stands alone
abbrev pub alone_where : Bool → List ℕ
alone_where true = no_row ∷ []
alone_where false = []

-- the built rows, and no row in their place where there are none
abbrev pub or_alone : List ℕ → List ℕ
or_alone [] = no_row ∷ []
or_alone (row ∷ rows) = row ∷ rows

-- the built row, or none, of each pair that a join of this kind lists of a probed row with these built rows
abbrev pub beside : JoinType → List ℕ → List ℕ
beside Inner rows = rows
beside Left rows = or_alone rows
beside Right rows = or_alone rows
beside Full rows = or_alone rows
beside Semi [] = []
beside Semi (row ∷ rows) = no_row ∷ []
beside Anti [] = no_row ∷ []
beside Anti (row ∷ rows) = []

-- the rows, of so many, that stand in none of the lists; only a Full join lists them
abbrev pub not_in : List (List ℕ) → ℕ → List ℕ
not_in lists len =
    filter (λ k. not (list_any (λ list. list_any (nat_eq k) list) lists)) (row_numbers len)

abbrev pub unlisted : JoinType → ℕ → List (List ℕ) → List ℕ
unlisted Inner len lists = []
unlisted Left len lists = []
unlisted Right len lists = []
unlisted Full len lists = not_in lists len
unlisted Semi len lists = []
unlisted Anti len lists = []

-- there are no rows
abbrev pub is_bare : List ℕ → Bool
is_bare [] = true
is_bare (row ∷ rows) = false

-- the built rows, of so many, that match no probed row, of which rows gives those of each; only a Full join lists them
abbrev pub unmatched : JoinType → (ℕ → List ℕ) → ℕ → List ℕ
unmatched Inner rows len = []
unmatched Left rows len = []
unmatched Right rows len = []
unmatched Full rows len = filter (λ k. is_bare (rows k)) (row_numbers len)
unmatched Semi rows len = []
unmatched Anti rows len = []
