-- Common types of several columns.
use Rattle.std.specs.Prelude.{◌≡◌, ◌+◌, ℕ, List, [], ◌∷◌, Result, Ok, Err, codes}
use Rattle.tb_value.specs.Promise.Kind.{Kind, null, boolean, int8, int32, int64, uint8, uint32, uint64, string, date}
use Rattle.tb_value.specs.Promise.Names.{Name}
use Rattle.tb_frame.specs.Promise.Table.{TableColumn}
use Rattle.tb_unpivot.specs.Promise.Unpivot.{common_kind}

-- columns of these types under the names a, b, c and d
abbrev pub columns_from : ℕ → List Kind → List TableColumn
columns_from n [] = []
columns_from n (t ∷ ts) = record { name = n ∷ []; kind = t; values = [] } ∷ columns_from (n + 1) ts

abbrev pub common_of : List Kind → Result Kind Name
common_of ts = common_kind null (columns_from 97 ts)

abbrev pub Folds : Type 0
Folds = (common_of (string ∷ int32 ∷ int32 ∷ int32 ∷ []) ≡ Ok string)
    × (common_of (uint8 ∷ int8 ∷ uint32 ∷ []) ≡ Ok int64)
    × (common_of (boolean ∷ int8 ∷ string ∷ []) ≡ Ok string)
    × (common_of (null ∷ null ∷ []) ≡ Ok null)
    × (common_of [] ≡ Ok null)
    × (common_of (uint64 ∷ int64 ∷ string ∷ []) ≡ Err (codes "b"))
    × (common_of (uint64 ∷ string ∷ int64 ∷ []) ≡ Ok string)
    × (common_of (int32 ∷ date ∷ []) ≡ Err (codes "b"))
