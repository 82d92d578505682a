-- A table doesn't show where texts stand.
use Rattle.std.proofs.Common.{◌≡◌, List, [], ◌∷◌, map, refl, ap}
use Rattle.tb_chunk.specs.Promise.Col.{Col}
use Rattle.tb_frame.specs.Promise.Table.{plain_column, table_of}
use Rattle.tb_request.specs.Columns.{relaid_column}

pub table_unlaid : (cs : List Col) → table_of (map relaid_column cs) ≡ table_of cs
table_unlaid [] = refl
table_unlaid (c ∷ cs) = ap (λ t. plain_column c ∷ t) (table_unlaid cs)
