-- Key columns, and the sizes of a merge of two by their values.
use Rattle.std.specs.Prelude.{ℕ, false, List, [], ◌∷◌, length}
use Rattle.tb_value.specs.Promise.Datum.{Datum}
use Rattle.tb_chunk.specs.Promise.Col.{Col, values}
use Rattle.tb_frame.specs.declared.args.JoinType.{JoinType}
use Rattle.tb_frame.specs.declared.args.JoinType.TheVariants as kind
use Rattle.tb_keys.specs.Promise.Listing.{value_listing}
use Rattle.tb_sorted.specs.Promise.Keys.{MergeSizes}

-- how many pairs of rows match, of two columns without Nulls
abbrev pub match_count : List Datum → List Datum → ℕ
match_count us vs = length (value_listing false kind.Inner us vs)

-- the sizes of a merge of two columns, and of one for a join of a kind: those of a Right join are merged with their sides exchanged
abbrev pub value_sizes : List Datum → List Datum → MergeSizes
value_sizes us vs =
    record { left_len = length us; right_len = length vs; pairs = match_count us vs }

abbrev pub sizes_by : JoinType → List Datum → List Datum → MergeSizes
sizes_by kind.Right us vs =
    record { left_len = length vs; right_len = length us; pairs = match_count us vs }
sizes_by how us vs = value_sizes us vs

-- the values of the first key, which is the only one where keys are merged
abbrev pub first_values : List Col → List Datum
first_values [] = []
first_values (c ∷ cs) = values c
