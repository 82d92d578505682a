-- The listing of two key columns.
use Rattle.std.specs.Prelude.{Bool, List, length, slice_index_or}
use Rattle.tb_value.specs.Promise.Datum.{Datum, null}
use Rattle.tb_value.specs.Promise.Same.{agrees}
use Rattle.tb_value.specs.declared.index.JoinPair.{JoinPair}
use Rattle.tb_frame.specs.declared.args.JoinType.{JoinType}
use Rattle.tb_frame.specs.Promise.Join.{listing_of}

-- the listing of two columns by their values
abbrev pub value_listing : Bool → JoinType → List Datum → List Datum → List JoinPair
value_listing null_matches how us vs = listing_of how (length us) (length vs) (λ i j.
    agrees null_matches (slice_index_or us i null) (slice_index_or vs j null))
