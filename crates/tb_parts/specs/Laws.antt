-- The laws of joins in parts.
use Rattle.std.specs.Prelude.{◌≡◌, ◌≢◌, ◌↔◌, ℕ, ◌<◌, ◌==◌, Bool, true, List, length, map, filter, None, IsPermutation}
use Rattle.std.specs.List.{flat_map}
use Rattle.tb_value.specs.Promise.Datum.{Datum}
use Rattle.tb_value.specs.Promise.Names.{Name}
use Rattle.tb_value.specs.Promise.Pairs.{row_numbers}
use Rattle.tb_value.specs.declared.index.JoinPair.{JoinPair}
use Rattle.tb_frame.specs.declared.args.Direction.TheVariants.{Free}
use Rattle.tb_frame.specs.declared.args.JoinArgs.{JoinArgs}
use Rattle.tb_frame.specs.declared.args.JoinType.{JoinType}
use Rattle.tb_frame.specs.Promise.Table.{IsTable, Table, rows_of, schema_of}
use Rattle.tb_frame.specs.Promise.Join.{IsAnswer, IsOrdered, Request, by_names, direction, listing, listing_of, out_columns}
use Rattle.tb_frame.specs.Promise.Refusal.{broken_left, broken_right, column_causes, join_valid, key_causes}
use Rattle.tb_parts.specs.Promise.Parts.{IsParted, left_part, left_rows, listing_among, part_listing, part_of_pair, part_request, right_part, right_rows, rows_in, table_among, whole_pair}

-- rows that match have one part
abbrev pub MeetInParts : ℕ → ℕ → (ℕ → ℕ → Bool) → (ℕ → ℕ) → (ℕ → ℕ) → Type 0
MeetInParts l r m left right =
    (i j : ℕ) → i < l → j < r → m i j ≡ true → left i ≡ right j

-- however rows are parted so that those that match have one part: the pairs of a part, in the order of the whole listing, are what is listed of its rows
abbrev pub EachListing : Type 0
EachListing = (how : JoinType) (l r : ℕ) (m : ℕ → ℕ → Bool) (left right : ℕ → ℕ)
    → MeetInParts l r m left right → (p : ℕ)
    → filter (λ pair. p == part_of_pair left right pair) (listing_of how l r m)
    ≡ listing_among how m (rows_in left l p) (rows_in right r p)

-- and the listings of n parts, one after another, are the whole listing up to order
abbrev pub AllListings : Type 0
AllListings = (how : JoinType) (l r : ℕ) (m : ℕ → ℕ → Bool) (left right : ℕ → ℕ) (n : ℕ)
    → MeetInParts l r m left right → ((i : ℕ) → i < l → left i < n)
    → ((j : ℕ) → j < r → right j < n)
    → IsPermutation (listing_of how l r m)
    (flat_map (λ p. listing_among how m (rows_in left l p) (rows_in right r p)) (row_numbers n))

-- REQUESTS, whose rows fall into parts by any function of the fields of their keys

-- the pairs of a part, in the order of the whole listing, are what is listed of it
abbrev pub PartListing : Type 0
PartListing = (part : List Datum → ℕ) (q : Request) (p : ℕ)
    → length q.left_keys ≡ length q.right_keys
    → filter (λ pair. p == part_of_pair (left_part part q) (right_part part q) pair) (listing q)
    ≡ part_listing part q p

-- the listings of n parts, one after another, are the listing of the request up to order
abbrev pub PartListings : Type 0
PartListings = (part : List Datum → ℕ) (n : ℕ) (q : Request) → IsParted part n q
    → IsPermutation (listing q) (flat_map (part_listing part q) (row_numbers n))

-- where an order is fixed, the ordered pairs of a part are those of the whole that are of the part, in their order: merged by row numbers, the ordered pairs of all parts are those of the whole
abbrev pub PartOrder : Type 0
PartOrder = (part : List Datum → ℕ) (q : Request) (p : ℕ) (ps qs : List JoinPair)
    → length q.left_keys ≡ length q.right_keys
    → direction q.args.how q.args.maintain_order ≢ Free
    → IsOrdered q.args.how q.args.maintain_order ps (listing q)
    → IsOrdered q.args.how q.args.maintain_order qs (listing (part_request part q p))
    → filter (λ pair. p == part_of_pair (left_part part q) (right_part part q) pair) ps
    ≡ map (whole_pair (left_rows part q p) (right_rows part q p)) qs

-- the request of a part, by names, is that of the parts of the two tables by the same names
abbrev pub PartNames : Type 0
PartNames = (part : List Datum → ℕ) (l r : Table) (left_on right_on : List Name) (args : JoinArgs)
    (p : ℕ) → let q : Request = by_names l r left_on right_on args in
    part_request part q p
    ≡ by_names (table_among (left_rows part q p) l) (table_among (right_rows part q p) r)
    left_on right_on args

-- the answer of a part has the columns of the answer to all
abbrev pub PartColumns : Type 0
PartColumns = (part : List Datum → ℕ) (q : Request) (p : ℕ)
    → out_columns (part_request part q p) ≡ out_columns q

-- each of n parts has an answer among these tables
abbrev pub AreAnswers : (List Datum → ℕ) → ℕ → Request → (ℕ → Table) → Type 0
AreAnswers part n q answers = (p : ℕ) → p < n → IsAnswer (part_request part q p) (answers p)

-- their rows, those of one part after those of another
abbrev pub rows_together : ℕ → (ℕ → Table) → List (List Datum)
rows_together n answers = flat_map (λ p. rows_of (answers p)) (row_numbers n)

-- without a slice: they are the rows of an answer to the request, up to order
abbrev pub PartRows : Type 0
PartRows = (part : List Datum → ℕ) (n : ℕ) (q : Request) (t : Table) (answers : ℕ → Table)
    → IsParted part n q → q.args.slice ≡ None → IsAnswer q t → AreAnswers part n q answers
    → IsPermutation (rows_of t) (rows_together n answers)

-- and where no order is asked, they are an answer to it
abbrev pub PartAnswers : Type 0
PartAnswers = (part : List Datum → ℕ) (n : ℕ) (q : Request) (t : Table) (answers : ℕ → Table)
    → IsParted part n q → q.args.slice ≡ None
    → direction q.args.how q.args.maintain_order ≡ Free → AreAnswers part n q answers
    → IsTable t → schema_of t ≡ out_columns q → rows_of t ≡ rows_together n answers → IsAnswer q t

-- a side may stand as validation asks exactly where it may in each part
abbrev pub PartValidation : Type 0
PartValidation = (part : List Datum → ℕ) (n : ℕ) (q : Request) → IsParted part n q
    → (broken_left q ≡ None
    ↔ ((p : ℕ) → p < n → broken_left (part_request part q p) ≡ None))
    × (broken_right q ≡ None
    ↔ ((p : ℕ) → p < n → broken_right (part_request part q p) ≡ None))

-- keys and columns are refused of a part as they are of the whole
abbrev pub PartCauses : Type 0
PartCauses = (part : List Datum → ℕ) (q : Request) (p : ℕ)
    → (key_causes (part_request part q p) ≡ key_causes q)
    × (column_causes (part_request part q p) ≡ column_causes q)

-- so no part of a request that is not refused is refused
abbrev pub PartsValid : Type 0
PartsValid = (part : List Datum → ℕ) (n : ℕ) (q : Request) → IsParted part n q → join_valid q
    → (p : ℕ) → p < n → join_valid (part_request part q p)
