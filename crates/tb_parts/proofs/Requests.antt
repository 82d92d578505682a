-- The listing of the request of a part.
use Rattle.std.proofs.Common.{◌≡◌, ℕ, ◌<◌, List, length, map, ap, ◌∙◌, sym}
use Rattle.std.specs.Prelude.{min, IsPermutation, filter, ◌==◌}
use Rattle.std.specs.List.{flat_map, list_all}
use Rattle.tb_value.specs.Promise.Datum.{Datum}
use Rattle.tb_value.specs.Promise.Names.{Name}
use Rattle.tb_value.specs.Promise.Pairs.{row_numbers}
use Rattle.tb_value.specs.Promise.Same.{agrees}
use Rattle.tb_value.specs.declared.index.JoinPair.{JoinPair}
use Rattle.tb_value.proofs.Loops.{flat_map_agree, permuted}
use Rattle.tb_frame.specs.declared.args.JoinArgs.{JoinArgs}
use Rattle.tb_frame.specs.Promise.Table.{Table, height}
use Rattle.tb_frame.specs.Promise.Join.{Request, by_names, listing, listing_of, matches, nulls_match}
use Rattle.tb_frame.proofs.Listings.{listing-same}
use Rattle.tb_parts.specs.Laws.{MeetInParts}
use Rattle.tb_parts.specs.Promise.Parts.{IsParted, left_part, left_rows, listing_among, part_listing, part_of_pair, part_request, request_among, right_part, right_rows, table_among, whole_pair, whole_row}
use Rattle.tb_parts.proofs.Among.{field_among, height_among, keys_among, many_among}
use Rattle.tb_parts.proofs.Alike.{matched_alike}
use Rattle.tb_parts.proofs.Listings.{in_all, in_part}

-- rows match in a part as they do in the whole
matches_among : (q : Request) (ls rs : List ℕ) (a b : ℕ) → a < length ls → b < length rs → matches (request_among q ls rs) a b ≡ matches q (whole_row ls a) (whole_row rs b)
matches_among q ls rs a b la lb =
    λ t. list_all (λ p. agrees (nulls_match q p) (field_among ls q.left_keys p a la t) (field_among rs q.right_keys p b lb t)) (row_numbers (min (many_among ls q.left_keys t) (many_among rs q.right_keys t)))

pub request_named : (l r : Table) (left_on right_on : List Name) (args : JoinArgs) (ls rs : List ℕ)
    → request_among (by_names l r left_on right_on args) ls rs ≡ by_names (table_among ls l) (table_among rs r) left_on right_on args
request_named l r left_on right_on args ls rs = λ t. record {
  left = table_among ls l;
  right = table_among rs r;
  left_on = left_on;
  right_on = right_on;
  left_keys = sym (keys_among ls l left_on) t;
  right_keys = sym (keys_among rs r right_on) t;
  args = args;
}

module _ (part : List Datum → ℕ) (q : Request) where
  listed : (p : ℕ) → listing_among q.args.how (matches q) (left_rows part q p) (right_rows part q p) ≡ part_listing part q p
  listed p =
      let ls : List ℕ = left_rows part q p in
      let rs : List ℕ = right_rows part q p in
      let some : Request = part_request part q p in
      ap (map (whole_pair ls rs))
      (sym ((λ t. listing_of q.args.how (height_among (left_part part q) q.left p t) (height_among (right_part part q) q.right p t) (matches some))
      ∙ listing-same q.args.how (length ls) (length rs) (matches some) (λ a b. matches q (whole_row ls a) (whole_row rs b)) (λ a b la lb. matches_among q ls rs a b la lb)))

  meet : length q.left_keys ≡ length q.right_keys → MeetInParts (height q.left) (height q.right) (matches q) (left_part part q) (right_part part q)
  meet long = λ i j low under h. ap part (matched_alike q i j long h)

  pub listed_in_part : (p : ℕ) → length q.left_keys ≡ length q.right_keys → filter (λ pair. p == part_of_pair (left_part part q) (right_part part q) pair) (listing q) ≡ part_listing part q p
  listed_in_part p long = in_part (height q.left) (height q.right) (matches q) (left_part part q) (right_part part q) (meet long) p q.args.how ∙ listed p

  pub listed_in_all : (n : ℕ) → IsParted part n q → IsPermutation (listing q) (flat_map (part_listing part q) (row_numbers n))
  listed_in_all n parted =
      let among : ℕ → List JoinPair = λ p. listing_among q.args.how (matches q) (left_rows part q p) (right_rows part q p) in
      permuted (listing q) (flat_map among (row_numbers n)) (flat_map (part_listing part q) (row_numbers n))
      (flat_map_agree among (part_listing part q) listed (row_numbers n))
      (in_all (height q.left) (height q.right) (matches q) (left_part part q) (right_part part q) n parted.left parted.right (meet parted.keys) q.args.how)
