-- A request with its sides exchanged lists the pairs turned round.
use Rattle.std.proofs.Common.{◌≡◌, ℕ, min, Bool, true, false, List, ◌++◌, length, map, refl, ap, arith, sym, ◌∙◌, subst}
use Rattle.std.specs.Prelude.{filter, not, IsPermutation, ◌&&◌, ◌||◌}
use Rattle.std.specs.List.{list_any, list_all}
use Rattle.std.proofs.lemmas.List.{map-append}
use Rattle.std.proofs.lemmas.List.Sorted.{IsPermutation-sym, IsPermutation-trans, IsPermutation-append_left, IsPermutation-map}
use Rattle.tb_value.specs.declared.index.JoinPair.{JoinPair}
use Rattle.tb_value.specs.Promise.Datum.{Datum, is_null, is_present}
use Rattle.tb_value.specs.Proved.ValueTests.{same_equiv}
use Rattle.tb_value.specs.Promise.Pairs.{row_numbers, left_only, matched_pairs, left_unmet, right_unmet}
use Rattle.tb_value.specs.Pairs.{turn}
use Rattle.tb_value.proofs.Loops.{map-map, permuted, turned_matches}
use Rattle.tb_value.proofs.Probes.{turn_twice, turned_to_left, turned_to_right}
use Rattle.tb_frame.specs.declared.args.JoinType.TheVariants.{Left, Right}
use Rattle.tb_frame.specs.declared.args.MaintainOrderJoin.{MaintainOrderJoin}
use Rattle.tb_frame.specs.declared.args.MaintainOrderJoin.TheVariants as order
use Rattle.tb_frame.specs.Promise.Table.{height}
use Rattle.tb_value.specs.Promise.Same.{agrees}
use Rattle.tb_frame.specs.Promise.Join.{Request, matches, field, nulls_match, places, listing, listing_of, Ascends, direction, IsOrdered}
use Rattle.tb_frame.specs.Sides.{asking, exchanged_request, flip}

-- EQUALITY BOTH WAYS

and_swap : (a b : Bool) → (a && b) ≡ (b && a)
and_swap true true = refl
and_swap true false = refl
and_swap false true = refl
and_swap false false = refl

pub agrees_symm : (n : Bool) (a b : Datum) → agrees n a b ≡ agrees n b a
agrees_symm n a b = λ t. (and_swap (is_present a) (is_present b) t && same_equiv.symm a b t) || (and_swap (is_null a) (is_null b) t && n)

-- THE LISTINGS

pub turned_listing : (l r : ℕ) (m n : ℕ → ℕ → Bool) → n ≡ (λ j i. m i j) → IsPermutation (map turn (listing_of Left r l n)) (listing_of Right l r m)
turned_listing l r m n e =
    let goal_at : (ℕ → ℕ → Bool) → Type 0 = λ k. IsPermutation (map turn (listing_of Left r l k)) (listing_of Right l r m) in
    let f : ℕ → ℕ → Bool = λ j i. m i j in
    let alone : map turn (left_unmet r l f) ≡ right_unmet l r m = map-map turn left_only (filter (λ j. not (list_any (f j) (row_numbers l))) (row_numbers r)) in
    let halves : map turn (matched_pairs r l f ++ left_unmet r l f) ≡ map turn (matched_pairs r l f) ++ right_unmet l r m = map-append turn (matched_pairs r l f) (left_unmet r l f) ∙ ap (λ (x : List JoinPair). map turn (matched_pairs r l f) ++ x) alone in
    let both_halves : IsPermutation (map turn (matched_pairs r l f) ++ right_unmet l r m) (matched_pairs l r m ++ right_unmet l r m) = IsPermutation-append_left (right_unmet l r m) (map turn (matched_pairs r l f)) (matched_pairs l r m) (turned_matches l r m) in
    subst goal_at (sym e) (subst (λ (x : List JoinPair). IsPermutation x (matched_pairs l r m ++ right_unmet l r m)) (sym halves) both_halves)

pub matches_turned : (q : Request) → matches (asking Left (exchanged_request q)) ≡ (λ j i. matches (asking Right q) i j)
matches_turned q =
    let swap : min (length q.right_keys) (length q.left_keys) ≡ min (length q.left_keys) (length q.right_keys) = omega arith in
    let at : (j i : ℕ) → matches (asking Left (exchanged_request q)) j i ≡ matches (asking Right q) i j = λ j i.
    ap (λ (n : ℕ). list_all (λ p. agrees (nulls_match q p) (field q.right_keys p j) (field q.left_keys p i)) (row_numbers n)) swap
    ∙ ap (λ (f : ℕ → Bool). list_all f (places q)) (λ t p. agrees_symm (nulls_match q p) (field q.right_keys p j) (field q.left_keys p i) t) in
    λ t j i. at j i t

pub turned_request : (q : Request) → IsPermutation (map turn (listing (asking Left (exchanged_request q)))) (listing (asking Right q))
turned_request q = turned_listing (height q.left) (height q.right) (matches (asking Right q)) (matches (asking Left (exchanged_request q))) (matches_turned q)

-- ORDER

-- what ascends in the order of a Right join ascends, turned round, in the flipped order of a Left join
ascends_turned : (o : MaintainOrderJoin) (ps : List JoinPair) → Ascends (direction Right o) ps → Ascends (direction Left (flip o)) (map turn ps)
ascends_turned order.None ps s = turned_to_left ps s
ascends_turned order.Left ps s = turned_to_right ps s
ascends_turned order.LeftRight ps s = turned_to_right ps s
ascends_turned order.Right ps s = turned_to_left ps s
ascends_turned order.RightLeft ps s = turned_to_left ps s

ascends_back : (o : MaintainOrderJoin) (ps : List JoinPair) → Ascends (direction Left (flip o)) ps → Ascends (direction Right o) (map turn ps)
ascends_back order.None ps s = turned_to_right ps s
ascends_back order.Left ps s = turned_to_left ps s
ascends_back order.LeftRight ps s = turned_to_left ps s
ascends_back order.Right ps s = turned_to_right ps s
ascends_back order.RightLeft ps s = turned_to_right ps s

pub order_turned : (q : Request) (o : MaintainOrderJoin) (ps : List JoinPair) → IsOrdered Right o ps (listing (asking Right q)) → IsOrdered Left (flip o) (map turn ps) (listing (asking Left (exchanged_request q)))
order_turned q o ps h =
    let there : List JoinPair = listing (asking Left (exchanged_request q)) in
    let a : IsPermutation (map turn (map turn there)) (map turn ps) = IsPermutation-map turn (map turn there) ps (IsPermutation-trans (map turn there) (listing (asking Right q)) ps (turned_request q) h.permutation) in
    record { permutation = subst (λ (x : List JoinPair). IsPermutation x (map turn ps)) (turn_twice there) a; ascends = ascends_turned o ps h.ascends }

pub order_back : (q : Request) (o : MaintainOrderJoin) (ps : List JoinPair) → IsOrdered Left (flip o) (map turn ps) (listing (asking Left (exchanged_request q))) → IsOrdered Right o ps (listing (asking Right q))
order_back q o ps h =
    let there : List JoinPair = listing (asking Left (exchanged_request q)) in
    let here : List JoinPair = listing (asking Right q) in
    let a : IsPermutation (map turn there) (map turn (map turn ps)) = IsPermutation-map turn there (map turn ps) h.permutation in
    let b : IsPermutation here (map turn (map turn ps)) = IsPermutation-trans here (map turn there) (map turn (map turn ps)) (IsPermutation-sym (map turn there) here (turned_request q)) a in
    let c : Ascends (direction Right o) (map turn (map turn ps)) = ascends_back o (map turn ps) h.ascends in
    record { permutation = permuted here (map turn (map turn ps)) ps (turn_twice ps) b; ascends = subst (λ (x : List JoinPair). Ascends (direction Right o) x) (turn_twice ps) c }
