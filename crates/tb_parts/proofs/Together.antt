-- The answers of parts, one after another.
use Rattle.std.proofs.Common.{◌≡◌, ℕ, zero, suc, ◌+◌, ◌<◌, ◌≤◌, List, [], ◌++◌, length, map, refl, ap, sym, ◌∙◌, subst, arith, None}
use Rattle.std.specs.Prelude.{All, IsPermutation}
use Rattle.std.specs.List.{flat_map, range_with_len}
use Rattle.std.proofs.lemmas.List.{map-append}
use Rattle.std.proofs.lemmas.List.Sorted.{All-permutation, IsPermutation-append, IsPermutation-map, IsPermutation-refl, IsPermutation-sym, IsPermutation-trans}
use Rattle.tb_value.specs.Promise.Datum.{Datum}
use Rattle.tb_value.specs.Promise.Pairs.{row_numbers}
use Rattle.tb_value.specs.declared.index.JoinPair.{JoinPair}
use Rattle.tb_frame.specs.declared.args.Direction.{Direction}
use Rattle.tb_frame.specs.declared.args.Direction.TheVariants.{Free}
use Rattle.tb_frame.specs.Promise.Table.{IsTable, Table, height, rows_of, schema_of}
use Rattle.tb_frame.specs.Promise.Join.{Ascends, IsAnswer, Request, cut, direction, listing, matches, out_columns, out_row}
use Rattle.tb_parts.specs.Laws.{AreAnswers, rows_together}
use Rattle.tb_parts.specs.Promise.Parts.{IsParted, left_part, left_rows, part_listing, part_request, right_part, right_rows, whole_pair}
use Rattle.tb_parts.proofs.Among.{height_among}
use Rattle.tb_parts.proofs.Listings.{listed_have}
use Rattle.tb_parts.proofs.Outs.{IsPairAmong, outs_among}
use Rattle.tb_parts.proofs.Requests.{listed_in_all}

module _ (part : List Datum → ℕ) (q : Request) where
  abbrev ls : ℕ → List ℕ
  ls p = left_rows part q p

  abbrev rs : ℕ → List ℕ
  rs p = right_rows part q p

  -- the pairs that are listed of a part are of its rows
  pub listed_among : (p : ℕ) → All (IsPairAmong (ls p) (rs p)) (listing (part_request part q p))
  listed_among p =
      let some : Request = part_request part q p in
      let high : height some.left ≡ length (ls p) = height_among (left_part part q) q.left p in
      let high_right : height some.right ≡ length (rs p) = height_among (right_part part q) q.right p in
      listed_have (IsPairAmong (ls p) (rs p)) (height some.left) (height some.right) (matches some)
      (λ i j low under. record { left = omega (arith, low, high); right = omega (arith, under, high_right) })
      (λ i low. record { left = omega (arith, low, high); right = tt })
      (λ j under. record { left = tt; right = omega (arith, under, high_right) })
      q.args.how

  module _ (uncut : q.args.slice ≡ None) where
    -- the pairs of an answer to a part, in the whole
    abbrev pairs_in : (p : ℕ) (t : Table) → IsAnswer (part_request part q p) t → List JoinPair
    pairs_in p t a = map (whole_pair (ls p) (rs p)) a.pairs

    pairs_listed : (p : ℕ) (t : Table) (a : IsAnswer (part_request part q p) t) → IsPermutation (part_listing part q p) (pairs_in p t a)
    pairs_listed p t a = IsPermutation-map (whole_pair (ls p) (rs p)) (listing (part_request part q p)) a.pairs a.ordered.permutation

    rows_are : (p : ℕ) (t : Table) (a : IsAnswer (part_request part q p) t) → rows_of t ≡ map (out_row q) (pairs_in p t a)
    rows_are p t a =
        let some : Request = part_request part q p in
        a.rows
        ∙ ap (λ s. map (out_row some) (cut s a.pairs)) uncut
        ∙ outs_among q (ls p) (rs p) a.pairs (All-permutation (IsPairAmong (ls p) (rs p)) (listing some) a.pairs a.ordered.permutation (listed_among p))

    module _ (answers : ℕ → Table) where
      -- pairs, in the whole, of which the rows of the answers to n parts from part a on are made
      abbrev Gathered : ℕ → ℕ → Type 0
      Gathered a n = (ps : List JoinPair) × IsPermutation (flat_map (part_listing part q) (range_with_len a n)) ps × (flat_map (λ p. rows_of (answers p)) (range_with_len a n) ≡ map (out_row q) ps)

      gathered : (n a : ℕ) → ((p : ℕ) → a ≤ p → p < a + n → IsAnswer (part_request part q p) (answers p)) → Gathered a n
      gathered zero a each = ([], IsPermutation-refl [], refl)
      gathered (suc n) a each =
          let rest : Gathered (a + 1) n = gathered n (a + 1) (λ p low high. each p (omega (arith, low)) (omega (arith, high))) in
          let first : IsAnswer (part_request part q a) (answers a) = each a (omega arith) (omega arith) in
          let ps : List JoinPair = pairs_in a (answers a) first in (
            ps ++ rest.0,
            IsPermutation-append (part_listing part q a) ps (flat_map (part_listing part q) (range_with_len (a + 1) n)) rest.0 (pairs_listed a (answers a) first) rest.1,
            (λ t. rows_are a (answers a) first t ++ rest.2 t) ∙ sym (map-append (out_row q) ps rest.0),
          )

      module _ (n : ℕ) (parted : IsParted part n q) (each : AreAnswers part n q answers) where
        abbrev all_gathered : Gathered 0 n
        all_gathered = gathered n 0 (λ p low high. each p (omega (arith, high)))

        whole : IsPermutation (listing q) all_gathered.0
        whole = IsPermutation-trans (listing q) (flat_map (part_listing part q) (row_numbers n)) all_gathered.0 (listed_in_all part q n parted) all_gathered.1

        pub together_rows : (t : Table) → IsAnswer q t → IsPermutation (rows_of t) (rows_together n answers)
        together_rows t a =
            let is : rows_of t ≡ map (out_row q) a.pairs = a.rows ∙ ap (λ s. map (out_row q) (cut s a.pairs)) uncut in
            let moved : IsPermutation a.pairs all_gathered.0
            = IsPermutation-trans a.pairs (listing q) all_gathered.0 (IsPermutation-sym (listing q) a.pairs a.ordered.permutation) whole in
            subst (λ (rows : List (List Datum)). IsPermutation rows (rows_together n answers)) (sym is)
            (subst (IsPermutation (map (out_row q) a.pairs)) (sym all_gathered.2) (IsPermutation-map (out_row q) a.pairs all_gathered.0 moved))

        pub together_answer : direction q.args.how q.args.maintain_order ≡ Free → (t : Table) → IsTable t → schema_of t ≡ out_columns q → rows_of t ≡ rows_together n answers → IsAnswer q t
        together_answer free t table columns rows = record {
          table = table;
          columns = columns;
          pairs = all_gathered.0;
          ordered = record { permutation = whole; ascends = subst (λ (d : Direction). Ascends d all_gathered.0) (sym free) tt };
          rows = rows ∙ all_gathered.2 ∙ sym (ap (λ s. map (out_row q) (cut s all_gathered.0)) uncut);
        }
