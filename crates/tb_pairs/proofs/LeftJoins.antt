-- The Left join by all columns.
use Rattle.std.proofs.Common.{◌≡◌, ℕ, Bool, List, length, map, sym, subst, refl, arith, None, ◌∙◌}
use Rattle.std.specs.Prelude.{All, IsSome, filter, nat_lt}
use Rattle.std.proofs.lemmas.List.Elements.{All-append, All-map}
use Rattle.std.proofs.lemmas.List.Sorted.{All-permutation}
use Rattle.tb_value.specs.Promise.Names.{Name}
use Rattle.tb_value.specs.Promise.Pairs.{row_numbers, both, left_only, matched_pairs, left_unmet}
use Rattle.tb_value.specs.Promise.Refusals.{first_cause, when}
use Rattle.tb_value.specs.declared.index.JoinPair.{JoinPair}
use Rattle.tb_value.specs.declared.error.ComputeCause.TheVariants.{TooManyRows}
use Rattle.tb_value.specs.declared.error.PolarsError.TheVariants.{ComputeError}
use Rattle.tb_value.specs.declared.limits.TheConstants.{MAX_ROWS}
use Rattle.tb_value.proofs.Ascending.{All-flat_map}
use Rattle.tb_chunk.specs.Promise.Col.{Col}
use Rattle.tb_frame.specs.declared.args.JoinArgs.{JoinArgs}
use Rattle.tb_frame.specs.declared.args.JoinType.TheVariants.{Left}
use Rattle.tb_frame.specs.declared.args.JoinValidation.TheVariants.{ManyToMany}
use Rattle.tb_frame.specs.declared.args.MaintainOrderJoin.TheVariants as order
use Rattle.tb_frame.specs.declared.null_flags.JoinNulls.TheVariants as nulls_of
use Rattle.tb_frame.specs.Answer.{IsListed}
use Rattle.tb_frame.specs.Promise.Join.{Request, listing, listing_of}
use Rattle.tb_frame.specs.Promise.Refusal.{row_causes, too_many_rows}
use Rattle.tb_frame.specs.Promise.Table.{height, table_of}
use Rattle.tb_pairs.specs.AllColumns.{by_all_columns}
use Rattle.tb_pairs.proofs.Requested.{keys_listing}
use Rattle.tb_pairs.proofs.Unbroken.{row_causes-unvalidated}

-- a request whose keys are all columns
module _ (a b ls rs : List Col) (is_a : ls ≡ a) (is_b : rs ≡ b) (nulls : Bool) where
  pub all_listing : keys_listing (λ p. nulls) Left (height (table_of a)) (height (table_of b)) (table_of ls) (table_of rs) ≡ listing (by_all_columns (table_of a) (table_of b) nulls)
  all_listing = λ t. keys_listing (λ p. nulls) Left (height (table_of a)) (height (table_of b)) (table_of (is_a t)) (table_of (is_b t))

  pub all_causes : (left_on right_on : List Name) (args : JoinArgs) → args.validation ≡ ManyToMany
      → first_cause (row_causes (record { left = table_of a; right = table_of b; left_on = left_on; right_on = right_on; left_keys = table_of ls; right_keys = table_of rs; args = record args { how = Left; join_nulls = nulls_of.All nulls } })) ≡ too_many_rows (by_all_columns (table_of a) (table_of b) nulls)
  all_causes left_on right_on args many =
      let q : Request = record { left = table_of a; right = table_of b; left_on = left_on; right_on = right_on; left_keys = table_of ls; right_keys = table_of rs; args = record args { how = Left; join_nulls = nulls_of.All nulls } } in
      row_causes-unvalidated q many ∙ (λ t. when (nat_lt MAX_ROWS (length (all_listing t))) (ComputeError TooManyRows))

-- each pair of a Left join has a left row
left_listed : (l r : ℕ) (m : ℕ → ℕ → Bool) → All (λ (p : JoinPair). IsSome p.left) (listing_of Left l r m)
left_listed l r m =
    let P : JoinPair → Type 0 = λ p. IsSome p.left in
    All-append P (matched_pairs l r m) (left_unmet l r m)
    (All-flat_map P (λ i. map (both i) (filter (m i) (row_numbers r))) 0 0 l (omega arith) (λ j le. All-map P (both j) (filter (m j) (row_numbers r)) (λ k d low. refl)))
    (All-map P left_only _ (λ k d low. refl))

pub lefts_there : (l r : ℕ) (m : ℕ → ℕ → Bool) (items : List JoinPair) → IsListed Left order.None None (listing_of Left l r m) items → All IsSome (map (λ (p : JoinPair). p.left) items)
lefts_there l r m items h =
    let P : JoinPair → Type 0 = λ p. IsSome p.left in
    All-map IsSome (λ (p : JoinPair). p.left) items
    (subst (λ (ps : List JoinPair). All P ps) (sym h.is) (All-permutation P (listing_of Left l r m) h.pairs h.ordered.permutation (left_listed l r m)))
