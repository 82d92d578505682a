-- The Left join of two tables by all their columns, as row numbers.
use Rattle.std.specs.Prelude.{◌≡◌, ℕ, Bool, List, map, Option, Some, None, IsPermutation, IsSorted}
use Rattle.std.specs.declared.vec.Vec.{Vec}
use Rattle.either.specs.declared.Either.{Either}
use Rattle.either.specs.Either.{IsLeftAnd}
use Rattle.tb_value.specs.Promise.Pairs.{left_first}
use Rattle.tb_value.specs.declared.index.JoinPair.{JoinPair}
use Rattle.tb_frame.specs.declared.args.JoinType.TheVariants.{Left}
use Rattle.tb_frame.specs.declared.args.JoinCoalesce.TheVariants.{JoinSpecific}
use Rattle.tb_frame.specs.declared.args.JoinValidation.TheVariants.{ManyToMany}
use Rattle.tb_frame.specs.declared.args.MaintainOrderJoin.TheVariants as order
use Rattle.tb_frame.specs.declared.null_flags.JoinNulls.TheVariants.{All}
use Rattle.tb_frame.specs.Promise.Join.{Request}
use Rattle.tb_frame.specs.Promise.Table.{Table, names_of}

-- the request of a Left join by all columns, with nothing else asked than whether Nulls match
abbrev pub by_all_columns : Table → Table → Bool → Request
by_all_columns a b nulls = record {
  left = a;
  right = b;
  left_on = names_of a;
  right_on = names_of b;
  left_keys = a;
  right_keys = b;
  args = record {
    how = Left;
    validation = ManyToMany;
    suffix = None;
    slice = None;
    join_nulls = All nulls;
    coalesce = JoinSpecific;
    maintain_order = order.None;
  };
}

module _ {A B Y Z : Type 0} where
  -- row numbers: those of the left rows and those of the right rows of these pairs
  abbrev pub AreNumbersOf : List JoinPair → Either (Vec ℕ A) Y × Either (Vec (Option ℕ) B) Z
      → Type 0
  AreNumbersOf pairs ids = IsLeftAnd ids.0 (λ rows.
      map (λ (n : ℕ). Some n) rows.items ≡ map (λ (p : JoinPair). p.left) pairs)
      × IsLeftAnd ids.1 (λ rows. rows.items ≡ map (λ (p : JoinPair). p.right) pairs)

  -- the row numbers of the pairs of the list, by left row and then right row
  pub record AreLeftJoined (list : List JoinPair)
      (ids : Either (Vec ℕ A) Y × Either (Vec (Option ℕ) B) Z) : Type 0 where
    pub pairs : List JoinPair
    pub permutation : IsPermutation list pairs
    pub ascends : IsSorted left_first pairs
    pub numbers : AreNumbersOf pairs ids
