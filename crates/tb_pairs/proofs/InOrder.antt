-- Pairs that are found, in the order that is asked.
use Rattle.std.proofs.Common.{◌≡◌, ℕ, List, sym, subst, Option, ℤ}
use Rattle.std.specs.Prelude.{IsPermutation}
use Rattle.std.proofs.lemmas.List.Sorted.{IsPermutation-refl, IsPermutation-trans}
use Rattle.tb_value.specs.declared.index.JoinPair.{JoinPair}
use Rattle.tb_frame.specs.declared.args.Direction.{Direction}
use Rattle.tb_frame.specs.declared.args.Direction.TheVariants.{Free}
use Rattle.tb_frame.specs.declared.args.JoinType.{JoinType}
use Rattle.tb_frame.specs.declared.args.MaintainOrderJoin.{MaintainOrderJoin}
use Rattle.tb_frame.specs.Answer.{IsListed}
use Rattle.tb_frame.specs.Promise.Join.{Ascends}
use Rattle.tb_sorted.specs.Listed.{IsListedIn}
use Rattle.tb_sorted.specs.declared.pairs.DirectedPairs.{DirectedPairs}

-- the listing of a permutation is that of the list
pub listed_through : (how : JoinType) (o : MaintainOrderJoin) (s : Option (ℤ × ℕ)) (list ps items : List JoinPair) → IsPermutation list ps → IsListed how o s ps items → IsListed how o s list items
listed_through how o s list ps items p h = record {
  pairs = h.pairs;
  ordered = record { permutation = IsPermutation-trans list ps h.pairs p h.ordered.permutation; ascends = h.ordered.ascends };
  is = h.is;
}

-- the list itself is found, in no order
pub found_freely : (list : List JoinPair) (found : DirectedPairs) → found.pairs.items ≡ list → found.order ≡ Free → IsListedIn list found
found_freely list found is free = record {
  permutation = subst (λ (ps : List JoinPair). IsPermutation list ps) (sym is) (IsPermutation-refl list);
  ascends = subst (λ (d : Direction). Ascends d found.pairs.items) (sym free) tt;
}
