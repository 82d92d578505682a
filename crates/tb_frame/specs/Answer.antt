-- The columns of an answer, as they are made from the ordered and cut pairs.
use Rattle.std.specs.Prelude.{◌≡◌, ℕ, List, map, All, Option, ℤ}
use Rattle.tb_value.specs.declared.index.JoinPair.{JoinPair}
use Rattle.tb_chunk.specs.Rows.{IsRowOf}
use Rattle.tb_frame.specs.declared.args.JoinType.{JoinType}
use Rattle.tb_frame.specs.declared.args.MaintainOrderJoin.{MaintainOrderJoin}
use Rattle.tb_frame.specs.Promise.Table.{TableColumn}
use Rattle.tb_frame.specs.Promise.Join.{Out, IsOrdered, Request, cut, listing}

-- a column of the answer over the pairs
abbrev pub fill : List JoinPair → Out → TableColumn
fill ps o = record { name = o.name; kind = o.kind; values = map o.at ps }

-- rows in range on both sides
abbrev pub IsPairOf : ℕ → ℕ → JoinPair → Type 0
IsPairOf l r p = IsRowOf l p.left × IsRowOf r p.right

abbrev pub AreLeftRows : ℕ → List JoinPair → Type 0
AreLeftRows n = All (λ (p : JoinPair). IsRowOf n p.left)

abbrev pub AreRightRows : ℕ → List JoinPair → Type 0
AreRightRows n = All (λ (p : JoinPair). IsRowOf n p.right)

-- the items are the listing, ordered and then cut
pub record IsListed (how : JoinType) (o : MaintainOrderJoin) (s : Option (ℤ × ℕ))
    (list items : List JoinPair) : Type 0 where
  pub pairs : List JoinPair
  pub ordered : IsOrdered how o pairs list
  pub is : items ≡ cut s pairs

-- the items are the pairs of the answer
abbrev pub ArePairsOf : Request → List JoinPair → Type 0
ArePairsOf q = IsListed q.args.how q.args.maintain_order q.args.slice (listing q)
