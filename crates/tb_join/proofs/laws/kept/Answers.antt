use Rattle.std.proofs.Common.{◌≡◌, ◌≤◌, length, subst, sym}
use Rattle.tb_value.specs.Pairs.{times}
use Rattle.tb_frame.specs.declared.args.JoinType.{JoinType}
use Rattle.tb_frame.specs.Promise.Table.{height}
use Rattle.tb_frame.specs.Promise.Join.{listing_of, matches}
use Rattle.tb_frame.proofs.Listings.{kept_at}
use Rattle.tb_join.proofs.laws.kept.Goals as goal

pub returns : goal.returns
returns c = λ q i how low.
    subst (λ (k : JoinType). (1 ≤ times i (listing_of k (height q.left) (height q.right) (matches q))) × (length (listing_of k (height q.left) (height q.right) (matches q)) ≡ height q.left → times i (listing_of k (height q.left) (height q.right) (matches q)) ≡ 1)) (sym how) (kept_at (height q.left) (height q.right) (matches q) i low)
