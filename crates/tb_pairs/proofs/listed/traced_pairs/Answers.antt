use Rattle.std.proofs.Common.{rules}
use Rattle.std.proofs.lemmas.List.Sorted.{All-permutation}
use Rattle.tb_frame.specs.Answer.{IsPairOf}
use Rattle.tb_frame.specs.Promise.Join.{listing, matches}
use Rattle.tb_frame.specs.Promise.Table.{height}
use Rattle.tb_frame.proofs.Ranges.{listing_rows}
use Rattle.tb_keys.specs.Asked.{asked_request}
use Rattle.tb_pairs.proofs.InOrder.{listed_through}
use Rattle.tb_pairs.proofs.listed.traced_pairs.Goals as goal

pub arranged-requires-clause-ascends : goal.arranged-requires-clause-ascends
arranged-requires-clause-ascends g c = c.in_ok-found.ensures.found.listed.ascends

pub arranged-requires-clause-pairs : goal.arranged-requires-clause-pairs
arranged-requires-clause-pairs g c =
    let q = asked_request c.args.request.now in
    All-permutation (IsPairOf (height q.left) (height q.right)) (listing q) c.in_ok-found.found.listed.pairs.items c.in_ok-found.ensures.found.listed.permutation (listing_rows q.args.how (height q.left) (height q.right) (matches q))

pub returns : goal.returns
returns g c =
    let r = c.args.request.now in
    let found = c.in_ok-found.ensures in
    record {
      settles = found.settles;
      listed = listed_through r.how r.args.now.maintain_order r.args.now.slice (listing (asked_request r)) c.in_ok-found.found.listed.pairs.items c.in_ok-pairs.pairs.items found.found.listed.permutation c.in_ok-pairs.ensures;
      traced = found.found.traced;
      let_in = found.let_in;
    }

pub returns-in_err-found : goal.returns-in_err-found
returns-in_err-found g c = record { settles = search rules; listed = search rules; traced = search rules; let_in = search rules }

pub returns-in_err-pairs : goal.returns-in_err-pairs
returns-in_err-pairs g c = record { settles = search rules; listed = search rules; traced = search rules; let_in = search rules }
