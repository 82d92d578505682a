use Rattle.std.proofs.Common.{◌++◌, ℕ, Bool, List, sym, ◌∙◌, ap, map, append_assoc}
use Rattle.std.specs.Prelude.{filter}
use Rattle.tb_value.specs.declared.index.JoinPair.{JoinPair}
use Rattle.tb_value.specs.Promise.Pairs.{row_numbers, both, matched_pairs}
use Rattle.tb_value.proofs.RowNumbers.{matched_more}
use Rattle.tb_frame.specs.Promise.Join.{matches}
use Rattle.tb_frame.specs.Promise.Table.{table_of, height}
use Rattle.tb_keys.specs.Asked.{asked_request}
use Rattle.tb_keys.proofs.listing.push_matched.Goals as goal

pub loop-i-preserved : goal.loop-i-preserved
loop-i-preserved c =
    let start = c.args.pairs.now.items in
    let m : ℕ → ℕ → Bool = matches (asked_request c.args.request.now) in
    let r = height (table_of c.args.request.now.right.now) in
    let row : List JoinPair = map (both c.loop-i.i) (filter (m c.loop-i.i) (row_numbers r)) in
    c.in_ok-push_matches.ensures ∙ ap (λ (x : List JoinPair). x ++ row) c.loop-i.invariant
    ∙ append_assoc start (matched_pairs c.loop-i.i r m) row ∙ ap (λ (x : List JoinPair). start ++ x) (sym (matched_more c.loop-i.i r m))
