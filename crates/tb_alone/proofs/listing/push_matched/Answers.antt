use Rattle.std.proofs.Common.{◌++◌, ℕ, Bool, List, [], sym, ◌∙◌, ap, map, append_assoc, get_or, arith}
use Rattle.tb_value.specs.declared.index.JoinPair.{JoinPair}
use Rattle.tb_value.specs.Promise.Pairs.{both, matched_pairs}
use Rattle.tb_value.proofs.RowNumbers.{matched_more}
use Rattle.tb_frame.specs.Promise.Join.{matches}
use Rattle.tb_frame.specs.Promise.Table.{table_of, height}
use Rattle.tb_keys.specs.Asked.{asked_request}
use Rattle.tb_alone.proofs.FoundRows.{found_below, found_here}
use Rattle.tb_alone.proofs.listing.push_matched.Goals as goal

pub push_matches-requires-clause-rows : goal.push_matches-requires-clause-rows
push_matches-requires-clause-rows c = found_below (asked_request c.args.request.now) c.args.found.now c.requires.found c.loop-i.i (omega (arith, c.loop-i-test.true, c.height-i-end.ensures.height)) (record { ref_ptr = (0, 0); now = [] })

pub loop-i-preserved : goal.loop-i-preserved
loop-i-preserved c =
    let q = asked_request c.args.request.now in
    let start = c.args.pairs.now.items in
    let m : ℕ → ℕ → Bool = matches q in
    let i = c.loop-i.i in
    let r = height (table_of c.args.request.now.right.now) in
    let rows : List ℕ = (get_or c.args.found.now i (record { ref_ptr = (0, 0); now = [] })).now in
    let here = found_here q c.args.found.now c.requires.found i (omega (arith, c.loop-i-test.true, c.height-i-end.ensures.height)) (record { ref_ptr = (0, 0); now = [] }) in
    c.in_ok-push_matches.ensures ∙ ap (λ (x : List JoinPair). x ++ map (both i) rows) c.loop-i.invariant
    ∙ append_assoc start (matched_pairs i r m) (map (both i) rows)
    ∙ ap (λ (js : List ℕ). start ++ (matched_pairs i r m ++ map (both i) js)) here
    ∙ ap (λ (x : List JoinPair). start ++ x) (sym (matched_more i r m))
