use Rattle.std.proofs.Common.{◌≡◌, ◌<◌, ◌≤◌, ◌∙◌, ◌+◌, ◌-◌, ℕ, List, Bor, arith, ap, sym, subst, length}
use Rattle.std.proofs.lemmas.Result.{err_from_is_err_and}
use Rattle.tb_value.specs.declared.index.JoinPair.{JoinPair}
use Rattle.tb_hash.specs.Portions.{AreFound}
use Rattle.tb_hash.specs.Probing.{listed_row, probed_rows}
use Rattle.tb_hash.proofs.PairLists.{rows-step, too_many-step, room-step}
use Rattle.tb_hash.proofs.portion.list_far_rows.Given.{Over}
use Rattle.tb_hash.proofs.portion.list_far_rows.Goals as goal
use Rattle.tb_hash.proofs.portion.list_far_rows.Goals.{After-index-rows, then-row-first+in_ok-found, else-row-first}

-- row i is one of the rows from the first on for which these were found
abbrev IsAmong : (ℕ → List ℕ) → ℕ → ℕ → List (Bor (List ℕ)) → Type 0
IsAmong rows i first found = AreFound rows first (length found) found × (first ≤ i) × (i < first + length found)

moved : {V : Type 0} {first first' : ℕ} {found found' : V} → first ≡ first' → found ≡ found' → (items : V → List (Bor (List ℕ))) (rows : ℕ → List ℕ) (i : ℕ)
    → IsAmong rows i first' (items found') → IsAmong rows i first (items found)
moved p q items rows i h = rw (p, q) h

module _ (g : Over) (c : After-index-rows g) where
  -- the built rows of a probed row, and its pairs
  abbrev rows : ℕ → List ℕ
  rows p = probed_rows g.K.PartialEq.eq g.K.KeyCode.code c.args.tables.now (g.L.KeyList.list c.args.probed.now) p

  abbrev listed : ℕ → List JoinPair
  listed p = listed_row c.args.how c.args.tables.now.left_built p (rows p)

  -- the row is one of those that were looked up together
  among : IsAmong rows c.loop-row.row c.if-row-first.first c.if-row-first.found.items
  among = elim c.if-row-first.branch [
    | then-row-first+in_ok-found w ↦
        let count = w.in_ok-found.ensures.count in
        moved w.first-is w.found-is (λ v. v.items) rows c.loop-row.row
        (subst (λ n. AreFound rows c.loop-row.row n w.in_ok-found.found.items) (sym count) w.in_ok-found.ensures, omega arith, omega (arith, count, w.min.ensures, c.loop-row-test.true))
    | else-row-first w ↦
        moved w.first-is w.found-is (λ v. v.items) rows c.loop-row.row
        (c.loop-row.invariant.found, c.loop-row.invariant.from, omega (arith, c.loop-row.invariant.to, w.if-row-first.false, c.len.ensures, c.loop-row.found.ok.0))
  ]

  here : listed_row c.args.how c.left_built-left_built.result c.loop-row.row c.index-rows.result.now.now ≡ listed c.loop-row.row
  here =
      let behind = among.1 in
      let before = among.2 in
      let at : c.if-row-first.first + (c.loop-row.row - c.if-row-first.first) ≡ c.loop-row.row = omega (arith, behind) in
      let is : c.index-rows.result.now.now ≡ rows c.loop-row.row
      = ap (λ (r : Bor (List ℕ)). r.now) c.index-rows.ensures ∙ among.0.each (c.loop-row.row - c.if-row-first.first) c.index-rows.result.now (omega (arith, behind, before)) ∙ ap rows at in
      λ k. listed_row c.args.how (c.left_built-left_built.ensures k) c.loop-row.row (is k)

pub loop-row-preserved : goal.loop-row-preserved
loop-row-preserved g c =
    let d = (goal.at.loop-row-preserved g c).After-index-rows in
    let pushed = c.in_ok-push_listed.ensures in
    let there = among g d in
    let behind = there.1 in
    let before = there.2 in
    record {
      listed = rows-step (listed g d) c.args.offset c.loop-row.row (omega arith) _ (here g d) _ c.loop-row.invariant.listed _ pushed.1;
      room = room-step _ _ _ pushed.1 pushed.0;
      found = there.0;
      from = omega (arith, behind);
      to = omega (arith, before);
    }

pub returns-in_err-push_listed : goal.returns-in_err-push_listed
returns-in_err-push_listed g c =
    let d = (goal.at.returns-in_err-push_listed g c).After-index-rows in
    let p = err_from_is_err_and c.from_residual-in_err-push_listed.result c.from_residual-in_err-push_listed.ensures.1 in
    rw (p.1, p.2)
    (too_many-step (listed g d) c.args.offset c.loop-row.row (omega arith) _ (here g d) _ c.loop-row.invariant.listed c.args.len (omega arith) _ c.in_err-push_listed.ensures.0, tt)
