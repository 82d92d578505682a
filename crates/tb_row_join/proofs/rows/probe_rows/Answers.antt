use Rattle.std.proofs.Common.{◌≡◌, ◌∙◌, ◌+◌, ◌++◌, ◌≤◌, ◌<◌, ℕ, List, Bool, Bor, Option, None, ap, sym, subst, arith, get_or, length}
use Rattle.std.specs.Prelude.{map, replicate}
use Rattle.tb_value.specs.Promise.Pairs.{row_numbers}
use Rattle.tb_build.specs.Keys.{rows_match, rows_with}
use Rattle.tb_row_join.specs.Lists.{beside, concatenated, no_row, repeated, seen, unlisted}
use Rattle.tb_row_join.specs.Promise.Rooms.{IsHandedOver}
use Rattle.tb_row_join.proofs.PairNumbers.{beside-few, kept-fit, lists-each, lists-many, rows-written, unlisted-few, unmatched-unlisted}
use Rattle.tb_row_join.proofs.Turned.{match-turned}
use Rattle.tb_row_join.proofs.rows.probe_rows.Goals as goal

pub count-many-requires-clause-many : goal.count-many-requires-clause-many
count-many-requires-clause-many g c =
    let n = length (g.P.KeyList.list c.args.probed.now) in
    let many : length c.in_ok-lists.lists.items ≡ n = lists-many _ n c.in_ok-lists.lists.items c.in_ok-lists.ensures in
    omega (arith, many, ap length c.deref.ensures.value, c.requires.few_probed)

pub count-many-requires-clause-each : goal.count-many-requires-clause-each
count-many-requires-clause-each g c =
    let eq = g.K.PartialEq.eq in
    let bs = g.B.KeyList.list c.args.built.now in
    let ps = g.P.KeyList.list c.args.probed.now in
    let table = c.in_ok-tables.ensures.table in
    let few : (p : ℕ) → length (beside c.args.how (rows_with eq c.in_ok-tables.tables.join_nulls bs (get_or ps p None) (length bs))) ≤ 4294967294
    = λ p. beside-few c.args.how _ (kept-fit _ (length bs) c.requires.few_built) in
    let is : seen c.in_ok-lists.lists.items ≡ map (λ p. beside c.args.how (rows_with eq c.in_ok-tables.tables.join_nulls bs (get_or ps p None) (length bs))) (row_numbers (length ps))
    = c.in_ok-lists.ensures ∙ ap (λ (f : ℕ → List ℕ). map f (row_numbers (length ps))) (λ t p. ap (beside c.args.how) (table.rows (get_or ps p None)) t) in
    subst (λ (lists : List (Bor (List ℕ))). (k : ℕ) (d : Bor (List ℕ)) → k < length lists → length (get_or lists k d).now ≤ 4294967294) (sym c.deref.ensures.value)
    (lists-each (λ p. beside c.args.how (rows_with eq c.in_ok-tables.tables.join_nulls bs (get_or ps p None) (length bs))) (length ps) c.in_ok-lists.lists.items is few)

pub count-many-requires-clause-few : goal.count-many-requires-clause-few
count-many-requires-clause-few g c =
    let eq = g.K.PartialEq.eq in
    let bs = g.B.KeyList.list c.args.built.now in
    let ps = g.P.KeyList.list c.args.probed.now in
    let nulls = c.args.join_nulls in
    let rest = c.in_ok-behind.ensures
    ∙ unmatched-unlisted c.args.how (length ps) (length bs) (rows_match eq nulls ps bs) (rows_match eq nulls bs ps) (λ k i. match-turned eq g.met.K.Eq.laws nulls (get_or bs k None) (get_or ps i None)) c.requires.few_built in
    let few = unlisted-few c.args.how (length bs) (map (λ p. beside c.args.how (rows_with eq nulls bs (get_or ps p None) (length bs))) (row_numbers (length ps))) c.requires.few_built in
    omega (arith, ap length c.deref-2.ensures.value, ap length rest, few)

pub hand_over_numbers-requires-clause-few : goal.hand_over_numbers-requires-clause-few
hand_over_numbers-requires-clause-few g c =
    let n = length (g.P.KeyList.list c.args.probed.now) in
    let many : length c.in_ok-lists.lists.items ≡ n = lists-many _ n c.in_ok-lists.lists.items c.in_ok-lists.ensures in
    omega (arith, many, ap length c.deref-5.ensures.value, c.requires.few_probed)

pub returns-clause-written : goal.returns-clause-written
returns-clause-written g c =
    let eq = g.K.PartialEq.eq in
    let bs = g.B.KeyList.list c.args.built.now in
    let ps = g.P.KeyList.list c.args.probed.now in
    let lists = c.in_ok-lists.lists.items in
    let behind = c.in_ok-behind.behind.items in
    let table = c.in_ok-tables.ensures.table in
    let is : seen lists ≡ map (λ p. beside c.args.how (rows_with eq c.args.join_nulls bs (get_or ps p None) (length bs))) (row_numbers (length ps))
    = c.in_ok-lists.ensures
    ∙ ap (λ (f : ℕ → List ℕ). map f (row_numbers (length ps))) (λ t p. ap (beside c.args.how) (table.rows (get_or ps p None)) t)
    ∙ ap (λ (nulls : Bool). map (λ p. beside c.args.how (rows_with eq nulls bs (get_or ps p None) (length bs))) (row_numbers (length ps))) c.in_ok-tables.ensures.nulls in
    let nulls = c.args.join_nulls in
    let rest : behind ≡ unlisted c.args.how (length bs) (seen lists)
    = c.in_ok-behind.ensures
    ∙ unmatched-unlisted c.args.how (length ps) (length bs) (rows_match eq nulls ps bs) (rows_match eq nulls bs ps) (λ k i. match-turned eq g.met.K.Eq.laws nulls (get_or bs k None) (get_or ps i None)) c.requires.few_built
    ∙ ap (unlisted c.args.how (length bs)) (sym is) in
    let many : c.len.result ≡ length behind = omega (arith, c.len.ensures, c.in_ok-behind.behind.ok.0) in
    rows-written c.args.how (λ p. rows_with eq c.args.join_nulls bs (get_or ps p None) (length bs)) (length ps) (length bs) lists behind
    c.args.built_room.now c.args.probed_room.now c.hand_over_lists.new.room c.hand_over_numbers.new.room c.count-many.result is rest
    (c.count-many.ensures ∙ λ t. length (concatenated (c.deref.ensures.value t)) + length (c.deref-2.ensures.value t))
    (subst (λ (ns : List ℕ). IsHandedOver ns c.args.built_room.now c.hand_over_lists.new.room) (λ t. concatenated (c.deref-3.ensures.value t) ++ c.deref-4.ensures.value t) c.hand_over_lists.ensures)
    (subst (λ (ns : List ℕ). IsHandedOver ns c.args.probed_room.now c.hand_over_numbers.new.room) (λ t. repeated 0 (c.deref-5.ensures.value t) ++ replicate (many t) no_row) c.hand_over_numbers.ensures)
