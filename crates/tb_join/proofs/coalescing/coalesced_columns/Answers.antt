use Rattle.std.proofs.Common.{◌≡◌, ◌∙◌, List, [], Option, ℕ, None, length, map, sym, ap, subst, arith}
use Rattle.std.specs.Prelude.{All}
use Rattle.std.specs.Option.{ForSome, option_map}
use Rattle.std.proofs.lemmas.List.Elements.{All-weaker}
use Rattle.tb_value.specs.Promise.Names.{Name}
use Rattle.tb_value.specs.declared.error.PolarsError.TheVariants.{ColumnNotFound}
use Rattle.tb_value.specs.declared.index.JoinPair.{JoinPair}
use Rattle.tb_chunk.specs.Promise.Col.{Col}
use Rattle.tb_chunk.specs.Rows.{IsRowOf}
use Rattle.tb_frame.specs.Answer.{IsPairOf}
use Rattle.tb_frame.specs.Promise.Frame.{selected_columns}
use Rattle.tb_frame.specs.Frame.{opt_taken_rows, without_names}
use Rattle.tb_frame.specs.Promise.Refusal.{unknown_key}
use Rattle.tb_frame.specs.Promise.Table.{table_of, height}
use Rattle.tb_frame.proofs.Filled.{left_within, right_within}
use Rattle.tb_frame.proofs.Selected.{selected-table}
use Rattle.tb_keys.specs.Asked.{asked_request}
use Rattle.tb_keys.specs.Coalescing.{key_beside}
use Rattle.tb_keys.proofs.KeysNamed.{keys_many}
use Rattle.tb_join.specs.AnswerColumns.{Fits, coalesced_part, side_by_side, with_names}
use Rattle.tb_join.proofs.AnswerMade.{all_fit, known-taken, merged-are}
use Rattle.tb_join.proofs.Apart.{known-among, selected-among}
use Rattle.tb_join.proofs.KeptColumns.{without_names_none}
use Rattle.tb_join.proofs.coalescing.coalesced_columns.Goals as goal

pub side_rows-requires-clause-rows : goal.side_rows-requires-clause-rows
side_rows-requires-clause-rows g c κs within =
    let r = c.args.request.now in
    left_within (height (table_of r.left.now)) (height (table_of r.right.now)) c.args.pairs.now c.requires.pairs

pub side_rows-requires-2-clause-rows : goal.side_rows-requires-2-clause-rows
side_rows-requires-2-clause-rows g c κs within =
    let r = c.args.request.now in
    let n = height (table_of r.right.now) in
    right_within n c.args.pairs.now (All-weaker (IsPairOf (height (table_of r.left.now)) n) (λ (p : JoinPair). IsRowOf n p.right) (λ p h. h.1) c.args.pairs.now c.requires.pairs)

abbrev rows_of_left : List JoinPair → List (Option ℕ)
rows_of_left ps = map (λ (p : JoinPair). p.left) ps

abbrev rows_of_right : List JoinPair → List (Option ℕ)
rows_of_right ps = map (λ (p : JoinPair). p.right) ps

-- what is gathered of all columns of a side
all_rows : (rows : List (Option ℕ)) (made cs : List Col) → made ≡ map (opt_taken_rows rows) (without_names [] cs) → made ≡ map (opt_taken_rows rows) cs
all_rows rows made cs is = is ∙ ap (map (opt_taken_rows rows)) (without_names_none cs)

-- the keys taken apart, as columns of those that are gathered
apart : (on : List Name) (lent keys gathered cs : List Col) → lent ≡ keys → keys ≡ with_names on gathered → gathered ≡ cs → lent ≡ with_names on cs
apart on lent keys gathered cs same is of = same ∙ is ∙ ap (with_names on) of

pub coalesced_left-requires-clause-known : goal.coalesced_left-requires-clause-known
coalesced_left-requires-clause-known g c =
    let r = c.args.request.now in
    let ro = r.right_on.now in
    let rs = rows_of_right c.args.pairs.now in
    let cs = map (opt_taken_rows rs) r.right.now in
    let keys = apart ro _ _ _ cs c.deref.ensures.value c.in_ok-keys.ensures.named (all_rows rs _ r.right.now c.in_ok-right.ensures) in
    subst (λ (ks : List Col). unknown_key (table_of ks) ro ≡ None) (sym keys) (ap (option_map (λ (n : Name). ColumnNotFound n)) (known-among ro cs (known-taken rs r.right.now ro (c.requires.coalescing.known c.requires.coalesces))))

pub coalesced_left-requires-clause-many : goal.coalesced_left-requires-clause-many
coalesced_left-requires-clause-many g c =
    let r = c.args.request.now in
    let ro = r.right_on.now in
    let rs = rows_of_right c.args.pairs.now in
    let cs = map (opt_taken_rows rs) r.right.now in
    let keys = apart ro _ _ _ cs c.deref.ensures.value c.in_ok-keys.ensures.named (all_rows rs _ r.right.now c.in_ok-right.ensures) in
    let many = keys_many cs (selected_columns ro cs) ro (selected-table ro cs) (known-taken rs r.right.now ro (c.requires.coalescing.known c.requires.coalesces)) in
    let enough = c.requires.coalescing.many c.requires.coalesces in
    let same = ap (λ (ks : List Col). length ks) (ap (selected_columns ro) keys ∙ selected-among ro cs) in
    omega (arith, many, enough, same)

pub coalesced_left-requires-clause-fit : goal.coalesced_left-requires-clause-fit
coalesced_left-requires-clause-fit g c =
    let r = c.args.request.now in
    let ro = r.right_on.now in
    let ps = c.args.pairs.now in
    let cs = map (opt_taken_rows (rows_of_right ps)) r.right.now in
    let keys = apart ro _ _ _ cs c.deref.ensures.value c.in_ok-keys.ensures.named (all_rows (rows_of_right ps) _ r.right.now c.in_ok-right.ensures) in
    let left = all_rows (rows_of_left ps) _ r.left.now c.in_ok-left.ensures in
    let P : List Col → List Col → Type 0 = λ xs ys. All (λ (k : Col). ForSome (key_beside r.left_on.now xs k.name) (Fits k)) ys in
    subst (λ (xs : List Col). P xs c.in_ok-left.left.items) (sym (ap (selected_columns ro) keys ∙ selected-among ro cs))
    (subst (λ (ys : List Col). P (selected_columns ro cs) ys) (sym left)
    (all_fit (asked_request r) r.left.now r.right.now (λ _. table_of r.left.now) (λ _. table_of r.right.now) c.requires.coalesces c.requires.coalescing ps))

pub returns-clause-columns : goal.returns-clause-columns
returns-clause-columns g c =
    let r = c.args.request.now in
    let ro = r.right_on.now in
    let ps = c.args.pairs.now in
    let cs = map (opt_taken_rows (rows_of_right ps)) r.right.now in
    let right = all_rows (rows_of_right ps) _ r.right.now c.in_ok-right.ensures in
    let keys = apart ro _ _ _ cs c.deref.ensures.value c.in_ok-keys.ensures.named right in
    let left = all_rows (rows_of_left ps) _ r.left.now c.in_ok-left.ensures in
    let merged : c.in_ok-columns.columns.items ≡ coalesced_part r.left_on.now (selected_columns ro cs) (map (opt_taken_rows (rows_of_left ps)) r.left.now) =
    c.in_ok-columns.ensures.columns ∙ (λ t. coalesced_part r.left_on.now ((ap (selected_columns ro) keys ∙ selected-among ro cs) t) (left t))
    in
    let rest : c.in_ok-keys.rest.items ≡ without_names ro cs = c.in_ok-keys.ensures.others ∙ ap (without_names ro) right in
    ap table_of (c.in_ok-side_by_side.ensures ∙ (λ t. side_by_side (c.suffix_of.ensures t) (merged t) (rest t)))
    ∙ merged-are (asked_request r) r.left.now r.right.now (λ _. table_of r.left.now) (λ _. table_of r.right.now) c.requires.coalesces c.requires.coalescing ps
