use Rattle.std.proofs.Common.{◌≡◌, refl, ◌++◌, ℕ, Bool, List, Option, None, length, map, ap, sym, ◌∙◌, subst, arith}
use Rattle.std.specs.Prelude.{All, not}
use Rattle.std.specs.List.{find}
use Rattle.std.specs.Option.{ForSome}
use Rattle.std.proofs.lemmas.List.Elements.{All-filter, All-weaker}
use Rattle.tb_frame.specs.Answer.{IsPairOf}
use Rattle.tb_value.specs.Promise.Names.{Name}
use Rattle.tb_value.specs.Promise.SameKind.{same_kind}
use Rattle.tb_value.specs.declared.error.ComputeCause.TheVariants.{KeyTypes}
use Rattle.tb_value.specs.declared.error.PolarsError.TheVariants.{ComputeError}
use Rattle.tb_value.specs.declared.index.JoinPair.{JoinPair}
use Rattle.tb_chunk.specs.Promise.Col.{Col, values}
use Rattle.tb_chunk.specs.Lent.{lent_columns}
use Rattle.tb_chunk.specs.Rows.{IsRowOf}
use Rattle.tb_frame.specs.Promise.Join.{Request, places}
use Rattle.tb_frame.specs.Promise.Naming.{coalesces, is_among, coalesces_keys}
use Rattle.tb_frame.specs.Promise.Refusal.{join_valid, key_types, kind_at}
use Rattle.tb_frame.specs.RightColumns.{gone_left}
use Rattle.tb_nested.specs.Beside.{columns_beside}
use Rattle.tb_frame.specs.Promise.Table.{table_of, height, names_of}
use Rattle.tb_frame.proofs.Causes.{map_none}
use Rattle.tb_frame.proofs.Validity.{known_left, known_right, same_counts, same_types}
use Rattle.tb_frame.proofs.Filled.{left_within, right_within}
use Rattle.tb_frame.proofs.Taking.{of_each_length}
use Rattle.tb_keys.specs.Asked.{asked_request}
use Rattle.tb_keys.specs.Rows.{HasRows}
use Rattle.tb_keys.proofs.KeysNamed.{keys_many, keys_own}
use Rattle.tb_keys.specs.Coalescing.{coalescing_key, left_column}
use Rattle.tb_keys.proofs.CoalescedColumns.{columns-made, in_columns, partner-key}
use Rattle.tb_keys.proofs.CoalescedKeys.{merged_kinds}
use Rattle.tb_nested.proofs.columns.answer_columns.Goals as goal

right_rows : (l r : ℕ) (ps : List JoinPair) → All (IsPairOf l r) ps → All (IsRowOf r) (map (λ (p : JoinPair). p.right) ps)
right_rows l r ps h = right_within r ps (All-weaker (IsPairOf l r) (λ (p : JoinPair). IsRowOf r p.right) (λ p in_range. in_range.1) ps h)

-- where no cause is about types, no two differ
not_mixed : (q : Request) → key_types q ≡ None → find (λ p. not (same_kind (kind_at q.left_keys p) (kind_at q.right_keys p))) (places q) ≡ None
not_mixed q h = map_none (λ (p : ℕ). ComputeError (KeyTypes p)) (find (λ p. not (same_kind (kind_at q.left_keys p) (kind_at q.right_keys p))) (places q)) h

abbrev stays : List Name → Col → Bool
stays gone k = not (is_among gone k.name)

pub left_columns-requires-clause-left_rows : goal.left_columns-requires-clause-left_rows
left_columns-requires-clause-left_rows c =
    let r = c.args.request.now in
    let h = height (table_of r.left.now) in
    let level : HasRows h r.left.now = of_each_length (λ n. n ≡ h) r.left.now c.get_columns-columns.ensures.table refl in
    let kept : HasRows h c.get_columns.result.now = subst (λ (cs : List Col). HasRows h cs) (sym (c.get_columns.ensures.columns ∙ c.in_ok-kept.ensures))
    (All-filter (stays (gone_left (asked_request r).args r.left_on.now)) (λ (k : Col). length (values k) ≡ h) r.left.now level) in
    in_columns h c.deref.result.now c.get_columns.result.now
    (subst (λ (rows : List (Option ℕ)). All (IsRowOf h) rows) (sym (c.deref.ensures.value ∙ c.in_ok-left.ensures))
    (left_within h (height (table_of r.right.now)) c.args.pairs.now c.requires.pairs)) kept

pub left_columns-requires-clause-right_rows : goal.left_columns-requires-clause-right_rows
left_columns-requires-clause-right_rows c =
    let r = c.args.request.now in
    let h = height (table_of r.right.now) in
    in_columns h c.deref-2.result.now (lent_columns r.right_keys.now)
    (subst (λ (rows : List (Option ℕ)). All (IsRowOf h) rows) (sym (c.deref-2.ensures.value ∙ c.in_ok-right.ensures))
    (right_rows (height (table_of r.left.now)) h c.args.pairs.now c.requires.pairs)) r.right_rows

pub left_columns-requires-clause-types : goal.left_columns-requires-clause-types
left_columns-requires-clause-types c =
    let r = c.args.request.now in
    let q = asked_request r in
    let P : Col → Type 0 = λ k. ForSome (coalescing_key r k.name) (λ x. k.kind ≡ x.kind) in
    let is = ap (λ (q : Request). q.left_keys) c.requires.named in
    let all = merged_kinds r.left.now (lent_columns r.left_keys.now) (lent_columns r.right_keys.now) r.left_on.now c.get_columns-columns.ensures.table.distinct is
    (known_left q c.requires.valid) (not_mixed q (same_types q c.requires.valid)) (coalesces_keys r.how (coalesces q.args)) in
    subst (λ (cs : List Col). All P cs) (sym (c.get_columns.ensures.columns ∙ c.in_ok-kept.ensures)) (All-filter (stays (gone_left (asked_request r).args r.left_on.now)) P r.left.now all)

pub columns_beside-requires-clause-rows : goal.columns_beside-requires-clause-rows
columns_beside-requires-clause-rows c =
    let r = c.args.request.now in
    let h = height (table_of r.right.now) in
    let level : HasRows h r.right.now = of_each_length (λ n. n ≡ h) r.right.now c.get_columns-3.ensures.table refl in
    in_columns h c.deref-3.result.now c.get_columns-3.result.now
    (subst (λ (rows : List (Option ℕ)). All (IsRowOf h) rows) (sym (c.deref-3.ensures.value ∙ c.in_ok-right.ensures))
    (right_rows (height (table_of r.left.now)) h c.args.pairs.now c.requires.pairs))
    (subst (λ (cs : List Col). HasRows h cs) (sym c.get_columns-3.ensures.columns) level)

pub returns : goal.returns
returns c =
    let r = c.args.request.now in
    let q : Request = asked_request r in
    let a = q.args in
    let valid : join_valid q = c.requires.valid in
    let ps = c.args.pairs.now in
    let ls : List (Option ℕ) = map (λ (p : JoinPair). p.left) ps in
    let rs : List (Option ℕ) = map (λ (p : JoinPair). p.right) ps in
    let keys : List Col = lent_columns r.right_keys.now in
    let kept = c.in_ok-kept.kept in
    let made : List (Option ℕ) → List (Option ℕ) → Col → Col = λ xs ys k. left_column xs ys (coalescing_key r k.name) k in
    let left : c.in_ok-columns.columns.items ≡ map (made ls rs) kept =
    c.in_ok-columns.ensures ∙ (λ t. map (made ((c.deref.ensures.value ∙ c.in_ok-left.ensures) t) ((c.deref-2.ensures.value ∙ c.in_ok-right.ensures) t)) (c.get_columns.ensures.columns t))
    in
    let beside : c.in_ok-beside.beside.items ≡ columns_beside a r.right_on.now rs (names_of (table_of kept)) r.right.now =
    c.in_ok-beside.ensures ∙ (λ t. columns_beside a r.right_on.now ((c.deref-3.ensures.value ∙ c.in_ok-right.ensures) t)
    (names_of (table_of (c.get_columns-2.ensures.columns t))) (c.get_columns-3.ensures.columns t))
    in
    let is_r = ap (λ (x : Request). x.right_keys) c.requires.named in
    let many = keys_many r.right.now keys r.right_on.now is_r (known_right q valid) in
    let counts = same_counts q valid in
    ap table_of (c.in_ok-append.ensures.items ∙ (λ t. left t ++ beside t))
    ∙ columns-made q (coalescing_key r) (λ k. partner-key q keys (keys_own r.right.now keys r.right_on.now is_r (known_right q valid)) (omega (arith, many, counts)) k k.name) ps r.left.now r.right.now kept
    (λ _. table_of r.left.now) (λ _. table_of r.right.now) c.in_ok-kept.ensures
