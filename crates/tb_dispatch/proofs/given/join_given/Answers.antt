use Rattle.std.proofs.Common.{◌≡◌, ◌∙◌, ◌<◌, List, Option, None, length, ap, sym, subst, arith}
use Rattle.std.specs.Borrow.{Bor}
use Rattle.std.proofs.lemmas.List.{length-map}
use Rattle.std.proofs.lemmas.Result.{IfOk-weaker, err_from_is_err_and}
use Rattle.tb_value.specs.Promise.Names.{Name}
use Rattle.tb_value.specs.Refusals.{Settles}
use Rattle.tb_value.specs.declared.error.PolarsError.{PolarsError}
use Rattle.tb_chunk.specs.Promise.Col.{Col}
use Rattle.tb_chunk.specs.Lent.{lent_columns}
use Rattle.tb_frame.specs.Promise.Join.{IsAnswer, Request, out}
use Rattle.tb_frame.specs.Promise.Refusal.{key_types}
use Rattle.tb_frame.specs.declared.null_flags.JoinNulls.{JoinNulls}
use Rattle.tb_frame.specs.Promise.Table.{height, names_of, table_of}
use Rattle.tb_keys.specs.Causes.{later_refusal}
use Rattle.tb_keys.specs.Rows.{HasRows}
use Rattle.tb_keys.proofs.Refusing.{by_first}
use Rattle.tb_join.specs.Ready.{CanCoalesceKeys}
use Rattle.tb_join.proofs.NamesStand.{wide_out}
use Rattle.tb_dispatch.specs.Given.{cleared_columns, early_refusal}
use Rattle.tb_dispatch.proofs.Cleared.{all_later, answers, as_many, fitted, fitted_is, in_parts, later, left_fit, mergeable, right_fit, some, stand}
use Rattle.tb_dispatch.proofs.given.join_given.Goals as goal

-- the causes of the check are those of the request
abbrev none_of : (left right lk rk : List Col) (lks rks : List Col) (nulls : JoinNulls) (lo ro : List Name) → lks ≡ lk → rks ≡ rk → lo ≡ names_of (table_of lk) → ro ≡ names_of (table_of rk)
    → early_refusal left right lks rks nulls lo ro ≡ early_refusal left right lk rk nulls (names_of (table_of lk)) (names_of (table_of rk))
none_of left right lk rk lks rks nulls lo ro a b x y = λ t. early_refusal left right (a t) (b t) nulls (x t) (y t)

pub returns-in_err-check_given : goal.returns-in_err-check_given
returns-in_err-check_given g c =
    let left = c.args.left.now in
    let right = c.args.right.now in
    let lk = c.args.left_keys.items in
    let rk = c.args.right_keys.items in
    let args = c.args.args.now in
    let p = err_from_is_err_and c.from_residual-in_err-check_given.result c.from_residual-in_err-check_given.ensures.1 in
    rw (p.1, p.2) (record {
      settles = by_first _ _ _ _ _ (in_parts left right lk rk args)
          (none_of left right lk rk c.deref-3.result.now c.deref-4.result.now args.join_nulls c.deref-5.result.now c.deref-6.result.now c.deref-3.ensures.value c.deref-4.ensures.value (c.deref-5.ensures.value ∙ c.in_ok-left_on.ensures ∙ ap (λ (cs : List Col). names_of (table_of cs)) c.deref.ensures.value) (c.deref-6.ensures.value ∙ c.in_ok-right_on.ensures ∙ ap (λ (cs : List Col). names_of (table_of cs)) c.deref-2.ensures.value)) c.in_err-check_given.ensures;
      answer = tt;
    })

pub lent_keys-requires : goal.lent_keys-requires
lent_keys-requires g c =
    let left = c.args.left.now in
    let right = c.args.right.now in
    let lk = c.args.left_keys.items in
    let rk = c.args.right_keys.items in
    let args = c.args.args.now in
    subst (λ (cs : List Col). HasRows (height (table_of left)) cs) (sym (c.deref-7.ensures.value ∙ c.in_ok-left_keys.ensures ∙ (λ t. cleared_columns (c.height.ensures.height t) lk))) (left_fit left right lk rk args (sym (none_of left right lk rk c.deref-3.result.now c.deref-4.result.now args.join_nulls c.deref-5.result.now c.deref-6.result.now c.deref-3.ensures.value c.deref-4.ensures.value (c.deref-5.ensures.value ∙ c.in_ok-left_on.ensures ∙ ap (λ (cs : List Col). names_of (table_of cs)) c.deref.ensures.value) (c.deref-6.ensures.value ∙ c.in_ok-right_on.ensures ∙ ap (λ (cs : List Col). names_of (table_of cs)) c.deref-2.ensures.value)) ∙ c.in_ok-check_given.ensures))

pub lent_keys-requires-2 : goal.lent_keys-requires-2
lent_keys-requires-2 g c =
    let left = c.args.left.now in
    let right = c.args.right.now in
    let lk = c.args.left_keys.items in
    let rk = c.args.right_keys.items in
    let args = c.args.args.now in
    subst (λ (cs : List Col). HasRows (height (table_of right)) cs) (sym (c.deref-8.ensures.value ∙ c.in_ok-right_keys.ensures ∙ (λ t. cleared_columns (c.height-2.ensures.height t) rk))) (right_fit left right lk rk args (sym (none_of left right lk rk c.deref-3.result.now c.deref-4.result.now args.join_nulls c.deref-5.result.now c.deref-6.result.now c.deref-3.ensures.value c.deref-4.ensures.value (c.deref-5.ensures.value ∙ c.in_ok-left_on.ensures ∙ ap (λ (cs : List Col). names_of (table_of cs)) c.deref.ensures.value) (c.deref-6.ensures.value ∙ c.in_ok-right_on.ensures ∙ ap (λ (cs : List Col). names_of (table_of cs)) c.deref-2.ensures.value)) ∙ c.in_ok-check_given.ensures))

pub invariant_of-request-clause-left_rows : goal.invariant_of-request-clause-left_rows
invariant_of-request-clause-left_rows g c = subst (λ (rs : List (Bor Col)). HasRows (height (table_of c.args.left.now)) (lent_columns rs)) (sym c.deref-11.ensures.value) c.in_ok-left_lent.ensures.rows

pub invariant_of-request-clause-right_rows : goal.invariant_of-request-clause-right_rows
invariant_of-request-clause-right_rows g c = subst (λ (rs : List (Bor Col)). HasRows (height (table_of c.args.right.now)) (lent_columns rs)) (sym c.deref-12.ensures.value) c.in_ok-right_lent.ensures.rows

pub join_columns-requires-clause-ready : goal.join_columns-requires-clause-ready
join_columns-requires-clause-ready g c κs within =
    let left = c.args.left.now in
    let right = c.args.right.now in
    let lk = c.args.left_keys.items in
    let rk = c.args.right_keys.items in
    let args = c.args.args.now in
    let none = sym (none_of left right lk rk c.deref-3.result.now c.deref-4.result.now args.join_nulls c.deref-5.result.now c.deref-6.result.now c.deref-3.ensures.value c.deref-4.ensures.value (c.deref-5.ensures.value ∙ c.in_ok-left_on.ensures ∙ ap (λ (cs : List Col). names_of (table_of cs)) c.deref.ensures.value) (c.deref-6.ensures.value ∙ c.in_ok-right_on.ensures ∙ ap (λ (cs : List Col). names_of (table_of cs)) c.deref-2.ensures.value)) ∙ c.in_ok-check_given.ensures in
    let lefts = ap lent_columns c.deref-11.ensures.value ∙ c.in_ok-left_lent.ensures.lent ∙ (c.deref-7.ensures.value ∙ c.in_ok-left_keys.ensures ∙ (λ t. cleared_columns (c.height.ensures.height t) lk)) in
    let rights = ap lent_columns c.deref-12.ensures.value ∙ c.in_ok-right_lent.ensures.lent ∙ (c.deref-8.ensures.value ∙ c.in_ok-right_keys.ensures ∙ (λ t. cleared_columns (c.height-2.ensures.height t) rk)) in
    let is = fitted_is left right lk rk args c.deref-9.result.now c.deref-10.result.now (lent_columns c.deref-11.result.now) (lent_columns c.deref-12.result.now) (c.deref-9.ensures.value ∙ c.in_ok-left_on.ensures ∙ ap (λ (cs : List Col). names_of (table_of cs)) c.deref.ensures.value) (c.deref-10.ensures.value ∙ c.in_ok-right_on.ensures ∙ ap (λ (cs : List Col). names_of (table_of cs)) c.deref-2.ensures.value) lefts rights in
    let there = some left right lk rk args none in
    let same = as_many left right lk rk args none in
    let long = ap (λ (cs : List Col). length cs) lefts in
    let wide = ap (λ (cs : List Col). length cs) rights in
    let left_many = length-map c.deref-11.result.now (λ (b : Bor Col). b.now) in
    let right_many = length-map c.deref-12.result.now (λ (b : Bor Col). b.now) in
    record {
      keys = record { some = omega (arith, there, long, left_many); as_many = sym left_many ∙ long ∙ same ∙ sym wide ∙ right_many };
      wide = subst (λ (q : Request). 0 < length (out q)) (sym is) (wide_out (fitted left right lk rk args) (stand left right lk rk args none));
      coalescing = subst (λ (q : Request). key_types q ≡ None → CanCoalesceKeys q) (sym is) (λ types. mergeable left right lk rk args none c.requires.coalescing);
    }

pub returns : goal.returns
returns g c =
    let left = c.args.left.now in
    let right = c.args.right.now in
    let lk = c.args.left_keys.items in
    let rk = c.args.right_keys.items in
    let args = c.args.args.now in
    let none = sym (none_of left right lk rk c.deref-3.result.now c.deref-4.result.now args.join_nulls c.deref-5.result.now c.deref-6.result.now c.deref-3.ensures.value c.deref-4.ensures.value (c.deref-5.ensures.value ∙ c.in_ok-left_on.ensures ∙ ap (λ (cs : List Col). names_of (table_of cs)) c.deref.ensures.value) (c.deref-6.ensures.value ∙ c.in_ok-right_on.ensures ∙ ap (λ (cs : List Col). names_of (table_of cs)) c.deref-2.ensures.value)) ∙ c.in_ok-check_given.ensures in
    let lefts = ap lent_columns c.deref-11.ensures.value ∙ c.in_ok-left_lent.ensures.lent ∙ (c.deref-7.ensures.value ∙ c.in_ok-left_keys.ensures ∙ (λ t. cleared_columns (c.height.ensures.height t) lk)) in
    let rights = ap lent_columns c.deref-12.ensures.value ∙ c.in_ok-right_lent.ensures.lent ∙ (c.deref-8.ensures.value ∙ c.in_ok-right_keys.ensures ∙ (λ t. cleared_columns (c.height-2.ensures.height t) rk)) in
    let is = fitted_is left right lk rk args c.deref-9.result.now c.deref-10.result.now (lent_columns c.deref-11.result.now) (lent_columns c.deref-12.result.now) (c.deref-9.ensures.value ∙ c.in_ok-left_on.ensures ∙ ap (λ (cs : List Col). names_of (table_of cs)) c.deref.ensures.value) (c.deref-10.ensures.value ∙ c.in_ok-right_on.ensures ∙ ap (λ (cs : List Col). names_of (table_of cs)) c.deref-2.ensures.value) lefts rights in
    let h = c.join_columns.ensures in
    record {
      settles = subst (λ (o : Option PolarsError). Settles c.join_columns.result o) (ap later_refusal is ∙ later left right lk rk args ∙ sym (all_later left right lk rk args none)) h.settles;
      answer = IfOk-weaker c.join_columns.result _ _ (λ t h. answers left right lk rk args (table_of t) (subst (λ (q : Request). IsAnswer q (table_of t)) is h)) h.answer;
    }
