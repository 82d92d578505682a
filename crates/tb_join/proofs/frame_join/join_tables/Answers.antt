use Rattle.std.proofs.Common.{◌≡◌, ◌<◌, ◌∙◌, ◌++◌, None, Option, length, ap, refl, sym, subst}
use Rattle.std.specs.Prelude.{IfOk}
use Rattle.std.proofs.lemmas.Result.{err_from_is_err_and}
use Rattle.tb_value.specs.Refusals.{Settles}
use Rattle.tb_value.specs.declared.error.PolarsError.{PolarsError}
use Rattle.tb_chunk.specs.Lent.{lent_columns}
use Rattle.tb_frame.specs.Promise.Join.{IsAnswer, Request, out}
use Rattle.tb_frame.specs.Promise.Refusal.{column_causes, key_causes, key_types, row_causes}
use Rattle.tb_frame.specs.Promise.Table.{table_of}
use Rattle.tb_keys.specs.Asked.{asked_by_names}
use Rattle.tb_keys.specs.Causes.{later_refusal}
use Rattle.tb_keys.proofs.Refusing.{by_first, second_part, two_causes}
use Rattle.tb_pairs.specs.Promise.Trace.{IsTraced, Trace, trace_of}
use Rattle.tb_join.specs.Ready.{CanCoalesceKeys}
use Rattle.tb_join.proofs.NamedKeys.{keys_as_many, keys_there}
use Rattle.tb_join.proofs.NamesStand.{can_merge, names_stand, wide_out}
use Rattle.tb_join.proofs.frame_join.join_tables.Goals as goal

pub returns-in_err-keys : goal.returns-in_err-keys
returns-in_err-keys g c =
    let p = err_from_is_err_and c.from_residual.result c.from_residual.ensures.1 in
    rw (p.1, p.2) (record { settles = by_first _ _ _ _ _ (two_causes (asked_by_names c.args.request.now)) refl c.in_err-keys.ensures.settles; answer = tt; traced = tt; let_in = tt })

pub traced_columns-requires-clause-ready : goal.traced_columns-requires-clause-ready
traced_columns-requires-clause-ready g c κs within =
    let n = c.args.request.now in
    let q = asked_by_names n in
    let lent = c.with_keys-lent in
    let keys = c.in_ok-keys.ensures in
    let ls = lent_columns c.in_ok-keys.keys.left.items in
    let rs = lent_columns c.in_ok-keys.keys.right.items in
    record {
      keys = record {
        some = keys_there n lent.result ls rs lent.ensures.asked keys.settles keys.left keys.right;
        as_many = keys_as_many n lent.result ls rs lent.ensures.asked keys.settles keys.left keys.right;
      };
      wide = subst (λ (x : Request). 0 < length (out x)) (sym lent.ensures.asked) (wide_out q (names_stand q keys.settles));
      coalescing = subst (λ (x : Request). key_types x ≡ None → CanCoalesceKeys x) (sym lent.ensures.asked)
          (can_merge q n.left.now n.right.now (λ _. table_of n.left.now) (λ _. table_of n.right.now) (names_stand q keys.settles) c.get_columns-columns.ensures.table refl refl);
    }

pub returns : goal.returns
returns g c =
    let q = asked_by_names c.args.request.now in
    let lent = c.with_keys-lent.ensures in
    let exec = c.args.exec.now in
    let h = c.traced_columns.ensures in
    record {
      settles = subst (λ (o : Option PolarsError). Settles c.traced_columns.result o)
          (ap later_refusal lent.asked ∙ sym (second_part (key_causes q) (column_causes q ++ row_causes q) c.in_ok-keys.ensures.settles)) h.settles;
      answer = subst (λ (x : Request). IfOk c.traced_columns.result (λ r. IsAnswer x (table_of r.0))) lent.asked h.answer;
      traced = subst (λ (due : Trace). IfOk c.traced_columns.result (λ r. IsTraced exec due r.1)) (λ t. trace_of (lent.how t) (lent.args t) exec (lent.left t) (lent.right t)) h.traced;
      let_in = h.let_in;
    }
