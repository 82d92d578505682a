use Rattle.std.proofs.Common.{◌≡◌, ◌++◌, Option, None, length, inl, sym, subst, arith}
use Rattle.std.specs.Prelude.{All}
use Rattle.std.proofs.lemmas.Result.{err_from_is_err_and}
use Rattle.tb_value.specs.declared.error.ComputeCause.TheVariants.{TooManyRows}
use Rattle.tb_value.specs.declared.error.PolarsError.{PolarsError}
use Rattle.tb_value.specs.declared.error.PolarsError.TheVariants.{ComputeError}
use Rattle.tb_value.specs.declared.limits.TheConstants.{MAX_ROWS}
use Rattle.tb_frame.specs.Answer.{ArePairsOf}
use Rattle.tb_frame.specs.Promise.Join.{Request, listing}
use Rattle.tb_frame.specs.Promise.Refusal.{column_causes, row_causes}
use Rattle.tb_frame.proofs.Causes.{no_cause, when_not_above}
use Rattle.tb_keys.specs.Asked.{asked_request}
use Rattle.tb_keys.specs.Causes.{later_refusal}
use Rattle.tb_join.proofs.Finishing.{wanting}
use Rattle.tb_join.proofs.frame_join.traced_columns.Goals as goal

each : (q : Request) → later_refusal q ≡ None → All (λ (o : Option PolarsError). o ≡ None) (column_causes q ++ row_causes q)
each q h = no_cause (column_causes q ++ row_causes q) h

pub finish_join-requires-clause-named : goal.finish_join-requires-clause-named
finish_join-requires-clause-named g c κs within = each (asked_request c.args.request.now) c.in_ok-pairs.ensures.settles 2 None (omega arith)

pub finish_join-requires-clause-few : goal.finish_join-requires-clause-few
finish_join-requires-clause-few g c κs within =
    let q = asked_request c.args.request.now in
    when_not_above MAX_ROWS (length (listing q)) (ComputeError TooManyRows) (each q c.in_ok-pairs.ensures.settles 5 None (omega arith))

pub finish_join-requires-clause-coalescing : goal.finish_join-requires-clause-coalescing
finish_join-requires-clause-coalescing g c κs within = c.requires.ready.coalescing (each (asked_request c.args.request.now) c.in_ok-pairs.ensures.settles 0 None (omega arith))

pub finish_join-requires-clause-some : goal.finish_join-requires-clause-some
finish_join-requires-clause-some g c κs within = inl c.requires.ready.wide

pub finish_join-requires-clause-listed : goal.finish_join-requires-clause-listed
finish_join-requires-clause-listed g c κs within =
    subst (ArePairsOf (asked_request c.args.request.now)) (sym c.deref.ensures.value) c.in_ok-pairs.ensures.listed

pub returns-in_err-pairs : goal.returns-in_err-pairs
returns-in_err-pairs g c =
    let p = err_from_is_err_and c.from_residual.result c.from_residual.ensures.1 in
    rw (p.1, p.2) (record { settles = c.in_err-pairs.ensures.settles; answer = tt; traced = tt; let_in = tt })

pub returns-in_err-table : goal.returns-in_err-table
returns-in_err-table g c =
    let p = err_from_is_err_and c.from_residual-in_err-table.result c.from_residual-in_err-table.ensures.1 in
    rw (p.1, p.2) (record { settles = wanting (later_refusal (asked_request c.args.request.now)) _ c.in_err-table.ensures.settles; answer = tt; traced = tt; let_in = tt })

pub returns : goal.returns
returns g c =
    let h = c.in_ok-pairs.ensures in
    record { settles = h.settles; answer = c.in_ok-table.ensures.answer; traced = h.traced; let_in = h.let_in }
