use Rattle.std.proofs.Common.{◌≡◌, ◌∙◌, ◌<◌, ◌⊎◌, inl, inr, rules, [], None, length, sym, subst, arith}
use Rattle.tb_value.specs.declared.error.ComputeCause.TheVariants.{TooManyRows}
use Rattle.tb_value.specs.declared.error.PolarsError.TheVariants.{ComputeError}
use Rattle.tb_value.specs.declared.limits.TheConstants.{MAX_ROWS}
use Rattle.tb_frame.specs.Answer.{ArePairsOf}
use Rattle.tb_frame.specs.Promise.Join.{listing, out}
use Rattle.tb_frame.specs.Promise.Refusal.{row_causes}
use Rattle.tb_frame.proofs.Causes.{no_cause, when_not_above}
use Rattle.tb_keys.specs.Asked.{asked_request}
use Rattle.tb_dispatch.proofs.Cuts.{none_listed}
use Rattle.tb_dispatch.proofs.dispatch.join_named.Goals as goal

pub finish_join-requires-clause-few : goal.finish_join-requires-clause-few
finish_join-requires-clause-few g c κs within =
    let q = asked_request c.args.request.now in
    when_not_above MAX_ROWS (length (listing q)) (ComputeError TooManyRows) (no_cause (row_causes q) c.in_ok-pairs.ensures.settles 2 None (omega arith))

pub finish_join-requires-clause-some : goal.finish_join-requires-clause-some
finish_join-requires-clause-some g c κs within = at c.requires.wide
  where
    at : (0 < length (out (asked_request c.args.request.now))) ⊎ (listing (asked_request c.args.request.now) ≡ []) → (0 < length (out (asked_request c.args.request.now))) ⊎ (c.deref.result.now ≡ [])
    at (inl h) = inl h
    at (inr h) = inr (c.deref.ensures.value ∙ none_listed (asked_request c.args.request.now) c.in_ok-pairs.pairs.items h c.in_ok-pairs.ensures.listed)

pub finish_join-requires-clause-listed : goal.finish_join-requires-clause-listed
finish_join-requires-clause-listed g c κs within =
    subst (ArePairsOf (asked_request c.args.request.now)) (sym c.deref.ensures.value) c.in_ok-pairs.ensures.listed

pub returns-in_err-check_answer_names : goal.returns-in_err-check_answer_names
returns-in_err-check_answer_names g c = record { settles = search rules; answer = search rules }

pub returns-in_err-pairs : goal.returns-in_err-pairs
returns-in_err-pairs g c = record { settles = search rules; answer = search rules }

pub returns : goal.returns
returns g c = record { settles = search rules; answer = search rules }
