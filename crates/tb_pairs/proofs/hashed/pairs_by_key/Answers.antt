use Rattle.std.proofs.Common.{Option, get_or, subst, sym, arith, ◌∙◌, ◌≡◌, ◌⊎◌, Some}
use Rattle.std.proofs.lemmas.Result.{err_from_is_err_and}
use Rattle.tb_value.specs.declared.error.PolarsError.{PolarsError}
use Rattle.tb_value.specs.declared.error.PolarsError.TheVariants.{OutOfMemory}
use Rattle.tb_chunk.specs.Promise.Col.{values}
use Rattle.tb_sorted.proofs.OneKey.{one_column}
use Rattle.tb_pairs.specs.Promise.Trace.{ArePartsLetIn}
use Rattle.tb_pairs.proofs.Causes.{one_key_causes}
use Rattle.tb_pairs.proofs.Requested.{one_key_listing, one_key_types, one_right}
use Rattle.tb_pairs.proofs.Traces.{hash_found, one_key_traced}
use Rattle.tb_pairs.proofs.hashed.pairs_by_key.Goals as goal

pub bounds-request-0-2 : goal.bounds-request-0-2
bounds-request-0-2 g c = let one = one_right c.args.request.now c.requires.alike c.requires.one in omega (arith, one)

pub hash_pairs-requires-clause-key : goal.hash_pairs-requires-clause-key
hash_pairs-requires-clause-key g c κs within = (one_key_types c.args.request.now c.requires.alike c.index-request-0.result c.index-request-0-2.result c.requires.one).0

pub hash_pairs-requires-clause-same : goal.hash_pairs-requires-clause-same
hash_pairs-requires-clause-same g c κs within = (one_key_types c.args.request.now c.requires.alike c.index-request-0.result c.index-request-0-2.result c.requires.one).1

pub returns-in_err-probed : goal.returns-in_err-probed
returns-in_err-probed g c =
    let p = err_from_is_err_and c.from_residual.result c.from_residual.ensures.1 in
    let same = one_key_causes c.args.request.now c.requires.alike c.index-request-0.result c.index-request-0-2.result c.requires.one c.flag_at-join_nulls.result c.flag_at-join_nulls.ensures in
    rw (p.1, p.2) (record {
      settles = subst (λ (cause : Option PolarsError). (c.in_err-probed.field-0.0 ≡ OutOfMemory) ⊎ (cause ≡ Some c.in_err-probed.field-0.0)) same c.in_err-probed.ensures.hashed.settles;
      found = tt;
      let_in = tt;
    })

pub returns : goal.returns
returns g c =
    let r = c.args.request.now in
    let d = c.index-request-0.result in
    let e = c.index-request-0-2.result in
    let h = c.in_ok-probed.ensures.hashed in
    let left = (get_or r.left_keys.now 0 d).now in
    let right = (get_or r.right_keys.now 0 e).now in
    record {
      settles = sym (one_key_causes r c.requires.alike d e c.requires.one c.flag_at-join_nulls.result c.flag_at-join_nulls.ensures) ∙ h.settles;
      found = hash_found r c.args.exec.now _ left.kind (values left) (values right) c.in_ok-probed.probed c.in_ok-probed.built c.found_by_hash.result
          (one_key_listing r c.requires.alike d e c.requires.one c.flag_at-join_nulls.result c.flag_at-join_nulls.ensures)
          (one_key_traced r c.args.exec.now left right (one_column r.left_keys.now d c.requires.one) (one_column r.right_keys.now e (one_right r c.requires.alike c.requires.one)) c.requires.hashed)
          h.listed h.built c.found_by_hash.ensures.listed c.found_by_hash.ensures.trace;
      let_in = subst (ArePartsLetIn (g.G.Gate.lets_in c.args.gate.now)) (sym c.found_by_hash.ensures.trace) c.in_ok-probed.ensures.let_in;
    }
