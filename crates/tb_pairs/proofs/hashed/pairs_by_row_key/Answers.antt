use Rattle.std.proofs.Common.{Option, map, subst, sym, arith, ◌∙◌, ◌≡◌, ◌⊎◌, Some}
use Rattle.std.specs.Borrow.{Bor}
use Rattle.std.proofs.lemmas.List.{length-map}
use Rattle.std.proofs.lemmas.Result.{err_from_is_err_and}
use Rattle.tb_value.specs.Promise.Datum.{binary}
use Rattle.tb_value.specs.Promise.Kind as kind
use Rattle.tb_value.specs.declared.error.PolarsError.{PolarsError}
use Rattle.tb_value.specs.declared.error.PolarsError.TheVariants.{OutOfMemory}
use Rattle.tb_chunk.specs.Chunk.{or_null}
use Rattle.tb_chunk.specs.Lent.{lent_columns}
use Rattle.tb_hash.specs.Promise.Hashing.{value_plan}
use Rattle.tb_pairs.specs.Promise.Trace.{ArePartsLetIn, hash}
use Rattle.tb_pairs.proofs.Causes.{row_keys_causes}
use Rattle.tb_pairs.proofs.Keys.{as_many}
use Rattle.tb_pairs.proofs.RowKeys.{row_keys_listing}
use Rattle.tb_pairs.proofs.Traces.{hash_found, row_key_trace}
use Rattle.tb_pairs.proofs.hashed.pairs_by_row_key.Goals as goal

pub returns-in_err-probed : goal.returns-in_err-probed
returns-in_err-probed g c =
    let keys = c.requires.keys in
    let p = err_from_is_err_and c.from_residual.result c.from_residual.ensures.1 in
    let same = row_keys_causes c.args.request.now c.requires.alike (map (or_null binary) c.args.left.now) (map (or_null binary) c.args.right.now) c.know_columns.ensures c.know_columns-2.ensures keys.left_keys keys.right_keys in
    rw (p.1, p.2) (record {
      settles = subst (λ (cause : Option PolarsError). (c.in_err-probed.field-0.0 ≡ OutOfMemory) ⊎ (cause ≡ Some c.in_err-probed.field-0.0)) same c.in_err-probed.ensures.hashed.settles;
      found = tt;
      let_in = tt;
    })

pub returns : goal.returns
returns g c =
    let r = c.args.request.now in
    let exec = c.args.exec.now in
    let keys = c.requires.keys in
    let ls = lent_columns r.left_keys.now in
    let rs = lent_columns r.right_keys.now in
    let us = map (or_null binary) c.args.left.now in
    let vs = map (or_null binary) c.args.right.now in
    let h = c.in_ok-probed.ensures.hashed in
    let many = length-map r.left_keys.now (λ (b : Bor _). b.now) in
    let due = row_key_trace r.how r.args.now exec ls rs (omega (arith, many, c.requires.several)) (as_many ls rs c.requires.alike) keys.left_short keys.right_short
    ∙ λ t. hash (value_plan exec r.how kind.binary (sym keys.left_keys t) (sym keys.right_keys t)) in
    record {
      settles = sym (row_keys_causes r c.requires.alike us vs c.know_columns.ensures c.know_columns-2.ensures keys.left_keys keys.right_keys) ∙ h.settles;
      found = hash_found r exec _ kind.binary us vs c.in_ok-probed.probed c.in_ok-probed.built c.found_by_hash.result
          (row_keys_listing r us vs c.requires.alike c.know_columns.ensures c.know_columns-2.ensures keys.left_keys keys.right_keys)
          due h.listed h.built c.found_by_hash.ensures.listed c.found_by_hash.ensures.trace;
      let_in = subst (ArePartsLetIn (g.G.Gate.lets_in c.args.gate.now)) (sym c.found_by_hash.ensures.trace) c.in_ok-probed.ensures.let_in;
    }
