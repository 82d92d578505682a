use Rattle.std.proofs.Common.{List, length, Option, get_or, ap, subst, sym, ◌∙◌}
use Rattle.std.specs.Prelude.{IfOk}
use Rattle.tb_value.specs.Refusals.{Settles}
use Rattle.tb_value.specs.declared.error.PolarsError.{PolarsError}
use Rattle.tb_value.specs.declared.index.JoinPair.{JoinPair}
use Rattle.tb_frame.specs.Promise.Join.{flag_at}
use Rattle.tb_keys.specs.Causes.{too_many}
use Rattle.tb_sorted.specs.Listed.{IsListedIn, IsMergeWithin}
use Rattle.tb_sorted.specs.Promise.Keys.{MergeSizes}
use Rattle.tb_chunk.specs.Promise.Col.{values}
use Rattle.tb_sorted.proofs.Flagged.{no_nulls, nulls_apart}
use Rattle.tb_sorted.proofs.OneKey.{one_column, one_each, requested_listing, requested_sized, size_alone, taken_keys}
use Rattle.tb_sorted.proofs.requested.taken_pairs.Goals as goal

pub sorted_pairs-requires : goal.sorted_pairs-requires
sorted_pairs-requires c =
    let r = c.args.request.now in
    let d = c.index-request-0.result in
    let e = c.index-request-0-2.result in
    (taken_keys r.how r.args.now.validation c.args.exec.now r.left_keys.now r.right_keys.now d e c.requires.alike c.requires.taken).keys

pub returns : goal.returns
returns c =
    let r = c.args.request.now in
    let d = c.index-request-0.result in
    let e = c.index-request-0-2.result in
    let one = one_each r.how r.args.now.validation c.args.exec.now r.left_keys.now r.right_keys.now c.requires.taken in
    let taken = taken_keys r.how r.args.now.validation c.args.exec.now r.left_keys.now r.right_keys.now d e c.requires.alike c.requires.taken in
    let a = (get_or r.left_keys.now 0 d).now in
    let b = (get_or r.right_keys.now 0 e).now in
    let left = one_column r.left_keys.now d one.0 in
    let right = one_column r.right_keys.now e one.1 in
    let listed = ◌∙◌ {A = List JoinPair} (nulls_apart (flag_at r.args.now.join_nulls 0) r.how (values a) (values b) (no_nulls a taken.keys.left)) (requested_listing r a b left right) in
    let cause = ap (λ (ps : List JoinPair). too_many (length ps)) listed ∙ sym (size_alone r c.args.exec.now a b taken.keys.ordered taken.nothing) in
    let there = c.sorted_pairs.result in
    record {
      settles = subst (λ (o : Option PolarsError). Settles there o) cause c.sorted_pairs.ensures.settles;
      found = subst (λ (ps : List JoinPair). IfOk there (λ m. IsListedIn ps m.listed)) listed c.sorted_pairs.ensures.found;
      merged = subst (λ (s : MergeSizes). IfOk there (λ m. IsMergeWithin s m.merged)) (requested_sized r a b left right) c.sorted_pairs.ensures.merged;
    }
