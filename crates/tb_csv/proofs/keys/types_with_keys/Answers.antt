use Rattle.std.proofs.Common.{◌≡◌, ◌<◌, ◌++◌, ◌∷◌, ◌∙◌, [], ℕ, ap, append-nil, arith, length, min, sym}
use Rattle.std.specs.List.{flat_map}
use Rattle.std.proofs.lemmas.List.{get_or_default}
use Rattle.tb_value.specs.Promise.Pairs.{row_numbers}
use Rattle.tb_csv.specs.Promise.Keys.{told_key, types_with_keys}
use Rattle.tb_csv.proofs.KeyWalks.{told_step}
use Rattle.tb_csv.proofs.keys.types_with_keys.Goals as goal
use Rattle.tb_csv.proofs.keys.types_with_keys.Goals.{in-Some+in_ok-push-in-Some, in-None}

pub loop-i-preserved : goal.loop-i-preserved
loop-i-preserved c rs os h k =
    let on = c.args.on.now in
    let others = c.args.others_on.now in
    let low : c.loop-i.i < length on = omega arith in
    let beside : c.loop-i.i < length others = omega arith in
    let n = c.index-on-i.is ∙ get_or_default on c.loop-i.i c.index-on-i.result [] low in
    let o = c.index-others_on-i.is ∙ get_or_default others c.loop-i.i c.index-others_on-i.result [] beside in
    let told = c.in_ok-of_key.ensures.told rs os h k in
    elim c.match-of_key.branch [
      | in-Some+in_ok-push-in-Some w ↦
          rw w.told-is (told_step c.args.types.now rs os on others c.loop-i.i _ _ c.args.types.now c.loop-i.told.items _ (w.in-Some.typed ∷ []) n o (rw w.in-Some.is at told) w.in_ok-push-in-Some.ensures.items (c.loop-i.invariant rs os h k))
      | in-None w ↦
          rw w.told-is (told_step c.args.types.now rs os on others c.loop-i.i _ _ c.args.types.now c.loop-i.told.items _ [] n o (rw w.in-None.is at told) (sym (append-nil c.loop-i.told.items)) (c.loop-i.invariant rs os h k))
    ]

pub returns : goal.returns
unfolding types_with_keys
returns c = record {
  types = λ rs os h k.
      let on = c.args.on.now in
      let others = c.args.others_on.now in
      let end : c.loop-i.i ≡ min (length on) (length others) = omega arith in
      c.loop-i.invariant rs os h k ∙ ap (λ (m : ℕ). c.args.types.now ++ flat_map (told_key c.args.types.now rs os on others) (row_numbers m)) end;
}
