use Rattle.std.proofs.Common.{Bool, List, ◌∷◌, [], ◌++◌, map, take, ap, sym, ◌∙◌}
use Rattle.std.proofs.lemmas.List.{map_more}
use Rattle.tb_frame.specs.Promise.Naming.{is_among}
use Rattle.tb_front.proofs.nulls.named_flags.Goals as goal

pub loop-key-preserved : goal.loop-key-preserved
loop-key-preserved c =
    let names = c.args.names.now in
    let keys = c.args.keys.now in
    let i = c.loop-key.key-index in
    let x = c.key-item.result in
    let flag = c.contains.ensures ∙ c.in_ok-named.ensures x ∙ ap (is_among names) c.key-item.is in
    rw c.in_ok-push.ensures.items
    (ap (λ (flags : List Bool). flags ++ c.contains.result ∷ []) c.loop-key.invariant
    ∙ ap (λ (flag : Bool). map (is_among names) (take i keys) ++ flag ∷ []) flag
    ∙ sym (map_more (is_among names) keys i x c.loop-key-test.true))
