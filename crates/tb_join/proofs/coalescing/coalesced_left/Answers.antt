use Rattle.std.proofs.Common.{◌∙◌, Bor, List, get_or, length, map, sym, ap, arith}
use Rattle.std.proofs.lemmas.List.{length-map}
use Rattle.tb_chunk.specs.Promise.Col.{Col}
use Rattle.tb_chunk.specs.Lent.{lent_columns}
use Rattle.tb_keys.specs.Coalescing.{key_beside}
use Rattle.tb_join.specs.AnswerColumns.{filled_column}
use Rattle.tb_join.proofs.coalescing.coalesced_left.Goals as goal

pub columns_beside-requires : goal.columns_beside-requires
columns_beside-requires c =
    let is = ap lent_columns c.deref.ensures.value ∙ c.in_ok-keys.ensures.columns in
    let long = length-map c.deref.result.now (λ (b : Bor Col). b.now) in
    let same = ap (λ (ks : List Col). length ks) is in
    let many = c.requires.many in
    omega (arith, long, same, many)

pub all_filled_up-requires : goal.all_filled_up-requires
all_filled_up-requires c =
    let is = ap lent_columns c.deref.ensures.value ∙ c.in_ok-keys.ensures.columns in
    λ i d low k e. c.requires.fit i d low k (sym (c.in_ok-beside.ensures (get_or c.args.left.items i d).name ∙ ap (λ (ks : List Col). key_beside c.args.left_on.now ks (get_or c.args.left.items i d).name) is) ∙ e)

pub returns-clause-columns : goal.returns-clause-columns
returns-clause-columns c =
    let is = ap lent_columns c.deref.ensures.value ∙ c.in_ok-keys.ensures.columns in
    c.in_ok-all_filled_up.ensures ∙ (λ t. map (λ (k : Col). filled_column ((c.in_ok-beside.ensures k.name ∙ ap (λ (ks : List Col). key_beside c.args.left_on.now ks k.name) is) t) k) c.args.left.items)
