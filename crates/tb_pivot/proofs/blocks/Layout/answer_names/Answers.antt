use Rattle.std.proofs.Common.{◌≡◌, ◌∙◌, ◌<◌, ◌++◌, ◌∷◌, [], Bor, List, get_or, length, ap, subst, sym, map, take}
use Rattle.std.specs.List.{flat_map}
use Rattle.std.proofs.lemmas.List.{flat_map_more, take_more}
use Rattle.tb_value.specs.Promise.Names.{Name}
use Rattle.tb_chunk.specs.Promise.Col.{Col}
use Rattle.tb_pivot.specs.Layout.{block_names}
use Rattle.tb_pivot.proofs.blocks.Layout.answer_names.Goals as goal

pub loop-value-preserved : goal.loop-value-preserved
loop-value-preserved c =
    let l = c.args.self.now in
    let vs : List (Bor Col) = l.columns.now.values.items in
    let i = c.loop-value.value-index in
    let b = c.value-item.result in
    let names : Bor Col → List Name = λ d. block_names l d.now.name in
    let before : List Name = map (λ (d : Bor Col). d.now.name) l.columns.now.index.items in
    let here = c.deref-value-items.ensures.value in
    let low : i < length vs = subst (λ (bs : List (Bor Col)). i < length bs) here c.loop-value-test.true in
    let item : b ≡ get_or vs i b = c.value-item.is ∙ ap (λ (bs : List (Bor Col)). get_or bs i b) here in
    let block = c.in_ok-block_names.ensures ∙ ap (block_names l) c.name.ensures in
    c.in_ok-append.ensures.items
    ∙ (λ t. c.loop-value.invariant t ++ block t)
    ∙ flat_map_more names before (take i vs) b
    ∙ ap (λ (d : Bor Col). before ++ flat_map names (take i vs ++ d ∷ [])) item
    ∙ ap (λ (ds : List (Bor Col)). before ++ flat_map names ds) (sym (take_more vs i b low))
