use Rattle.std.proofs.Common.{◌≡◌, ◌∙◌, ◌<◌, ◌++◌, ◌∷◌, [], Bor, List, ℕ, None, get_or, length, ap, subst, sym, refl, map, take, arith}
use Rattle.std.specs.List.{All}
use Rattle.std.proofs.lemmas.List.{map_push, take_all, take_more}
use Rattle.std.proofs.lemmas.List.Elements.{All-append, All-cons, All-nil}
use Rattle.tb_chunk.specs.Promise.Col.{Col, values}
use Rattle.tb_rows.specs.declared.groups.Groups.{Groups}
use Rattle.tb_agg.specs.Grouped.{AreGroupsOf}
use Rattle.tb_pivot.specs.Made.{made_cause, IsMade}
use Rattle.tb_pivot.specs.declared.blocks.GroupValues.{GroupValues}
use Rattle.tb_pivot.proofs.Cell.{cells_fit}
use Rattle.tb_pivot.proofs.Columns.{passed_by}
use Rattle.tb_pivot.proofs.blocks.Layout.group_values.Goals as goal

-- a value column of the loop
item_high : (vs bs : List (Bor Col)) (i n : ℕ) (b : Bor Col) → bs ≡ vs → All (λ (c : Bor Col). length (values c.now) ≡ n) vs → i < length bs → b ≡ get_or bs i b → length (values b.now) ≡ n
item_high vs bs i n b same high low is =
    subst (λ (d : Bor Col). length (values d.now) ≡ n) (sym is) (subst (λ (cs : List (Bor Col)). length (values (get_or cs i b).now) ≡ n) (sym same) (high i b (subst (λ (cs : List (Bor Col)). i < length cs) same low)))

pub made-requires-clause-groups : goal.made-requires-clause-groups
made-requires-clause-groups g c =
    let l = c.args.self.now in
    let b = c.value-item.result in
    let high = item_high l.columns.now.values.items c.deref-value-items.result.now c.loop-value.value-index l.height b c.deref-value-items.ensures.value c.requires.layout.high.values c.loop-value-test.true c.value-item.is in
    subst (λ (gs : Groups). AreGroupsOf (length (values b.now)) gs) (sym c.groups.ensures)
    (subst (λ (n : ℕ). AreGroupsOf n l.cells.groups) (sym high) (cells_fit _ _ l.height l.cells c.requires.layout.cells c.requires.layout.few))

pub loop-value-preserved : goal.loop-value-preserved
loop-value-preserved g c =
    let l = c.args.self.now in
    let way = g.M.CellMaker.way c.args.maker.now in
    let vs : List (Bor Col) = l.columns.now.values.items in
    let i = c.loop-value.value-index in
    let b = c.value-item.result in
    let made = c.in_ok-made.made in
    let before : List GroupValues = c.loop-value.blocks.items in
    let next : GroupValues = record { value = b; made = made } in
    let see : GroupValues → Bor Col = λ d. d.value in
    let P : GroupValues → Type 0 = λ d. IsMade way l.cells.groups d.value.now d.made in
    let here = c.deref-value-items.ensures.value in
    let low : i < length vs = subst (λ (bs : List (Bor Col)). i < length bs) here c.loop-value-test.true in
    let item : b ≡ get_or vs i b = c.value-item.is ∙ ap (λ (bs : List (Bor Col)). get_or bs i b) here in
    let is : P next = subst (λ (gs : Groups). IsMade way gs b.now made) c.groups.ensures c.in_ok-made.ensures.made in
    let none : made_cause way l.cells.groups b.now ≡ None = subst (λ (gs : Groups). made_cause way gs b.now ≡ None) c.groups.ensures c.in_ok-made.ensures.settles in
    let put = c.in_ok-push_values.ensures in (
      ap (map see) put ∙ map_push see before next ∙ (λ t. c.loop-value.invariant.0 t ++ item t ∷ []) ∙ sym (take_more vs i b low),
      (
        subst (λ (ds : List GroupValues). All P ds) (sym put) (All-append P before (next ∷ []) c.loop-value.invariant.1.0 (All-cons P next [] is (All-nil P))),
        c.loop-value.invariant.1.1 ∙ passed_by l c.requires.layout way i b low item none,
      ),
    )

pub returns-clause-values : goal.returns-clause-values
returns-clause-values g c =
    let vs : List (Bor Col) = c.args.self.now.columns.now.values.items in
    c.loop-value.invariant.0 ∙ take_all c.loop-value.value-index vs (omega (arith, ap length c.deref-value-items.ensures.value, c.loop-value-test.false))
