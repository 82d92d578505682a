use Rattle.std.proofs.Common.{◌≡◌, ◌∙◌, ◌<◌, ℤ, Bool, cond, Option, Some, None, length, get_or, ap, arith, sym, pos}
use Rattle.tb_row_join.proofs.Marked.{lent-same, mark-within, marked-at, marked-length}
use Rattle.tb_row_join.proofs.numbers.NumberKeysKeyListI64.key.Goals as goal

pub is_there-requires : goal.is_there-requires
is_there-requires c =
    let k = c.args.self.now in
    let long = marked-length k.numbers.now k.marks.now k.fit in
    mark-within k.numbers.now k.marks.now c.args.row k.fit (omega (arith, long, c.requires))

pub number_at-requires : goal.number_at-requires
number_at-requires c =
    let k = c.args.self.now in
    let long = marked-length k.numbers.now k.marks.now k.fit in
    omega (arith, long, c.requires)

pub returns-then-is_there : goal.returns-then-is_there
returns-then-is_there c =
    let k = c.args.self.now in
    let long = marked-length k.numbers.now k.marks.now k.fit in
    let d : ℤ = pos 0 in
    lent-same c.number_at.result _ (marked-at k.numbers.now k.marks.now c.args.row d k.fit (omega (arith, long, c.requires))
    ∙ ap (λ (b : Bool). cond b (Some (get_or k.numbers.now c.args.row d)) None) (sym c.is_there.ensures ∙ c.if-is_there.true)
    ∙ sym (c.number_at.ensures d))

pub returns-else-is_there : goal.returns-else-is_there
returns-else-is_there c =
    let k = c.args.self.now in
    let long = marked-length k.numbers.now k.marks.now k.fit in
    let d : ℤ = pos 0 in
    lent-same None _ (marked-at k.numbers.now k.marks.now c.args.row d k.fit (omega (arith, long, c.requires))
    ∙ ap (λ (b : Bool). cond b (Some (get_or k.numbers.now c.args.row d)) None) (sym c.is_there.ensures ∙ c.if-is_there.false))
