use Rattle.std.proofs.Common.{◌∙◌, sym}
use Rattle.tb_front.proofs.Untyped.{keyed_told}
use Rattle.tb_front.proofs.reading.kept_both.Goals as goal

pub returns-then-are_told-clause-left : goal.returns-then-are_told-clause-left
returns-then-are_told-clause-left c left_on right_on apart =
    let told = c.are_told.ensures c.if-are_told.true in
    keyed_told c.args.options.now.types.items c.args.left.items c.args.right.items c.args.options.now.separator left_on right_on apart
    (sym c.deref.ensures.value ∙ told.0) (rw c.deref-2.ensures.value at told.1) (rw c.deref-3.ensures.value at told.2)

pub returns-then-are_told-clause-right : goal.returns-then-are_told-clause-right
returns-then-are_told-clause-right c left_on right_on apart =
    let told = c.are_told.ensures c.if-are_told.true in
    keyed_told c.args.options.now.types.items c.args.right.items c.args.left.items c.args.options.now.separator right_on left_on apart
    (sym c.deref.ensures.value ∙ told.0) (rw c.deref-3.ensures.value at told.2) (rw c.deref-2.ensures.value at told.1)
