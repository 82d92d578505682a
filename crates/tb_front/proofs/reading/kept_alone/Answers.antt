use Rattle.std.proofs.Common.{◌∙◌, sym}
use Rattle.tb_front.proofs.Untyped.{alone_told}
use Rattle.tb_front.proofs.reading.kept_alone.Goals as goal

pub returns-then-are_told : goal.returns-then-are_told
returns-then-are_told c =
    let told = c.are_told.ensures c.if-are_told.true in
    alone_told c.args.options.now.types.items c.args.text.items c.args.options.now.separator (sym c.deref.ensures.value ∙ told.0) (rw c.deref-2.ensures.value at told.1)
