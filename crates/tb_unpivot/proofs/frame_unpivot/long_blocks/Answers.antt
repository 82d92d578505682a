use Rattle.std.proofs.Common.{◌≡◌, subst}
use Rattle.std.specs.Prelude.{IfOk}
use Rattle.tb_unpivot.specs.Blocks.{LongParts, parts_of}
use Rattle.tb_unpivot.specs.Promise.Unpivot.{unpivot_refusal}
use Rattle.tb_unpivot.proofs.Answered.{asked_of}
use Rattle.tb_unpivot.proofs.Causes.{settled}
use Rattle.tb_unpivot.proofs.frame_unpivot.long_blocks.Goals as goal

pub returns-clause-settles : goal.returns-clause-settles
returns-clause-settles c =
    settled c.blocks_of.result _ _
    (λ t. unpivot_refusal (asked_of c.args.table.now (c.deref.ensures.value t) (c.deref-2.ensures.value t) (c.name_or-variable.ensures t) (c.name_or-value.ensures t)))
    c.blocks_of.ensures.settles

pub returns-clause-parts : goal.returns-clause-parts
returns-clause-parts c =
    subst (λ (p : LongParts). IfOk c.blocks_of.result (λ b. b ≡ p))
    (λ t. parts_of (asked_of c.args.table.now (c.deref.ensures.value t) (c.deref-2.ensures.value t) (c.name_or-variable.ensures t) (c.name_or-value.ensures t)))
    c.blocks_of.ensures.parts
