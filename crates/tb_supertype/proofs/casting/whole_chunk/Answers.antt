use Rattle.std.proofs.Common.{◌≡◌, ◌∙◌, subst, sym}
use Rattle.std.specs.List.{All}
use Rattle.tb_value.specs.Promise.Kind.{Kind}
use Rattle.tb_value.specs.SeeKind.{kind_of}
use Rattle.tb_value.specs.Promise.Typed.{HasType}
use Rattle.tb_value.specs.Proved.TypeTests.{same_kind-Decides}
use Rattle.tb_chunk.specs.Promise.Col.{values}
use Rattle.tb_supertype.proofs.Stacks.{cast-each}
use Rattle.tb_supertype.proofs.casting.whole_chunk.Goals as goal

pub returns-then-eq : goal.returns-then-eq
returns-then-eq g c =
    let same : c.args.column.now.kind ≡ kind_of c.args.dtype.now = sym c.dtype.ensures ∙ (same_kind-Decides (kind_of c.dtype.result.now) (kind_of c.args.dtype.now)).0 (sym c.if-eq.ensures) in
    let typed : All (HasType (kind_of c.args.dtype.now)) (values c.args.column.now) = subst (λ (k : Kind). All (HasType k) (values c.args.column.now)) same c.typed_copy.ensures.typed in
    rw (cast-each (kind_of c.args.dtype.now) (values c.args.column.now) typed) c.typed_copy.ensures.copy
