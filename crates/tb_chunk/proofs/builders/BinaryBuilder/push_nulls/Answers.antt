use Rattle.std.proofs.Common.{None, map}
use Rattle.std.specs.List.{All}
use Rattle.std.proofs.lemmas.Result.{on_ok_weaker}
use Rattle.tb_value.specs.Promise.Datum.{binary}
use Rattle.tb_value.specs.Promise.Kind as kind
use Rattle.tb_value.specs.Promise.Typed.{HasType}
use Rattle.tb_cell.specs.Shown.{or_null}
use Rattle.tb_view.specs.Layout.{Building, with_nulls}
use Rattle.tb_chunk.proofs.TypedRows.{holds_after, typed-repeat}
use Rattle.tb_chunk.proofs.builders.BinaryBuilder.push_nulls.Goals as goal

pub invariant_of-self : goal.invariant_of-self
invariant_of-self c =
    let b = c.self.inside.inner in
    holds_after (λ (x : Building). All (HasType kind.binary) (map (or_null binary) x.rows)) c.push_nulls.result (with_nulls b c.args.times) b c.push_nulls.new.self c.push_nulls.ensures.ok c.push_nulls.ensures.err
    (on_ok_weaker c.push_nulls.result (λ _. typed-repeat kind.binary binary b.rows None c.args.times c.self.invariant tt) c.push_nulls.ensures.ok)
    c.self.invariant
