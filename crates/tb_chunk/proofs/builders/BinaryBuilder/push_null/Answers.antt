use Rattle.std.proofs.Common.{None, map}
use Rattle.std.specs.List.{All}
use Rattle.std.proofs.lemmas.Result.{on_ok_weaker}
use Rattle.tb_value.specs.Promise.Datum.{binary}
use Rattle.tb_value.specs.Promise.Kind as kind
use Rattle.tb_value.specs.Promise.Typed.{HasType}
use Rattle.tb_cell.specs.Shown.{or_null}
use Rattle.tb_view.specs.Layout.{Building, with_row}
use Rattle.tb_chunk.proofs.TypedRows.{holds_after, typed-push}
use Rattle.tb_chunk.proofs.builders.BinaryBuilder.push_null.Goals as goal

pub invariant_of-self : goal.invariant_of-self
invariant_of-self c =
    let b = c.self.inside.inner in
    holds_after (λ (x : Building). All (HasType kind.binary) (map (or_null binary) x.rows)) c.push_null.result (with_row b None) b c.push_null.new.self c.push_null.ensures.ok c.push_null.ensures.err
    (on_ok_weaker c.push_null.result (λ _. typed-push kind.binary binary b.rows None c.self.invariant tt) c.push_null.ensures.ok)
    c.self.invariant
