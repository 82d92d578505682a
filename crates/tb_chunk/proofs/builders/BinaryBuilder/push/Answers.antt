use Rattle.std.proofs.Common.{Some, map, refl, rules}
use Rattle.std.specs.List.{All}
use Rattle.std.proofs.lemmas.Result.{on_ok_weaker}
use Rattle.tb_value.specs.Promise.Datum.{binary}
use Rattle.tb_value.specs.Promise.Kind as kind
use Rattle.tb_value.specs.Promise.Typed.{HasType, IsBytes}
use Rattle.tb_cell.specs.Shown.{or_null}
use Rattle.tb_view.specs.Layout.{Building, with_row}
use Rattle.tb_chunk.proofs.TypedRows.{holds_after, typed-push}
use Rattle.tb_chunk.proofs.builders.BinaryBuilder.push.Goals as goal

pub invariant_of-self : goal.invariant_of-self
invariant_of-self c =
    let b = c.self.inside.inner in
    let t = c.args.bytes.now in
    let bytes : IsBytes t = search rules in
    holds_after (λ (x : Building). All (HasType kind.binary) (map (or_null binary) x.rows)) c.push.result (with_row b (Some t)) b c.push.new.self c.push.ensures.ok c.push.ensures.err
    (on_ok_weaker c.push.result (λ fits. typed-push kind.binary binary b.rows (Some t) c.self.invariant (refl, fits, bytes)) c.push.ensures.fits)
    c.self.invariant
