use Rattle.std.proofs.Common.{Some, map, refl, rules}
use Rattle.std.specs.List.{All}
use Rattle.std.proofs.lemmas.Result.{on_ok_weaker}
use Rattle.tb_value.specs.Promise.Datum.{binary}
use Rattle.tb_value.specs.Promise.Kind as kind
use Rattle.tb_value.specs.Promise.Typed.{HasType, IsBytes}
use Rattle.tb_cell.specs.Shown.{or_null}
use Rattle.tb_view.specs.Layout.{Building, with_rows}
use Rattle.tb_chunk.proofs.TypedRows.{holds_after, typed-repeat}
use Rattle.tb_chunk.proofs.builders.BinaryBuilder.push_times.Goals as goal

pub invariant_of-self : goal.invariant_of-self
invariant_of-self c =
    let b = c.self.inside.inner in
    let t = c.args.bytes.now in
    let bytes : IsBytes t = search rules in
    holds_after (λ (x : Building). All (HasType kind.binary) (map (or_null binary) x.rows)) c.push_times.result (with_rows b t c.args.times) b c.push_times.new.self c.push_times.ensures.ok c.push_times.ensures.err
    (on_ok_weaker c.push_times.result (λ fits. typed-repeat kind.binary binary b.rows (Some t) c.args.times c.self.invariant (refl, fits, bytes)) c.push_times.ensures.fits)
    c.self.invariant
