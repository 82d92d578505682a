use Rattle.std.proofs.Common.{Some, map, refl}
use Rattle.std.specs.List.{All}
use Rattle.std.specs.Str.{IsUtf8}
use Rattle.std.proofs.lemmas.Result.{on_ok_weaker}
use Rattle.tb_value.specs.Promise.Datum.{string}
use Rattle.tb_value.specs.Promise.Kind as kind
use Rattle.tb_value.specs.Promise.Typed.{HasType}
use Rattle.tb_cell.specs.Shown.{or_null}
use Rattle.tb_view.specs.Layout.{Building, with_row}
use Rattle.tb_chunk.proofs.TypedRows.{holds_after, typed-push}
use Rattle.tb_chunk.proofs.builders.StringBuilder.push.Goals as goal

pub invariant_of-self : goal.invariant_of-self
invariant_of-self c =
    let b = c.self.inside.inner in
    let t = c.as_bytes.result.now in
    let utf8 : IsUtf8 t = rw c.as_bytes.ensures.value c.utf8.text in
    holds_after (λ (x : Building). All (HasType kind.string) (map (or_null string) x.rows)) c.push.result (with_row b (Some t)) b c.push.new.self c.push.ensures.ok c.push.ensures.err
    (on_ok_weaker c.push.result (λ fits. typed-push kind.string string b.rows (Some t) c.self.invariant (refl, fits, utf8)) c.push.ensures.fits)
    c.self.invariant
