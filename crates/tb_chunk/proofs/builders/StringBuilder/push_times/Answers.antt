use Rattle.std.proofs.Common.{Some, map, refl}
use Rattle.std.specs.List.{All}
use Rattle.std.specs.Str.{IsUtf8}
use Rattle.std.proofs.lemmas.Result.{on_ok_weaker}
use Rattle.tb_value.specs.Promise.Datum.{string}
use Rattle.tb_value.specs.Promise.Kind as kind
use Rattle.tb_value.specs.Promise.Typed.{HasType}
use Rattle.tb_cell.specs.Shown.{or_null}
use Rattle.tb_view.specs.Layout.{Building, with_rows}
use Rattle.tb_chunk.proofs.TypedRows.{holds_after, typed-repeat}
use Rattle.tb_chunk.proofs.builders.StringBuilder.push_times.Goals as goal

pub invariant_of-self : goal.invariant_of-self
invariant_of-self c =
    let b = c.self.inside.inner in
    let t = c.as_bytes.result.now in
    let utf8 : IsUtf8 t = rw c.as_bytes.ensures.value c.utf8.text in
    let n = c.args.times in
    holds_after (λ (x : Building). All (HasType kind.string) (map (or_null string) x.rows)) c.push_times.result (with_rows b t n) b c.push_times.new.self c.push_times.ensures.ok c.push_times.ensures.err
    (on_ok_weaker c.push_times.result (λ fits. typed-repeat kind.string string b.rows (Some t) n c.self.invariant (refl, fits, utf8)) c.push_times.ensures.fits)
    c.self.invariant
