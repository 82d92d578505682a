use Rattle.std.proofs.Common.{◌≡◌, ◌∙◌, ◌+◌, ◌-◌, ◌++◌, Some, ap, arith, drop, length, map, replicate}
use Rattle.std.specs.Prelude.{All}
use Rattle.std.proofs.lemmas.List.{length-drop, take_all}
use Rattle.std.proofs.lemmas.Result.{IfOk-weaker}
use Rattle.tb_value.specs.Promise.Datum.{string}
use Rattle.tb_value.specs.Promise.Kind as kind
use Rattle.tb_value.specs.Promise.Names.{Name}
use Rattle.tb_value.specs.Promise.Typed.{HasType}
use Rattle.tb_chunk.specs.Chunk.{or_null}
use Rattle.tb_chunk.specs.ChunkTexts.{texts_of}
use Rattle.tb_chunk.specs.declared.chunk.StringChunk.{StringChunk}
use Rattle.tb_delta_front.proofs.ChangesTable.{signs_more}
use Rattle.tb_delta_front.proofs.changes.sign_chunk.Goals as goal

pub loop-first-preserved : goal.loop-first-preserved
loop-first-preserved c =
    let n = c.count_alike-more.result in
    let behind = c.in-Some.behind.now in
    let rows = c.loop-first.signs.rows in
    signs_more rows c.push_times.new.self.rows _ c.in-Some.first.now c.loop-first.rest.now behind _ n c.in-Some.ensures.cases.0
    (ap (λ b. b.rows) c.in_ok-push_times.ensures.ok ∙ ap (λ (t : Name). rows ++ replicate (n + 1) (Some t)) c.sign_of.ensures)
    c.count_alike-more.ensures.alike (take_all (length behind - n) (drop n behind) (omega (arith, length-drop n behind))) c.loop-first.invariant

pub returns-clause-typed : goal.returns-clause-typed
returns-clause-typed c =
    IfOk-weaker c.finish.result (λ (b : StringChunk). texts_of b ≡ c.loop-first.signs.rows) (λ (b : StringChunk). All (HasType kind.string) (map (or_null string) (texts_of b)))
    (λ b h. rw h c.finish.ensures.typed) c.finish.ensures.texts
