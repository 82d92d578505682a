use Rattle.std.proofs.Common.{arith, ◌≡◌, ◌≤◌, ◌++◌, ◌∙◌, ℕ, List, Option, ap, length, map, replicate, sym, take}
use Rattle.std.proofs.lemmas.List.{take_all}
use Rattle.tb_value.specs.Promise.Datum.{Datum}
use Rattle.tb_value.specs.See.{datum}
use Rattle.tb_value.specs.declared.any_value.AnyValue.{AnyValue}
use Rattle.tb_cell.specs.Shown.{or_null}
use Rattle.tb_cell.specs.Fits.{Fits}
use Rattle.tb_view.specs.RunViews.{data_runs}
use Rattle.tb_chunk.specs.RunLayout.{expansion}
use Rattle.tb_chunk.proofs.Lists.{All-map-at}
use Rattle.tb_chunk.proofs.RunLayout.{expansion_more, laid_cells}
use Rattle.tb_chunk.proofs.run_chunk.CellsRunChunk.from_runs.Goals as goal

pub cell_of-requires : goal.cell_of-requires
cell_of-requires g c = All-map-at (Fits g.N.Cell.kind) (λ (r : AnyValue × ℕ). datum r.0) c.args.runs.now c.loop-value.value-index c.loop-value-item.result (omega arith) c.loop-value-item.is c.requires.fits

pub loop-value-preserved : goal.loop-value-preserved
loop-value-preserved g c =
    let r = c.loop-value-item.result in
    let before = c.loop-value.invariant in
    c.in_ok-push_cells.ensures
    ∙ (λ i. before i ++ replicate r.1 (c.in_ok-cell_of.ensures i))
    ∙ sym (expansion_more c.args.runs.now c.loop-value.value-index r (omega arith) c.loop-value-item.is)

-- all runs in the end
whole : {N : Type 0} (shows : N → Datum) (cells : List (Option N)) (rs : List (AnyValue × ℕ)) (n : ℕ) → length rs ≤ n → map (or_null shows) cells ≡ expansion (data_runs (take n rs)) → map (or_null shows) cells ≡ expansion (data_runs rs)
whole shows cells rs n all e = e ∙ ap (λ l. expansion (data_runs l)) (take_all n rs all)

pub returns-clause-shown : goal.returns-clause-shown
returns-clause-shown g c = whole g.N.Cell.shows c.loop-value.cells c.args.runs.now c.loop-value.value-index (omega arith) c.loop-value.invariant

pub returns-clause-views : goal.returns-clause-views
returns-clause-views g c =
    ap (λ r. r.views) (laid_cells g.N.Cell.shows g.N.Cell.no_text c.loop-value.cells (data_runs c.args.runs.now) (whole g.N.Cell.shows c.loop-value.cells c.args.runs.now c.loop-value.value-index (omega arith) c.loop-value.invariant))

pub returns-clause-buffers : goal.returns-clause-buffers
returns-clause-buffers g c =
    ap (λ r. r.buffers) (laid_cells g.N.Cell.shows g.N.Cell.no_text c.loop-value.cells (data_runs c.args.runs.now) (whole g.N.Cell.shows c.loop-value.cells c.args.runs.now c.loop-value.value-index (omega arith) c.loop-value.invariant))
