use Rattle.std.proofs.Common.{arith, ◌≡◌, ◌≤◌, ◌∙◌, ℕ, List, Option, None, ap, sym, length, map, take}
use Rattle.std.proofs.lemmas.List.{take_all}
use Rattle.tb_value.specs.Promise.Datum.{Datum}
use Rattle.tb_value.specs.See.{datum, data_of}
use Rattle.tb_value.specs.declared.any_value.AnyValue.{AnyValue}
use Rattle.tb_cell.specs.Shown.{or_null}
use Rattle.tb_cell.specs.Fits.{Fits}
use Rattle.tb_chunk.specs.Promise.Fresh.{fresh_view_array}
use Rattle.tb_chunk.specs.Fresh.{no_views}
use Rattle.tb_value.specs.Promise.Texts.{text_of}
use Rattle.tb_chunk.proofs.Fresh.{fresh_cells}
use Rattle.tb_chunk.proofs.Lists.{All-map-at}
use Rattle.tb_chunk.proofs.cells.CellsChunk.from_values.Goals as goal

pub cell_of-requires : goal.cell_of-requires
cell_of-requires g c = All-map-at (Fits g.N.Cell.kind) datum c.args.values.now c.loop-value.value-index c.value-item.result (omega arith) c.value-item.is c.requires

fresh : {N : Type 0} (shows : N → Datum) → ((x : N) → text_of (shows x) ≡ None) → (cells : List (Option N)) (values : List AnyValue) (n : ℕ) → length values ≤ n → map (or_null shows) cells ≡ map datum (take n values) → no_views cells ≡ fresh_view_array (data_of values)
fresh shows no_text cells values n h e = sym (fresh_cells shows no_text cells) ∙ ap fresh_view_array (e ∙ ap (map datum) (take_all n values h))

pub returns-clause-views : goal.returns-clause-views
returns-clause-views g c = ap (λ r. r.views) (fresh g.N.Cell.shows g.N.Cell.no_text c.loop-value.cells c.args.values.now c.loop-value.value-index (omega arith) c.loop-value.invariant)

pub returns-clause-buffers : goal.returns-clause-buffers
returns-clause-buffers g c = ap (λ r. r.buffers) (fresh g.N.Cell.shows g.N.Cell.no_text c.loop-value.cells c.args.values.now c.loop-value.value-index (omega arith) c.loop-value.invariant)
