use Rattle.std.proofs.Common.{◌≡◌, ◌∙◌, [], List, None, ap, sym, length, replicate}
use Rattle.std.specs.List.{All}
use Rattle.std.proofs.lemmas.List.{length-map}
use Rattle.tb_value.specs.Promise.Datum.{null}
use Rattle.tb_value.specs.See.{datum, data_of}
use Rattle.tb_value.specs.Promise.Kind as kind
use Rattle.std.proofs.lemmas.List.Elements.{All-weaker}
use Rattle.tb_cell.specs.Fits.{Fits}
use Rattle.tb_value.specs.declared.any_value.AnyValue.{AnyValue}
use Rattle.tb_chunk.specs.Promise.Fresh.{fresh_view_array}
use Rattle.tb_chunk.proofs.Fresh.{fresh_nulls}
use Rattle.tb_cell.proofs.Fitting.{null-only}
use Rattle.tb_chunk.proofs.Lists.{replicate-nulls}
use Rattle.tb_chunk.proofs.chunk.UsizeChunk.from_values.Goals as goal

same : (values : List AnyValue) → All (Fits kind.null) (data_of values) → replicate (length values) null ≡ data_of values
same values all = ap (λ n. replicate n null) (sym (length-map values datum)) ∙ replicate-nulls (data_of values) (All-weaker (Fits kind.null) (λ v. v ≡ null) null-only (data_of values) all)

fresh : (values : List AnyValue) → All (Fits kind.null) (data_of values) → record { views = replicate (length values) None; buffers = [] } ≡ fresh_view_array (data_of values)
fresh values all = sym (fresh_nulls (length values)) ∙ ap fresh_view_array (same values all)

pub returns-clause-shown : goal.returns-clause-shown
returns-clause-shown c = same c.args.values.now c.requires

pub returns-clause-views : goal.returns-clause-views
returns-clause-views c = ap (λ r. r.views) (fresh c.args.values.now c.requires)

pub returns-clause-buffers : goal.returns-clause-buffers
returns-clause-buffers c = ap (λ r. r.buffers) (fresh c.args.values.now c.requires)
