use Rattle.std.proofs.Common.{rules, ◌≡◌, ◌∙◌, ap, sym}
use Rattle.tb_value.specs.SeeKind.{kind_of}
use Rattle.tb_chunk.specs.Col.{physical}
use Rattle.tb_chunk.specs.Physical.{kind_for}
use Rattle.tb_chunk.specs.Seen.{storage}
use Rattle.tb_cell.specs.contracts.marker.Physical.{the_type}
use denote.Enum.Bare.{differs_false}
use Rattle.tb_store.proofs.series.Series.from_arrays.Goals as goal

pub returns : goal.returns
returns c =
    let same : c.physical.result ≡ c.physical_of.result = differs_false the_type (search rules) _ _ (sym c.ne.ensures ∙ c.if-ne.false) in
    let stored : storage c.args.arrays ≡ physical (kind_of c.args.dtype) = sym c.physical.ensures ∙ (ap kind_for same ∙ c.physical_of.ensures) in
    let made = c.in_ok-chunks.ensures.made in
    (stored, made.0, made.1, cc)
