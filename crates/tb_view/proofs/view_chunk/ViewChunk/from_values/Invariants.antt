use Rattle.std.proofs.Common.{◌≡◌, map, take}
use Rattle.tb_value.specs.See.{datum}
use Rattle.tb_view.specs.Layout.{building_of}
use Rattle.tb_value.specs.Promise.Texts.{text_of}
use Rattle.tb_view.proofs.view_chunk.ViewChunk.from_values.Given as goal

abbrev pub invariant-loop-value : goal.invariant-loop-value
invariant-loop-value l = l.builder ≡ building_of (map (λ v. text_of (datum v)) (take l.value-index l.values))
