use Rattle.std.proofs.Common.{◌≡◌, true, take}
use Rattle.std.specs.List.{list_all}
use Rattle.tb_chunk.specs.Promise.Col.{Col}
use Rattle.tb_frame.specs.Refusal.{fits}
use Rattle.tb_frame.specs.Promise.Table.{plain_column}
use Rattle.tb_dispatch.proofs.given.all_fit.Given as goal

abbrev pub invariant-loop-key : goal.invariant-loop-key
invariant-loop-key l = list_all (λ (c : Col). fits l.height (plain_column c)) (take l.key-index l.keys) ≡ true
