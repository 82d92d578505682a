use Rattle.std.proofs.Common.{◌∙◌, map, ap}
use Rattle.std.proofs.lemmas.List.Elements.{All-weaker}
use Rattle.tb_value.specs.declared.index.JoinPair.{JoinPair}
use Rattle.tb_chunk.specs.Rows.{IsRowOf}
use Rattle.tb_frame.specs.Answer.{IsPairOf}
use Rattle.tb_frame.specs.Frame.{opt_taken_rows}
use Rattle.tb_frame.specs.Promise.Table.{height, table_of}
use Rattle.tb_frame.proofs.Filled.{left_within, right_within}
use Rattle.tb_join.proofs.KeptColumns.{without_names_none}
use Rattle.tb_dispatch.proofs.left.halves.Goals as goal

pub half-requires-clause-rows : goal.half-requires-clause-rows
half-requires-clause-rows g c κs within = left_within (height (table_of c.args.left.now)) (height (table_of c.args.right.now)) c.args.pairs.now c.requires.pairs

pub half-requires-2-clause-rows : goal.half-requires-2-clause-rows
half-requires-2-clause-rows g c κs within =
    let n = height (table_of c.args.right.now) in
    right_within n c.args.pairs.now (All-weaker (IsPairOf (height (table_of c.args.left.now)) n) (λ (p : JoinPair). IsRowOf n p.right) (λ p h. h.1) c.args.pairs.now c.requires.pairs)

pub returns : goal.returns
returns g c = (
  c.in_ok-left.ensures ∙ ap (map (opt_taken_rows (map (λ (p : JoinPair). p.left) c.args.pairs.now))) (without_names_none c.args.left.now),
  c.in_ok-right.ensures,
)
