use Rattle.std.proofs.Common.{◌∙◌, ap, arith, map}
use Rattle.tb_chunk.specs.Flag.{FlagHolds}
use Rattle.tb_gather.specs.Gathered.{gathered_flag, value_of_id}
use Rattle.tb_gather.proofs.Flags.{flag-of-run}
use Rattle.tb_gather.proofs.series.gather_column.Goals as goal

pub gather_series-requires : goal.gather_series-requires
gather_series-requires g c =
    let col = c.args.column.now in
    let flag : FlagHolds c.gathered_flag-flag.result col.kind (map (value_of_id col.chunks) c.args.by.now)
    = flag-of-run col c.args.by.now c.args.sorted c.gathered_flag-flag.result c.len-len.ensures.column c.requires.named c.requires.in_order
    (c.gathered_flag-flag.ensures ∙ ap (λ f. gathered_flag f c.args.sorted) c.is_sorted_flag.ensures) in
    rw c.as_materialized_series.ensures (omega arith, (c.requires.named, (c.requires.few, flag)))
