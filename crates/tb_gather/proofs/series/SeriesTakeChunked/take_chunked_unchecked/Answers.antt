use Rattle.std.proofs.Common.{◌∙◌, ap, arith}
use Rattle.tb_gather.specs.Gathered.{gathered_flag, NameRows}
use Rattle.tb_gather.proofs.Flags.{flag-of-named}
use Rattle.tb_gather.proofs.series.SeriesTakeChunked.take_chunked_unchecked.Goals as goal

pub gather_series-requires : goal.gather_series-requires
gather_series-requires g c =
    let named : NameRows c.args.by.now c.args.self.now = c.requires.named 0 c.args.self.now (omega arith) in
    let flag =
    flag-of-named c.args.self.now c.args.by.now c.args.sorted c.gathered_flag-flag.result c.len-len.ensures.column c.requires.present named c.requires.in_order
    (c.gathered_flag-flag.ensures ∙ ap (λ f. gathered_flag f c.args.sorted) c.is_sorted_flag.ensures)
    in
    (omega arith, (named, (c.requires.few, flag)))
