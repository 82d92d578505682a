use Rattle.std.proofs.Common.{◌∷◌, [], sym, subst, arith}
use Rattle.std.specs.List.{All}
use Rattle.tb_chunk.specs.Promise.Col.{Col}
use Rattle.tb_gather.specs.Gathered.{NameRows}
use Rattle.tb_gather.proofs.series.ColumnTakeChunked.take_opt_chunked_unchecked.Goals as goal

pub take_opt_chunked_unchecked-requires : goal.take_opt_chunked_unchecked-requires
take_opt_chunked_unchecked-requires g c =
    let named = subst (λ (s : Col). All (NameRows c.args.by.now) (s ∷ [])) (sym c.as_materialized_series-series.ensures) c.requires.named in
    (omega arith, (named, c.requires.few))
