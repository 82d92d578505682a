use Rattle.std.proofs.Common.{rules}
use Rattle.tb_pairs.proofs.listed.listed_pairs.Goals as goal

pub returns-in_err-traced_pairs : goal.returns-in_err-traced_pairs
returns-in_err-traced_pairs g c = record { settles = search rules; listed = search rules }

pub returns : goal.returns
returns g c = record { settles = c.in_ok-traced_pairs.ensures.settles; listed = c.in_ok-traced_pairs.ensures.listed }
