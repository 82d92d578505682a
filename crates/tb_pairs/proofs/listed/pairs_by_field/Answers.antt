use Rattle.std.proofs.Common.{refl}
use Rattle.tb_frame.specs.Promise.Join.{listing}
use Rattle.tb_keys.specs.Asked.{asked_request}
use Rattle.tb_pairs.proofs.InOrder.{found_freely}
use Rattle.tb_pairs.proofs.listed.pairs_by_field.Goals as goal

pub returns-clause-found : goal.returns-clause-found
returns-clause-found c = found_freely (listing (asked_request c.args.request.now)) _ c.in_ok-pairs.ensures refl
