use Rattle.std.proofs.Common.{◌<◌, Bor, length, refl}
use Rattle.std.proofs.lemmas.List.Elements.{All-map}
use Rattle.tb_chunk.specs.Promise.Col.{Col}
use Rattle.tb_gather.proofs.Picked.{All-unmap}
use Rattle.tb_gather.proofs.lent.are_cut_for_ids.Goals as goal

abbrev HasFewChunks : Col → Type 0
HasFewChunks c = length c.chunks < 16777215

pub returns-then-are_all_cut_alike : goal.returns-then-are_all_cut_alike
returns-then-are_all_cut_alike c = (
  λ h. record {
    alike = c.if-are_all_cut_alike.ensures.0 refl;
    few = All-map HasFewChunks (λ (b : Bor Col). b.now) c.args.columns.now (c.have_few_chunks.ensures.0 h);
  },
  λ cut. c.have_few_chunks.ensures.1 (All-unmap HasFewChunks (λ (b : Bor Col). b.now) c.args.columns.now cut.few),
)
