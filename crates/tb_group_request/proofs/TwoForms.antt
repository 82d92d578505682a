-- Requests of both formats are read alike.
use Rattle.std.proofs.Common.{◌≡◌, List, [], ◌∷◌, refl}
use Rattle.tb_chunk.specs.Promise.Col.{Col}
use Rattle.tb_request.specs.Forms.{expand}
use Rattle.tb_request.specs.Promise.Reading.{first_table}
use Rattle.tb_request.proofs.TwoForms.{request_same}
use Rattle.tb_group_request.specs.Laws.{TwoForms}
use Rattle.tb_group_request.specs.Promise.Reading.{group_in, GroupRequest}
use Rattle.tb_group_request.specs.Promise.Written.{group_of, WrittenGroup}
use Rattle.tb_group_request.proofs.SameShape.{group_of_out, group_out}

abbrev group_made : WrittenGroup → List (List Col) → GroupRequest
group_made w ts = record { table = first_table ts; by = w.by; aggs = w.aggs; exec = w.exec; trace = w.trace }

pub group_same : TwoForms
unfolding group_in
group_same d e p = request_same (λ (w : WrittenGroup). w.table ∷ []) (λ w. w.exec) group_made group_out (λ w. refl) (λ w. refl) (λ w ts. refl) (group_of d) (group_of (expand d)) (λ w. group_of_out d w e) p
