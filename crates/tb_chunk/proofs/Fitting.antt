-- Values of a type fit the chunks that are made of them.
use Rattle.std.proofs.Common.{◌≡◌, List, [], ◌∷◌, refl}
use Rattle.std.specs.List.{All}
use Rattle.std.proofs.lemmas.List.Elements.{All-weaker}
use Rattle.tb_value.specs.Promise.Datum.{Datum}
use Rattle.tb_value.specs.Promise.Kind.{Kind}
use Rattle.tb_value.specs.Promise.Typed.{HasType}
use Rattle.tb_cell.specs.Fits.{Fits}
use Rattle.tb_cell.specs.Physical.{physical}
use Rattle.tb_cell.proofs.Fitting.{fits}
pub use Rattle.tb_cell.proofs.Fitting.{fits_stored, null-only}
use Rattle.tb_chunk.specs.Promise.Col.{concatenation}
use Rattle.tb_chunk.specs.Promise.Made.{at_least_one}

flat-at_least_one : (cs : List (List Datum)) → concatenation (at_least_one cs) ≡ concatenation cs
flat-at_least_one [] = refl
flat-at_least_one (c ∷ cs) = refl

pub fitting : (t : Kind) (cs ds : List (List Datum)) → ds ≡ at_least_one cs → All (HasType t) (concatenation cs) → All (Fits (physical t)) (concatenation ds)
fitting t cs ds e all = rw (e, flat-at_least_one cs) (All-weaker (HasType t) (Fits (physical t)) (fits t) (concatenation cs) all)
