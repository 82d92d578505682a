-- Columns of one chunk.
use Rattle.std.proofs.Common.{arith, ◌≡◌, ◌∙◌, ◌≤◌, List, [], ◌∷◌, length, ap}
use Rattle.std.specs.List.{All}
use Rattle.std.proofs.lemmas.List.{append-nil}
use Rattle.tb_value.specs.Promise.Datum.{Datum}
use Rattle.tb_value.specs.Promise.Kind.{Kind}
use Rattle.tb_value.specs.Promise.Typed.{HasType}
use Rattle.tb_value.specs.declared.limits.TheConstants.{MAX_ROWS}
use Rattle.tb_value.specs.declared.sorted.IsSorted.TheVariants.{Not}
use Rattle.tb_chunk.specs.Promise.Col.{Col, concatenation, values}
use Rattle.tb_chunk.specs.Col.{IsColumn}

-- few values of a type are a column of that type, in one chunk and with the flag Not
pub one_chunk_is_column : (d : Col) (t : Kind) (vs : List Datum) → length vs ≤ MAX_ROWS → All (HasType t) vs → d.kind ≡ t → d.chunks ≡ vs ∷ [] → d.flag ≡ Not → IsColumn d
one_chunk_is_column d t vs few typed same_kind one not =
    let all : values d ≡ vs = ap concatenation one ∙ append-nil vs in
    record {
      chunked = omega (arith, ap length one);
      short = omega (arith, ap length all);
      typed = rw (same_kind, all) typed;
      flag_holds = rw not tt;
    }
