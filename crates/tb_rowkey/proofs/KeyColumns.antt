-- The column of the keys.
use Rattle.std.proofs.Common.{◌≡◌, ◌≤◌, List, [], ◌∷◌, length, ap, ◌∙◌, arith}
use Rattle.std.specs.List.{All}
use Rattle.std.proofs.lemmas.List.{append-nil}
use Rattle.tb_value.specs.Promise.Datum.{Datum}
use Rattle.tb_value.specs.Promise.Kind as kind
use Rattle.tb_value.specs.Promise.Typed.{HasType}
use Rattle.tb_value.specs.declared.limits.TheConstants.{MAX_ROWS}
use Rattle.tb_value.specs.declared.sorted.IsSorted.TheVariants.{Not}
use Rattle.tb_chunk.specs.Promise.Col.{Col, concatenation, values}
use Rattle.tb_chunk.specs.Col.{IsColumn}

pub bytes_column : (d : Col) (vs : List Datum) → length vs ≤ MAX_ROWS → All (HasType kind.binary) vs → d.kind ≡ kind.binary → d.chunks ≡ vs ∷ [] → d.flag ≡ Not
    → IsColumn d
bytes_column d vs few typed same_kind one not =
    let all : values d ≡ vs = ap concatenation one ∙ append-nil vs in
    record {
      chunked = omega (arith, ap length one);
      short = omega (arith, ap length all);
      typed = rw (same_kind, all) typed;
      flag_holds = rw not tt;
    }
