use Rattle.std.proofs.Common.{◌≡◌, ◌∙◌, Bor, Global, List, Vec, ℕ, ap, arith, length, subst}
use Rattle.std.specs.List.{AllZip}
use Rattle.tb_csv.specs.Read.{AreRunsFrom, rows_in}
use Rattle.tb_csv.specs.declared.records.Records.{Records}
use Rattle.tb_csv.specs.declared.run.Run.{Run}
use Rattle.tb_csv.proofs.InPieces.{read_in_pieces}
use Rattle.tb_csv.proofs.in_pieces.records_of_pieces.Goals as goal

pub returns : goal.returns
returns g c =
    let separator = c.args.separator in
    let names = c.in_ok-names.names in
    let pieces = c.in_ok-pieces.pieces.items in
    let parts = c.in_ok-runs.runs.items in
    let r : Records = record { names = names; runs = c.in_ok-runs-2.runs; height = c.in_ok-height.height } in
    let width : c.len.result ≡ length names.items = omega (arith, c.len.ensures, names.ok.0) in
    let zipped = subst (λ w. AllZip (λ (p : Bor (List ℕ)) (v : Vec Run Global). AreRunsFrom separator w p.now v.items) pieces parts) width
    (subst (λ ps. AllZip (λ (p : Bor (List ℕ)) (v : Vec Run Global). AreRunsFrom separator c.len.result p.now v.items) ps parts) c.deref.ensures.value c.in_ok-runs.ensures) in
    let height = c.in_ok-height.ensures.0 ∙ ap rows_in c.deref-2.ensures.value in
    let all = read_in_pieces separator (λ (p : Bor (List ℕ)). p.now) (λ (v : Vec Run Global). v.items) c.args.text.now c.cut.result.0.now c.cut.result.1.now pieces parts r c.requires.separator c.cut.ensures.whole
    c.in_ok-pieces.ensures.whole c.in_ok-pieces.ensures.cut c.in_ok-names.ensures.sound c.in_ok-names.ensures.names zipped c.in_ok-runs-2.ensures height c.in_ok-height.ensures.1 in
    record { sound = all.0; read = all.1; level = all.2 }
