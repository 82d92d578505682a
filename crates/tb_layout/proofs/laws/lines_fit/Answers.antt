use Rattle.std.proofs.Common.{◌≤◌, get_or}
use Rattle.std.proofs.lemmas.List.Elements.{All-map}
use Rattle.tb_frame.specs.Promise.Table.{height}
use Rattle.tb_layout.specs.Promise.Characters.{cut, trimmed_text, width_of}
use Rattle.tb_layout.specs.Promise.Lines.{shown, whole_lines}
use Rattle.tb_layout.proofs.Widths.{trimmed_fits}
use Rattle.tb_layout.proofs.laws.lines_fit.Goals as goal

pub returns : goal.returns
returns c line t =
    let whole = whole_lines line (shown line t) (height t) in
    All-map (λ l. width_of l ≤ line) (λ l. trimmed_text (cut line l)) whole (λ k d low. trimmed_fits line (get_or whole k d))
