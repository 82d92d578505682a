-- Fields that lie in a text.
use Rattle.std.specs.Prelude.{◌≤◌, ℕ, List, length, slice_range}
use Rattle.tb_csv.specs.declared.spans.Span.{Span}

-- the bytes that lie there
abbrev pub bytes_at : List ℕ → Span → List ℕ
bytes_at text s = slice_range text s.start s.end

abbrev pub LiesIn : List ℕ → Span → Type 0
LiesIn text s = (s.start ≤ s.end) × (s.end ≤ length text)
