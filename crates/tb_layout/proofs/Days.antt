-- Of a type only whether it is one of days shows in a cell.
use Rattle.std.proofs.Common.{◌≡◌, ◌∷◌, ◌∙◌, [], ℕ, Bool, true, false, List, refl, ap, max, min}
use Rattle.std.specs.List.{fold}
use Rattle.tb_value.specs.Promise.Datum.{Datum}
use Rattle.tb_value.specs.Promise.Datum as value
use Rattle.tb_value.specs.Promise.Kind.{Kind}
use Rattle.tb_date.specs.Promise.Dates.{is_date}
use Rattle.tb_layout.specs.Cells.{kind_by_day, padded_value}
use Rattle.tb_layout.specs.Promise.Characters.{shown_text, width_of}
use Rattle.tb_layout.specs.Promise.Lines.{cell_of, cell_text, is_number, padded_cell}
use Rattle.tb_layout.specs.Widths.{widest_cell}

pub day_of : (b : Bool) → is_date (kind_by_day b) ≡ b
day_of true = refl
day_of false = refl

pub text_by_day : (k : Kind) (v : Datum) → cell_text (kind_by_day (is_date k)) v ≡ cell_text k v
text_by_day k value.null = refl
text_by_day k (value.boolean b) = refl
text_by_day k (value.int z) = rw (day_of (is_date k)) refl
text_by_day k (value.string s) = refl
text_by_day k (value.binary s) = refl
text_by_day k (value.list vs) = refl
text_by_day k (value.struct vs) = refl

cell_by_day : (k : Kind) (v : Datum) → cell_of (kind_by_day (is_date k)) v ≡ cell_of k v
cell_by_day k v = ap shown_text (text_by_day k v)

pub padded_by_day : (k : Kind) (width : ℕ) (v : Datum) → padded_value (kind_by_day (is_date k)) width v ≡ padded_value k width v
padded_by_day k width v = ap (padded_cell (is_number v) width) (cell_by_day k v)

wider_by_day : (k : Kind) (w : ℕ) (vs : List Datum) → fold (λ n v. max n (width_of (cell_of (kind_by_day (is_date k)) v))) w vs ≡ fold (λ n v. max n (width_of (cell_of k v))) w vs
wider_by_day k w [] = refl
wider_by_day k w (v ∷ vs) =
    ap (λ cs. fold (λ n u. max n (width_of (cell_of (kind_by_day (is_date k)) u))) (max w (width_of cs)) vs) (cell_by_day k v)
    ∙ wider_by_day k (max w (width_of (cell_of k v))) vs

pub widest_by_day : (line : ℕ) (k : Kind) (vs : List Datum) → widest_cell line (kind_by_day (is_date k)) vs ≡ widest_cell line k vs
widest_by_day line k vs = ap (min line) (wider_by_day k 0 vs)
