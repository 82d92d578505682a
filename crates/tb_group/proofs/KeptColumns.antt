-- Columns of what parts keep, and what is told of them by their places.
use Rattle.std.proofs.Common.{◌≡◌, ◌∙◌, ◌<◌, ℕ, List, [], ◌∷◌, append-nil, Option, Some, None, get_or, length, map, unwrap_or, sym, ap, arith}
use Rattle.std.specs.Prelude.{IsSomeAnd}
use Rattle.std.proofs.lemmas.List.{get_or-map, length-map}
use Rattle.tb_value.specs.Promise.Datum.{Datum}
use Rattle.tb_value.specs.Promise.Kind.{Kind}
use Rattle.tb_value.specs.Promise.Kind as kind
use Rattle.tb_value.specs.Promise.Names.{Name}
use Rattle.tb_value.specs.declared.sorted.IsSorted.TheVariants.{Not}
use Rattle.tb_chunk.specs.Made.{IsOf}
use Rattle.tb_chunk.specs.Promise.Col.{Col, values}
use Rattle.tb_frame.specs.Promise.Table.{plain_column}
use Rattle.tb_agg.specs.Kept.{KeptView, kept_kind, kept_values, IsKeptColumn}
use Rattle.tb_group.specs.Asked.{Asked, asked_as, asked_list}
use Rattle.tb_group.specs.Parts.{PartView}
use Rattle.tb_group.specs.Whole.{cause_at, made_cause, made_column, no_column, placed_at, AreWholeAt, CanBeMade}
use Rattle.tb_group.specs.declared.lookup.AskedColumn.{AskedColumn}
use Rattle.tb_group.proofs.Pieces.{seen_at}

-- a column that is made of what is kept, as it is seen
pub column_seen : (name : Name) (c : Col) (k : KeptView) (s : Col) → IsKeptColumn name c k s → plain_column s ≡ record { name = name; kind = unwrap_or (kept_kind c.kind k) kind.null; values = kept_values (values c) k }
column_seen name c k s is = by (kept_kind c.kind k) is
  where
    vs : List Datum
    vs = kept_values (values c) k

    by : (o : Option Kind) → IsSomeAnd o (λ t. IsOf name t (vs ∷ []) Not s) → plain_column s ≡ record { name = name; kind = unwrap_or o kind.null; values = vs }
    by None h = absurd h
    by (Some t) h =
        let all : values s ≡ vs = ap values h ∙ append-nil vs in
        let kinds : s.kind ≡ t = ap (λ (d : Col). d.kind) h in
        let named : s.name ≡ name = ap (λ (d : Col). d.name) h in
        λ i. record { name = named i; kind = kinds i; values = all i }

-- the aggregate that is asked for at a place, and the one that is made for it
module _ (asked made : List AskedColumn) (seats : List ℕ) (views : List PartView) (places : List ℕ) (k : ℕ) (r m : AskedColumn)
    (low : k < length asked) (is : r ≡ get_or asked k r) (there : get_or seats k 0 < length made) (own : m ≡ get_or made (get_or seats k 0) m) where
  abbrev seat : ℕ
  seat = get_or seats k 0

  pub cause_seen : cause_at (asked_list asked) (asked_list made) seats views places k ≡ made_cause r.asked.now.column (asked_as m) seat views places
  cause_seen =
      seen_at asked_as (λ (a : Asked). made_cause (get_or (map (λ (b : Asked). b.0.column) (asked_list asked)) k []) a seat views places) made seat m None there own
      ∙ ap (λ (n : Name). made_cause n (asked_as m) seat views places) (seen_at asked_as (λ (b : Asked). b.0.column) asked k r [] low is)

  pub placed_seen : placed_at (asked_list asked) (asked_list made) seats views places k ≡ made_column r.asked.now.name (asked_as m) seat views places
  placed_seen =
      seen_at asked_as (λ (a : Asked). made_column (get_or (map (λ (b : Asked). b.0.name) (asked_list asked)) k []) a seat views places) made seat m no_column there own
      ∙ ap (λ (n : Name). made_column n (asked_as m) seat views places) (seen_at asked_as (λ (b : Asked). b.0.name) asked k r [] low is)

pub seat_low : (made : List AskedColumn) (seats : List ℕ) (views : List PartView) (places : List ℕ) (k : ℕ) → k < length seats → AreWholeAt (asked_list made) seats views places → get_or seats k 0 < length made
seat_low made seats views places k low whole = let h : get_or seats k 0 < length (asked_list made) = whole.1 k 0 low in omega (arith, h, length-map made asked_as)

pub can_be : (made : List AskedColumn) (seats : List ℕ) (views : List PartView) (places : List ℕ) (seat : ℕ) (m : AskedColumn) → seat < length made → m ≡ get_or made seat m
    → AreWholeAt (asked_list made) seats views places → CanBeMade places (asked_as m) seat views
can_be made seats views places seat m there own whole =
    whole.0.each seat (asked_as m) (omega (arith, there, length-map made asked_as))
    (sym (get_or-map asked_as made seat m (asked_as m) there ∙ ap asked_as (sym own)))
