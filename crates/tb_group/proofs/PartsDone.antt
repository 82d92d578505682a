-- What the parts of a grouping give together.
use Rattle.std.proofs.Common.{◌≡◌, ◌∙◌, ◌+◌, ℕ, Bool, true, false, List, Option, Some, None, if◌then◌else◌, length, map, refl, sym, ap}
use Rattle.std.specs.List.{filter_map}
use Rattle.std.specs.Option.{option_map}
use Rattle.tb_value.specs.Promise.Pairs.{row_numbers}
use Rattle.tb_build.specs.Phases.{AreGiven}
use Rattle.tb_build.specs.Plan.{part_start, scattered_rows}
use Rattle.tb_build.specs.Promise.Plan.{part_rows}
use Rattle.tb_rows.specs.InGroups.{firsts_in}
use Rattle.tb_group.specs.Asked.{Asked}
use Rattle.tb_group.specs.Parts.{group_count, has_work, part_view, rows_of_part, shown_part, work_view, PartView}
use Rattle.tb_group.specs.Trace.{part_views}
use Rattle.tb_group.specs.declared.part.PartGroups.{PartGroups}
use Rattle.tb_group.proofs.Done.{counts_are, views_are}
use Rattle.tb_group.proofs.Starts.{rows_are}
use Rattle.tb_group.proofs.Works.{no_rows}

-- how many groups a part shows
abbrev shown_count : Option PartView → ℕ
shown_count None = 0
shown_count (Some v) = length v.firsts

counted : (o : Option PartGroups) → group_count o ≡ shown_count (option_map shown_part o)
counted None = refl
counted (Some p) = refl

module _ (test : ℕ → ℕ → Bool) (asked : List Asked) (codes : List ℕ) (n : ℕ) (idxs starts : List ℕ)
    (rows : idxs ≡ scattered_rows codes n) (begin : starts ≡ map (part_start codes n) (row_numbers (n + 1))) (done : List (Option PartGroups))
    (given : AreGiven (λ p (o : Option PartGroups). option_map shown_part o ≡ work_view test asked p (rows_of_part idxs starts p)) n done) where
  abbrev works : ℕ → Bool
  works p = has_work p (part_rows codes n p)

  abbrev view : ℕ → PartView
  view p = part_view test asked (part_rows codes n p)

  settled : AreGiven (λ p (o : Option PartGroups). option_map shown_part o ≡ (if works p then Some (view p) else None)) n done
  settled = record {
    count = given.count;
    each = λ p o low. given.each p o low ∙ ap (work_view test asked p) (rows_are codes n idxs starts rows begin p low);
  }

  pub views_given : map shown_part (filter_map (λ (o : Option PartGroups). o) done) ≡ part_views test asked codes n
  views_given = views_are shown_part works view n done settled

  pub groups_given : map group_count done ≡ map (λ p. length (firsts_in test (part_rows codes n p))) (row_numbers n)
  groups_given = counts_are shown_part works view n done settled group_count shown_count (λ p. length (firsts_in test (part_rows codes n p))) counted due
    where
      due : (p : ℕ) → shown_count (if works p then Some (view p) else None) ≡ length (firsts_in test (part_rows codes n p))
      due p = by (works p) refl
        where
          by : (b : Bool) → works p ≡ b → shown_count (if works p then Some (view p) else None) ≡ length (firsts_in test (part_rows codes n p))
          by true e = ap (λ (b : Bool). shown_count (if b then Some (view p) else None)) e
          by false e =
              ap (λ (b : Bool). shown_count (if b then Some (view p) else None)) e
              ∙ sym (ap (λ (l : List ℕ). length (firsts_in test l)) (no_rows p (part_rows codes n p) e))
