use Rattle.std.proofs.Common.{◌≡◌, ◌∙◌, ◌<◌, ℕ, pos, List, ap, length, map, subst, sym}
use Rattle.std.specs.List.{All}
use Rattle.std.proofs.lemmas.List.{length-map}
use Rattle.tb_agg.specs.Kept.{items_at}
use Rattle.tb_agg.specs.Running.{sum_so_far}
use Rattle.tb_agg.specs.Sums.{shown_sums}
use Rattle.tb_agg.specs.declared.running.Running.{Running}
use Rattle.tb_agg.specs.declared.sums.Sums.{Sums}
use Rattle.tb_agg.proofs.Keeping.{made_at}
use Rattle.tb_agg.proofs.sums.Sums.take.Goals as goal

-- sums, as they are shown
sums_at : (sums taken : List Running) (places : List ℕ) → ((other : Running) → taken ≡ items_at other sums places) → All (λ p. p < length sums) places
    → map sum_so_far taken ≡ items_at (pos 0) (map sum_so_far sums) places
sums_at sums taken places is low =
    let zero : Running = record { low = pos 0; wraps = pos 0 } in
    ap (map sum_so_far) (is zero) ∙ sym (made_at sum_so_far sums places zero (pos 0) low)

pub returns-in_ok-items_at-in-Wide : goal.returns-in_ok-items_at-in-Wide
returns-in_ok-items_at-in-Wide c =
    let sums = c.in-Wide.sums.items in
    let places = c.args.places.now in
    let low : All (λ p. p < length sums) places =
    subst (λ (n : ℕ). All (λ p. p < n) places) (ap (λ (s : Sums). length (shown_sums s)) c.in-Wide.is ∙ length-map sums sum_so_far) c.requires in
    sums_at sums c.in_ok-items_at-in-Wide.field-0.items places
    (λ other. c.in_ok-items_at-in-Wide.ensures other ∙ ap (λ (l : List Running). items_at other l places) c.deref-in-Wide.ensures.value) low
    ∙ sym (ap (λ (s : Sums). items_at (pos 0) (shown_sums s) places) c.in-Wide.is)
