use Rattle.std.proofs.Common.{◌≡◌, ◌<◌, List, [], length, get_or, map, ap, sym, ◌∙◌, arith, refl, subst, inr, ℕ, Option, Some, None, Bor}
use Rattle.std.specs.List.{find}
use Rattle.std.specs.Option.{option_map}
use Rattle.std.proofs.lemmas.List.{length-map, get_or-map}
use Rattle.tb_value.specs.Promise.Names.{Name}
use Rattle.tb_value.specs.Promise.Pairs.{row_numbers}
use Rattle.tb_value.specs.declared.error.PolarsError.TheVariants.{Duplicate}
use Rattle.tb_frame.specs.NameSets.{has_name}
use Rattle.tb_frame.specs.Promise.Refusal.{name_at, repeats}
use Rattle.tb_frame.proofs.Seen.{seen_more, fresh_more, repeated_here}
use Rattle.tb_frame.proofs.names.check_distinct.Goals as goal

-- the names that references lend
abbrev lent_names : List (Bor Name) → List Name
lent_names rs = map (λ (n : Bor Name). n.now) rs

below : (rs : List (Bor Name)) (i : ℕ) → i < length rs → i < length (lent_names rs)
below rs i low = let long = length-map rs (λ (n : Bor Name). n.now) in omega (arith, long)

name-at : (rs : List (Bor Name)) (i : ℕ) (r : Bor Name) → i < length rs → r ≡ get_or rs i r → r.now ≡ get_or (lent_names rs) i []
name-at rs i r low is = ap (λ (n : Bor Name). n.now) is ∙ sym (get_or-map (λ (n : Bor Name). n.now) rs i r [] low)

pub loop-name-init : goal.loop-name-init
loop-name-init c = record { fresh = refl; seen = c.new-seen.ensures }

pub loop-name-preserved : goal.loop-name-preserved
loop-name-preserved c =
    let rs = c.args.names.now in
    let i = c.loop-name.name-index in
    let low = below rs i c.loop-name-test.true in
    let is = name-at rs i c.name-item.result c.loop-name-test.true c.name-item.is in
    record {
      fresh = fresh_more (lent_names rs) i c.name-item.result.now low is (has_name c.loop-name.seen) c.loop-name.invariant.seen c.loop-name.invariant.fresh (sym c.if-not-branch.false ∙ c.in_ok-insert.ensures.added);
      seen = seen_more (lent_names rs) i c.name-item.result.now low is (has_name c.loop-name.seen) (has_name c.insert.new.self) c.loop-name.invariant.seen c.in_ok-insert.ensures.names;
    }

pub returns-then-not-branch : goal.returns-then-not-branch
returns-then-not-branch c =
    let rs = c.args.names.now in
    let i = c.loop-name.name-index in
    let low = below rs i c.loop-name-test.true in
    let is = name-at rs i c.name-item.result c.loop-name-test.true c.name-item.is in
    let first = repeated_here (lent_names rs) i c.name-item.result.now low is (has_name c.loop-name.seen) c.loop-name.invariant.seen c.loop-name.invariant.fresh (sym c.if-not-branch.true ∙ c.in_ok-insert.ensures.added) in
    inr (ap (option_map (λ (n : Name). Duplicate n)) first ∙ ap (λ (n : Name). Some (Duplicate n)) (sym c.in_ok-copy.ensures))

pub returns : goal.returns
returns c =
    let rs = c.args.names.now in
    let all : c.loop-name.name-index ≡ length (lent_names rs) = let long = length-map rs (λ (n : Bor Name). n.now) in omega (arith, long) in
    let none : find (repeats (lent_names rs)) (row_numbers (length (lent_names rs))) ≡ None = subst (λ (k : ℕ). find (repeats (lent_names rs)) (row_numbers k) ≡ None) all c.loop-name.invariant.fresh in
    ap (λ (o : Option ℕ). option_map (λ (n : Name). Duplicate n) (option_map (name_at (lent_names rs)) o)) none
