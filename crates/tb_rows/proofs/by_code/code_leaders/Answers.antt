use Rattle.std.proofs.Common.{◌≡◌, ◌∙◌, ◌+◌, ◌<◌, ◌≤◌, ◌∷◌, [], ◌++◌, ℕ, Bool, List, get_or, length, ap, sym, arith, ⊎_elim}
use Rattle.std.specs.Prelude.{unwrap_or}
use Rattle.std.specs.BTreeMap.{get}
use Rattle.std.specs.Ordering.{nat_cmp}
use Rattle.std.proofs.Math.Seq.{get_or-append_seam}
use Rattle.std.proofs.lemmas.Bool.{cases_lt}
use Rattle.std.proofs.lemmas.List.{get_or_append_left, length-append}
use Rattle.tb_rows.specs.Coded.{leader, named_code, same_code}
use Rattle.tb_rows.specs.Fields.{fields_at, row_code}
use Rattle.tb_rows.specs.Names.{name_of}
use Rattle.tb_rows.proofs.ByCode.{first_leads, first_with, kept_more}
use Rattle.tb_rows.proofs.by_code.code_leaders.Goals as goal

-- one leader more
each_more : (test : ℕ → ℕ → Bool) (n : ℕ) (old new : List ℕ) (at now : ℕ) → new ≡ old ++ now ∷ [] → length old ≡ at → now ≡ leader test n at
    → ((j : ℕ) → j < at → get_or old j 0 ≡ leader test n j) → (j : ℕ) → j < at + 1 → get_or new j 0 ≡ leader test n j
each_more test n old new at now put long is each j under =
    ap (λ (ls : List ℕ). get_or ls j 0) put ∙ ⊎_elim
    (λ (before : j < at). get_or_append_left old (now ∷ []) 0 j (omega (arith, before, long)) ∙ each j before)
    (λ (last : at ≤ j).
    let here : j ≡ length old = omega (arith, under, last, long) in
    let own : j ≡ at = omega (arith, under, last) in
    ap (λ k. get_or (old ++ now ∷ []) k 0) here ∙ get_or-append_seam old now [] 0 ∙ is ∙ ap (leader test n) (sym own))
    (cases_lt j at)

pub loop-place-preserved : goal.loop-place-preserved
loop-place-preserved g c =
    let cs = g.V.RowValues.columns c.args.rows.now in
    let name = name_of c.args.names in
    let at = c.loop-place.place in
    let low : at < c.args.len = omega arith in
    let code : ℕ → ℕ = named_code cs name in
    let is : c.code-code.result ≡ code at = c.code-code.ensures ∙ ap (λ (i : ℕ). row_code (fields_at cs i)) c.name.ensures in
    let now = c.in_ok-place_of.ensures.value ∙ ap (λ o. unwrap_or o at) (c.loop-place.invariant.kept c.code-code.result ∙ ap (first_with code at) is) ∙ first_leads code c.args.len at low in
    record {
      recent = c.in_ok-place_of.ensures.recent;
      kept = kept_more code at c.code-code.result (λ q. get nat_cmp c.loop-place.places.kept q) (λ q. get nat_cmp c.place_of.new.self.kept q) is c.loop-place.invariant.kept c.in_ok-place_of.ensures.kept;
      count = ap length c.in_ok-push.ensures.items ∙ length-append c.loop-place.leaders.items (c.in_ok-place_of.field-0 ∷ []) ∙ omega (arith, c.loop-place.invariant.count);
      each = each_more (same_code cs name) c.args.len c.loop-place.leaders.items c.push.new.self.items at c.in_ok-place_of.field-0 c.in_ok-push.ensures.items c.loop-place.invariant.count now c.loop-place.invariant.each;
    }

pub returns : goal.returns
returns g c =
    let done : c.loop-place.place ≡ c.args.len = omega arith in
    record {
      count = c.loop-place.invariant.count ∙ done;
      each = λ j low. c.loop-place.invariant.each j (omega (arith, low, done));
    }
