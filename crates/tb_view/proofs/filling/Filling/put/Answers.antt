use Rattle.std.proofs.Common.{arith, ◌≡◌, ◌∙◌, ℕ, List, [], length, map, ap}
use Rattle.std.proofs.lemmas.List.{length-map}
use Rattle.tb_view.specs.Promise.Layout.{long_view}
use Rattle.tb_view.specs.Layout.{all_of}
use Rattle.tb_view.proofs.Filled.{IsBehind, put_fits, put_passes}
use Rattle.tb_view.proofs.filling.Filling.put.Goals as goal

pub returns-then-len-text-gt-MOST-clause-ok : goal.returns-then-len-text-gt-MOST-clause-ok
returns-then-len-text-gt-MOST-clause-ok c =
    let s = c.args.self.now in
    let t = c.args.text.now in
    let full = c.self-then-len-text-gt-MOST.inside.full in
    let k : length full.items ≡ length (all_of s) = omega (arith, length-map full.items (λ b. b.items), ap (λ p. length p.0) (c.self-then-len-text-gt-MOST.view_is ∙ c.in_ok-begin.ensures.ok)) in
    let p : IsBehind (all_of s) [] t c.long.result = record {
      len = c.long.ensures.length;
      front = c.long.ensures.front;
      buffer = omega (arith, k, c.long.ensures.buffer, c.len-then-len-text-gt-MOST.ensures);
      offset = c.long.ensures.offset;
      is = c.long.ensures.is ∙ ap (λ n. long_view t n 0) (omega (arith, k, c.len-then-len-text-gt-MOST.ensures));
    } in
    rw c.in_ok-begin.ensures.ok (put_passes s t c.long.result c.requires.long (omega (arith, c.if-len-text-gt-MOST.true, ap (λ q. length q.1) c.self.view_is)) p)

at_place : (t : List ℕ) (n o number offset : ℕ) → n ≡ number → o ≡ offset → long_view t n o ≡ long_view t number offset
at_place t n o number offset e f = λ i. long_view t (e i) (f i)

pub returns-clause-ok : goal.returns-clause-ok
returns-clause-ok c =
    let full : List (List ℕ) = map (λ b. b.items) c.self.inside.full.items in
    let last = c.self.inside.last.items in
    let t = c.args.text.now in
    let p : IsBehind full last t c.long-view.result = record {
      len = c.long-view.ensures.length;
      front = c.long-view.ensures.front;
      buffer = omega (arith, length-map c.self.inside.full.items (λ b. b.items), c.long-view.ensures.buffer);
      offset = omega (arith, c.long-view.ensures.offset);
      is = c.long-view.ensures.is ∙ at_place t _ _ (length full) (length last) (omega (arith, length-map c.self.inside.full.items (λ b. b.items))) (omega arith);
    } in
    rw (c.in_ok-extend_from_slice.ensures.items, ← c.self.view_is) (put_fits (full, last) t c.long-view.result c.requires.long (omega (arith, c.if-len-text-gt-MOST.false)) p)
