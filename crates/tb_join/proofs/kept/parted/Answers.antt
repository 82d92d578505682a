use Rattle.std.proofs.Common.{◌≡◌, ◌∙◌, ◌++◌, ◌∷◌, [], Bool, true, false, not, cond, List, append-nil, ap, sym}
use Rattle.std.specs.Prelude.{filter}
use Rattle.std.proofs.lemmas.List.Elements.{filter-append}
use Rattle.tb_chunk.specs.Promise.Col.{Col}
use Rattle.tb_frame.specs.Promise.Naming.{is_among}
use Rattle.tb_join.proofs.kept.parted.Goals as goal

-- one more item, which passes the test or doesn't
stays : {X : Type 0} (p : X → Bool) (xs kept : List X) (x : X) → kept ≡ filter p xs → p x ≡ true → kept ++ x ∷ [] ≡ filter p (xs ++ x ∷ [])
stays p xs kept x is passes = (λ t. is t ++ cond (sym passes t) (x ∷ []) []) ∙ sym (filter-append p xs (x ∷ []))

goes : {X : Type 0} (p : X → Bool) (xs kept : List X) (x : X) → kept ≡ filter p xs → p x ≡ false → kept ≡ filter p (xs ++ x ∷ [])
goes p xs kept x is fails = is ∙ sym (append-nil (filter p xs)) ∙ (λ t. filter p xs ++ cond (sym fails t) (x ∷ []) []) ∙ sym (filter-append p xs (x ∷ []))

pub loop-column-preserved : goal.loop-column-preserved
loop-column-preserved c =
    let names = c.args.names.now in
    let x = c.in-Some.column in
    let among : Col → Bool = λ k. is_among names k.name in
    let outside : among x ≡ false = sym (c.contains.ensures ∙ c.in_ok-set.ensures c.name.result.now ∙ ap (is_among names) c.name.ensures) ∙ c.if-contains.false in
    record {
      named = goes among c.loop-column.yielded c.loop-column.named.items x c.loop-column.invariant.named outside;
      others = c.in_ok-push-2.ensures.items ∙ stays (λ (k : Col). not (among k)) c.loop-column.yielded c.loop-column.others.items x c.loop-column.invariant.others (ap not outside);
    }

pub loop-column-preserved-in-Continue-branch-4 : goal.loop-column-preserved-in-Continue-branch-4
loop-column-preserved-in-Continue-branch-4 c =
    let names = c.args.names.now in
    let x = c.in-Some.column in
    let among : Col → Bool = λ k. is_among names k.name in
    let inside : among x ≡ true = sym (c.contains.ensures ∙ c.in_ok-set.ensures c.name.result.now ∙ ap (is_among names) c.name.ensures) ∙ c.if-contains.true in
    record {
      named = c.in_ok-push.ensures.items ∙ stays among c.loop-column.yielded c.loop-column.named.items x c.loop-column.invariant.named inside;
      others = goes (λ (k : Col). not (among k)) c.loop-column.yielded c.loop-column.others.items x c.loop-column.invariant.others (ap not inside);
    }
