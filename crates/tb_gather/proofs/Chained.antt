-- What is made of the answers of a chain of threads, each of which is a value of an item or an error.
use Rattle.std.proofs.Common.{◌≡◌, ◌∙◌, List, [], ◌∷◌, map, subst, Ok, Err}
use Rattle.std.specs.Borrow.{Bor}
use Rattle.std.specs.List.{AllZip, Contains}
use Rattle.std.specs.Result.{IfOk, MatchResult}
use Rattle.std.specs.declared.result.Result.{Result}
use Rattle.rayon.proofs.ToStd.{slice-map}

module _ {X Y : Type 0} (f : X → Y) where
  -- the answer is the value of the item, if it is there
  abbrev pub Answers : {E : Type 0} → Bor X → Result Y E → Type 0
  Answers z u = IfOk u (λ y. y ≡ f z.now)

  answered : (E : Type 0) (zs : List (Bor X)) (ys : List Y) → AllZip (Answers {E = E}) zs (map Ok ys) → AllZip (λ (z : Bor X) y. y ≡ f z.now) zs ys
  answered E [] [] h = tt
  answered E [] (y ∷ ys) h = absurd h
  answered E (z ∷ zs) [] h = absurd h
  answered E (z ∷ zs) (y ∷ ys) h = (h.0, answered E zs ys h.1)

  pub chained : {V E : Type 0} (items : V → List Y) (xs : List X) (zs : List (Bor X)) (us : List (Result Y E)) (r : Result V E) → map (λ (z : Bor X). z.now) zs ≡ xs → AllZip Answers zs us → MatchResult r (λ v. (ys : List Y) × (us ≡ map Ok ys) × (items v ≡ ys)) (λ e. Contains us (Err e)) → IfOk r (λ v. items v ≡ map f xs)
  chained items xs zs us (Err e) shown zipped made = tt
  chained items xs zs us (Ok v) shown zipped made = made.2 ∙ slice-map zs xs shown f made.0 (answered _ zs made.0 (subst (AllZip Answers zs) made.1 zipped))
