-- Lists whose items are read one by one.
use Rattle.std.proofs.Common.{◌≡◌, ◌∙◌, ℕ, suc, ◌+◌, List, [], ◌∷◌, length, Bool, true, false, Option, Some, None, refl, ap}
use Rattle.std.specs.Prelude.{is_some, option_and_then, option_map, unwrap_or, ⊤}
use Rattle.serde_json.specs.Data.{Data}
use Rattle.tb_json.specs.Promise.Lists.{as_list, check, each, list_of}
use Rattle.tb_why.specs.declared.spot.Step.TheVariants.{Index}
use Rattle.tb_why.specs.Spots.{Spot, first_at, under}
use Rattle.tb_why.proofs.Unfound.{neither, one_more, not_under}

-- ---- steps that may fail, which did not

pub taken : {A B : Type 0} (f : A → Option B) (o : Option A) (y : B) → option_and_then f o ≡ Some y → (x : A) × (o ≡ Some x) × (f x ≡ Some y)
taken f None y h = absurd (cc)
taken f (Some x) y h = (x, refl, h)

pub mapped_from : {A B : Type 0} (f : A → B) (o : Option A) (y : B) → option_map f o ≡ Some y → (x : A) × (o ≡ Some x) × (f x ≡ y)
mapped_from f None y h = absurd (cc)
mapped_from f (Some x) y h = (x, refl, cc)

pub checked : (b : Bool) (u : ⊤) → check b ≡ Some u → b ≡ true
checked true u h = refl
checked false u h = absurd (cc)

pub same_some : {A : Type 0} (x y : A) → Some x ≡ Some y → x ≡ y
same_some x y h = cc

-- ---- lists

-- each of the first list is read as the one of the second at its place
abbrev pub Reads : {A B : Type 0} → (A → Option B) → List A → List B → Type 0
Reads f [] [] = ⊤
Reads f [] (y ∷ ys) = ⊥
Reads f (x ∷ xs) [] = ⊥
Reads f (x ∷ xs) (y ∷ ys) = (f x ≡ Some y) × Reads f xs ys

reads_more : {A B : Type 0} (f : A → Option B) (x : A) (xs : List A) (o : Option B) (r : Option (List B)) (ys : List B) → f x ≡ o → ((rest : List B) → r ≡ Some rest → Reads f xs rest) → option_and_then (λ z. option_map (λ zs. z ∷ zs) r) o ≡ Some ys → Reads f (x ∷ xs) ys
reads_more f x xs None r ys is more h = absurd (cc)
reads_more f x xs (Some z) None ys is more h = absurd (cc)
reads_more f x xs (Some z) (Some zs) [] is more h = absurd (cc)
reads_more f x xs (Some z) (Some zs) (y ∷ ys) is more h =
    let first : z ≡ y = cc in
    let rest : zs ≡ ys = cc in
    (is ∙ ap Some first, more ys (ap Some rest))

pub each_read : {A B : Type 0} (f : A → Option B) (xs : List A) (ys : List B) → each f xs ≡ Some ys → Reads f xs ys
each_read f [] [] h = tt
each_read f [] (y ∷ ys) h = absurd (cc)
each_read f (x ∷ xs) ys h = reads_more f x xs (f x) (each f xs) ys refl (λ rest. each_read f xs rest) h

-- the values of a list, which may be none
pub items_read : {B : Type 0} (f : Data → Option B) (o : Option Data) (ys : List B) → option_and_then (list_of f) o ≡ Some ys → Reads f (unwrap_or (option_and_then as_list o) []) ys
items_read f None ys h = absurd (cc)
items_read f (Some d) ys h = listed (as_list d) h where
  listed : (o : Option (List Data)) → option_and_then (each f) o ≡ Some ys → Reads f (unwrap_or o []) ys
  listed None k = absurd (cc)
  listed (Some ds) k = each_read f ds ys k

-- what is read next of each, where no spot is found in what it was read of
pub next_reads : {B C : Type 0} (f : Data → Option B) (next : B → Option C) (g : Data → Option Spot) (i : ℕ) (ds : List Data) (ys : List B) → Reads f ds ys → first_at g i ds ≡ None
    → ((d : Data) (y : B) → f d ≡ Some y → g d ≡ None → is_some (next y) ≡ true) → is_some (each next ys) ≡ true
next_reads f next g i [] [] reads h one = refl
next_reads f next g i [] (y ∷ ys) reads h one = absurd reads
next_reads f next g i (d ∷ ds) [] reads h one = absurd reads
next_reads f next g i (d ∷ ds) (y ∷ ys) reads h one =
    let both : (under (Index i) (g d) ≡ None) × (first_at g (i + 1) ds ≡ None) = neither _ _ h in
    one_more (next y) (each next ys) (one d y reads.0 (not_under (Index i) (g d) both.0)) (next_reads f next g (i + 1) ds ys reads.1 both.1 one)

-- what is read of each in two steps
pub reads_twice : {A B C : Type 0} (f : A → Option B) (next : B → Option C) (xs : List A) (ys : List B) (zs : List C) → Reads f xs ys → Reads next ys zs → each (λ x. option_and_then next (f x)) xs ≡ Some zs
reads_twice f next [] [] [] p q = refl
reads_twice f next [] [] (z ∷ zs) p q = absurd q
reads_twice f next [] (y ∷ ys) zs p q = absurd p
reads_twice f next (x ∷ xs) [] zs p q = absurd p
reads_twice f next (x ∷ xs) (y ∷ ys) [] p q = absurd q
reads_twice f next (x ∷ xs) (y ∷ ys) (z ∷ zs) p q =
    let first : option_and_then next (f x) ≡ Some z = ap (option_and_then next) p.0 ∙ q.0 in
    (λ i. option_and_then (λ w. option_map (λ ws. w ∷ ws) (reads_twice f next xs ys zs p.1 q.1 i)) (first i))

pub same_length : {A B : Type 0} (f : A → Option B) (xs : List A) (ys : List B) → Reads f xs ys → length ys ≡ length xs
same_length f [] [] reads = refl
same_length f [] (y ∷ ys) reads = absurd reads
same_length f (x ∷ xs) [] reads = absurd reads
same_length f (x ∷ xs) (y ∷ ys) reads = ap suc (same_length f xs ys reads.1)
