-- Columns that are kept by their names, one after another.
use Rattle.std.proofs.Common.{◌≡◌, ℕ, ◌+◌, ◌<◌, Bool, true, false, cond, List, [], ◌∷◌, length, get_or, take, refl, ap, sym, ◌∙◌, subst, Option, Some, None, Bor, is_some, unwrap_or}
use Rattle.std.specs.BTreeMap.{BTreeMap, Updates, get, get_by, is_at}
use Rattle.std.specs.Cmp.Lexicographic.{slice_cmp}
use Rattle.std.specs.Map.{lookup}
use Rattle.std.specs.Option.{option_copied, option_or}
use Rattle.std.specs.Ordering.{nat_cmp}
use Rattle.std.specs.declared.cmp.Ordering.{Ordering}
use Rattle.std.proofs.lemmas.List.{take_more}
use Rattle.std.proofs.lemmas.List.Folds.{find-append}
use Rattle.std.proofs.lemmas.Map.Text.{is_eq-slice_cmp}
use Rattle.std.proofs.lemmas.Slice.Eq.{bytes_eq-Decides}
use Rattle.tb_value.specs.Promise.Names.{Name, same_name}
use Rattle.tb_chunk.specs.Promise.Col.{Col}
use Rattle.tb_frame.proofs.Selected.{found}

some-or : (o : Option Col) (c : Col) → Some (unwrap_or o c) ≡ option_or o (Some c)
some-or None c = refl
some-or (Some d) c = refl

or-none : (o : Option Col) → o ≡ option_or o None
or-none None = refl
or-none (Some d) = refl

-- what is kept after one more column, where of two of one name the first is kept
module _ (cs : List Col) (i : ℕ) (c : Col) (low : i < length cs) (is : c ≡ get_or cs i c) where
  pub kept_more : (old new : Name → Option Col) → ((n : Name) → old n ≡ found n (take i cs)) → ((n : Name) → new n ≡ cond (same_name c.name n) (Some (unwrap_or (old c.name) c)) (old n)) → (n : Name) → new n ≡ found n (take (i + 1) cs)
  kept_more old new was grown n =
      grown n
      ∙ at (same_name c.name n) refl
      ∙ sym (ap (found n) (take_more cs i c low) ∙ find-append (λ (k : Col). same_name k.name n) (take i cs) (get_or cs i c ∷ []) ∙ ap (λ (k : Col). option_or (found n (take i cs)) (found n (k ∷ []))) (sym is))
    where
      at : (b : Bool) → same_name c.name n ≡ b → cond b (Some (unwrap_or (old c.name) c)) (old n) ≡ option_or (found n (take i cs)) (cond b (Some c) None)
      at true h = ap (λ (o : Option Col). Some (unwrap_or o c)) (ap old ((bytes_eq-Decides c.name n).0 h) ∙ was n) ∙ some-or (found n (take i cs)) c
      at false h = was n ∙ or-none (found n (take i cs))

abbrev by_bytes : Bor Name → Bor Name → Ordering
by_bytes a b = slice_cmp nat_cmp a.now b.now

abbrev under : BTreeMap (Bor Name) (Bor Col) → Name → Option Col
under m n = option_copied (get_by (λ (k : Bor Name). slice_cmp nat_cmp n k.now) m)

pub kept-none : (m : BTreeMap (Bor Name) (Bor Col)) (n : Name) → m.entries ≡ [] → under m n ≡ None
kept-none m n e = ap (λ (es : List (Bor Name × Bor Col)). option_copied (lookup (is_at (λ (k : Bor Name). slice_cmp nat_cmp n k.now)) es)) e

copied-case : (b : Bool) (v : Bor Col) (f : Option (Bor Col)) (w : Col) → v.now ≡ w → option_copied (cond b (Some v) f) ≡ cond b (Some w) (option_copied f)
copied-case true v f w e = ap Some e
copied-case false v f w e = refl

copied-or : (o : Option (Bor Col)) (c : Bor Col) → (unwrap_or o c).now ≡ unwrap_or (option_copied o) c.now
copied-or None c = refl
copied-or (Some d) c = refl

kept_new : (m n : BTreeMap (Bor Name) (Bor Col)) (k : Bor Name) (c v : Bor Col) (name : Name) → Updates by_bytes m n k (Some v)
    → v ≡ unwrap_or (get by_bytes m k) c → k.now ≡ name
    → (q : Name) → under n q ≡ cond (same_name name q) (Some (unwrap_or (under m name) c.now)) (under m q)
kept_new m n k c v name u e named q =
    let bor : Bor Name = record { ref_ptr = (0, 0); now = q } in
    ap option_copied (u.0 bor)
    ∙ ap (λ (b : Bool). option_copied (cond b (Some v) (get by_bytes m bor))) (is_eq-slice_cmp k.now q)
    ∙ copied-case (same_name k.now q) v (get by_bytes m bor) (unwrap_or (under m k.now) c.now) (ap (λ (b : Bor Col). b.now) e ∙ copied-or (get by_bytes m k) c)
    ∙ ap (λ (x : Name). cond (same_name x q) (Some (unwrap_or (under m x) c.now)) (under m q)) named

-- a column that is put under its own name
pub inserted : (old new : Name → Option Col) (c : Col) (name : Name) (k : Col) → name ≡ c.name → k ≡ c
    → ((n : Name) → new n ≡ cond (same_name name n) (Some (unwrap_or (old name) k)) (old n)) → (n : Name) → new n ≡ cond (same_name c.name n) (Some (unwrap_or (old c.name) c)) (old n)
inserted old new c name k is_name is grown n = grown n ∙ (λ t. cond (same_name (is_name t) n) (Some (unwrap_or (old (is_name t)) (is t))) (old n))

none_or : (o : Option (Bor Col)) (c : Bor Col) → is_some o ≡ false → c ≡ unwrap_or o c
none_or None c h = refl
none_or (Some d) c h = absurd (cc)

-- what is kept after a column is put under a name that no other has
pub kept_fresh : (m n : BTreeMap (Bor Name) (Bor Col)) (k : Bor Name) (c : Bor Col) (name : Name) → Updates by_bytes m n k (Some c)
    → is_some (get by_bytes m k) ≡ false → k.now ≡ name
    → (q : Name) → under n q ≡ cond (same_name name q) (Some (unwrap_or (under m name) c.now)) (under m q)
kept_fresh m n k c name u free named = kept_new m n k c c name u (none_or (get by_bytes m k) c free) named

some_or : (o : Option (Bor Col)) (c : Col) → is_some o ≡ true → option_copied o ≡ Some (unwrap_or (option_copied o) c)
some_or None c h = absurd (cc)
some_or (Some d) c h = refl

-- a name that a column has keeps it
pub kept_there : (m : BTreeMap (Bor Name) (Bor Col)) (k : Bor Name) (c : Col) (name : Name) → is_some (get by_bytes m k) ≡ true → k.now ≡ name
    → (q : Name) → under m q ≡ cond (same_name name q) (Some (unwrap_or (under m name) c)) (under m q)
kept_there m k c name has named q =
    at (same_name name q) refl
  where
    at : (b : Bool) → same_name name q ≡ b → under m q ≡ cond b (Some (unwrap_or (under m name) c)) (under m q)
    at true h = ap (λ (x : Name). under m x) (sym ((bytes_eq-Decides name q).0 h)) ∙ subst (λ (x : Name). under m x ≡ Some (unwrap_or (under m x) c)) named (some_or (get by_bytes m k) c has)
    at false h = refl
