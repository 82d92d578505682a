-- Keys that are all of one type on both sides.
use Rattle.std.proofs.Common.{◌≡◌, ◌∙◌, ◌<◌, ◌≤◌, ◌+◌, [], ◌∷◌, ℕ, suc, List, Option, Some, None, option_map, ap, arith, drop, drop-cons, get_or, length, min, refl, sym}
use mathlib.Core.Logic.{◌⊎◌, inl, inr}
use Rattle.std.proofs.lemmas.List.{drop_all}
use Rattle.std.specs.Borrow.{Bor}
use Rattle.std.specs.Option.{option_copied}
use Rattle.tb_value.specs.Promise.Names.{Name}
use Rattle.tb_value.specs.Promise.Refusals.{first_cause}
use Rattle.tb_chunk.specs.Promise.Col.{Col}
use Rattle.tb_frame.specs.Promise.Join.{column_named}
use Rattle.tb_frame.specs.Promise.Table.{Table, TableColumn, plain_column}
use Rattle.tb_front.specs.Columns.{lent_column}
use Rattle.tb_front.specs.declared.fault.FrontFault.{FrontFault}
use Rattle.tb_front.specs.declared.fault.FrontFault.TheVariants.{OutOfMemory}
use Rattle.tb_front.specs.Promise.Faults.{clash, key_clash}
use Rattle.tb_front.proofs.Steps.{first_of_one}

no_right : (l r : Table) (ns : List Name) → key_clash l r ns [] ≡ None
no_right l r [] = refl
no_right l r (n ∷ ns) = refl

-- behind the last key of a side there is none
pub clash_end : (l r : Table) (ns ms : List Name) (i : ℕ) → i ≡ min (length ns) (length ms) → key_clash l r (drop i ns) (drop i ms) ≡ None
clash_end l r ns ms i end =
    let sides : (length ns ≤ i) ⊎ (length ms ≤ i) = grind (arith, end) in
    elim sides [
      | inl past ↦ ap (λ xs. key_clash l r xs (drop i ms)) (drop_all i ns past)
      | inr past ↦ ap (key_clash l r (drop i ns)) (drop_all i ms past) ∙ no_right l r (drop i ns)
    ]

-- a column that is lent as itself
pub lent_copied : (o : Option (Bor Col)) → option_map lent_column o ≡ option_map plain_column (option_copied o)
lent_copied None = refl
lent_copied (Some c) = refl

-- the key at a place decides, and else those behind it
module _ (l r : Table) (ns ms : List Name) (i : ℕ) (n m : Name) (low : i < length ns) (high : i < length ms) (is : n ≡ get_or ns i n) (too : m ≡ get_or ms i m) where
  abbrev later : Option FrontFault
  later = key_clash l r (drop (i + 1) ns) (drop (i + 1) ms)

  same : suc i ≡ i + 1
  same = omega arith

  opened : key_clash l r (drop i ns) (drop i ms) ≡ first_cause (clash (column_named l n) (column_named r m) ∷ later ∷ [])
  opened =
      (λ t. key_clash l r (drop-cons ns i n low t) (drop-cons ms i m high t))
      ∙ (λ t. key_clash l r (sym is t ∷ drop (same t) ns) (sym too t ∷ drop (same t) ms))

  module _ (a b : Option TableColumn) (left : a ≡ column_named l n) (right : b ≡ column_named r m) where
    as_found : key_clash l r (drop i ns) (drop i ms) ≡ first_cause (clash a b ∷ later ∷ [])
    as_found = opened ∙ (λ t. first_cause (clash (sym left t) (sym right t) ∷ later ∷ []))

    pub key_passes : clash a b ≡ None → key_clash l r (drop i ns) (drop i ms) ≡ later
    key_passes none = as_found ∙ ap (λ (f : Option FrontFault). first_cause (f ∷ later ∷ [])) none ∙ first_of_one later

    pub key_stops : (e : FrontFault) → (e ≡ OutOfMemory) ⊎ (clash a b ≡ Some e) → (e ≡ OutOfMemory) ⊎ (key_clash l r (drop i ns) (drop i ms) ≡ Some e)
    key_stops e (inl want) = inl want
    key_stops e (inr there) = inr (as_found ∙ ap (λ (f : Option FrontFault). first_cause (f ∷ later ∷ [])) there)
