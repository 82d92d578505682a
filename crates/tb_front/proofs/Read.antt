-- The tables of two texts, from what is read of them.
use Rattle.std.proofs.Common.{◌≡◌, ◌∙◌, [], ◌∷◌, ℕ, List, Option, Some, None, option_map, refl, subst}
use mathlib.Core.Logic.{◌⊎◌, inl, inr}
use Rattle.std.specs.Prelude.{not, map}
use Rattle.std.specs.declared.alloc.Global.{Global}
use Rattle.std.specs.declared.vec.Vec.{Vec}
use Rattle.tb_value.specs.Promise.Names.{Name}
use Rattle.tb_value.specs.Promise.Refusals.{first_cause, when}
use Rattle.tb_frame.specs.Promise.Refusal.{first_repeated}
use Rattle.tb_csv.specs.Promise.Faults.{records_fault, repeated_name, types_fault}
use Rattle.tb_csv.specs.Promise.LineNumbers.{has_open_quote}
use Rattle.tb_csv.specs.Promise.Records.{Record, is_text, line_of, records_of}
use Rattle.tb_csv.specs.declared.fault.CsvFault.TheVariants.{NotUtf8, OpenQuote}
use Rattle.tb_csv.specs.declared.options.CsvOptions.{CsvOptions}
use Rattle.tb_csv.specs.declared.options.TypeOf.{TypeOf}
use Rattle.tb_front.specs.Promise.Asked.{tables_faults}
use Rattle.tb_front.specs.Promise.Faults.{names_in, no_records, no_table, no_types, unknown_type}
use Rattle.tb_front.specs.Promise.Texts.{joined_types}
use Rattle.tb_front.specs.Texts.{IsKept}
use Rattle.tb_front.specs.declared.fault.FrontFault.{FrontFault}
use Rattle.tb_front.specs.declared.fault.FrontFault.TheVariants.{OutOfMemory}
use Rattle.tb_front.specs.declared.fault.Place.{Place}
use Rattle.tb_front.specs.declared.fault.Place.TheVariants.{First, Second}

-- NAMES

no_cause : {E : Type 0} (a : Option E) (cs : List (Option E)) → first_cause (a ∷ cs) ≡ None → (a ≡ None) × (first_cause cs ≡ None)
no_cause None cs h = (refl, h)
no_cause (Some e) cs h = absurd (cc h)

none_mapped : {A B : Type 0} (f : A → B) (o : Option A) → option_map f o ≡ None → o ≡ None
none_mapped f None h = refl
none_mapped f (Some a) h = absurd (cc h)

distinct : (rs : List Record) → records_fault (map line_of rs) ≡ None → first_repeated (names_in rs) ≡ None
distinct [] h = refl
distinct (r ∷ rs) h = none_mapped _ (first_repeated (line_of r)) (no_cause (repeated_name (line_of r)) _ (no_cause (when (not (is_text (line_of r))) (NotUtf8 0)) _ h).1).0

-- no name of records stands twice
pub apart : (o : CsvOptions) (p : Place) (text : List ℕ) → no_records o p text ≡ None → first_repeated (names_in (records_of o.separator text)) ≡ None
apart o p text h =
    let rs = records_of o.separator text in
    distinct rs (no_cause (records_fault (map line_of rs)) [] (no_cause (when (has_open_quote o.separator text) OpenQuote) (records_fault (map line_of rs) ∷ []) (none_mapped _ _ h)).1).0

-- TYPES

-- by types that are the same
module _ (separator : ℕ) (place : Place) (bytes : List ℕ) (rs : List Record) (kept : Option (Vec ℕ Global)) (ts us : List TypeOf) (same : ts ≡ us) where
  abbrev fault : List TypeOf → Option FrontFault
  fault vs = no_table separator place bytes (types_fault vs rs)

  pub passed_by : (IsKept kept bytes (types_fault ts rs) → fault ts ≡ None) → IsKept kept bytes (types_fault us rs) → fault us ≡ None
  passed_by = subst (λ (vs : List TypeOf). IsKept kept bytes (types_fault vs rs) → fault vs ≡ None) same

  pub refused_by : (e : FrontFault) → (IsKept kept bytes (types_fault ts rs) → (e ≡ OutOfMemory) ⊎ (fault ts ≡ Some e)) → IsKept kept bytes (types_fault us rs)
      → (e ≡ OutOfMemory) ⊎ (fault us ≡ Some e)
  refused_by e = subst (λ (vs : List TypeOf). IsKept kept bytes (types_fault vs rs) → (e ≡ OutOfMemory) ⊎ (fault vs ≡ Some e)) same

-- FAULTS

module _ (o : CsvOptions) (left right : List ℕ) (left_on right_on : List Name) (first : no_records o First left ≡ None) (second : no_records o Second right ≡ None)
    (known : unknown_type o.types.items (names_in (records_of o.separator left)) (names_in (records_of o.separator right)) ≡ None) where
  abbrev faults : Option FrontFault
  faults = first_cause (tables_faults o left_on right_on left right)

  abbrev of_left : Option FrontFault
  of_left = no_types o First left (joined_types o left right left_on right_on)

  abbrev of_right : Option FrontFault
  of_right = no_types o Second right (joined_types o right left right_on left_on)

  behind : faults ≡ first_cause (of_left ∷ of_right ∷ [])
  behind = λ i. first_cause (first i ∷ second i ∷ known i ∷ of_left ∷ of_right ∷ [])

  pub both_pass : of_left ≡ None → of_right ≡ None → faults ≡ None
  both_pass a b = behind ∙ (λ i. first_cause (a i ∷ b i ∷ []))

  pub left_refused : (e : FrontFault) → (e ≡ OutOfMemory) ⊎ (of_left ≡ Some e) → (e ≡ OutOfMemory) ⊎ (faults ≡ Some e)
  left_refused e (inl want) = inl want
  left_refused e (inr is) = inr (behind ∙ (λ i. first_cause (is i ∷ of_right ∷ [])))

  pub right_refused : (e : FrontFault) → of_left ≡ None → (e ≡ OutOfMemory) ⊎ (of_right ≡ Some e) → (e ≡ OutOfMemory) ⊎ (faults ≡ Some e)
  right_refused e none (inl want) = inl want
  right_refused e none (inr is) = inr (behind ∙ (λ i. first_cause (none i ∷ is i ∷ [])))
