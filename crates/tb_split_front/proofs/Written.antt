-- The texts of the parts of a table.
use Rattle.std.proofs.Common.{◌≡◌, ◌∙◌, ◌<◌, ◌+◌, ℕ, Bool, true, false, cond, List, [], ◌∷◌, Option, Some, None, option_map, is_none, Result, Ok, Err, IfOk, length, map, ap, sym, subst, refl, arith}
use Rattle.std.specs.Prelude.{All}
use Rattle.std.specs.List.{find}
use Rattle.std.specs.declared.vec.Vec.{Vec}
use Rattle.std.specs.declared.alloc.Global.{Global}
use mathlib.Core.Logic.{◌⊎◌, inl, inr}
use Rattle.std.proofs.lemmas.List.{length-map}
use Rattle.std.proofs.lemmas.List.Elements.{All-nil, All-cons, All-head, All-tail}
use Rattle.tb_value.specs.Promise.Pairs.{row_numbers}
use Rattle.tb_value.specs.Promise.Refusals.{first_cause}
use Rattle.tb_value.specs.declared.error.PolarsError.{PolarsError}
use Rattle.tb_value.specs.declared.error.PolarsError.TheVariants as cause
use Rattle.tb_value.proofs.Loops.{map-map}
use Rattle.tb_chunk.specs.Promise.Col.{Col}
use Rattle.tb_frame.specs.Promise.Table.{Table, TableColumn, table_of}
use Rattle.tb_csv.specs.declared.fault.CsvFault.TheVariants.{NoText}
use Rattle.tb_csv.specs.Promise.Texts.{csv_text, field_type, no_column, no_text}
use Rattle.tb_parts.specs.Promise.Parts.{column_among, table_among}
use Rattle.tb_split.specs.Promise.Split.{split_rows}
use Rattle.tb_front.specs.declared.fault.FrontFault.{FrontFault}
use Rattle.tb_front.specs.declared.fault.FrontFault.TheVariants.{OutOfMemory}
use Rattle.tb_front.specs.declared.fault.FrontFault.TheVariants as fault
use Rattle.tb_front.specs.declared.options.TextForm.TheVariants.{Csv}
use Rattle.tb_front.specs.Promise.Due.{◌>>=◌, Gives, each_from, unless}
use Rattle.tb_front.specs.Promise.Faults.{Settles, refusal_fault, writing_fault}
use Rattle.tb_front.proofs.Outcomes.{table_settles}
use Rattle.tb_front.specs.Promise.Texts.{fault_of}
use Rattle.tb_front.proofs.Steps.{first_of_one, passes}
use Rattle.tb_split_front.specs.declared.call.SplitCall.{SplitCall}
use Rattle.tb_split_front.specs.Promise.Parts.{numbered, part_table, part_text, parting_refusal, split_faults}
use Rattle.tb_split_front.specs.Texts.{written_text}

-- some rows of a table have a text exactly where the table has one
no_text_among : (rows : List ℕ) (t : Table) → no_text (table_among rows t) ≡ no_text t
no_text_among rows [] = refl
no_text_among rows (c ∷ cs) = at (is_none (field_type c.kind)) (no_text_among rows cs)
  where
    at : (b : Bool) → no_text (table_among rows cs) ≡ no_text cs
        → option_map (λ (d : TableColumn). NoText d.name) (cond b (Some (column_among rows c)) (find (λ (d : TableColumn). is_none (field_type d.kind)) (table_among rows cs)))
        ≡ option_map (λ (d : TableColumn). NoText d.name) (cond b (Some c) (find (λ (d : TableColumn). is_none (field_type d.kind)) cs))
    at true rest = refl
    at false rest = rest

no_column_among : (rows : List ℕ) (t : Table) → no_column (table_among rows t) ≡ no_column t
no_column_among rows [] = refl
no_column_among rows (c ∷ cs) = refl

text_among : (rows : List ℕ) (t : Table) → writing_fault Csv (table_among rows t) ≡ writing_fault Csv t
text_among rows t = λ i. option_map (λ e. fault.NoText e) (first_cause (no_column_among rows t i ∷ no_text_among rows t i ∷ []))

-- so each part of a table has a text exactly where the table behind its numbers has one
alike : (c : SplitCall) (t : Table) (ps : List ℕ) → All (λ s. writing_fault Csv s ≡ writing_fault Csv (numbered c.number t)) (map (part_table c t) ps)
alike c t [] = All-nil (λ s. writing_fault Csv s ≡ writing_fault Csv (numbered c.number t))
alike c t (p ∷ ps) =
    let whole : Table = numbered c.number t in
    All-cons (λ s. writing_fault Csv s ≡ writing_fault Csv whole) (part_table c t p) (map (part_table c t) ps) (text_among (split_rows whole c.on.items c.parts p) whole) (alike c t ps)

-- the texts of tables that all have one, or that all have none by one fault
module _ (separator : ℕ) where
  all_texts : (k : ℕ) (ts : List Table) → All (λ s. writing_fault Csv s ≡ None) ts → each_from (written_text separator) k ts ≡ Ok (map (csv_text separator) ts)
  all_texts k [] h = refl
  all_texts k (t ∷ ts) h =
      (λ i. (unless (All-head (λ s. writing_fault Csv s ≡ None) t ts h i) >>= λ _. Ok (csv_text separator t)) >>= λ y. each_from (written_text separator) (k + 1) ts >>= λ ys. Ok (y ∷ ys))
      ∙ (λ i. all_texts (k + 1) ts (All-tail (λ s. writing_fault Csv s ≡ None) t ts h) i >>= λ ys. Ok (csv_text separator t ∷ ys))

  no_texts : (e : FrontFault) (k : ℕ) (ts : List Table) → All (λ s. writing_fault Csv s ≡ Some e) ts → 0 < length ts → each_from (written_text separator) k ts ≡ Err e
  no_texts e k [] h some = absurd (omega (arith, some))
  no_texts e k (t ∷ ts) h some =
      λ i. (unless (All-head (λ s. writing_fault Csv s ≡ Some e) t ts h i) >>= λ _. Ok (csv_text separator t)) >>= λ y. each_from (written_text separator) (k + 1) ts >>= λ ys. Ok (y ∷ ys)

  texts_due : (fault : Option FrontFault) (ts : List Table) → All (λ s. writing_fault Csv s ≡ fault) ts → 0 < length ts → each_from (written_text separator) 0 ts ≡ (unless fault >>= λ _. Ok (map (csv_text separator) ts))
  texts_due None ts h some = all_texts 0 ts h
  texts_due (Some e) ts h some = no_texts e 0 ts h some

-- what is given where a value or one fault is due
settled : {T X : Type 0} (seen : T → X) (r : Result T FrontFault) (f : Option FrontFault) (x : X) → Gives seen r (unless f >>= λ _. Ok x) → Settles r f
settled seen (Ok v) None x h = refl
settled seen (Ok v) (Some e) x h = absurd (cc)
settled seen (Err e) None x (inl want) = inl want
settled seen (Err e) None x (inr is) = absurd (cc)
settled seen (Err e) (Some f) x (inl want) = inl want
settled seen (Err e) (Some f) x (inr is) = inr (let same : f ≡ e = cc in ap Some same)

given : {T X : Type 0} (seen : T → X) (r : Result T FrontFault) (f : Option FrontFault) (x : X) → Gives seen r (unless f >>= λ _. Ok x) → IfOk r (λ v. seen v ≡ x)
given seen (Ok v) None x h = let same : x ≡ seen v = cc in sym same
given seen (Ok v) (Some e) x h = absurd (cc)
given seen (Err e) f x h = tt

-- the texts of the tables that are the parts of one
module _ (separator : ℕ) (c : SplitCall) (t : Table) (tables : List (List Col)) (are : map table_of tables ≡ map (part_table c t) (row_numbers c.parts)) (some : 0 < length tables) where
  abbrev unwritten : Option FrontFault
  unwritten = writing_fault Csv (numbered c.number t)

  due : each_from (written_text separator) 0 (map table_of tables) ≡ (unless unwritten >>= λ _. Ok (map (part_text separator c t) (row_numbers c.parts)))
  due =
      ap (each_from (written_text separator) 0) are
      ∙ texts_due separator unwritten (map (part_table c t) (row_numbers c.parts)) (alike c t (row_numbers c.parts)) (subst (λ (ts : List Table). 0 < length ts) are (omega (arith, some, length-map tables table_of)))
      ∙ ap (λ (xs : List (List ℕ)). unless unwritten >>= λ _. Ok xs) (map-map (csv_text separator) (part_table c t) (row_numbers c.parts))

  module _ (result : Result (Vec (List ℕ) Global) FrontFault) (gives : Gives (λ v. v.items) result (each_from (written_text separator) 0 (map table_of tables))) where
    as_due : Gives (λ v. v.items) result (unless unwritten >>= λ _. Ok (map (part_text separator c t) (row_numbers c.parts)))
    as_due = subst (Gives (λ v. v.items) result) due gives

    pub texts_settle : parting_refusal c t ≡ None → Settles result (first_cause (split_faults c t))
    texts_settle none =
        passes result (refusal_fault (parting_refusal c t)) (unwritten ∷ []) (ap refusal_fault none)
        (subst (Settles result) (sym (first_of_one unwritten)) (settled (λ v. v.items) result unwritten (map (part_text separator c t) (row_numbers c.parts)) as_due))

    pub texts_given : IfOk result (λ v. v.items ≡ map (part_text separator c t) (row_numbers c.parts))
    texts_given = given (λ v. v.items) result unwritten (map (part_text separator c t) (row_numbers c.parts)) as_due

-- a table that has no parts is refused
pub refused_settles : (c : SplitCall) (t : Table) (e : PolarsError) (f : FrontFault) → f ≡ fault_of e → (e ≡ cause.OutOfMemory) ⊎ (parting_refusal c t ≡ Some e)
    → (f ≡ OutOfMemory) ⊎ (first_cause (split_faults c t) ≡ Some f)
refused_settles c t e f is settles =
    subst (λ (g : FrontFault). (g ≡ OutOfMemory) ⊎ (first_cause (split_faults c t) ≡ Some g)) (sym is)
    (table_settles Csv 0 (Err e) (Err (fault_of e)) (parting_refusal c t) (numbered c.number t) settles tt refl)
