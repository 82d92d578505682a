-- The runs of rows that were read, one after another.
use Rattle.std.proofs.Common.{◌≡◌, ◌<◌, ◌++◌, ◌∷◌, ◌∙◌, [], ℕ, List, None, Ok, Err, get_or, length, map, refl, sym, ap, arith, subst}
use Rattle.std.specs.Borrow.{Bor}
use Rattle.std.specs.List.{AllZip, Contains, flat_map}
use Rattle.std.specs.Result.{IfOk, MatchResult}
use Rattle.std.specs.declared.result.Result.{Result}
use Rattle.std.proofs.lemmas.List.{length-append, map-append}
use Rattle.std.proofs.lemmas.List.FromFn.{length-map-range_with_len}
use Rattle.std.proofs.lemmas.List.Sums.{sum_by-cons}
use Rattle.tb_csv.specs.Read.{AreRunRows, IsRead, all_fields, field_in, rows_in, run_column}
use Rattle.tb_csv.specs.Promise.Records.{Field, Record, column_fields, line_of}
use Rattle.tb_csv.specs.declared.records.Records.{Records}
use Rattle.tb_csv.specs.declared.run.Run.{Run}

-- A COLUMN

module _ (w j : ℕ) where
  pub column_height : (runs : List Run) → length (flat_map (run_column w j) runs) ≡ rows_in runs
  column_height [] = refl
  column_height (run ∷ runs) =
      length-append (run_column w j run) (flat_map (run_column w j) runs)
      ∙ omega (arith, length-map-range_with_len {X = Field} (field_in w j run.fields) 0 run.height, column_height runs, sum_by-cons (λ (r : Run). r.height) run runs)

  pub column_rows : j < w → (runs : List Run) (parts : List (List Record)) → AllZip (AreRunRows w) runs parts → flat_map (run_column w j) runs ≡ column_fields (all_fields parts) j
  column_rows low [] [] zipped = refl
  column_rows low [] (p ∷ ps) zipped = absurd zipped
  column_rows low (run ∷ runs) [] zipped = absurd zipped
  column_rows low (run ∷ runs) (p ∷ ps) zipped =
      let here = zipped.0 in
      ap (λ (fs : List Field). fs ++ flat_map (run_column w j) runs) (here.columns j low)
      ∙ ap (λ (fs : List Field). column_fields p j ++ fs) (column_rows low runs ps zipped.1)
      ∙ sym (map-append (λ (r : Record). get_or r j None) p (all_fields ps))

-- ONE RECORD

pub one_record : (r : Records) (rs : List Record) → IsRead r rs → r.height ≡ 0 → (first : Record) × (rs ≡ first ∷ []) × (r.names.items ≡ line_of first)
one_record r [] h none = absurd h
one_record r (first ∷ []) h none = (first, refl, h.0)
one_record r (first ∷ s ∷ ss) h none = let tall = h.1.height in absurd (omega (arith, tall, none))

-- WHAT THREADS GIVE

-- each answer beside its item
module _ {X Y : Type 0} (R : X → Y → Type 0) where
  answered : (E : Type 0) (zs : List (Bor X)) (ys : List Y) → AllZip (λ (z : Bor X) (u : Result Y E). IfOk u (R z.now)) zs (map Ok ys) → AllZip R (map (λ (z : Bor X). z.now) zs) ys
  answered E [] [] h = tt
  answered E [] (y ∷ ys) h = absurd h
  answered E (z ∷ zs) [] h = absurd h
  answered E (z ∷ zs) (y ∷ ys) h = (h.0, answered E zs ys h.1)

  pub all_answered : {V E : Type 0} (items : V → List Y) (xs : List X) (zs : List (Bor X)) (us : List (Result Y E)) (r : Result V E) → map (λ (z : Bor X). z.now) zs ≡ xs
      → AllZip (λ (z : Bor X) (u : Result Y E). IfOk u (R z.now)) zs us → MatchResult r (λ v. (ys : List Y) × (us ≡ map Ok ys) × (items v ≡ ys)) (λ e. Contains us (Err e)) → IfOk r (λ v. AllZip R xs (items v))
  all_answered items xs zs us (Err e) shown zipped made = tt
  all_answered {E = E} items xs zs us (Ok v) shown zipped made =
      subst (λ ks. AllZip R ks (items v)) shown
      (subst (AllZip R (map (λ (z : Bor X). z.now) zs)) (sym made.2)
      (answered E zs made.0 (subst (AllZip (λ (z : Bor X) (u : Result Y E). IfOk u (R z.now)) zs) made.1 zipped)))
