-- Tables that are split behind the numbers of their rows.
use Rattle.std.proofs.Common.{◌≡◌, ◌∙◌, ◌<◌, ◌≤◌, ℕ, List, [], ◌∷◌, None, Result, IfOk, length, map, ap, sym, subst, arith}
use Rattle.std.specs.declared.vec.Vec.{Vec}
use Rattle.std.specs.declared.alloc.Global.{Global}
use Rattle.std.proofs.lemmas.List.{length-map}
use Rattle.std.proofs.lemmas.List.FromFn.{length-map-range_with_len}
use Rattle.std.proofs.lemmas.Result.{IfOk-weaker}
use Rattle.tb_value.specs.Promise.Names.{Name}
use Rattle.tb_value.specs.Promise.Pairs.{row_numbers}
use Rattle.tb_value.specs.Promise.Refusals.{first_cause}
use Rattle.tb_value.specs.Refusals.{Settles}
use Rattle.tb_value.specs.declared.error.PolarsError.{PolarsError}
use Rattle.tb_chunk.specs.Promise.Col.{Col}
use Rattle.tb_frame.specs.Promise.Table.{Table, table_of}
use Rattle.tb_frame.proofs.Causes.{first_cause-one}
use Rattle.tb_split.specs.Promise.Split.{split_refusal, split_table}
use Rattle.tb_split_front.specs.declared.call.SplitCall.{SplitCall}
use Rattle.tb_split_front.specs.Promise.Parts.{number_refusal, numbered, part_table, parting_refusal}

module _ (c : SplitCall) (t whole : Table) (on : List Name) (n : ℕ) (is : whole ≡ numbered c.number t) (names : on ≡ c.on.items) (many : n ≡ c.parts)
    (result : Result (Vec (List Col) Global) PolarsError) where
  pub parted_settles : number_refusal c.number t ≡ None → Settles result (split_refusal whole on) → Settles result (parting_refusal c t)
  parted_settles none settles =
      subst (Settles result)
      (sym (first_cause-one (split_refusal whole on)) ∙ (λ i. first_cause (sym none i ∷ split_refusal (is i) (names i) ∷ []))) settles

  abbrev Are : List (List Col) → Type 0
  Are ts = map table_of ts ≡ map (split_table whole on n) (row_numbers n)

  pub parted_tables : IfOk result (λ ts. Are ts.items) → IfOk result (λ ts. map table_of ts.items ≡ map (part_table c t) (row_numbers c.parts))
  parted_tables =
      IfOk-weaker result (λ ts. Are ts.items) (λ ts. map table_of ts.items ≡ map (part_table c t) (row_numbers c.parts))
      (λ ts e. e ∙ (λ i. map (split_table (is i) (names i) (many i)) (row_numbers (many i))))

  pub parted_some : 1 ≤ n → IfOk result (λ ts. Are ts.items) → IfOk result (λ ts. 0 < length ts.items)
  parted_some some =
      IfOk-weaker result (λ ts. Are ts.items) (λ ts. 0 < length ts.items)
      (λ ts e. omega (arith, some, length-map ts.items table_of, ap length e, length-map-range_with_len (split_table whole on n) 0 n))
