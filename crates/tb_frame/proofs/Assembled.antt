-- What a function has that put the listed pairs into columns.
use Rattle.std.proofs.Common.{◌≡◌, ℕ, ◌≤◌, ◌<◌, ◌-◌, List, [], length, drop, map, sym, ◌∙◌, ap, subst, arith, Option, Some, None, Result, Ok, Err, ℤ}
use Rattle.std.specs.Prelude.{All, AllPairs, ◌≢◌, ◌⊎◌, IfOk}
use Rattle.std.proofs.lemmas.List.{length-take, length-drop}
use Rattle.std.proofs.lemmas.List.Sorted.{length_permutation}
use Rattle.tb_value.specs.Promise.Names.{Name}
use Rattle.tb_value.specs.declared.index.JoinPair.{JoinPair}
use Rattle.tb_value.specs.declared.limits.TheConstants.{MAX_ROWS}
use Rattle.tb_chunk.specs.Window.{part_from, part_to}
use Rattle.tb_chunk.specs.Promise.Col.{Col}
use Rattle.tb_frame.specs.Promise.Table.{TableColumn, Table, height, names_of, table_of, IsTable}
use Rattle.tb_frame.specs.Promise.Join.{Request, out, matches, listing, IsAnswer, cut}
use Rattle.tb_frame.specs.Answer.{fill, IsListed, IsPairOf}
use Rattle.tb_frame.specs.Frame.{frame_refusal}
use Rattle.tb_frame.proofs.Ranges.{listed_rows}
use Rattle.tb_frame.specs.Promise.Naming.{joined_names}
use Rattle.tb_frame.proofs.Outs.{names_distinct}
use Rattle.tb_frame.proofs.AnswerLemmas.{answer_of, fill-refusal}
use Rattle.tb_frame.proofs.Windows.{slice_window}

module _ (q : Request) (items : List JoinPair) (cols : List TableColumn) (is_cols : cols ≡ map (fill items) (out q)) where
  -- columns over the pairs, of names that are not repeated, are not refused
  pub makes_frame : AllPairs (λ (a b : Name). a ≢ b) (joined_names q.args q.left_on q.right_on (names_of q.left) (names_of q.right)) → frame_refusal cols ≡ None
  makes_frame apart = ap frame_refusal is_cols ∙ fill-refusal items (out q) (names_distinct q apart)

  -- and are the answer
  pub makes_answer : (0 < length (out q)) ⊎ (items ≡ []) → IsTable cols → IsListed q.args.how q.args.maintain_order q.args.slice (listing q) items → IsAnswer q cols
  makes_answer wide table h =
      let is : map (fill (cut q.args.slice h.pairs)) (out q) ≡ cols = ap (λ (x : List JoinPair). map (fill x) (out q)) (sym h.is) ∙ sym is_cols in
      let some = subst (λ (x : List JoinPair). (0 < length (out q)) ⊎ (x ≡ [])) h.is wide in
      subst (λ (t : Table). IsAnswer q t) is (answer_of q h.pairs (subst (λ (t : Table). IsTable t) (sym is) table) some h.ordered)

-- so the table that is made of the columns answers
pub table_answers : {E : Type 0} (q : Request) (items : List JoinPair) (cols : List Col) (made : Result (List Col) E) → table_of cols ≡ map (fill items) (out q) → (0 < length (out q)) ⊎ (items ≡ []) → IsListed q.args.how q.args.maintain_order q.args.slice (listing q) items
    → IfOk made (λ t. t ≡ cols) → IfOk made (λ t. IsTable (table_of t)) → IfOk made (λ t. IsAnswer q (table_of t))
table_answers q items cols (Ok t) is wide listed same table = makes_answer q items (table_of t) (ap table_of same ∙ is) wide table listed
table_answers q items cols (Err e) is wide listed same table = tt

-- the pairs are pairs of the tables' rows
pub pairs_in_range : (q : Request) (items : List JoinPair) → IsListed q.args.how q.args.maintain_order q.args.slice (listing q) items → All (IsPairOf (height q.left) (height q.right)) items
pairs_in_range q items h = listed_rows q.args.how q.args.maintain_order q.args.slice (height q.left) (height q.right) (matches q) items h

-- no more pairs are kept than there were
cut_short : (s : Option (ℤ × ℕ)) (ps : List JoinPair) → length (cut s ps) ≤ length ps
cut_short None ps = omega arith
cut_short (Some s) ps =
    let n = part_to (length ps) s.0 s.1 - part_from (length ps) s.0 in
    let rest = drop (part_from (length ps) s.0) ps in
    let is = ap (λ (xs : List JoinPair). length xs) (slice_window ps s.0 s.1) in
    omega (arith, is, length-take n rest, length-drop (part_from (length ps) s.0) ps)

-- and no more than a table has rows, where the listing has no more
pub few_listed : (q : Request) (items : List JoinPair) → length (listing q) ≤ MAX_ROWS → IsListed q.args.how q.args.maintain_order q.args.slice (listing q) items → length items ≤ MAX_ROWS
few_listed q items few h =
    let long = ap (λ (xs : List JoinPair). length xs) h.is in
    let same = length_permutation (listing q) h.pairs h.ordered.permutation in
    omega (arith, long, same, cut_short q.args.slice h.pairs, few)
