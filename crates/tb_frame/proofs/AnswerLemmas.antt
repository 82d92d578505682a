-- The columns over the ordered and cut pairs are an answer.
use Rattle.std.proofs.Common.{◌≡◌, ℕ, ◌<◌, List, [], ◌∷◌, length, get_or, map, refl, ap, arith, sym, ◌∙◌, subst, None, ◌⊎◌, inl, inr}
use Rattle.std.specs.Prelude.{All, AllPairs, ◌≢◌}
use Rattle.std.proofs.lemmas.List.{length-map, get_or-map, ext_get_or}
use Rattle.std.proofs.lemmas.List.Elements.{All-map}
use Rattle.tb_value.specs.declared.index.JoinPair.{JoinPair}
use Rattle.tb_value.specs.Promise.Datum.{Datum}
use Rattle.tb_value.specs.Promise.Datum.{null}
use Rattle.tb_value.specs.Promise.Names.{Name}
use Rattle.tb_value.specs.Promise.Typed.{HasType}
use Rattle.tb_frame.specs.Promise.Table.{TableColumn, Table, height, rows_of, row_at, names_of, IsTable, IsTyped}
use Rattle.tb_value.specs.Promise.Pairs.{left_only}
use Rattle.tb_frame.specs.Promise.Join.{Request, Out, out, cut, listing, IsOrdered, IsAnswer}
use Rattle.tb_frame.specs.Answer.{fill}
use Rattle.tb_value.proofs.Loops.{map-map}
use Rattle.tb_frame.specs.Frame.{frame_refusal}
use Rattle.tb_frame.specs.Promise.Refusal.{first_repeated}
use Rattle.tb_frame.proofs.Causes.{unrepeated_names}
use Rattle.tb_frame.proofs.Frames.{level_height, no_refusal}
use Rattle.tb_frame.proofs.Outs.{HasTypedFields, schema-out}
use Rattle.tb_frame.proofs.Tables.{length-rows_of, row_is}

-- with a column, the table is as high as the pairs are many
pub height-fill : (ps : List JoinPair) (os : List Out) → 0 < length os → height (map (fill ps) os) ≡ length ps
height-fill ps [] h = absurd (omega arith)
height-fill ps (o ∷ os) h = length-map ps o.at

row-fill : (ps : List JoinPair) (os : List Out) (k : ℕ) → k < length ps → row_at (map (fill ps) os) k ≡ map (λ (o : Out). o.at (get_or ps k (left_only 0))) os
row-fill ps os k low =
    map-map (λ (c : TableColumn). get_or c.values k null) (fill ps) os
    ∙ ap (λ (f : Out → Datum). map f os) (λ t o. get_or-map o.at ps k (left_only 0) null low t)

pub rows-fill : (ps : List JoinPair) (os : List Out) → 0 < length os → rows_of (map (fill ps) os) ≡ map (λ pair. map (λ (o : Out). o.at pair) os) ps
rows-fill ps os wide =
    let t : Table = map (fill ps) os in
    let f : JoinPair → List Datum = λ pair. map (λ (o : Out). o.at pair) os in
    let high : height t ≡ length ps = height-fill ps os wide in
    let long : length (rows_of t) ≡ length ps = length-rows_of t ∙ high in
    ext_get_or [] (rows_of t) (map f ps) (long ∙ sym (length-map ps f)) (λ k low.
    let in_t : k < height t = omega (arith, long, high) in
    let in_ps : k < length ps = omega (arith, long) in
    row_is t k in_t ∙ row-fill ps os k in_ps ∙ sym (get_or-map f ps k (left_only 0) [] in_ps))

pub names-fill : (ps : List JoinPair) (os : List Out) → names_of (map (fill ps) os) ≡ map (λ (o : Out). o.name) os
names-fill ps os = map-map (λ (c : TableColumn). c.name) (fill ps) os

pub level-fill : (ps : List JoinPair) (os : List Out) → All (λ (c : TableColumn). length c.values ≡ length ps) (map (fill ps) os)
level-fill ps os = All-map (λ (c : TableColumn). length c.values ≡ length ps) (fill ps) os (λ k d low. length-map ps (get_or os k d).at)

pub table-fill : (ps : List JoinPair) (os : List Out) → AllPairs (λ (a b : Name). a ≢ b) (map (λ (o : Out). o.name) os) → All HasTypedFields os → IsTable (map (fill ps) os)
table-fill ps os apart typed = record {
  distinct = subst (λ (ns : List Name). AllPairs (λ (a b : Name). a ≢ b) ns) (sym (names-fill ps os)) apart;
  one_height = level_height (length ps) (map (fill ps) os) (level-fill ps os);
  typed = All-map IsTyped (fill ps) os (λ k d low. All-map (HasType (get_or os k d).kind) (get_or os k d).at ps (λ i e under. typed k d low (get_or ps i e)));
}

-- where no name is repeated, the columns are not refused
pub fill-refusal : (ps : List JoinPair) (os : List Out) → AllPairs (λ (a b : Name). a ≢ b) (map (λ (o : Out). o.name) os) → frame_refusal (map (fill ps) os) ≡ None
fill-refusal ps os apart = no_refusal (map (fill ps) os) (length ps) (level-fill ps os) (ap first_repeated (names-fill ps os) ∙ unrepeated_names (map (λ (o : Out). o.name) os) apart)

-- a table without a column has no rows
rows-nothing : (os : List Out) → rows_of (map (fill []) os) ≡ []
rows-nothing [] = refl
rows-nothing (o ∷ os) = refl

some_or_nothing : (ps : List JoinPair) (os : List Out) → (0 < length os) ⊎ (ps ≡ []) → rows_of (map (fill ps) os) ≡ map (λ pair. map (λ (o : Out). o.at pair) os) ps
some_or_nothing ps os (inl wide) = rows-fill ps os wide
some_or_nothing ps os (inr none) = ap (λ (xs : List JoinPair). rows_of (map (fill xs) os)) none ∙ rows-nothing os ∙ sym (ap (map (λ pair. map (λ (o : Out). o.at pair) os)) none)

-- with a column, or without pairs
pub answer_of : (q : Request) (ps : List JoinPair) → IsTable (map (fill (cut q.args.slice ps)) (out q)) → (0 < length (out q)) ⊎ (cut q.args.slice ps ≡ []) → IsOrdered q.args.how q.args.maintain_order ps (listing q) → IsAnswer q (map (fill (cut q.args.slice ps)) (out q))
answer_of q ps table wide ordered = record {
  table = table;
  columns = map-map (λ (c : TableColumn). (c.name, c.kind)) (fill (cut q.args.slice ps)) (out q) ∙ schema-out q;
  pairs = ps;
  ordered = ordered;
  rows = some_or_nothing (cut q.args.slice ps) (out q) wide;
}
