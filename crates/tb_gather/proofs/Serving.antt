-- One list of ids serves columns that are cut alike.
use Rattle.std.proofs.Common.{◌≡◌, ◌∙◌, ℕ, List, [], ◌∷◌, length, map, get_or, ap, sym, subst, refl, Bor, Some, Option}
use Rattle.std.specs.Prelude.{unwrap_or}
use Rattle.std.specs.List.{All, slice_get}
use Rattle.std.specs.Option.{option_map}
use Rattle.std.proofs.lemmas.Option.{slice_get-map}
use Rattle.std.proofs.lemmas.List.{length-map}
use Rattle.std.proofs.lemmas.List.Elements.{All-head, All-tail}
use Rattle.tb_value.specs.declared.sorted.IsSorted.{IsSorted}
use Rattle.tb_chunk.specs.Promise.Col.{Col, values}
use Rattle.tb_chunk.specs.Lent.{lent_columns}
use Rattle.tb_chunk.specs.Rows.{value_or_null}
use Rattle.tb_chunk.specs.ViewArrays.{view_or_none, joined_view_array}
use Rattle.tb_frame.specs.Frame.{lens, AreCutAlike}
use Rattle.tb_frame.proofs.Cuts.{alike-by_first}
use Rattle.tb_gather.specs.Ids.{Id, NamesRow, row_or_none}
use Rattle.tb_gather.specs.Gathered.{NameRows, gathered_flag, named_rows, pick, gathered_rows, value_of_id}
use Rattle.tb_gather.specs.declared.keep.Keep.TheVariants as keep
use Rattle.tb_gather.proofs.Cuts.{gathered-pick, picked-numbers}
use Rattle.tb_gather.proofs.Flags.{flags-turned}

-- the first of columns that are lent is the first of the columns
pub first_lent : (bs : List (Bor Col)) (b : Bor Col) → Some b ≡ slice_get bs 0 → Some b.now ≡ slice_get (lent_columns bs) 0
first_lent bs b is = ap (option_map (λ (x : Bor Col). x.now)) is ∙ sym (slice_get-map (λ (x : Bor Col). x.now) bs 0)

-- what holds of each item holds of the first
pub first-of : {X : Type 0} (P : X → Type 0) (xs : List X) (x : X) → Some x ≡ slice_get xs 0 → All P xs → P x
first-of P [] x is h = absurd (cc)
first-of {X} P (y ∷ xs) x is h = subst P (sym (ap (λ (o : Option X). unwrap_or o x) is)) (All-head P y xs h)

-- functions that agree on each item of a list
map-agreed : {X Y : Type 0} (f g : X → Y) (xs : List X) → All (λ x. f x ≡ g x) xs → map f xs ≡ map g xs
map-agreed f g [] h = refl
map-agreed f g (x ∷ xs) h = λ i. All-head (λ y. f y ≡ g y) x xs h i ∷ map-agreed f g xs (All-tail (λ y. f y ≡ g y) x xs h) i

module _ (cs : List Col) (first : Col) (is : Some first ≡ slice_get cs 0) (alike : AreCutAlike cs) (ids : List Id) (rows : List (Option ℕ)) (named : NameRows ids first) (numbers : map (row_or_none (lens first)) ids ≡ rows) where
  same : All (λ (c : Col). lens c ≡ lens first) cs
  same = (alike-by_first cs first is).1 alike

  pub named-each : All (NameRows ids) cs
  named-each = λ k d low. subst (λ (ns : List ℕ). All (NamesRow ns) ids) (sym (same k d low)) named

  pub length-ids : length ids ≡ length rows
  length-ids = sym (length-map ids (row_or_none (lens first))) ∙ ap (λ (ns : List (Option ℕ)). length ns) numbers

  module _ (sorted : IsSorted) where
    -- the rows that ids name, over the buffers of all chunks
    abbrev over_all : Col → Col
    over_all c = named_rows keep.All ids (gathered_flag c.flag sorted) c

    taken-of : (c : Col) → lens c ≡ lens first → over_all c ≡ gathered_rows rows sorted c
    taken-of c e =
        let own : map (row_or_none (lens c)) ids ≡ rows = ap (λ (ns : List ℕ). map (row_or_none ns) ids) e ∙ numbers in
        let picked : map (value_of_id c.chunks) ids ≡ map (value_or_null (values c)) rows = gathered-pick c.chunks ids ∙ ap (pick (values c)) own in
        let vs = (joined_view_array c.view_arrays).views in
        let views : map (λ id. view_or_none vs (row_or_none (lens c) id)) ids ≡ map (view_or_none vs) rows =
        picked-numbers (row_or_none (lens c)) ids vs ∙ ap (map (view_or_none vs)) own
        in
        λ i. let k : Col = record c { chunks = picked i ∷ []; flag = flags-turned c.flag sorted i; view_arrays = record (joined_view_array c.view_arrays) { views = views i } ∷ [] } in k

    pub gathered-rows : map (λ c. named_rows keep.All ids (gathered_flag c.flag sorted) c) cs ≡ map (gathered_rows rows sorted) cs
    gathered-rows = map-agreed over_all (gathered_rows rows sorted) cs (λ k d low. taken-of (get_or cs k d) (same k d low))
