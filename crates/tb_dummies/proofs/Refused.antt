-- For what the table of the columns in place is refused.
use Rattle.std.proofs.Common.{◌≡◌, ◌∙◌, Bool, List, [], ◌∷◌, Option, Some, None, inl, inr, refl, sym, ap}
use Rattle.std.specs.Prelude.{◌⊎◌}
use Rattle.std.specs.List.{flat_map}
use Rattle.tb_value.specs.Promise.Names.{Name}
use Rattle.tb_value.specs.Promise.Refusals.{first_cause}
use Rattle.tb_value.specs.declared.error.PolarsError.{PolarsError}
use Rattle.tb_value.specs.declared.error.PolarsError.TheVariants.{OutOfMemory}
use Rattle.tb_frame.specs.Frame.{frame_refusal}
use Rattle.tb_frame.specs.Promise.Refusal.{repeated_among}
use Rattle.tb_frame.specs.Promise.Table.{Table, IsTable, height, names_of}
use Rattle.tb_frame.proofs.Frames.{level_refusal}
use Rattle.tb_dummies.specs.Promise.Dummies.{Request, dummies_refusal, dummies_table, header_cause, in_place_of, is_replaced}
use Rattle.tb_dummies.proofs.Made.{places_high}

-- where no column is refused, the columns in place are refused as the request is
pub in_place_refusal : (q : Request) (all : Table) → IsTable q.table → all ≡ dummies_table q → header_cause (is_replaced q.columns) q.table ≡ None → frame_refusal all ≡ dummies_refusal q
in_place_refusal q all table made none =
    ap frame_refusal made
    ∙ level_refusal (dummies_table q) (height q.table) (places_high (height q.table) q.separator q.drop_first (is_replaced q.columns) q.table table.one_height) (names_of (dummies_table q)) refl
    ∙ sym (ap (λ (o : Option PolarsError). first_cause (o ∷ repeated_among (names_of (dummies_table q)) ∷ [])) none)

-- the columns that are replaced, told in two ways
pub same_cause : (f g : Name → Bool) (t u : Table) → ((n : Name) → f n ≡ g n) → t ≡ u → header_cause f t ≡ header_cause g u
same_cause f g t u each is = λ i. header_cause (λ n. each n i) (is i)

pub same_places : (f g : Name → Bool) (m n : Name) (drop_first : Bool) (t u : Table) → ((n : Name) → f n ≡ g n) → m ≡ n → t ≡ u
    → flat_map (in_place_of f m drop_first) t ≡ flat_map (in_place_of g n drop_first) u
same_places f g m n drop_first t u each separator is = λ i. flat_map (in_place_of (λ k. each k i) (separator i) drop_first) (is i)

-- the first of the causes
pub first_stops : (e : PolarsError) (a b : Option PolarsError) (rest : List (Option PolarsError)) → a ≡ b → (e ≡ OutOfMemory) ⊎ (a ≡ Some e) → (e ≡ OutOfMemory) ⊎ (first_cause (b ∷ rest) ≡ Some e)
first_stops e a b rest same (inl want) = inl want
first_stops e a b rest same (inr cause) = inr (ap (λ (o : Option PolarsError). first_cause (o ∷ rest)) (sym same ∙ cause))
