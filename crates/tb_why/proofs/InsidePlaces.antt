-- Which places are the whole.
use Rattle.std.proofs.Common.{◌≡◌, ◌∙◌, List, [], ◌∷◌, ◌++◌, Option, Some, None, codes, refl, sym}
use Rattle.std.specs.Prelude.{◌↔◌, is_some, option_and_then, IsSomeAnd}
use Rattle.serde_json.specs.Data.{Data, Members}
use Rattle.serde_json.specs.Find.{as_object, get}
use Rattle.tb_value.specs.Promise.Names.{Name}
use Rattle.tb_request.specs.declared.request.Reason.{Reason}
use Rattle.tb_request.specs.declared.request.Reason.TheVariants as why
use Rattle.tb_request.specs.declared.known.Form.TheVariants as form
use Rattle.tb_request.specs.declared.shape.Format.{Format}
use Rattle.tb_request.specs.Promise.Members.{Known, names_of}
use Rattle.tb_why.specs.declared.spot.Command.{Command}
use Rattle.tb_why.specs.declared.spot.Command.TheVariants as command
use Rattle.tb_why.specs.declared.spot.Expected.TheVariants as expected
use Rattle.tb_why.specs.declared.spot.Step.{Step}
use Rattle.tb_why.specs.declared.spot.Step.TheVariants.{Member}
use Rattle.tb_why.specs.Spots.{Spot, inside, or_else, spot_here, under, unless}
use Rattle.tb_why.specs.Arguments.{args_spot}
use Rattle.tb_why.specs.Members.{each_known, fault_of, unknown_in, unknown_spot}
use Rattle.tb_why.specs.Requests.{aggs_spot, entries_spot, exec_spot, format_at, members_of, only_spot, parts_spot, plan_spot, request_spot, sides_spot}
use Rattle.tb_why.specs.Steps.{steps_spot}
use Rattle.tb_why.specs.Laws.{EachReasonHasAPlace}
use Rattle.tb_why.proofs.Places.{is_placed}

-- ---- places inside the whole

abbrev IsInside : Option Spot → Type 0
IsInside o = (s : Spot) → o ≡ Some s → s.path ≡ [] → ⊥

same_path : (s t : Spot) → Some s ≡ Some t → s.path ≡ t.path
same_path s t e = cc

some_step : (steps : List Step) (s : Step) → steps ++ s ∷ [] ≡ [] → ⊥
some_step [] s e = cc
some_step (t ∷ ts) s e = cc

no_spot : IsInside None
no_spot s e h = cc

steps_in : (step : Step) (o : Option Spot) → IsInside (under step o)
steps_in step None = no_spot
steps_in step (Some p) = λ s e h. some_step p.path step (same_path (record { path = p.path ++ step ∷ []; expected = p.expected }) s e ∙ h)

either_in : (a b : Option Spot) → IsInside a → IsInside b → IsInside (or_else a b)
either_in None b h k = k
either_in (Some p) b h k = h

unknown_is_inside : (o : Option Name) → IsInside (option_and_then (λ (k : Name). under (Member k) (spot_here expected.NoMember)) o)
unknown_is_inside None = no_spot
unknown_is_inside (Some k) = steps_in (Member k) (spot_here expected.NoMember)

known_is_inside : (ks : List Known) (d : Data) → IsInside (each_known ks d)
known_is_inside [] d = no_spot
known_is_inside (k ∷ ks) d = either_in _ _ (steps_in (Member k.name) (fault_of k (get k.name d))) (known_is_inside ks d)

-- of both tables, and of the only one
sides_are_inside : (f : Format) (reason : Reason) (d : Data) → IsInside (sides_spot f reason d)
sides_are_inside f why.Json d = either_in _ _ (steps_in _ _) (steps_in _ _)
sides_are_inside f why.Shape d = either_in _ _ (steps_in _ _) (steps_in _ _)
sides_are_inside f why.Value d = either_in _ _ (steps_in _ _) (steps_in _ _)
sides_are_inside f why.Rows d = either_in _ _ (steps_in _ _) (steps_in _ _)
sides_are_inside f why.Exec d = either_in _ _ (steps_in _ _) (steps_in _ _)
sides_are_inside f why.Heights d = either_in _ _ (steps_in _ _) (steps_in _ _)
sides_are_inside f why.Name d = either_in _ _ (steps_in _ _) (steps_in _ _)
sides_are_inside f why.Flag d = either_in _ _ (steps_in _ _) (steps_in _ _)

only_is_inside : (f : Format) (reason : Reason) (d : Data) → IsInside (only_spot f reason d)
only_is_inside f why.Json d = steps_in _ _
only_is_inside f why.Shape d = steps_in _ _
only_is_inside f why.Value d = steps_in _ _
only_is_inside f why.Rows d = steps_in _ _
only_is_inside f why.Exec d = steps_in _ _
only_is_inside f why.Heights d = steps_in _ _
only_is_inside f why.Name d = steps_in _ _
only_is_inside f why.Flag d = steps_in _ _

plan_is_inside : (d : Data) → IsInside (plan_spot d)
plan_is_inside d = either_in _ _ (steps_in _ _) (steps_in _ _)

parts_are_inside : (c : Command) (f : Format) (reason : Reason) (d : Data) → IsInside (parts_spot c f reason d)
parts_are_inside command.Join f reason d =
    let args = inside (codes "args") args_spot d in
    either_in args (or_else (exec_spot reason d) (sides_spot f reason d)) (steps_in (Member (codes "args")) _) (either_in (exec_spot reason d) (sides_spot f reason d) (steps_in (Member (codes "exec")) _) (sides_are_inside f reason d))
parts_are_inside command.Unpivot f reason d = only_is_inside f reason d
parts_are_inside command.Dummies f reason d = only_is_inside f reason d
parts_are_inside command.Pivot f reason d = only_is_inside f reason d
parts_are_inside command.Plan f reason d =
    let tables = inside (codes "tables") (entries_spot f reason) d in
    either_in (plan_spot d) (or_else (exec_spot reason d) tables) (plan_is_inside d) (either_in (exec_spot reason d) tables (steps_in (Member (codes "exec")) _) (steps_in (Member (codes "tables")) _))
parts_are_inside command.Delta f reason d =
    either_in (sides_spot f reason d) (inside (codes "steps") (steps_spot reason d) d) (sides_are_inside f reason d) (steps_in (Member (codes "steps")) _)
parts_are_inside command.Group f reason d =
    let aggs = inside (codes "aggs") aggs_spot d in
    either_in aggs (or_else (exec_spot reason d) (only_spot f reason d)) (steps_in (Member (codes "aggs")) _) (either_in (exec_spot reason d) (only_spot f reason d) (steps_in (Member (codes "exec")) _) (only_is_inside f reason d))

-- ---- the whole

abbrev spot_of : Option Members → Option Spot → Option Spot
spot_of o inner = or_else (unless (is_some o) (expected.Form form.Object)) inner

first_of_three : (a b c : Option Spot) → or_else (or_else a b) c ≡ or_else a (or_else b c)
first_of_three None b c = refl
first_of_three (Some p) b c = refl

whole_only : (o : Option Members) (inner : Option Spot) → IsInside inner → (s : Spot) → spot_of o inner ≡ Some s → (s.path ≡ []) ↔ (o ≡ None)
whole_only None inner h s e = ((λ _. refl), (λ _. sym (same_path (record { path = []; expected = expected.Form form.Object }) s e)))
whole_only (Some ms) inner h s e = ((λ k. absurd (h s e k)), (λ k. cc))

is_whole : (c : Command) (reason : Reason) (d : Data) (s : Spot) → request_spot c reason d ≡ Some s → (s.path ≡ []) ↔ (as_object d ≡ None)
is_whole c reason d s e =
    let ks = members_of c in
    let members = or_else (unknown_spot (names_of ks) d) (each_known ks d) in
    let parts = parts_spot c (format_at d) reason d in
    whole_only (as_object d) (or_else members parts)
    (either_in members parts (either_in _ _ (unknown_is_inside (unknown_in (names_of ks) d)) (known_is_inside ks d)) (parts_are_inside c (format_at d) reason d))
    s (sym (first_of_three _ members parts) ∙ e)

-- ---- the law

some_and : {A : Type 0} (o : Option A) (P : A → Type 0) → (o ≡ None → ⊥) → ((x : A) → o ≡ Some x → P x) → IsSomeAnd o P
some_and None P h k = h refl
some_and (Some x) P h k = k x refl

pub each_has_a_place : EachReasonHasAPlace
each_has_a_place c bytes d reason is h = some_and (request_spot c reason d) (λ (s : Spot). (s.path ≡ []) ↔ (as_object d ≡ None)) (is_placed c bytes d reason is h) (is_whole c reason d)
