-- Which columns are no tables, and why.
use Rattle.std.proofs.Common.{◌≡◌, ◌≢◌, ◌⊎◌, inl, inr, [], ◌∷◌, Bool, true, false, not, ◌&&◌, Option, Some, None, option_map, refl}
use Rattle.std.specs.Prelude.{is_none, Result, Ok, Err, ⊤}
use Rattle.tb_value.specs.Promise.Names.{Name}
use Rattle.tb_value.specs.Promise.Refusals.{first_cause, when}
use Rattle.tb_value.specs.declared.error.PolarsError.{PolarsError}
use Rattle.tb_value.specs.declared.error.PolarsError.TheVariants.{ColumnNotFound, ComputeError, Duplicate, InvalidOperation, OutOfMemory, SchemaMismatch, ShapeMismatch}
use Rattle.tb_frame.specs.Promise.Table.{Table, names_of}
use Rattle.tb_frame.specs.Promise.Frame.{are_level}
use Rattle.tb_frame.specs.Frame.{frame_refusal}
use Rattle.tb_frame.specs.Promise.Refusal.{first_repeated}
use Rattle.tb_request.specs.declared.request.Reason.{Reason}
use Rattle.tb_request.specs.declared.request.Reason.TheVariants as why
use Rattle.tb_request.specs.declared.request.RequestFault.{RequestFault}
use Rattle.tb_request.specs.declared.request.RequestFault.TheVariants as fault
use Rattle.tb_request.specs.Promise.Reading.{◌>>=◌, only_if, are_distinct, are_frames, fault_of, FaultIs}

-- ---- one table, whether its heights are level and its names are distinct

abbrev one : Bool → Bool → Result ⊤ Reason
one level distinct = only_if (level && true) why.Heights >>= λ _. only_if (distinct && true) why.Name

abbrev cause_of : Bool → Option Name → Option PolarsError
cause_of level repeated = first_cause (when (not level) ShapeMismatch ∷ option_map (λ n. Duplicate n) repeated ∷ [])

passes : (b : Bool) (o : Option Name) → cause_of b o ≡ None → one b (is_none o) ≡ Ok tt
passes true None h = refl
passes true (Some n) h = absurd (cc)
passes false o h = absurd (cc)

uneven : (b : Bool) (o : Option Name) → (ShapeMismatch ≡ OutOfMemory) ⊎ (cause_of b o ≡ Some ShapeMismatch) → one b (is_none o) ≡ Err why.Heights
uneven false o h = refl
uneven true o (inl e) = absurd (cc)
uneven true None (inr e) = absurd (cc)
uneven true (Some n) (inr e) = absurd (cc)

twice : (b : Bool) (o : Option Name) (e : PolarsError) → e ≢ OutOfMemory → e ≢ ShapeMismatch → (e ≡ OutOfMemory) ⊎ (cause_of b o ≡ Some e) → one b (is_none o) ≡ Err why.Name
twice b o e p q (inl h) = absurd (p h)
twice true None e p q (inr h) = absurd (cc)
twice true (Some n) e p q (inr h) = refl
twice false o e p q (inr h) = absurd (q (cc))

pub frame_passes : (t : Table) → frame_refusal t ≡ None → are_frames (t ∷ []) ≡ Ok tt
unfolding are_frames
frame_passes t h = passes (are_level t) (first_repeated (names_of t)) h

heights_differ : (t : Table) → (ShapeMismatch ≡ OutOfMemory) ⊎ (frame_refusal t ≡ Some ShapeMismatch) → are_frames (t ∷ []) ≡ Err why.Heights
unfolding are_frames
heights_differ t h = uneven (are_level t) (first_repeated (names_of t)) h

names_repeat : (t : Table) (e : PolarsError) → e ≢ OutOfMemory → e ≢ ShapeMismatch → (e ≡ OutOfMemory) ⊎ (frame_refusal t ≡ Some e) → are_frames (t ∷ []) ≡ Err why.Name
unfolding are_frames
names_repeat t e p q h = twice (are_level t) (first_repeated (names_of t)) e p q h

pub frame_refused : (t : Table) (e : PolarsError) → (e ≡ OutOfMemory) ⊎ (frame_refusal t ≡ Some e) → FaultIs (fault_of e) (are_frames (t ∷ []))
frame_refused t OutOfMemory h = tt
frame_refused t ShapeMismatch h = heights_differ t h
frame_refused t (Duplicate n) h = names_repeat t (Duplicate n) (λ p. cc) (λ p. cc) h
frame_refused t (ColumnNotFound n) h = names_repeat t (ColumnNotFound n) (λ p. cc) (λ p. cc) h
frame_refused t (InvalidOperation c) h = names_repeat t (InvalidOperation c) (λ p. cc) (λ p. cc) h
frame_refused t (ComputeError c) h = names_repeat t (ComputeError c) (λ p. cc) (λ p. cc) h
frame_refused t SchemaMismatch h = names_repeat t SchemaMismatch (λ p. cc) (λ p. cc) h
