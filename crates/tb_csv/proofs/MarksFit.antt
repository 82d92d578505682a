-- Each field of a text has a mark.
use Rattle.std.proofs.Common.{◌≡◌, ◌≤◌, ◌+◌, ◌-◌, ◌++◌, ◌∷◌, [], ℕ, zero, suc, List, Bool, true, false, Option, Some, None, cond, length, refl, ap, arith, ◌==◌}
use Rattle.std.specs.Prelude.{◌||◌}
use Rattle.std.proofs.lemmas.List.{length-append}
use Rattle.csv.specs.Machine.{Read, ends_at_end, field_after, fields_after, in_field, is_end, next_record, step}
use Rattle.csv.specs.Reading.{is_bom, records_from, records_next, strip_bom}
use Rattle.csv.specs.declared.parser.Action.{Action}
use Rattle.csv.specs.declared.parser.Action.TheVariants as act
use Rattle.csv.specs.declared.parser.Config.{Config}
use Rattle.csv.specs.declared.parser.State.{State}
use Rattle.csv.specs.declared.parser.State.TheVariants as st
use Rattle.tb_csv.specs.Read.{all_fields}
use Rattle.tb_csv.specs.Promise.Records.{Line, ends_field, form, is_quoted, lines_of, marks_from, marks_of}

-- WHERE A STEP LEADS

-- inside a record whose end is still to come
abbrev pub inside : State → Bool
inside st.StartField = true
inside st.InField = true
inside st.InQuoted = true
inside st.AfterQuote = true
inside st.InEscape = true
inside _ = false

abbrev splits : Action → Bool
splits act.EndField = true
splits _ = false

-- a record ends outside, and from inside, or behind a field of a record, a step stays inside
abbrev Leads : Bool → State × Action → Type 0
Leads b p = (is_end p.1 ≡ true → ends_at_end p.0 ≡ false) × (is_end p.1 ≡ false → b ≡ true → inside p.0 ≡ true) × (splits p.1 ≡ true → inside p.0 ≡ true)

in_field_leads : (x a b d : Bool) → Leads x (cond {A = State × Action} a (st.StartField, act.EndField) (cond {A = State × Action} b (cond d st.AfterCr st.StartRecord, act.EndRecord) (st.InField, act.Copy)))
in_field_leads x true b d = (λ h. cc h, λ h i. refl, λ h. refl)
in_field_leads x false true true = (λ h. refl, λ h i. cc h, λ h. cc h)
in_field_leads x false true false = (λ h. refl, λ h i. cc h, λ h. cc h)
in_field_leads x false false d = (λ h. cc h, λ h i. refl, λ h. refl)

field_leads : (x : Bool) (separator c : ℕ) → Leads x (in_field (form separator) c)
field_leads x separator c = in_field_leads x (c == separator) ((c == 13) || (c == 10)) (c == 13)

chosen_leads : (x b : Bool) (p q : State × Action) → Leads x p → Leads x q → Leads x (cond {A = State × Action} b p q)
chosen_leads x true p q left right = left
chosen_leads x false p q left right = right

skip_leads : (x : Bool) (s : State) → (x ≡ true → inside s ≡ true) → Leads x (s, act.Skip)
skip_leads x s h = (λ e. cc e, λ e i. h i, λ e. cc e)

copy_leads : (x : Bool) (s : State) → (x ≡ true → inside s ≡ true) → Leads x (s, act.Copy)
copy_leads x s h = (λ e. cc e, λ e i. h i, λ e. cc e)

start_leads : (x : Bool) (separator c : ℕ) → Leads x (cond {A = State × Action} (c == 34) (st.InQuoted, act.Skip) (in_field (form separator) c))
start_leads x separator c = chosen_leads x (c == 34) (st.InQuoted, act.Skip) (in_field (form separator) c) (skip_leads x st.InQuoted (λ i. refl)) (field_leads x separator c)

record_leads : (separator c : ℕ) → Leads false (step (form separator) st.StartRecord c)
record_leads separator c =
    chosen_leads false ((c == 13) || (c == 10)) (st.StartRecord, act.Skip) (cond {A = State × Action} (c == 34) (st.InQuoted, act.Skip) (in_field (form separator) c))
    (skip_leads false st.StartRecord (λ i. cc i)) (start_leads false separator c)

step_leads : (separator : ℕ) (s : State) (c : ℕ) → Leads (inside s) (step (form separator) s c)
step_leads separator st.StartRecord c = record_leads separator c
step_leads separator st.StartField c = start_leads true separator c
step_leads separator st.InField c = field_leads true separator c
step_leads separator st.InQuoted c = chosen_leads true (c == 34) (st.AfterQuote, act.Skip) (st.InQuoted, act.Copy) (skip_leads true st.AfterQuote (λ i. refl)) (copy_leads true st.InQuoted (λ i. refl))
step_leads separator st.AfterQuote c = chosen_leads true (c == 34) (st.InQuoted, act.Copy) (in_field (form separator) c) (copy_leads true st.InQuoted (λ i. refl)) (field_leads true separator c)
step_leads separator st.InEscape c = copy_leads true st.InQuoted (λ i. refl)
step_leads separator st.InComment c = chosen_leads false (c == 10) (st.StartRecord, act.Skip) (st.InComment, act.Skip) (skip_leads false st.StartRecord (λ i. cc i)) (skip_leads false st.InComment (λ i. cc i))
step_leads separator st.AfterCr c = chosen_leads false (c == 10) (st.StartRecord, act.Skip) (step (form separator) st.StartRecord c) (skip_leads false st.StartRecord (λ i. cc i)) (record_leads separator c)

-- FROM INSIDE THERE IS A RECORD

abbrev IsThere : Option Read → Type 0
IsThere None = ⊥
IsThere (Some p) = Unit {0}

there_at_end : (s : State) (fields : Line) (field : List ℕ) → inside s ≡ true → IsThere (cond (ends_at_end s) (Some (fields ++ field ∷ [], st.StartRecord, [])) None)
there_at_end st.StartField fields field h = tt
there_at_end st.InField fields field h = tt
there_at_end st.InQuoted fields field h = tt
there_at_end st.AfterQuote fields field h = tt
there_at_end st.InEscape fields field h = tt
there_at_end _ fields field h = cc

there_after : (e : Bool) (p : Read) (o : Option Read) → (e ≡ false → IsThere o) → IsThere (cond e (Some p) o)
there_after true p o h = tt
there_after false p o h = h refl

there : (separator : ℕ) (s : State) (fields : Line) (field xs : List ℕ) → inside s ≡ true → IsThere (next_record (form separator) s fields field xs)
unfolding next_record
there separator s fields field [] h = there_at_end s fields field h
there separator s fields field (c ∷ rest) h =
    let leads = step_leads separator s c in
    there_after (is_end (step (form separator) s c).1) _ _ (λ e. there separator (step (form separator) s c).0 _ _ rest (leads.1 e h))

-- ONE RECORD

-- the marks from a place on, beside the next record from there, of which so many fields are read. At most so many bytes are left behind it
abbrev pub Fits : Config → ℕ → ℕ → List Bool → Option Read → Type 0
Fits cfg fields most marks None = marks ≡ []
Fits cfg fields most marks (Some p) = (fields + length marks ≡ length p.0 + length (marks_from cfg p.1 p.2)) × (length p.2 ≤ most) × (ends_at_end p.1 ≡ false)

pushed : (fields : Line) (field : List ℕ) → length (fields ++ field ∷ []) ≡ length fields + 1
pushed fields field = length-append fields (field ∷ [])

fits_end : (cfg : Config) (e q : Bool) (fields : Line) (field : List ℕ)
    → Fits cfg (length fields) 0 (cond e (q ∷ []) []) (cond e (Some (fields ++ field ∷ [], st.StartRecord, [])) None)
unfolding marks_from
fits_end cfg true q fields field = (omega (arith, pushed fields field), omega arith, refl)
fits_end cfg false q fields field = refl

fits_later : (cfg : Config) (fields most more : ℕ) (marks : List Bool) (o : Option Read) → most ≤ more → Fits cfg fields most marks o → Fits cfg fields more marks o
fits_later cfg fields most more marks None low h = h
fits_later cfg fields most more marks (Some p) low h = (h.0, omega (arith, h.1), h.2)

fits_field : (cfg : Config) (before fields most more : ℕ) (q : Bool) (marks : List Bool) (o : Option Read) → before ≡ fields + 1 → most ≤ more → IsThere o → Fits cfg before most marks o → Fits cfg fields more (q ∷ marks) o
fits_field cfg before fields most more q marks None is low there h = absurd there
fits_field cfg before fields most more q marks (Some p) is low there h = (omega (arith, h.0, is), omega (arith, h.1), h.2)

-- one byte
fits_step : (cfg : Config) (q : Bool) (t : State) (a : Action) (c : ℕ) (rest : List ℕ) (fields : Line) (field : List ℕ) → (is_end a ≡ true → ends_at_end t ≡ false)
    → ((fs : Line) (f : List ℕ) → Fits cfg (length fs) (length rest - 1) (marks_from cfg t rest) (next_record cfg t fs f rest))
    → (splits a ≡ true → (fs : Line) (f : List ℕ) → IsThere (next_record cfg t fs f rest))
    → Fits cfg (length fields) (length rest) (cond (ends_field a) (q ∷ marks_from cfg t rest) (marks_from cfg t rest))
    (cond (is_end a) (Some (fields_after a fields field, t, rest)) (next_record cfg t (fields_after a fields field) (field_after a c field) rest))
fits_step cfg q t act.Skip c rest fields field ends more goes_on = fits_later cfg (length fields) (length rest - 1) (length rest) (marks_from cfg t rest) _ (omega arith) (more fields field)
fits_step cfg q t act.Copy c rest fields field ends more goes_on = fits_later cfg (length fields) (length rest - 1) (length rest) (marks_from cfg t rest) _ (omega arith) (more fields (field ++ c ∷ []))
fits_step cfg q t act.EndField c rest fields field ends more goes_on =
    fits_field cfg (length (fields ++ field ∷ [])) (length fields) (length rest - 1) (length rest) q (marks_from cfg t rest) _ (pushed fields field) (omega arith)
    (goes_on refl (fields ++ field ∷ []) []) (more (fields ++ field ∷ []) [])
fits_step cfg q t act.EndRecord c rest fields field ends more goes_on = (omega (arith, pushed fields field), omega arith, ends refl)

pub fits : (separator : ℕ) (s : State) (fields : Line) (field xs : List ℕ)
    → Fits (form separator) (length fields) (length xs - 1) (marks_from (form separator) s xs) (next_record (form separator) s fields field xs)
unfolding marks_from next_record
fits separator s fields field [] = fits_end (form separator) (ends_at_end s) (is_quoted s) fields field
fits separator s fields field (c ∷ rest) =
    let leads = step_leads separator s c in
    let t = (step (form separator) s c).0 in
    fits_later (form separator) (length fields) (length rest) (length (c ∷ rest) - 1) _ _ (omega arith)
    (fits_step (form separator) (is_quoted s) t (step (form separator) s c).1 c rest fields field leads.0 (λ fs f. fits separator t fs f rest) (λ e fs f. there separator t fs f rest (leads.2 e)))

-- THE RECORDS

count_next : (cfg : Config) (n most : ℕ) (marks : List Bool) (o : Option Read) → most ≤ n → ((s : State) (xs : List ℕ) → length xs ≤ n → ends_at_end s ≡ false → length (marks_from cfg s xs) ≡ length (all_fields (records_from cfg n s xs)))
    → Fits cfg 0 most marks o → length marks ≡ length (all_fields (records_next (records_from cfg n) o))
count_next cfg n most marks None low more h = ap length h
count_next cfg n most marks (Some p) low more h =
    let rest = more p.1 p.2 (omega (arith, h.1)) h.2 in
    omega (arith, h.0, rest, length-append p.0 (all_fields (records_from cfg n p.1 p.2)))

counts : (separator n : ℕ) (s : State) (xs : List ℕ) → length xs ≤ n → ends_at_end s ≡ false → length (marks_from (form separator) s xs) ≡ length (all_fields (records_from (form separator) n s xs))
unfolding marks_from records_from
counts separator zero s [] low h = rw h refl
counts separator zero s (c ∷ rest) low h = absurd (omega (arith, low))
counts separator (suc n) s xs low h =
    count_next (form separator) n (length xs - 1) (marks_from (form separator) s xs) (next_record (form separator) s [] [] xs) (omega (arith, low)) (λ t ys small outside. counts separator n t ys small outside) (fits separator s [] [] xs)

no_longer : (b : Bool) (x y z : ℕ) (rest : List ℕ) → length (cond b rest (x ∷ y ∷ z ∷ rest)) ≤ length (x ∷ y ∷ z ∷ rest)
no_longer true x y z rest = omega arith
no_longer false x y z rest = omega arith

pub stripped_length : (xs : List ℕ) → length (strip_bom xs) ≤ length xs
unfolding strip_bom
stripped_length [] = omega arith
stripped_length (x ∷ []) = omega arith
stripped_length (x ∷ y ∷ []) = omega arith
stripped_length (x ∷ y ∷ z ∷ rest) = no_longer (is_bom x y z) x y z rest

pub marks_count : (separator : ℕ) (text : List ℕ) → length (marks_of separator text) ≡ length (all_fields (lines_of separator text))
unfolding marks_of lines_of
marks_count separator text = counts separator (length text + 1) st.StartRecord (strip_bom text) (omega (arith, stripped_length text)) refl
