-- Why several tables are none, by why some of them are and why one more is.
use Rattle.std.proofs.Common.{◌≡◌, ◌∙◌, List, [], ◌∷◌, ◌++◌, map, Bool, true, false, ◌&&◌, Option, Some, None, refl, ap}
use Rattle.std.specs.Prelude.{Result, Ok, Err, ⊤}
use Rattle.std.specs.List.{list_all}
use Rattle.std.proofs.lemmas.List.{map-append}
use Rattle.std.proofs.lemmas.List.Folds.{list_all-append}
use Rattle.tb_chunk.specs.Promise.Col.{Col}
use Rattle.tb_frame.specs.Promise.Table.{table_of, names_of}
use Rattle.tb_frame.specs.Promise.Frame.{are_level}
use Rattle.tb_request.specs.declared.request.Reason.{Reason}
use Rattle.tb_request.specs.declared.request.Reason.TheVariants.{Heights, Name, Flag}
use Rattle.tb_request.specs.Promise.Flags.{flags_hold}
use Rattle.tb_request.specs.Promise.Reading.{◌>>=◌, only_if, are_distinct, are_frames, are_tables, earlier_reason, earliest_reason, IsJudged}

abbrev verdict : Bool → Bool → Bool → Result ⊤ Reason
verdict a b c = (only_if a Heights >>= λ _. only_if b Name) >>= λ _. only_if c Flag

abbrev level : List (List Col) → Bool
level ts = list_all are_level (map table_of ts)

abbrev distinct : List (List Col) → Bool
distinct ts = list_all (λ t. are_distinct (names_of t)) (map table_of ts)

abbrev hold : List (List Col) → Bool
hold ts = list_all flags_hold ts

judged : (ts us : List (List Col)) → are_tables (ts ++ us) ≡ verdict (level ts && level us) (distinct ts && distinct us) (hold ts && hold us)
unfolding are_tables are_frames
judged ts us = λ i. verdict
    ((ap (list_all are_level) (map-append table_of ts us) ∙ list_all-append are_level (map table_of ts) (map table_of us)) i)
    ((ap (list_all (λ t. are_distinct (names_of t))) (map-append table_of ts us) ∙ list_all-append (λ t. are_distinct (names_of t)) (map table_of ts) (map table_of us)) i)
    (list_all-append flags_hold ts us i)

-- what is said of all tables, by what is said of some and of others
abbrev joined : Result ⊤ Reason → Result ⊤ Reason → Result ⊤ Reason
joined (Ok a) r = r
joined (Err e) (Ok a) = Err e
joined (Err e) (Err f) = Err (earlier_reason e f)

both : (a b c a' b' c' : Bool) → verdict (a && a') (b && b') (c && c') ≡ joined (verdict a b c) (verdict a' b' c')
both true true true a' b' c' = refl
both true true false true true true = refl
both true true false true true false = refl
both true true false true false c' = refl
both true true false false b' c' = refl
both true false c true true true = refl
both true false c true true false = refl
both true false c true false c' = refl
both true false c false b' c' = refl
both false b c true true true = refl
both false b c true true false = refl
both false b c true false c' = refl
both false b c false b' c' = refl

judged_joined : (ts : List (List Col)) (t : List Col) → are_tables (ts ++ t ∷ []) ≡ joined (are_tables ts) (are_tables (t ∷ []))
unfolding are_tables are_frames
judged_joined ts t = judged ts (t ∷ []) ∙ both (level ts) (distinct ts) (hold ts) (level (t ∷ [])) (distinct (t ∷ [])) (hold (t ∷ []))

pub no_table : IsJudged [] None
unfolding are_tables are_frames
no_table = refl

pub one_more : (ts : List (List Col)) (t : List Col) (fault : Option Reason) → IsJudged ts fault → are_tables (t ∷ []) ≡ Ok tt → IsJudged (ts ++ t ∷ []) fault
one_more ts t None h e = judged_joined ts t ∙ (λ i. joined (h i) (e i))
one_more ts t (Some reason) h e = judged_joined ts t ∙ (λ i. joined (h i) (e i))

pub one_more_none : (ts : List (List Col)) (t : List Col) (fault : Option Reason) (reason : Reason) → IsJudged ts fault → are_tables (t ∷ []) ≡ Err reason → IsJudged (ts ++ t ∷ []) (Some (earliest_reason fault reason))
one_more_none ts t None reason h e = judged_joined ts t ∙ (λ i. joined (h i) (e i))
one_more_none ts t (Some first) reason h e = judged_joined ts t ∙ (λ i. joined (h i) (e i))
