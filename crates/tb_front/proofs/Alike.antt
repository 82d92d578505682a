-- Two tables whose keys are of the same types by themselves.
use Rattle.std.proofs.Common.{◌≡◌, ◌∷◌, ◌∙◌, [], zero, suc, List, Bool, true, false, Option, Some, None, option_map, Result, Ok, IfOk, refl, sym, subst, arith}
use Rattle.std.specs.Prelude.{not}
use Rattle.tb_value.specs.Promise.Kind.{Kind}
use Rattle.tb_value.specs.Promise.Names.{Name}
use Rattle.tb_value.specs.Promise.Refusals.{first_cause, when}
use Rattle.tb_value.specs.Promise.SameKind.{same_kind}
use Rattle.tb_value.specs.Proved.TypeTests.{same_kind-Decides}
use Rattle.tb_chunk.specs.Promise.Col.{Col}
use Rattle.tb_frame.specs.Promise.Join.{column_named}
use Rattle.tb_frame.specs.Promise.Refusal.{first_repeated}
use Rattle.tb_frame.specs.Promise.Table.{Table, TableColumn, table_of}
use Rattle.tb_frame.proofs.Causes.{distinct_names}
use Rattle.tb_csv.specs.Faults as csv
use Rattle.tb_csv.specs.Promise.Faults.{types_fault}
use Rattle.tb_csv.specs.Promise.Records.{Record, line_of}
use Rattle.tb_csv.specs.Promise.Tables.{csv_table}
use Rattle.tb_csv.specs.Read.{IsRead}
use Rattle.tb_csv.specs.declared.fault.CsvFault.{CsvFault}
use Rattle.tb_csv.specs.declared.options.TypeOf.{TypeOf}
use Rattle.tb_csv.specs.declared.records.Records.{Records}
use Rattle.tb_front.specs.declared.fault.FrontFault.{FrontFault}
use Rattle.tb_front.specs.Promise.Faults.{clash, key_clash, names_in}
use Rattle.tb_front.specs.Tables.{AreJoined, IsMade, IsSide}
use Rattle.tb_front.specs.declared.reading.TwoTables.{TwoTables}
use Rattle.tb_front.proofs.ToldAlike.{Agree, own_faults, own_table}

-- NO CLASH

unless_true : {E : Type 0} (b : Bool) (e : E) → when (not b) e ≡ None → b ≡ true
unless_true true e h = refl
unless_true false e h = absurd (cc h)

no_clash : (l r : Option TableColumn) (t u : Kind) → clash l r ≡ None → option_map (λ (c : TableColumn). c.kind) l ≡ Some t → option_map (λ (c : TableColumn). c.kind) r ≡ Some u → t ≡ u
no_clash None r t u h left right = absurd (cc left)
no_clash (Some l) None t u h left right = absurd (cc right)
no_clash (Some l) (Some r) t u h left right =
    let same : l.kind ≡ r.kind = (same_kind-Decides l.kind r.kind).0 (unless_true (same_kind l.kind r.kind) _ h) in
    let first : l.kind ≡ t = cc left in
    let second : r.kind ≡ u = cc right in
    sym first ∙ same ∙ second

parts : (a b : Option FrontFault) → first_cause (a ∷ b ∷ []) ≡ None → (a ≡ None) × (b ≡ None)
parts None None h = (refl, refl)
parts None (Some e) h = absurd (cc h)
parts (Some e) b h = absurd (cc h)

agree : (l r : Table) (on others : List Name) → key_clash l r on others ≡ None → Agree l r on others
agree l r [] others h i t u low left right = absurd (omega (arith, low))
agree l r (n ∷ ns) [] h i t u low left right = absurd (omega (arith, low))
agree l r (n ∷ ns) (m ∷ ms) h zero t u low left right = no_clash (column_named l n) (column_named r m) t u (parts (clash (column_named l n) (column_named r m)) (key_clash l r ns ms) h).0 left right
agree l r (n ∷ ns) (m ∷ ms) h (suc i) t u low left right = agree l r ns ms (parts (clash (column_named l n) (column_named r m)) (key_clash l r ns ms) h).1 i t u (omega (arith, low)) left right

turned : (l r : Table) (on others : List Name) → Agree l r on others → Agree r l others on
turned l r on others h = λ i t u low left right. sym (h i u t (omega (arith, low)) right left)

-- ONE SIDE

module _ (types : List TypeOf) (os : List Record) (on others : List Name) where
  side : (rs : List Record) (t : List Col) → first_repeated (names_in rs) ≡ None → Agree (csv_table types rs) (csv_table types os) on others
      → types_fault types rs ≡ None → table_of t ≡ csv_table types rs → IsSide types rs os on others t
  side [] t apart h sound is = record { sound = refl; table = is }
  side (names ∷ rows) t apart h sound is = record {
    sound = own_faults types names rows os on others (distinct_names (line_of names) apart) h ∙ sound;
    table = is ∙ sym (own_table types names rows os on others (distinct_names (line_of names) apart) h);
  }

-- BOTH

pub alike : (types : List TypeOf) (left_on right_on : List Name) (ls rs : List Record) (t : TwoTables)
    → first_repeated (names_in ls) ≡ None → first_repeated (names_in rs) ≡ None
    → types_fault types ls ≡ None → types_fault types rs ≡ None
    → table_of t.left ≡ csv_table types ls → table_of t.right ≡ csv_table types rs
    → key_clash (table_of t.left) (table_of t.right) left_on right_on ≡ None → AreJoined types left_on right_on ls rs t
alike types left_on right_on ls rs t left_apart right_apart left_sound right_sound left right none =
    let same : Agree (csv_table types ls) (csv_table types rs) left_on right_on = agree _ _ left_on right_on ((λ i. key_clash (sym left i) (sym right i) left_on right_on) ∙ none) in
    record {
      left = side types rs left_on right_on ls t.left left_apart same left_sound left;
      right = side types ls right_on left_on rs t.right right_apart (turned _ _ left_on right_on same) right_sound right;
    }

-- the tables that were made of the records of both, by the same types
pub alike_made : (types : List TypeOf) (left_on right_on : List Name) (ls rs : List Record) (x y : Records) (a b : Result (List Col) CsvFault) (l r : List Col)
    → IsMade x types a → IsMade y types b → a ≡ Ok l → b ≡ Ok r → IsRead x ls → IsRead y rs
    → first_repeated (names_in ls) ≡ None → first_repeated (names_in rs) ≡ None
    → key_clash (table_of l) (table_of r) left_on right_on ≡ None → AreJoined types left_on right_on ls rs (record { left = l; right = r })
alike_made types left_on right_on ls rs x y a b l r made beside is too left right left_apart right_apart none =
    alike types left_on right_on ls rs (record { left = l; right = r }) left_apart right_apart
    (subst (λ z. csv.Settles z (types_fault types ls)) is (made.settles ls left)) (subst (λ z. csv.Settles z (types_fault types rs)) too (beside.settles rs right))
    (subst (λ z. IfOk z (λ t. table_of t ≡ csv_table types ls)) is (made.table ls left)) (subst (λ z. IfOk z (λ t. table_of t ≡ csv_table types rs)) too (beside.table rs right)) none
