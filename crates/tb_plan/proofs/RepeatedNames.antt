-- Names of tables that are repeated.
use Rattle.std.proofs.Common.{◌≡◌, List, map, refl, ap, sym, ◌∙◌, Option, Some, None, inl, inr}
use Rattle.std.specs.Prelude.{◌⊎◌}
use Rattle.std.specs.Option.{option_map}
use Rattle.tb_value.specs.Promise.Names.{Name}
use Rattle.tb_value.specs.declared.error.PolarsError.TheVariants.{Duplicate}
use Rattle.tb_value.specs.declared.error.PolarsError.TheVariants as error
use Rattle.tb_value.proofs.Loops.{map-map}
use Rattle.tb_frame.specs.Promise.Refusal.{first_repeated, repeated_among}
use Rattle.tb_frame.specs.Promise.Table.{Table, table_of}
use Rattle.tb_node.specs.declared.tables.NamedTable.{NamedTable}
use Rattle.tb_node.specs.Seen.{given_tables}
use Rattle.tb_plan.specs.declared.faults.PlanFault.TheVariants.{RepeatedTable}
use Rattle.tb_plan.specs.Promise.Outcome.{repeated_table}

given-names : (ts : List NamedTable) → map (λ (t : Name × Table). t.0) (given_tables ts) ≡ map (λ (t : NamedTable). t.name) ts
given-names ts = map-map (λ (t : Name × Table). t.0) (λ (t : NamedTable). (t.name, table_of t.table)) ts

repeated-is : (ts : List NamedTable) (names : List Name) → names ≡ map (λ (t : NamedTable). t.name) ts → repeated_table (given_tables ts) ≡ option_map (λ n. RepeatedTable n) (first_repeated names)
repeated-is ts names e = ap (λ (ns : List Name). option_map (λ n. RepeatedTable n) (first_repeated ns)) (given-names ts ∙ sym e)

once : (o : Option Name) → option_map (λ n. Duplicate n) o ≡ None → option_map (λ n. RepeatedTable n) o ≡ None
once None h = refl
once (Some n) h = absurd (cc)

twice : (o : Option Name) (n : Name) → (Duplicate n ≡ error.OutOfMemory) ⊎ (option_map (λ m. Duplicate m) o ≡ Some (Duplicate n)) → option_map (λ m. RepeatedTable m) o ≡ Some (RepeatedTable n)
twice o n (inl e) = absurd (cc)
twice None n (inr e) = absurd (cc)
twice (Some m) n (inr e) = let same : m ≡ n = cc in ap (λ (x : Name). Some (RepeatedTable x)) same

pub none_repeated : (ts : List NamedTable) (names : List Name) → names ≡ map (λ (t : NamedTable). t.name) ts → repeated_among names ≡ None → repeated_table (given_tables ts) ≡ None
none_repeated ts names e h = repeated-is ts names e ∙ once (first_repeated names) h

pub one_repeated : (ts : List NamedTable) (names : List Name) (n : Name) → names ≡ map (λ (t : NamedTable). t.name) ts
    → (Duplicate n ≡ error.OutOfMemory) ⊎ (repeated_among names ≡ Some (Duplicate n)) → repeated_table (given_tables ts) ≡ Some (RepeatedTable n)
one_repeated ts names n e h = repeated-is ts names e ∙ twice (first_repeated names) n h
