-- The texts of a plan's faults.
use Rattle.std.specs.Prelude.{ℕ, List, [], ◌∷◌, ◌++◌, codes}
use Rattle.serde_json.specs.Data.{Data, null, boolean, number, unsigned, string, array, object, member, no_members, put}
use Rattle.serde_json.specs.Written.{compact_text}
use Rattle.tb_plan.specs.declared.faults.PlanFault.{PlanFault}
use Rattle.tb_plan.specs.declared.faults.PlanFault.TheVariants.{RepeatedTable, UnknownTable, At, TestType, OutOfMemory}
use Rattle.tb_json.specs.Promise.Text.{error_data, named_error, plain_error}

-- an object with a further member, at its place by the bytes of its name
abbrev pub with_member : List ℕ → Data → Data → Data
with_member name d null = null
with_member name d (boolean b) = boolean b
with_member name d (number n) = number n
with_member name d (string s) = string s
with_member name d (array ds) = array ds
with_member name d (object ms) = object (put name d ms)

-- what is told of the node of a number
abbrev pub at_node : ℕ → Data → Data
at_node k d = with_member (codes "node") (number (unsigned k)) d

abbrev pub fault_data : PlanFault → Data
fault_data (RepeatedTable n) = named_error (codes "RepeatedTable") n
fault_data (UnknownTable k n) = at_node k (named_error (codes "UnknownTable") n)
fault_data (At k e) = at_node k (error_data e)
fault_data (TestType k) = at_node k (plain_error (codes "TestType"))
fault_data OutOfMemory = plain_error (codes "OutOfMemory")

-- the compact text and a newline
unfoldable pub text_of_fault : PlanFault → List ℕ
text_of_fault e = compact_text (fault_data e) ++ 10 ∷ []
