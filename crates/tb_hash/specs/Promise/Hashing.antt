-- What hashing the keys of two sides gives, by their values.
use Rattle.std.specs.Prelude.{ℕ, ℤ, ◌<◌, Bool, true, false, nat_le, if◌then◌else◌, List, length, map}
use Rattle.tb_value.specs.Promise.Datum.{Datum, null, boolean, int, string, binary, list, struct}
use Rattle.tb_value.specs.Promise.Kind.{Kind, int128}
use Rattle.tb_frame.specs.declared.args.JoinType.{JoinType}
use Rattle.tb_frame.specs.declared.args.JoinType.TheVariants.{Inner, Left, Right, Full, Semi, Anti}
use Rattle.tb_pool.specs.Promise.ExecView.{ExecView}
use Rattle.tb_build.specs.Promise.Codes.{code_of_bool, code_of_int, code_of_wide, fnv1a}
use Rattle.tb_build.specs.Promise.Plan.{BuiltView, plan_of}

-- whether the left side of l and r keys is the built one
abbrev pub builds_left : JoinType → ℕ → ℕ → Bool
builds_left Inner l r = nat_le l r
builds_left Left l r = false
builds_left Right l r = true
builds_left Full l r = nat_le l r
builds_left Semi l r = false
builds_left Anti l r = false

-- the code of a whole number of a type: of Int128 by both of its halves
abbrev pub int_code : Kind → ℤ → ℕ
int_code int128 z = code_of_wide z
int_code t z = code_of_int z

-- the code of a value of a key type, and 0 of Null
abbrev pub value_code : Kind → Datum → ℕ
value_code t null = 0
value_code t (boolean b) = code_of_bool b
value_code t (int z) = int_code t z
value_code t (string s) = fnv1a s
value_code t (binary s) = fnv1a s
value_code t (list vs) = 0
value_code t (struct vs) = 0

-- what is built of two lists of codes
abbrev pub built_of : ExecView → JoinType → List ℕ → List ℕ → BuiltView
built_of exec how left right =
    let side = builds_left how (length left) (length right) in
    plan_of exec side (if side then left else right)

abbrev pub value_plan : ExecView → JoinType → Kind → List Datum → List Datum → BuiltView
value_plan exec how t us vs = built_of exec how (map (value_code t) us) (map (value_code t) vs)

-- each of so many parts has been let in, and each part that was built
abbrev pub AreLetIn : (ℕ → Type 0) → ℕ → Type 0
AreLetIn lets_in parts = (part : ℕ) → part < parts → lets_in part

abbrev pub IsLetIn : (ℕ → Type 0) → BuiltView → Type 0
IsLetIn lets_in built = AreLetIn lets_in built.parts
