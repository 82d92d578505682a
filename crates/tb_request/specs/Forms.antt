-- A request of format 2 as one of format 1.
use Rattle.std.specs.Prelude.{ℕ, List, [], ◌∷◌, if◌then◌else◌, Result, Ok, Err, unwrap_or, codes, ⊤}
use Rattle.std.specs.Str.{bytes_eq}
use Rattle.serde_json.specs.Data.{Data, array, item, Items, no_items, member, Members, no_members, number, object, unsigned}
use Rattle.serde_json.specs.Find.{get}
use Rattle.serde_json.specs.View.{items_of}
use Rattle.tb_chunk.specs.RunLayout.{expansion}
use Rattle.tb_json.specs.Promise.Kinds.{kind_in}
use Rattle.tb_json.specs.Promise.Lists.{◌>>=◌, is_among, list_of}
use Rattle.tb_request.specs.declared.request.Reason.{Reason}
use Rattle.tb_request.specs.declared.request.Reason.TheVariants as why
use Rattle.tb_request.specs.Promise.Written.{run_of, WrittenRun}

-- what f makes of each value of an array
abbrev pub each_item : (Data → Data) → Items → Items
each_item f no_items = no_items
each_item f (item d ds) = item (f d) (each_item f ds)

-- what f makes of each member, by its name
abbrev pub each_member : (List ℕ → Data → Data) → Members → Members
each_member f no_members = no_members
each_member f (member k d ms) = member k (f k d) (each_member f ms)

-- the members of other names
abbrev pub without : List ℕ → Members → Members
without name no_members = no_members
without name (member k d ms) = if bytes_eq k name
    then without name ms
    else member k d (without name ms)

-- the runs of a column, none where it has not the form of one
abbrev pub runs_at : Data → List WrittenRun
runs_at column =
    unwrap_or ((get (codes "type") column >>= kind_in) >>= λ t.
    get (codes "runs") column >>= list_of (run_of t)) []

-- the one chunk, in which each run's value stands as often as its count says
abbrev pub chunks_of : Data → Data
chunks_of column = array (item (array (items_of (expansion (runs_at column)))) no_items)

-- the column with `chunks`, which is the first of its members by their names, in place of `runs`
abbrev pub expand_column : Data → Data
expand_column (object ms) =
    object (member (codes "chunks") (chunks_of (object ms)) (without (codes "runs") ms))
expand_column d = d

abbrev pub expand_columns : Data → Data
expand_columns (array ds) = array (each_item expand_column ds)
expand_columns d = d

-- the one member of a table is the list of its columns
abbrev pub expand_table : Data → Data
expand_table (object ms) = object (each_member (λ _ d. expand_columns d) ms)
expand_table d = d

abbrev pub expand_member : List ℕ → Data → Data
expand_member k d =
    if bytes_eq k (codes "format") then number (unsigned 1)
    else if is_among k (codes "left" ∷ codes "right" ∷ codes "table" ∷ []) then expand_table d
    else d

-- the request, of whichever command, in format 1
abbrev pub expand : Data → Data
expand (object ms) = object (each_member expand_member ms)
expand d = d

-- the reason comes after `Rows`
abbrev pub IsLate : Reason → Type 0
IsLate why.Json = ⊥
IsLate why.Shape = ⊥
IsLate why.Value = ⊥
IsLate why.Rows = ⊥
IsLate why.Exec = ⊤
IsLate why.Heights = ⊤
IsLate why.Name = ⊤
IsLate why.Flag = ⊤

-- none of the reasons up to `Rows` holds
abbrev pub IsPastRows : {A : Type 0} → Result A Reason → Type 0
IsPastRows (Ok request) = ⊤
IsPastRows (Err reason) = IsLate reason
