-- The left columns of an answer, of which a coalesced Full join merges the keys.
use Rattle.std.specs.Prelude.{ℕ, Bool, true, false, List, Option, Some, None, slice_get, position}
use Rattle.std.specs.Option.{option_and_then}
use Rattle.tb_value.specs.Promise.Names.{Name, same_name}
use Rattle.tb_chunk.specs.Promise.Col.{Col}
use Rattle.tb_frame.specs.Frame.{coalesced_column, opt_taken_rows}
use Rattle.tb_frame.specs.Promise.Naming.{coalesces, coalesces_keys}
use Rattle.tb_chunk.specs.Lent.{lent_columns}
use Rattle.tb_keys.specs.Asked.{asked_request}
use Rattle.tb_keys.specs.declared.request.LentRequest.{LentRequest}

-- the right key at the place of the left key of this name
abbrev pub key_beside : List Name → List Col → Name → Option Col
key_beside left_on right_keys n =
    option_and_then (λ p. slice_get right_keys p) (position (same_name n) left_on)

abbrev pub coalesced_key : Bool → List Name → List Col → Name → Option Col
coalesced_key true left_on right_keys n = key_beside left_on right_keys n
coalesced_key false left_on right_keys n = None

-- the right key that a left column of this name is coalesced with
abbrev pub coalescing_key : LentRequest → Name → Option Col
coalescing_key r n = coalesced_key (coalesces_keys r.how (coalesces (asked_request r).args))
    r.left_on.now (lent_columns r.right_keys.now) n

-- a left column with its rows, and with the values of a right key where it has none
abbrev pub left_column : List (Option ℕ) → List (Option ℕ) → Option Col → Col → Col
left_column left_rows right_rows None c = opt_taken_rows left_rows c
left_column left_rows right_rows (Some k) c =
    coalesced_column (opt_taken_rows left_rows c) (opt_taken_rows right_rows k)
