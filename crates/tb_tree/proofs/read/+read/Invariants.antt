use Rattle.std.proofs.Common.{◌≡◌, ℕ, ◌+◌, ◌*◌, ◌≤◌, length, map}
use Rattle.json.specs.Json.{members, value}
use Rattle.serde_json.specs.Data.{no_members}
use Rattle.serde_json.specs.Read.{of_members, converted}
use Rattle.tb_tree.specs.Arrays.{array_after}
use Rattle.tb_tree.specs.View.{view, members_view, whole}
use Rattle.tb_tree.proofs.read.+read.Given as goal

abbrev pub decreases-read : goal.decreases-read
decreases-read l = 6 * l.depth + 1

abbrev pub decreases-read_from : goal.decreases-read_from
decreases-read_from l = 6 * l.depth

abbrev pub decreases-next_item : goal.decreases-next_item
decreases-next_item l = 6 * l.depth + 1

abbrev pub decreases-read_array : goal.decreases-read_array
decreases-read_array l = 6 * l.depth + 5

abbrev pub decreases-read_more : goal.decreases-read_more
decreases-read_more l = 6 * l.depth + 4

abbrev pub decreases-read_wholes : goal.decreases-read_wholes
decreases-read_wholes l = 6 * l.depth + 3

abbrev pub decreases-read_values : goal.decreases-read_values
decreases-read_values l = 6 * l.depth + 2

abbrev pub decreases-read_members : goal.decreases-read_members
decreases-read_members l = 6 * l.depth + 2

-- what was found and is left of the array, of whatever fuel was enough at the start
abbrev pub invariant-read_wholes-wholes : goal.invariant-read_wholes-wholes
invariant-read_wholes-wholes l = record {
  read : (most : ℕ) → length l.initial.reader ≤ most → (n : ℕ) × (length l.reader ≤ n) × (array_after (map whole l.initial.found.items) l.depth most l.initial.reader ≡ array_after (map whole l.found.items) l.depth n l.reader);
  shorter : length l.reader ≤ length l.initial.reader;
}

abbrev pub decreases-read_wholes-wholes : goal.decreases-read_wholes-wholes
decreases-read_wholes-wholes l = length l.reader

abbrev pub invariant-read_values-values : goal.invariant-read_values-values
invariant-read_values-values l = record {
  read : (most : ℕ) → length l.initial.reader ≤ most → (n : ℕ) × (length l.reader ≤ n) × (array_after (map view l.initial.found.items) l.depth most l.initial.reader ≡ array_after (map view l.found.items) l.depth n l.reader);
  shorter : length l.reader ≤ length l.initial.reader;
}

abbrev pub decreases-read_values-values : goal.decreases-read_values-values
decreases-read_values-values l = length l.reader

abbrev pub invariant-read_members-members : goal.invariant-read_members-members
invariant-read_members-members l =
    (n : ℕ) × (length l.reader ≤ n)
    × (converted (λ ms. of_members ms no_members) (members (value l.depth) (length l.initial.reader) l.initial.reader) ≡ converted (λ ms. of_members ms (members_view l.found.entries)) (members (value l.depth) n l.reader))
    × (length l.reader ≤ length l.initial.reader)

abbrev pub decreases-read_members-members : goal.decreases-read_members-members
decreases-read_members-members l = length l.reader
