use Rattle.std.proofs.Common.{◌≡◌, drop}
use Rattle.tb_frame.specs.Promise.Table.{table_of}
use Rattle.tb_front.specs.Promise.Faults.{key_clash}
use Rattle.tb_front.proofs.keys.check_keys.Given as goal

-- the keys that are left decide
abbrev pub invariant-loop-i : goal.invariant-loop-i
invariant-loop-i l =
    key_clash (table_of l.left) (table_of l.right) l.left_on l.right_on ≡ key_clash (table_of l.left) (table_of l.right) (drop l.i l.left_on) (drop l.i l.right_on)
