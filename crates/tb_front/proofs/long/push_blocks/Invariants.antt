use Rattle.std.proofs.Common.{◌≡◌, ◌≤◌, ◌-◌, ◌++◌, length}
use Rattle.tb_csv.specs.Promise.Texts.{body_text}
use Rattle.tb_unpivot.specs.Blocks.{block_table}
use Rattle.tb_front.proofs.long.push_blocks.Given as goal

-- the rows of the columns so far are written
abbrev pub invariant-loop-first : goal.invariant-loop-first
invariant-loop-first g l = record {
  within : l.first ≤ length l.blocks.on;
  written : l.text ≡ l.fn.text ++ body_text l.separator (block_table l.blocks 0 l.first);
}

abbrev pub decreases-loop-first : goal.decreases-loop-first
decreases-loop-first g l = length l.blocks.on - l.first
