use Rattle.std.proofs.Common.{◌≡◌, ◌++◌, drop}
use Rattle.csv.specs.declared.parser.State.TheVariants as st
use Rattle.tb_csv.specs.Places.{state_at}
use Rattle.tb_csv.specs.Promise.LineNumbers.{state_behind}
use Rattle.tb_csv.specs.Promise.Records.{form, marks_from}
use Rattle.tb_csv.proofs.marks.marks_from_start.Given as goal

abbrev pub invariant-loop-byte : goal.invariant-loop-byte
invariant-loop-byte l = record {
  marks : l.marks.items ++ marks_from (form l.separator) (state_at l.place) (drop l.byte-index l.text) ≡ marks_from (form l.separator) st.StartRecord l.text;
  behind : state_behind (form l.separator) (state_at l.place) (drop l.byte-index l.text) ≡ state_behind (form l.separator) st.StartRecord l.text;
}
