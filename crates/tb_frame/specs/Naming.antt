-- The naming rule: which columns of two tables an answer has, and how they are called, by names and types alone.
use Rattle.std.specs.Prelude.{List, ◌++◌, map, filter}
use Rattle.tb_value.specs.Promise.Names.{Name}
use Rattle.tb_frame.specs.declared.args.JoinArgs.{JoinArgs}
use Rattle.tb_frame.specs.Promise.Naming.{shows_right, right_name, left_names}

-- the names of the answer's columns, by those of the tables
abbrev pub answer_names : JoinArgs → List Name → List Name → List Name → List Name → List Name
answer_names a left_on right_on left right = left_names a left_on left
    ++ map (right_name (left_names a left_on left) a.suffix) (filter (shows_right a right_on) right)
