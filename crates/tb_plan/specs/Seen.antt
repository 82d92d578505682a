-- The tables that nodes are given and make.
use Rattle.std.specs.Prelude.{List, Option, Some, None}
use Rattle.tb_chunk.specs.Promise.Col.{Col}
use Rattle.tb_frame.specs.Promise.Table.{Table, table_of}
use Rattle.tb_plan.specs.declared.made.Made.{Made}
use Rattle.tb_plan.specs.declared.made.Made.TheVariants.{Lent, Own}

-- a table that is lent or made
abbrev pub columns_made : Made → List Col
columns_made (Lent t) = t.now
columns_made (Own t) = t

abbrev pub table_made : Made → Table
table_made m = table_of (columns_made m)

-- the table of what is kept of another, which is all of it where nothing is made anew
abbrev pub table_kept : Table → Option (List Col) → Table
table_kept t None = t
table_kept t (Some cs) = table_of cs
