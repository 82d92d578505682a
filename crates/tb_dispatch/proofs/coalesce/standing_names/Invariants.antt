use Rattle.std.proofs.Common.{◌≡◌, map, take}
use Rattle.std.specs.List.{zip}
use Rattle.tb_frame.specs.Promise.Table.{names_of, table_of}
use Rattle.tb_dispatch.specs.Standing.{stands_as}
use Rattle.tb_dispatch.proofs.coalesce.standing_names.Given as goal

abbrev pub invariant-loop-place : goal.invariant-loop-place
invariant-loop-place l = l.names.items ≡ map (stands_as (names_of (table_of l.df_left)) l.suffix) (zip (take l.place l.keys_left) (take l.place l.keys_right))
