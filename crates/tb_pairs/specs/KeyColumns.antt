-- Key columns of two sides.
use Rattle.std.specs.Prelude.{◌≡◌, ◌<◌, List, All, IsTrue, length}
use Rattle.tb_value.specs.Promise.SameKind.{is_key}
use Rattle.tb_chunk.specs.Promise.Col.{Col}
use Rattle.tb_chunk.specs.Lent.{lent_columns}
use Rattle.tb_keys.specs.declared.request.LentRequest.{LentRequest}
use Rattle.tb_rowkey.specs.Promise.Columns.{kinds}

-- as many columns on each side, one at least, of equal key types
pub record AreAlike (ls rs : List Col) : Type 0 where
  pub some : 0 < length ls
  pub types : kinds ls ≡ kinds rs
  pub keys : All (λ (c : Col). IsTrue (is_key c.kind)) ls

-- the keys of a request
abbrev pub AreKeysAlike : LentRequest → Type 0
AreKeysAlike r = AreAlike (lent_columns r.left_keys.now) (lent_columns r.right_keys.now)
