-- The value of a type that a JSON value stands for, by the form of the JSON value.
use Rattle.std.proofs.Common.{◌≡◌, ℕ, List, Bool, true, false, Option, Some, None, option_map, option_and_then, refl, sym, ap}
use Rattle.std.specs.Prelude.{is_some}
use Rattle.serde_json.specs.Data.{Data, null, boolean, number, string, array, object, Items}
use Rattle.serde_json.specs.Find.{as_null, as_bool, as_number, as_str, as_array}
use Rattle.tb_value.specs.Promise.Datum as value
use Rattle.tb_value.specs.Promise.Kind.{Kind}
use Rattle.tb_json.specs.Promise.Cells.{boolean_in, number_in, text_in, cell_in}

some_parts : {A B : Type 0} (f : A → B) (x y : A) → Some x ≡ Some y → f x ≡ f y
some_parts f x y e = cc

pub cell-null : (t : Kind) (d : Data) → is_some (as_null d) ≡ true → cell_in t d ≡ Some value.null
cell-null t null e = refl
cell-null t (boolean b) e = cc
cell-null t (number n) e = cc
cell-null t (string s) e = cc
cell-null t (array ds) e = cc
cell-null t (object ms) e = cc

pub cell-boolean : (t : Kind) (d : Data) (b : Bool) → Some b ≡ as_bool d → boolean_in t b ≡ cell_in t d
cell-boolean t null b e = cc
cell-boolean t (boolean c) b e = some_parts (boolean_in t) b c e
cell-boolean t (number n) b e = cc
cell-boolean t (string s) b e = cc
cell-boolean t (array ds) b e = cc
cell-boolean t (object ms) b e = cc

pub cell-text : (t : Kind) (d : Data) (s : List ℕ) → Some s ≡ as_str d → text_in t s ≡ cell_in t d
cell-text t null s e = cc
cell-text t (boolean b) s e = cc
cell-text t (number n) s e = cc
cell-text t (string u) s e = some_parts (text_in t) s u e
cell-text t (array ds) s e = cc
cell-text t (object ms) s e = cc

pub cell-array : (t : Kind) (d : Data) (ds : Items) → Some ds ≡ as_array d → cell_in t (array ds) ≡ cell_in t d
cell-array t null ds e = cc
cell-array t (boolean b) ds e = cc
cell-array t (number n) ds e = cc
cell-array t (string s) ds e = cc
cell-array t (array es) ds e = some_parts (λ is. cell_in t (array is)) ds es e
cell-array t (object ms) ds e = cc

-- where it is of no other form
pub cell-number : (t : Kind) (d : Data) → is_some (as_null d) ≡ false → None ≡ as_bool d → None ≡ as_str d → None ≡ as_array d → option_and_then (number_in t) (as_number d) ≡ cell_in t d
cell-number t null no_null no_bool no_text no_array = cc
cell-number t (boolean b) no_null no_bool no_text no_array = cc
cell-number t (number n) no_null no_bool no_text no_array = refl
cell-number t (string s) no_null no_bool no_text no_array = cc
cell-number t (array ds) no_null no_bool no_text no_array = cc
cell-number t (object ms) no_null no_bool no_text no_array = refl
