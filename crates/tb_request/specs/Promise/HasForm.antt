-- The forms of values.
use Rattle.std.specs.Prelude.{ℕ, List, nat_le, Bool, false, ◌||◌, is_some, option_map, unwrap_or, codes}
use Rattle.std.specs.Str.{bytes_eq}
use Rattle.serde_json.specs.Data.{Data}
use Rattle.serde_json.specs.Find.{as_bool, as_integer, as_number, as_object, as_str}
use Rattle.tb_json.specs.Promise.Kinds.{kind_in}
use Rattle.tb_json.specs.Promise.Lists.{◌>>=◌, as_list, list_of}
use Rattle.tb_request.specs.declared.known.Form.{Form}
use Rattle.tb_request.specs.declared.known.Form.TheVariants as form
use Rattle.tb_request.specs.declared.known.Word.{Word}
use Rattle.tb_request.specs.declared.known.Word.TheVariants as word
use Rattle.tb_request.specs.Promise.Reading.{may_count}
use Rattle.tb_request.specs.Promise.Written.{agg_named, coalesce_named, count_of, flag_named, format_numbered, how_named, order_named, side_named, slice_in, validation_named, whole_of}

abbrev pub is_word : Word → List ℕ → Bool
is_word word.How s = is_some (how_named s)
is_word word.Validation s = is_some (validation_named s)
is_word word.Coalesce s = is_some (coalesce_named s)
is_word word.Order s = is_some (order_named s)
is_word word.Sorted s = is_some (flag_named s)
is_word word.Aggregate s = is_some (agg_named s)
is_word word.Side s = is_some (side_named s)
is_word word.Test s = bytes_eq s (codes "is_null") || bytes_eq s (codes "is_not_null")

-- whether a value has the form
abbrev pub has_form : Form → Data → Bool
has_form form.Object d = is_some (as_object d)
has_form form.Values d = is_some (as_list d)
has_form form.Chunks d = is_some (list_of as_list d)
has_form form.Runs d = is_some (as_list d)
has_form form.Text d = is_some (as_str d)
has_form form.Texts d = is_some (list_of as_str d)
has_form form.Truth d = is_some (as_bool d)
has_form form.Nulls d = is_some (as_bool d) || is_some (as_list d)
has_form form.Type d = is_some (kind_in d)
has_form form.Format d = is_some (whole_of d >>= format_numbered)
has_form form.Slice d = is_some (slice_in d)
has_form form.Count d = is_some (count_of d)
has_form form.Workers d = unwrap_or (option_map may_count (count_of d)) false
has_form form.Divisor d = unwrap_or (option_map (nat_le 1) (count_of d)) false
has_form form.Test d =
    unwrap_or (option_map (is_word word.Test) (as_str d)) (is_some (as_object d))
has_form form.Compared d =
    is_some (as_bool d) || (is_some (as_str d) || is_some (as_number d >>= as_integer))
has_form (form.Word w) d = unwrap_or (option_map (is_word w) (as_str d)) false
