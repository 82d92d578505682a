-- The text of a kept join, part by part.
use Rattle.std.proofs.Common.{◌≡◌, ◌∙◌, ℕ, List, [], ◌∷◌, ◌++◌, map, false, ap, sym, append_assoc, codes}
use Rattle.json.specs.Print.{escape_byte}
use Rattle.serde_json.specs.Data.{Data, number, unsigned}
use Rattle.serde_json.specs.View.{items_of}
use Rattle.serde_json.specs.Written.{compact_text, has_float, items_text}
use Rattle.tb_frame.specs.Promise.Table.{Table, height}
use Rattle.tb_json.specs.Promise.Text.{column_data}
use Rattle.tb_json.specs.Written.{open_table}
use Rattle.tb_delta.specs.declared.fault.DeltaFault.{DeltaFault}
use Rattle.tb_delta_request.specs.Promise.Texts.{kept_text, lists_data, step_data, step_text}

behind : (a b c d e : List ℕ) → (a ++ (b ++ (c ++ d))) ++ e ≡ a ++ (b ++ (c ++ (d ++ e)))
behind a b c d e = append_assoc a (b ++ (c ++ d)) e ∙ ap (λ x. a ++ x) (append_assoc b (c ++ d) e ∙ ap (λ x. b ++ x) (append_assoc c d e))

-- the object of a table with the partners, and the newline behind it
pub kept_parts : (t : Table) (lists : List (List ℕ)) (named told text : List ℕ) → named ≡ open_table t ++ codes ",\"partners\":" → told ≡ named ++ compact_text (lists_data lists) → text ≡ told ++ codes "}\n" → text ≡ kept_text t lists
unfolding kept_text escape_byte
kept_parts t lists named told text n w e =
    let columns = items_text false (items_of (map column_data t)) in
    let behind_columns = codes ",\"height\":" in
    let count = compact_text (number (unsigned (height t))) in
    let start = codes "{\"columns\":[" in
    let key = codes ",\"partners\":" in
    let ids = compact_text (lists_data lists) in
    e ∙ ap (λ x. x ++ codes "}\n") (w ∙ ap (λ x. x ++ ids) n)
    ∙ append_assoc (open_table t ++ key) ids (codes "}\n") ∙ append_assoc (open_table t) key (ids ++ codes "}\n")
    ∙ behind start columns behind_columns count (key ++ (ids ++ codes "}\n"))
    ∙ sym (append_assoc start (columns ++ (behind_columns ++ (count ++ (key ++ (ids ++ codes "}"))))) (10 ∷ [])
    ∙ ap (λ x. start ++ x) (behind columns behind_columns count (key ++ (ids ++ codes "}")) (10 ∷ [])
    ∙ ap (λ x. columns ++ (behind_columns ++ (count ++ x))) (append_assoc key (ids ++ codes "}") (10 ∷ []) ∙ ap (λ x. key ++ x) (append_assoc ids (codes "}") (10 ∷ [])))))

-- THE TEXT OF A STEP

-- a value without a float, its text, and the newline behind it
pub step_from : (f : ℕ × DeltaFault) (d : Data) (written all : List ℕ) → d ≡ step_data f → (has_float d ≡ false → written ≡ compact_text d) → all ≡ written ++ 10 ∷ [] → all ≡ step_text f
unfolding step_text
step_from f d written all is same end = end ∙ ap (λ s. s ++ 10 ∷ []) (same (ap has_float is) ∙ ap compact_text is)
