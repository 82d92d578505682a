use Rattle.std.proofs.Common.{◌≡◌, ◌∙◌, ◌/◌, ◌%◌, ℕ, List, Bool, cond, Some, None, Result, Ok, Err, inl, inr, length, arith, ap, sym}
use Rattle.std.specs.Prelude.{MatchResult, is_ok}
use Rattle.std.specs.Result.{result_ok}
use Rattle.std.proofs.lemmas.Bool.{cases_lt}
use Rattle.hex.specs.Hex.{decode_of, decode_sized}
use Rattle.hex.specs.declared.error.FromHexError.{FromHexError}
use Rattle.hex.proofs.HexLemmas.{decode_of-odd, decode_sized-odd, decode_sized-twice}
use Rattle.tb_json.proofs.read_plain_cells.decode_to.Goals as goal

half : (s : List ℕ) (n : ℕ) → n ≡ length s / 2 → decode_sized s n ≡ decode_of s
half s n e =
    elim (cases_lt (length s % 2) 1) [
      | inl even ↦ decode_sized-twice s n (omega arith)
      | inr odd ↦ decode_sized-odd s n (omega arith) ∙ sym (decode_of-odd s (omega arith))
    ]

written : (d : Result (List ℕ) FromHexError) (r : Result (Unit {0}) FromHexError) (out : List ℕ) (b : Bool) → b ≡ is_ok r → MatchResult d (λ bytes. (r ≡ Ok tt) × (out ≡ bytes)) (λ e. r ≡ Err e) → cond b (Some out) None ≡ result_ok d
written (Ok bytes) r out b e h = ap (λ x. cond x (Some out) None) (e ∙ ap is_ok h.0) ∙ ap Some h.1
written (Err why) r out b e h = ap (λ x. cond x (Some out) None) (e ∙ ap is_ok h)

pub returns : goal.returns
returns c =
    written _ c.decode_to_slice.result c.decode_to_slice.new.out c.is_ok.result c.is_ok.ensures.value c.decode_to_slice.ensures.value
    ∙ ap result_ok (half c.args.digits.now (length c.args.out.now) c.requires)
