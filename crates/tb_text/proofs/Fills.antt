-- Pieces that are put into a room, one behind another.
use Rattle.std.proofs.Common.{◌≡◌, ◌<◌, ◌≤◌, ◌+◌, ◌++◌, ◌∙◌, ℕ, List, Vec, Global, length, take, drop, get_or, ap, sym, arith, append_assoc}
use Rattle.std.proofs.Common.{length-append, length-drop}
use Rattle.std.proofs.Math.Seq.{take-append_seam}
use Rattle.std.proofs.lemmas.Slice.{drop-append-drop}
use Rattle.tb_text.specs.Pieces.{bytes_of}
use Rattle.tb_text.proofs.Takes.{bytes_cut, bytes_more}

module _ (ps : List (Vec ℕ Global)) (i : ℕ) (p : Vec ℕ Global) (within : i < length ps) (is : p ≡ get_or ps i p) where
  -- the next piece ends where so many bytes end
  pub next_start : (s : ℕ) → s ≡ length (bytes_of (take i ps)) → s + length p.items ≡ length (bytes_of (take (i + 1) ps))
  next_start s e =
      ap (λ n. n + length p.items) e ∙ sym (length-append (bytes_of (take i ps)) p.items) ∙ ap length (sym (bytes_more ps i p within is))

  -- it ends within the whole
  pub ends_within : (s : ℕ) → s ≡ length (bytes_of (take i ps)) → s + length p.items ≤ length (bytes_of ps)
  ends_within s e =
      let rest = bytes_of (drop (i + 1) ps) in
      let whole : length (bytes_of ps) ≡ s + (length p.items + length rest) = ap length (bytes_cut ps i p within is) ∙ length-append (bytes_of (take i ps)) (p.items ++ rest) ∙ ap (λ n. n + length (p.items ++ rest)) (sym e) ∙ ap (λ n. s + n) (length-append p.items rest) in
      omega (arith, whole)

  pub one_more : (s : ℕ) (first now new : List ℕ) → s ≡ length (bytes_of (take i ps)) → now ≡ bytes_of (take i ps) ++ drop s first
      → new ≡ take s now ++ (p.items ++ drop (s + length p.items) now) → new ≡ bytes_of (take (i + 1) ps) ++ drop (s + length p.items) first
  one_more s first now new e were is_now =
      let done = bytes_of (take i ps) in
      let n = s + length p.items in
      let low : s ≤ n = omega arith in
      let front : take s now ≡ done = ap (take s) were ∙ ap (λ k. take k (done ++ drop s first)) e ∙ take-append_seam done (drop s first) in
      let back : drop n now ≡ drop n first = ap (drop n) were ∙ drop-append-drop s first done n low (sym e) in
      is_now ∙ ap (λ l. l ++ (p.items ++ drop n now)) front ∙ ap (λ l. done ++ (p.items ++ l)) back
      ∙ sym (append_assoc done p.items (drop n first)) ∙ ap (λ l. l ++ drop n first) (sym (bytes_more ps i p within is))

pub room_kept : (b first now : List ℕ) (s : ℕ) → s ≡ length b → s ≤ length first → now ≡ b ++ drop s first → length now ≡ length first
room_kept b first now s e low is = ap length is ∙ length-append b (drop s first) ∙ omega (arith, length-drop s first)
