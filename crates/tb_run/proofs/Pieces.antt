-- Pieces that are written one after another.
use Rattle.std.proofs.Common.{◌≡◌, ◌<◌, ◌≤◌, ◌+◌, ◌++◌, ◌∙◌, ℕ, List, Option, Vec, Global, length, take, drop, get_or, ap, sym, subst, arith, append_assoc}
use Rattle.std.proofs.Common.{Ok, Err}
use Rattle.std.specs.Prelude.{OnErr, Result}
use Rattle.std.specs.Io.KnownBytes.{Appends}
use Rattle.std.proofs.KnownBytes.{Appends-trans}
use Rattle.std.proofs.lemmas.Grind.{common_steps}
use Rattle.tb_text.specs.Pieces.{bytes_of}
use Rattle.tb_text.proofs.Takes.{bytes_cut, bytes_more}
use Rattle.tb_run.specs.Ends.{AppendsPart, Rose}

module _ (ps : List (Vec ℕ Global)) (i : ℕ) (p : Vec ℕ Global) (within : i < length ps) (is : p ≡ get_or ps i p) (before now after : Option (List ℕ))
    (taken : Appends before now (bytes_of (take i ps))) where
  pub piece_taken : Appends now after p.items → Appends before after (bytes_of (take (i + 1) ps))
  piece_taken more = subst (Appends before after) (sym (bytes_more ps i p within is)) (Appends-trans before now after (bytes_of (take i ps)) p.items taken more)

  pub part_taken : AppendsPart now after p.items → AppendsPart before after (bytes_of ps)
  part_taken q =
      let done = bytes_of (take i ps) in
      let rest = bytes_of (drop (i + 1) ps) in
      record {
        part = done ++ q.part;
        rest = q.rest ++ rest;
        front = bytes_cut ps i p within is
            ∙ ap (λ l. done ++ (l ++ rest)) q.front
            ∙ ap (λ l. done ++ l) (append_assoc q.part q.rest rest)
            ∙ sym (append_assoc done q.part (q.rest ++ rest));
        taken = Appends-trans before now after done q.part taken q.taken;
      }

pub rose_since : (a b c : ℕ) → a ≤ b → Rose b c → Rose a c
rose_since a b c low h = grind (arith, common_steps)

-- what holds where an outcome is an error
pub at_error : {T E : Type 0} {P : Type 0} (r : Result T E) → P → OnErr r P
at_error (Ok x) p = tt
at_error (Err e) p = p
