-- Pieces that are taken one after another.
use Rattle.std.proofs.Common.{◌≡◌, ◌<◌, ◌+◌, ◌++◌, ◌∷◌, ◌∙◌, ℕ, List, [], Vec, Global, length, take, drop, get_or, ap, sym}
use Rattle.std.proofs.lemmas.List.{append-nil, drop_more, take_more, take-append-drop}
use Rattle.std.proofs.lemmas.Grind.{flat_map-append}
use Rattle.tb_text.specs.Pieces.{bytes_of}

module _ (ps : List (Vec ℕ Global)) (i : ℕ) (p : Vec ℕ Global) (within : i < length ps) (is : p ≡ get_or ps i p) where
  -- the pieces before one, it, and those behind it
  pub bytes_cut : bytes_of ps ≡ bytes_of (take i ps) ++ (p.items ++ bytes_of (drop (i + 1) ps))
  bytes_cut =
      ap bytes_of (sym (take-append-drop i ps))
      ∙ flat_map-append (λ (q : Vec ℕ Global). q.items) (take i ps) (drop i ps)
      ∙ ap (λ qs. bytes_of (take i ps) ++ bytes_of qs) (drop_more ps i p within ∙ ap (λ q. q ∷ drop (i + 1) ps) (sym is))

  -- one piece more
  pub bytes_more : bytes_of (take (i + 1) ps) ≡ bytes_of (take i ps) ++ p.items
  bytes_more =
      ap bytes_of (take_more ps i p within ∙ ap (λ q. take i ps ++ q ∷ []) (sym is))
      ∙ flat_map-append (λ (q : Vec ℕ Global). q.items) (take i ps) (p ∷ [])
      ∙ ap (λ l. bytes_of (take i ps) ++ l) (append-nil p.items)
