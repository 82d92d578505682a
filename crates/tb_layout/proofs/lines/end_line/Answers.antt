use Rattle.std.proofs.Common.{◌≡◌, ◌≤◌, ◌-◌, ◌∙◌, List, ℕ, ap, arith, drop, length, subst, take}
use Rattle.std.specs.List.{suffix_len}
use Rattle.std.proofs.lemmas.List.{take_rest}
use Rattle.tb_layout.specs.Promise.Characters.{is_blank}
use Rattle.tb_layout.proofs.Trimmed.{blanks_gone}
use Rattle.tb_layout.proofs.lines.end_line.Goals as goal

pub returns : goal.returns
returns c =
    let old = c.args.text.now.items in
    let start = c.args.start in
    let bytes = c.deref.result.now in
    let line : take (length bytes - start) (drop start bytes) ≡ drop start old = take_rest bytes start ∙ ap (drop start) c.deref.ensures.value in
    let few = subst (λ (s : List ℕ). c.blanks_at_end-blanks.result ≤ length s) line c.blanks_at_end-blanks.ensures.within in
    blanks_gone old c.truncate.new.self.items c.push.new.self.items start c.blanks_at_end-blanks.result _ c.requires
    (c.blanks_at_end-blanks.ensures.count ∙ ap (suffix_len is_blank) line) few
    (omega arith) c.truncate.ensures.items c.in_ok-push.ensures.items
