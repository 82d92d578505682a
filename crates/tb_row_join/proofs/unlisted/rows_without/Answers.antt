use Rattle.std.proofs.Common.{◌≡◌, ◌∙◌, ◌+◌, ◌++◌, ◌∷◌, ℕ, Bool, List, [], None, ap, sym, get_or}
use Rattle.std.specs.Prelude.{filter}
use Rattle.std.proofs.lemmas.List.{append-nil}
use Rattle.tb_value.specs.Promise.Pairs.{row_numbers}
use Rattle.tb_build.specs.TableView.{rows_at}
use Rattle.tb_build.proofs.Lists.{filter-more}
use Rattle.std.specs.Prelude.{cond}
use Rattle.tb_row_join.specs.Lists.{is_bare}
use Rattle.tb_row_join.proofs.unlisted.rows_without.Goals as goal
use Rattle.tb_row_join.proofs.unlisted.rows_without.Goals.{then-is_bare+in_ok-push, else-is_bare}

pub loop-row-preserved : goal.loop-row-preserved
loop-row-preserved g c =
    let p : ℕ → Bool = λ k. is_bare (rows_at g.K.PartialEq.eq g.K.KeyCode.code c.args.tables.now (get_or (g.B.KeyList.list c.args.built.now) k None)) in
    let i = c.loop-row.row in
    let test : p i ≡ c.is_bare.result = sym (c.is_bare.ensures ∙ ap is_bare c.rows_of.ensures.value) in
    let more : filter p (row_numbers (i + 1)) ≡ filter p (row_numbers i) ++ cond c.is_bare.result (i ∷ []) []
    = filter-more p i ∙ ap (λ (b : Bool). filter p (row_numbers i) ++ cond b (i ∷ []) []) test in
    elim c.if-is_bare.branch [
      | then-is_bare+in_ok-push w ↦
          rw w.rows-is (w.in_ok-push.ensures.items ∙ ap (λ (l : List ℕ). l ++ i ∷ []) c.loop-row.invariant
          ∙ sym (more ∙ ap (λ (b : Bool). filter p (row_numbers i) ++ cond b (i ∷ []) []) w.if-is_bare.true))
      | else-is_bare w ↦
          rw w.rows-is (c.loop-row.invariant
          ∙ sym (more ∙ ap (λ (b : Bool). filter p (row_numbers i) ++ cond b (i ∷ []) []) w.if-is_bare.false ∙ append-nil (filter p (row_numbers i))))
    ]
