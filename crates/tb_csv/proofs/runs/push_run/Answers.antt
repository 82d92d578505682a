use Rattle.std.proofs.Common.{◌∷◌, ◌∙◌, [], ap, append-nil, subst, sym}
use Rattle.tb_csv.specs.Read.{HaveRows}
use Rattle.tb_csv.proofs.JoinedRuns.{last_joined, last_kept, more_runs}
use Rattle.tb_csv.proofs.runs.push_run.Goals as goal
use Rattle.tb_csv.proofs.runs.push_run.Goals.{in-Some+in_ok-is_done+in_ok-push+else-is_done, in_default}

pub returns-then-is_done : goal.returns-then-is_done
returns-then-is_done c width rows more have next =
    last_joined width c.pop.new.self.items c.in-Some.last c.append.new.self c.args.run c.args.runs.now.items c.push.new.self.items c.in-Some.ensures.items c.in_ok-push.ensures.items rows more have next
    (λ mine h. rw c.if-is_done.true at (c.in_ok-is_done.ensures width mine more h next))

pub returns : goal.returns
returns c width rows more have next =
    let kept : HaveRows width c.match-pop.runs.items rows = elim c.match-pop.branch [
      | in-Some+in_ok-is_done+in_ok-push+else-is_done w ↦
          last_kept width c.pop.new.self.items w.in-Some.last w.append.new.self c.args.run c.args.runs.now.items c.match-pop.runs.items w.in-Some.ensures.items (ap (λ v. v.items) w.runs-is ∙ w.in_ok-push.ensures.items) rows more have next
          (λ mine h. rw w.if-is_done.false at (w.in_ok-is_done.ensures width mine more h next))
      | in_default w ↦
          subst (λ rs. HaveRows width rs rows) (w.in_default.ensures.items ∙ append-nil c.pop.new.self.items ∙ sym (ap (λ v. v.items) w.runs-is)) have
    ] in
    rw c.in_ok-push-2.ensures.items (more_runs width c.match-pop.runs.items (c.args.run ∷ []) rows more kept next)
