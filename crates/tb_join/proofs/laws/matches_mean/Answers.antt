use Rattle.std.proofs.Common.{length, min}
use Rattle.tb_value.specs.Proved.ValueTests.{same-Decides}
use Rattle.tb_frame.specs.Promise.Join.{field, nulls_match}
use Rattle.tb_frame.specs.Join.{agrees}
use Rattle.tb_frame.proofs.Meaning.{rows_all, agrees-Decides}
use Rattle.tb_join.proofs.laws.matches_mean.Goals as goal

pub returns-clause-rows : goal.returns-clause-rows
returns-clause-rows c = λ q i j.
    let all = rows_all (λ p. agrees (nulls_match q p) (field q.left_keys p i) (field q.right_keys p j)) (min (length q.left_keys) (length q.right_keys)) in
    (λ h p low. (agrees-Decides (nulls_match q p) (field q.left_keys p i) (field q.right_keys p j)).0 (all.0 h p low), λ each. all.1 (λ p low. (agrees-Decides (nulls_match q p) (field q.left_keys p i) (field q.right_keys p j)).1 (each p low)))

pub returns-clause-values : goal.returns-clause-values
returns-clause-values c = same-Decides
