use Rattle.std.proofs.Common.{◌∙◌, List, map, ap, sym, subst}
use Rattle.std.specs.Prelude.{All, IsSome}
use Rattle.tb_value.specs.declared.index.JoinPair.{JoinPair}
use Rattle.tb_frame.specs.Promise.Table.{height, table_of}
use Rattle.tb_pairs.proofs.LeftJoins.{lefts_there}
use Rattle.tb_pairs.proofs.multiple.private_left_join_multiple_keys.Goals as goal

pub left_numbers-requires : goal.left_numbers-requires
left_numbers-requires g c =
    subst (λ (ps : List JoinPair). All IsSome (map (λ (p : JoinPair). p.left) ps)) (sym c.deref.ensures.value)
    (lefts_there (height (table_of c.args.a.now)) (height (table_of c.args.b.now)) _ c.in_ok-pairs.pairs.items c.in_ok-pairs.ensures.listed)

pub returns-clause-rows : goal.returns-clause-rows
returns-clause-rows g c =
    let h = c.in_ok-pairs.ensures.listed in
    record {
      pairs = h.pairs;
      permutation = h.ordered.permutation;
      ascends = h.ordered.ascends;
      numbers = (
        c.in_ok-left.ensures ∙ ap (map (λ (p : JoinPair). p.left)) (c.deref.ensures.value ∙ h.is),
        c.in_ok-right.ensures ∙ ap (map (λ (p : JoinPair). p.right)) (c.deref-2.ensures.value ∙ h.is),
      );
    }
