-- The members of a request of format 2, and of the same one in format 1.
use Rattle.std.proofs.Common.{◌≡◌, ◌∙◌, ℕ, List, map, Bool, false, Option, Some, None, codes, refl, sym, ap}
use Rattle.serde_json.specs.Data.{array, boolean, Data, null, number, object, string}
use Rattle.serde_json.specs.Find.{as_bool, as_str, get_member}
use Rattle.tb_value.specs.Promise.Names.{Name}
use Rattle.tb_pool.specs.Promise.ExecView.{ExecView}
use Rattle.tb_group.specs.declared.request.GroupAgg.{GroupAgg}
use Rattle.tb_json.specs.Promise.Lists.{◌>>=◌, are_among, list_of}
use Rattle.tb_request.specs.declared.shape.Format.TheVariants.{Runs}
use Rattle.tb_request.specs.Forms.{expand, expand_member}
use Rattle.tb_request.specs.Promise.Members.{names_of}
use Rattle.tb_request.specs.Promise.Written.{format_of, optional_member, plan_of, standard_exec, table_at, Written}
use Rattle.tb_request.proofs.Expanded.{names_out, written_out}
use Rattle.tb_request.proofs.SameShape.{format_out, same_member, side_out, some_is, table_first, table_goes}
use Rattle.tb_group_request.specs.Promise.Members.{group_members}
use Rattle.tb_group_request.specs.Promise.Written.{agg_in, group_of, WrittenGroup}

abbrev pub group_out : WrittenGroup → WrittenGroup
group_out w = record w { table = map written_out w.table }

abbrev group_names : List Name
group_names = names_of group_members

abbrev group_rest : Option (List Name) → Option (List GroupAgg) → Option ExecView → Option Bool → List Written → Option WrittenGroup
group_rest by aggs exec trace table = do
  b ← by
  a ← aggs
  e ← exec
  t ← trace
  Some (record { table = table; by = b; aggs = a; exec = e; trace = t })

group_goes : (b : Option (List Name)) (a : Option (List GroupAgg)) (e : Option ExecView) (t : Option Bool) (w : WrittenGroup) (ws : List Written) → group_rest b a e t ws ≡ Some w → group_rest b a e t (map written_out ws) ≡ Some (group_out w)
group_goes None a e t w ws x = absurd (cc)
group_goes (Some b) None e t w ws x = absurd (cc)
group_goes (Some b) (Some a) None t w ws x = absurd (cc)
group_goes (Some b) (Some a) (Some e) None w ws x = absurd (cc)
group_goes (Some b) (Some a) (Some e) (Some t) w ws x = ap (λ (u : WrittenGroup). Some (group_out u)) (some_is (record { table = ws; by = b; aggs = a; exec = e; trace = t }) w x)

-- by the values of the members
abbrev group_by : (List ℕ → Option Data) → List Written → Option WrittenGroup
group_by at = group_rest (at (codes "by") >>= list_of as_str) (at (codes "aggs") >>= list_of agg_in) (optional_member standard_exec plan_of (at (codes "exec"))) (optional_member false as_bool (at (codes "trace")))

group_by_goes : (at : List ℕ → Option Data) (w : WrittenGroup) (ws : List Written) → group_by at ws ≡ Some w → group_by at (map written_out ws) ≡ Some (group_out w)
group_by_goes at w ws x = group_goes (at (codes "by") >>= list_of as_str) (at (codes "aggs") >>= list_of agg_in) (optional_member standard_exec plan_of (at (codes "exec"))) (optional_member false as_bool (at (codes "trace"))) w ws x

pub group_of_out : (d : Data) (w : WrittenGroup) → format_of d ≡ Some Runs → group_of d ≡ Some w → group_of (expand d) ≡ Some (group_out w)
unfolding group_of
group_of_out null w e x = absurd (cc)
group_of_out (boolean b) w e x = absurd (cc)
group_of_out (number n) w e x = absurd (cc)
group_of_out (string s) w e x = absurd (cc)
group_of_out (array ds) w e x = absurd (cc)
group_of_out (object ms) w e x =
    (λ i. table_first (names_out expand_member group_names ms i) (format_out expand_member ms (λ d. refl) e i) (λ f. table_at f (codes "table") (expand (object ms)))
    (group_rest
    (same_member expand_member (codes "by") ms (λ d. refl) i >>= list_of as_str)
    (same_member expand_member (codes "aggs") ms (λ d. refl) i >>= list_of agg_in)
    (optional_member standard_exec plan_of (same_member expand_member (codes "exec") ms (λ d. refl) i))
    (optional_member false as_bool (same_member expand_member (codes "trace") ms (λ d. refl) i))))
    ∙ table_goes group_out (are_among group_names ms) (λ f. table_at f (codes "table") (object ms)) (λ f. table_at f (codes "table") (expand (object ms))) (group_by (λ name. get_member name ms)) w
    (side_out expand_member (codes "table") ms (λ d. refl)) (group_by_goes (λ name. get_member name ms) w)
    (ap (λ o. table_first (are_among group_names ms) o (λ f. table_at f (codes "table") (object ms)) (group_by (λ name. get_member name ms))) (sym e) ∙ x)
