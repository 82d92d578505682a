use Rattle.std.proofs.Common.{◌≡◌, ◌∙◌, sym, take}
use Rattle.tb_value.specs.Promise.Names.{Name}
use Rattle.tb_filter.specs.Seen.{check_of}
use Rattle.tb_node.specs.Lowered.{joins_over, lowered, passed}
use Rattle.tb_node.proofs.Lowering.{joins-passed, sink-lowered, sink-widths}
use Rattle.tb_node.proofs.PushedNames.{sink-names}
use Rattle.tb_node.proofs.pushing.filter_pushed.Goals as goal

pub returns : goal.returns
returns c = λ ts n h.
    let column : Name = c.args.column in
    let check = check_of c.args.test in
    let joins : c.joins_passed-joins.result ≡ passed ts column n =
    c.joins_passed-joins.ensures ∙ (λ t. joins_over (h.names t) column ((c.deref.ensures.value ∙ h.widths_are) t)) ∙ joins-passed ts column n in
    record {
      node = c.in_ok-node.ensures ∙ (λ t. lowered (joins t) column check (h.node t)) ∙ sym (sink-lowered ts column check n);
      names = h.names ∙ sym (sink-names ts column check n);
      widths_are = c.truncate.ensures.items ∙ (λ t. take (joins t) (h.widths_are t)) ∙ sym (sink-widths ts column check n);
    }
