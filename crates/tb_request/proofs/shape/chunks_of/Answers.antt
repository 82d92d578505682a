use Rattle.std.proofs.Common.{option_map, map, ◌∙◌, sym, ap}
use Rattle.std.specs.Prelude.{is_some}
use Rattle.tb_tree.specs.View.{view}
use Rattle.tb_json.specs.Promise.Lists.{as_list, each}
use Rattle.tb_request.specs.Lent.{chunk_view}
use Rattle.tb_request.proofs.Parts.{all_seen, chunk_seen, none_seen}
use Rattle.tb_request.proofs.shape.chunks_of.Goals as goal

pub returns-then-not-are_arrays : goal.returns-then-not-are_arrays
returns-then-not-are_arrays c =
    let tested = ap (λ vs. is_some (each as_list (map view vs))) (sym c.deref.ensures.value) ∙ sym c.are_arrays.ensures ∙ c.if-not-are_arrays.true in
    none_seen as_list (view c.args.value) c.in-Some.chunks.items (ap (option_map (λ v. map view v.items)) (sym c.in-Some.is) ∙ c.in_ok-chunks.ensures) tested

pub returns : goal.returns
returns c =
    let tested = ap (λ vs. is_some (each as_list (map view vs))) (sym c.deref.ensures.value) ∙ sym c.are_arrays.ensures ∙ c.if-not-are_arrays.false in
    all_seen as_list chunk_view chunk_seen (view c.args.value) c.in-Some.chunks.items (ap (option_map (λ v. map view v.items)) (sym c.in-Some.is) ∙ c.in_ok-chunks.ensures) tested
