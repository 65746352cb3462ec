use Rattle.std.proofs.Common.{List, map, ◌∙◌, ap, subst}
use Rattle.std.specs.List.{filter_map}
use Rattle.std.specs.List.Sorted.{IsPermutation}
use Rattle.instance_file.specs.Values.{record_value}
use Rattle.mupip_recover.specs.Minima.{minima}
use Rattle.mupip_recover.specs.declared.cuts.Cut.{Cut}
use Rattle.mupip_recover.specs.Cuts.{cut_in}
use Rattle.mupip_recover.proofs.CutLaws.{filter_values, in_order_by}
use Rattle.mupip_recover.proofs.cuts.Cuts.of.Goals as goal

pub returns : goal.returns
returns c = record {
  cuts = c.sort.new.cuts.items;
  same =
      subst (λ (l : List Cut). IsPermutation l c.sort.new.cuts.items)
      (c.in_ok-cuts.ensures ∙ filter_values cut_in record_value c.as_slice.result.now ∙ ap (filter_map cut_in) c.as_slice.ensures) c.sort.ensures.permutation;
  order = in_order_by c.sort.new.cuts.items c.sort.ensures.sorted;
  generations = c.in_ok-generations_of.ensures ∙ ap (map (λ x. x.generation)) c.deref-2.ensures.value;
  lengths = c.in_ok-minima_of.ensures ∙ ap minima (c.deref-3.ensures.value ∙ c.in_ok-lengths.ensures ∙ ap (map (λ x. x.length)) c.deref.ensures.value);
}
