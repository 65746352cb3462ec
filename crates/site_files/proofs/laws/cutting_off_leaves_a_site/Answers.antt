use Rattle.site_files.proofs.Ahead as ahead
use Rattle.site_files.proofs.laws.cutting_off_leaves_a_site.Goals as goal

pub returns : goal.returns
returns c = record {
  form = λ rs n last form low few. ahead.still_opened rs n last form low few;
  regions = λ rs n last form. ahead.regions_kept rs n last form;
  newest = λ rs n last form. ahead.newest rs n last form;
  read = λ a b rs n last journal text form read next cut. ahead.cut_read rs n last form a b text (cut last) journal read next;
  lost = λ a b rs last journal g form read most same. ahead.lost_read rs 0 last form a b journal g read most same;
}
