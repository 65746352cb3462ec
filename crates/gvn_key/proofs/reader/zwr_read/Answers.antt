use Rattle.std.proofs.Common.{◌∙◌, ap, subst}
use Rattle.gvn_key.specs.ZwrText.{ReadsZwr, zwr_reading}
use Rattle.gvn_key.proofs.ZwrLaws.{zwr_complete}
use Rattle.global_defs.specs.Zwr.{zwr}
use Rattle.gvn_key.proofs.ZwrWritten.{zwr_written}
use Rattle.gvn_key.proofs.ZwrFound.{found_by}
use Rattle.gvn_key.proofs.ZwrFirst.{place_told}
use Rattle.gvn_key.proofs.reader.zwr_read.Goals as goal

pub returns-clause-found : goal.returns-clause-found
returns-clause-found c = found_by c.args.text.now c.read.result c.read.ensures

pub returns-clause-only : goal.returns-clause-only
returns-clause-only c = λ value z. subst (λ r. ReadsZwr r c.read.result) (zwr_complete c.args.text.now value z) c.read.ensures

pub returns-clause-again : goal.returns-clause-again
returns-clause-again c = λ bytes small e.
    subst (λ r. ReadsZwr r c.read.result) (ap zwr_reading e ∙ zwr_complete (zwr bytes) bytes (zwr_written bytes small)) c.read.ensures

pub returns-clause-place : goal.returns-clause-place
returns-clause-place c = λ small. place_told c.args.text.now c.read.result c.read.ensures small
