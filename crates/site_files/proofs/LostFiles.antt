-- The lost-transaction files of generations that were drawn are no part of what the files stand for.
use Rattle.std.proofs.Common.{◌≡◌, ℕ, ◌≤◌, List, [], ◌∷◌, length, ◌∙◌, ap, arith}
use Rattle.std.specs.List.{AllZip}
use Rattle.global_defs.specs.declared.limits.TheConstants.{MOST_GENERATIONS, MOST_REGIONS}
use Rattle.disk_defs.specs.Disk.{Files}
use Rattle.disk_defs.specs.Frames.{Only, SameOutside}
use Rattle.disk_defs.specs.Gates.{Body, records}
use Rattle.global_defs.specs.Entry.{Sequence}
use Rattle.journal_defs.specs.Numbers.{INSTANCE, journal_file, database_file, lost_file, broken_file}
use Rattle.journal_defs.specs.Instance.{InstanceRecord, Create, Reigned, Cut, Map, Mode, IsInstanceBody, generation, regions}
use Rattle.journal_defs.specs.Sequence.{Records}
use Rattle.journal_defs.specs.Clean.{AreClean}
use Rattle.journal_defs.specs.Fit.{IsSoundImage}
use Rattle.journal_laws.proofs.ImageSteps as images

-- what records in their form have
newest_low : (bodies : List Body) (rs : List InstanceRecord) → AllZip IsInstanceBody bodies rs → generation rs ≤ MOST_GENERATIONS
newest_low [] [] zip = omega arith
newest_low [] (x ∷ rs) zip = absurd zip
newest_low (b ∷ bodies) [] zip = absurd zip
newest_low (b ∷ bodies) (Cut n g ∷ rs) zip = let rest = newest_low bodies rs zip.1 in let low = zip.0.form.2 in omega (arith, rest, low)
newest_low (b ∷ bodies) (Create name regions ∷ rs) zip = newest_low bodies rs zip.1
newest_low (b ∷ bodies) (Reigned r ∷ rs) zip = newest_low bodies rs zip.1
newest_low (b ∷ bodies) (Map region star name ∷ rs) zip = newest_low bodies rs zip.1
newest_low (b ∷ bodies) (Mode region before ∷ rs) zip = newest_low bodies rs zip.1

few_regions : (bodies : List Body) (rs : List InstanceRecord) → AllZip IsInstanceBody bodies rs → length (regions rs) ≤ MOST_REGIONS
few_regions bodies [] zip = omega arith
few_regions [] (x ∷ rs) zip = absurd zip
few_regions (b ∷ bodies) (Create name regions ∷ rs) zip = zip.0.form.2
few_regions (b ∷ bodies) (Cut n g ∷ rs) zip = omega arith
few_regions (b ∷ bodies) (Reigned r ∷ rs) zip = omega arith
few_regions (b ∷ bodies) (Map region star name ∷ rs) zip = omega arith
few_regions (b ∷ bodies) (Mode region before ∷ rs) zip = omega arith

pub lost_changed : (a b : Files) (s : Records) (seq : Sequence) (g : ℕ) → IsSoundImage a s seq → g ≤ generation s.instance → SameOutside (Only (lost_file g)) a b → IsSoundImage b s seq
lost_changed a b s seq g sound drawn same = images.same_image a b s seq sound
    (ap records (same INSTANCE (λ e. omega (arith, e))))
    (λ h r most here. ap records (same (journal_file h r) (λ e. omega (arith, e, most, here, newest, few))))
    clean
    (λ r here. same (database_file r) (λ e. omega (arith, e, here, few)))
  where
    newest : generation s.instance ≤ MOST_GENERATIONS
    newest = newest_low sound.held.instance.bodies.0 s.instance sound.held.instance.bodies.2

    few : length (regions s.instance) ≤ MOST_REGIONS
    few = few_regions sound.held.instance.bodies.0 s.instance sound.held.instance.bodies.2

    clean : AreClean b s (length seq)
    clean = record {
      journals = λ h r undrawn here. ap records (same (journal_file h r) (λ e. let most = undrawn.1 in omega (arith, e, most, here, few))) ∙ sound.clean.journals h r undrawn here;
      lost = λ h undrawn. same (lost_file h) (λ e. let past = undrawn.0 in omega (arith, e, past, drawn)) ∙ sound.clean.lost h undrawn;
      first_broken = λ h undrawn first.
          let size : length (b (broken_file h)) ≡ length (a (broken_file h)) = ap length (same (broken_file h) (λ e. omega (arith, e, drawn, newest))) in
          let most = sound.clean.first_broken h undrawn first in
          omega (arith, size, most);
      later_broken = λ h undrawn later. same (broken_file h) (λ e. omega (arith, e, drawn, newest)) ∙ sound.clean.later_broken h undrawn later;
    }
