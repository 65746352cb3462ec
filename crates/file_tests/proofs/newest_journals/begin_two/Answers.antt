use Rattle.std.proofs.Common.{◌≡◌, ◌≢◌, ℕ, zero, suc, List, [], ◌∷◌, ◌++◌, Some, ◌∙◌, ap, sym, subst, arith}
use Rattle.std.specs.Prelude.{slice_get}
use Rattle.disk_defs.specs.Disk.{View}
use Rattle.disk_defs.specs.Frames.{Only, OthersStay}
use Rattle.journal_defs.specs.Numbers.{journal_file}
use Rattle.jnl_file.proofs.Others as others
use Rattle.region_journals.specs.declared.journals.RegionJournal.{RegionJournal}
use Rattle.region_journals.specs.Journals.{HasSyncs, IsOpen, AreReady}
use Rattle.file_tests.proofs.newest_journals.begin_two.Goals as goal

-- a journal stays open while another one's file changes
still_open : (v w : View) (file : ℕ) (x : RegionJournal) → OthersStay (Only file) v w → journal_file 1 0 ≢ file → IsOpen v 1 HasSyncs 0 x → IsOpen w 1 HasSyncs 0 x
still_open v w file x stays other h = record {
  ready = others.ready_stays v w (Only file) x.journal stays (λ same. other (sym h.of.file ∙ same)) h.ready;
  of = h.of;
  goes_on = h.goes_on;
}

each_open : (w : View) (a b : RegionJournal) → IsOpen w 1 HasSyncs 0 a → IsOpen w 1 HasSyncs 1 b → (r : ℕ) (x : RegionJournal) → slice_get (a ∷ b ∷ []) r ≡ Some x → IsOpen w 1 HasSyncs r x
each_open w a b first second zero x is = let same : a ≡ x = cc in subst (IsOpen w 1 HasSyncs 0) same first
each_open w a b first second (suc zero) x is = let same : b ≡ x = cc in subst (IsOpen w 1 HasSyncs 1) same second
each_open w a b first second (suc (suc r)) x is = cc

pub returns : goal.returns
returns g c =
    let view = g.D.Disk.disk in
    let v = view c.begin.new.disk in
    let w = view c.begin-2.new.disk in
    let a = c.in_ok-first.first in
    let b = c.in_ok-second.second in
    let one : c.push.new.self.items ≡ [] ++ a ∷ [] = c.in_ok-push.ensures.items ∙ ap (λ (xs : List RegionJournal). xs ++ a ∷ []) c.new-journals.ensures.items in
    let two : c.push-2.new.self.items ≡ a ∷ b ∷ [] = c.in_ok-push-2.ensures.items ∙ ap (λ (xs : List RegionJournal). xs ++ b ∷ []) one in
    let first = still_open v w (journal_file 1 1) a c.begin-2.ensures.frame (λ same. omega (arith, same)) c.in_ok-first.ensures.open in
    subst (λ (xs : List RegionJournal). AreReady w 1 xs) (sym two) (record { few = omega arith; each = each_open w a b first c.in_ok-second.ensures.open })
