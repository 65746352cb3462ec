use Rattle.std.proofs.Common.{◌≡◌, ◌++◌, ℕ, List, [], length, take, drop, Some, sym, subst, ◌∙◌, arith}
use Rattle.std.specs.Prelude.{slice_get}
use Rattle.journal_defs.specs.Journal.{JournalRecord}
use Rattle.region_journals.specs.declared.journals.RegionJournal.{RegionJournal}
use Rattle.region_journals.specs.declared.hardening.Round.TheVariants.{SyncBodies, OpenGates, SyncGates}
use Rattle.region_journals.specs.Journals.{HasSyncs, AreOpen, AreReady, KeepsJournals, IsHardened}
use Rattle.region_journals.specs.Turns.{AllTurned}
use Rattle.region_journals.specs.Rounds.{HasDone, Becomes}
use Rattle.region_journals.proofs.Hardened.{WentRound, first_few, back, ok_gives}
use Rattle.region_journals.proofs.Hardened as hardened
use Rattle.region_journals.proofs.journals.RegionJournals.harden.Goals as goal

pub harden_all-requires : goal.harden_all-requires
harden_all-requires g c =
    let view = g.D.Disk.disk in
    let u = view c.args.disk.now in
    let items = c.args.self.now.journals.items in
    let same : c.as_mut_slice-journals.result.now ≡ items = cc (c.as_mut_slice-journals.ensures.value) in
    record { ready = (c.requires.ready.0, subst (λ l. AreOpen u c.requires.ready.0 HasSyncs l) (sym same) c.requires.ready.1) }

pub returns-in_err-harden_all-clause-any_moment : goal.returns-in_err-harden_all-clause-any_moment
returns-in_err-harden_all-clause-any_moment g c h hard waiting ready keeps =
    let view = g.D.Disk.disk in
    let u = view c.args.disk.now in
    let items = c.args.self.now.journals.items in
    let same : c.as_mut_slice-journals.result.now ≡ items = cc (c.as_mut_slice-journals.ensures.value) in
    let v = view c.harden_all.new.disk in
    let two = c.harden_all.new.journals in
    let a : WentRound u v SyncBodies items two = subst (λ l. WentRound u v SyncBodies l two) same (record { count = c.harden_all.auto.journals; moments = c.harden_all.ensures.any_moment; frame = c.harden_all.ensures.frame }) in
    first_few u v h (length items) hard waiting (hardened.moments_one u v items two a h hard waiting ready keeps)

pub returns-in_err-harden_all-clause-frame : goal.returns-in_err-harden_all-clause-frame
returns-in_err-harden_all-clause-frame g c h ready =
    let view = g.D.Disk.disk in
    let u = view c.args.disk.now in
    let items = c.args.self.now.journals.items in
    let same : c.as_mut_slice-journals.result.now ≡ items = cc (c.as_mut_slice-journals.ensures.value) in
    let v = view c.harden_all.new.disk in
    let two = c.harden_all.new.journals in
    let a : WentRound u v SyncBodies items two = subst (λ l. WentRound u v SyncBodies l two) same (record { count = c.harden_all.auto.journals; moments = c.harden_all.ensures.any_moment; frame = c.harden_all.ensures.frame }) in
    a.frame h ready

pub harden_all-requires-2 : goal.harden_all-requires-2
harden_all-requires-2 g c =
    let view = g.D.Disk.disk in
    let u = view c.args.disk.now in
    let items = c.args.self.now.journals.items in
    let same : c.as_mut_slice-journals.result.now ≡ items = cc (c.as_mut_slice-journals.ensures.value) in
    let v = view c.harden_all.new.disk in
    let two = c.harden_all.new.journals in
    let a : WentRound u v SyncBodies items two = subst (λ l. WentRound u v SyncBodies l two) same (record { count = c.harden_all.auto.journals; moments = c.harden_all.ensures.any_moment; frame = c.harden_all.ensures.frame }) in
    let a_turned : AllTurned u v (HasDone SyncBodies) (Becomes SyncBodies) items two = subst (λ l. AllTurned u v (HasDone SyncBodies) (Becomes SyncBodies) l two) same c.in_ok-harden_all.ensures.turned in
    record { ready = (c.requires.ready.0, hardened.open_after u v SyncBodies c.requires.ready.0 items two a.count c.requires.ready.1 a_turned) }

pub returns-in_err-harden_all-2-clause-any_moment : goal.returns-in_err-harden_all-2-clause-any_moment
returns-in_err-harden_all-2-clause-any_moment g c h hard waiting ready keeps =
    let view = g.D.Disk.disk in
    let u = view c.args.disk.now in
    let items = c.args.self.now.journals.items in
    let same : c.as_mut_slice-journals.result.now ≡ items = cc (c.as_mut_slice-journals.ensures.value) in
    let v = view c.harden_all.new.disk in
    let two = c.harden_all.new.journals in
    let a : WentRound u v SyncBodies items two = subst (λ l. WentRound u v SyncBodies l two) same (record { count = c.harden_all.auto.journals; moments = c.harden_all.ensures.any_moment; frame = c.harden_all.ensures.frame }) in
    let a_turned : AllTurned u v (HasDone SyncBodies) (Becomes SyncBodies) items two = subst (λ l. AllTurned u v (HasDone SyncBodies) (Becomes SyncBodies) l two) same c.in_ok-harden_all.ensures.turned in
    let w = view c.harden_all-2.new.disk in
    let three = c.harden_all-2.new.journals in
    let b : WentRound v w OpenGates two three = record { count = c.harden_all-2.auto.journals; moments = c.harden_all-2.ensures.any_moment; frame = c.harden_all-2.ensures.frame } in
    first_few u w h (length items) hard waiting (hardened.moments_two u v items two a w three a_turned b (g.met.D.Disk.lawful c.harden_all.new.disk) h hard waiting ready keeps)

pub returns-in_err-harden_all-2-clause-frame : goal.returns-in_err-harden_all-2-clause-frame
returns-in_err-harden_all-2-clause-frame g c h ready =
    let view = g.D.Disk.disk in
    let u = view c.args.disk.now in
    let items = c.args.self.now.journals.items in
    let same : c.as_mut_slice-journals.result.now ≡ items = cc (c.as_mut_slice-journals.ensures.value) in
    let v = view c.harden_all.new.disk in
    let two = c.harden_all.new.journals in
    let a : WentRound u v SyncBodies items two = subst (λ l. WentRound u v SyncBodies l two) same (record { count = c.harden_all.auto.journals; moments = c.harden_all.ensures.any_moment; frame = c.harden_all.ensures.frame }) in
    let a_turned : AllTurned u v (HasDone SyncBodies) (Becomes SyncBodies) items two = subst (λ l. AllTurned u v (HasDone SyncBodies) (Becomes SyncBodies) l two) same c.in_ok-harden_all.ensures.turned in
    let w = view c.harden_all-2.new.disk in
    let three = c.harden_all-2.new.journals in
    let b : WentRound v w OpenGates two three = record { count = c.harden_all-2.auto.journals; moments = c.harden_all-2.ensures.any_moment; frame = c.harden_all-2.ensures.frame } in
    hardened.frame_two u v items two a w three a_turned b h ready

pub harden_all-requires-3 : goal.harden_all-requires-3
harden_all-requires-3 g c =
    let view = g.D.Disk.disk in
    let u = view c.args.disk.now in
    let items = c.args.self.now.journals.items in
    let same : c.as_mut_slice-journals.result.now ≡ items = cc (c.as_mut_slice-journals.ensures.value) in
    let v = view c.harden_all.new.disk in
    let two = c.harden_all.new.journals in
    let a : WentRound u v SyncBodies items two = subst (λ l. WentRound u v SyncBodies l two) same (record { count = c.harden_all.auto.journals; moments = c.harden_all.ensures.any_moment; frame = c.harden_all.ensures.frame }) in
    let a_turned : AllTurned u v (HasDone SyncBodies) (Becomes SyncBodies) items two = subst (λ l. AllTurned u v (HasDone SyncBodies) (Becomes SyncBodies) l two) same c.in_ok-harden_all.ensures.turned in
    let w = view c.harden_all-2.new.disk in
    let three = c.harden_all-2.new.journals in
    let b : WentRound v w OpenGates two three = record { count = c.harden_all-2.auto.journals; moments = c.harden_all-2.ensures.any_moment; frame = c.harden_all-2.ensures.frame } in
    let b_turned : AllTurned v w (HasDone OpenGates) (Becomes OpenGates) two three = c.in_ok-harden_all-2.ensures.turned in
    record { ready = (c.requires.ready.0, hardened.open_after v w OpenGates c.requires.ready.0 two three b.count (hardened.open_after u v SyncBodies c.requires.ready.0 items two a.count c.requires.ready.1 a_turned) b_turned) }

pub returns-clause-ready : goal.returns-clause-ready
returns-clause-ready g c =
    let view = g.D.Disk.disk in
    let u = view c.args.disk.now in
    let items = c.args.self.now.journals.items in
    let same : c.as_mut_slice-journals.result.now ≡ items = cc (c.as_mut_slice-journals.ensures.value) in
    let v = view c.harden_all.new.disk in
    let two = c.harden_all.new.journals in
    let a : WentRound u v SyncBodies items two = subst (λ l. WentRound u v SyncBodies l two) same (record { count = c.harden_all.auto.journals; moments = c.harden_all.ensures.any_moment; frame = c.harden_all.ensures.frame }) in
    let a_turned : AllTurned u v (HasDone SyncBodies) (Becomes SyncBodies) items two = subst (λ l. AllTurned u v (HasDone SyncBodies) (Becomes SyncBodies) l two) same c.in_ok-harden_all.ensures.turned in
    let w = view c.harden_all-2.new.disk in
    let three = c.harden_all-2.new.journals in
    let b : WentRound v w OpenGates two three = record { count = c.harden_all-2.auto.journals; moments = c.harden_all-2.ensures.any_moment; frame = c.harden_all-2.ensures.frame } in
    let b_turned : AllTurned v w (HasDone OpenGates) (Becomes OpenGates) two three = c.in_ok-harden_all-2.ensures.turned in
    let z = view c.harden_all-3.new.disk in
    let four = c.harden_all-3.new.journals in
    let d : WentRound w z SyncGates three four = record { count = c.harden_all-3.auto.journals; moments = c.harden_all-3.ensures.any_moment; frame = c.harden_all-3.ensures.frame } in
    let turned_c = c.harden_all-3.ensures.turned in
    let new = take c.args.self.now.journals.len (four ++ drop (length four) items) in
    let written : new ≡ four = back items four c.args.self.now.journals.len (omega arith) (d.count ∙ b.count ∙ a.count) in
    ok_gives c.harden_all-3.result (AllTurned w z (HasDone SyncGates) (Becomes SyncGates) three four) ((h : ℕ) → AreReady u h items → AreReady z h new) (λ turned h ready. subst (λ l. AreReady z h l) (sym written) (hardened.ready_four u v items two a w three a_turned b z four b_turned d turned h ready)) turned_c

pub returns-clause-state : goal.returns-clause-state
returns-clause-state g c =
    let view = g.D.Disk.disk in
    let u = view c.args.disk.now in
    let items = c.args.self.now.journals.items in
    let same : c.as_mut_slice-journals.result.now ≡ items = cc (c.as_mut_slice-journals.ensures.value) in
    let v = view c.harden_all.new.disk in
    let two = c.harden_all.new.journals in
    let a : WentRound u v SyncBodies items two = subst (λ l. WentRound u v SyncBodies l two) same (record { count = c.harden_all.auto.journals; moments = c.harden_all.ensures.any_moment; frame = c.harden_all.ensures.frame }) in
    let a_turned : AllTurned u v (HasDone SyncBodies) (Becomes SyncBodies) items two = subst (λ l. AllTurned u v (HasDone SyncBodies) (Becomes SyncBodies) l two) same c.in_ok-harden_all.ensures.turned in
    let w = view c.harden_all-2.new.disk in
    let three = c.harden_all-2.new.journals in
    let b : WentRound v w OpenGates two three = record { count = c.harden_all-2.auto.journals; moments = c.harden_all-2.ensures.any_moment; frame = c.harden_all-2.ensures.frame } in
    let b_turned : AllTurned v w (HasDone OpenGates) (Becomes OpenGates) two three = c.in_ok-harden_all-2.ensures.turned in
    let z = view c.harden_all-3.new.disk in
    let four = c.harden_all-3.new.journals in
    let d : WentRound w z SyncGates three four = record { count = c.harden_all-3.auto.journals; moments = c.harden_all-3.ensures.any_moment; frame = c.harden_all-3.ensures.frame } in
    let turned_c = c.harden_all-3.ensures.turned in
    let new = take c.args.self.now.journals.len (four ++ drop (length four) items) in
    let written : new ≡ four = back items four c.args.self.now.journals.len (omega arith) (d.count ∙ b.count ∙ a.count) in
    ok_gives c.harden_all-3.result (AllTurned w z (HasDone SyncGates) (Becomes SyncGates) three four) ((hard waiting : ℕ → List JournalRecord) → KeepsJournals u hard waiting items → KeepsJournals z (λ r. hard r ++ waiting r) (λ r. []) new) (λ turned hard waiting keeps. subst (λ l. KeepsJournals z (λ r. hard r ++ waiting r) (λ r. []) l) (sym written) (hardened.keeps_four u v items two a w three a_turned b z four b_turned d turned hard waiting keeps)) turned_c

pub returns-clause-each : goal.returns-clause-each
returns-clause-each g c =
    let view = g.D.Disk.disk in
    let u = view c.args.disk.now in
    let items = c.args.self.now.journals.items in
    let same : c.as_mut_slice-journals.result.now ≡ items = cc (c.as_mut_slice-journals.ensures.value) in
    let v = view c.harden_all.new.disk in
    let two = c.harden_all.new.journals in
    let a : WentRound u v SyncBodies items two = subst (λ l. WentRound u v SyncBodies l two) same (record { count = c.harden_all.auto.journals; moments = c.harden_all.ensures.any_moment; frame = c.harden_all.ensures.frame }) in
    let a_turned : AllTurned u v (HasDone SyncBodies) (Becomes SyncBodies) items two = subst (λ l. AllTurned u v (HasDone SyncBodies) (Becomes SyncBodies) l two) same c.in_ok-harden_all.ensures.turned in
    let w = view c.harden_all-2.new.disk in
    let three = c.harden_all-2.new.journals in
    let b : WentRound v w OpenGates two three = record { count = c.harden_all-2.auto.journals; moments = c.harden_all-2.ensures.any_moment; frame = c.harden_all-2.ensures.frame } in
    let b_turned : AllTurned v w (HasDone OpenGates) (Becomes OpenGates) two three = c.in_ok-harden_all-2.ensures.turned in
    let z = view c.harden_all-3.new.disk in
    let four = c.harden_all-3.new.journals in
    let d : WentRound w z SyncGates three four = record { count = c.harden_all-3.auto.journals; moments = c.harden_all-3.ensures.any_moment; frame = c.harden_all-3.ensures.frame } in
    let turned_c = c.harden_all-3.ensures.turned in
    let new = take c.args.self.now.journals.len (four ++ drop (length four) items) in
    let written : new ≡ four = back items four c.args.self.now.journals.len (omega arith) (d.count ∙ b.count ∙ a.count) in
    ok_gives c.harden_all-3.result (AllTurned w z (HasDone SyncGates) (Becomes SyncGates) three four) ((r : ℕ) (x y : RegionJournal) → slice_get items r ≡ Some x → slice_get new r ≡ Some y → IsHardened x y) (λ turned r x y was is. hardened.each_four u v items two a w three a_turned b z four b_turned d turned r x y was (subst (λ l. slice_get l r ≡ Some y) written is)) turned_c

pub returns-clause-any_moment : goal.returns-clause-any_moment
returns-clause-any_moment g c h hard waiting ready keeps =
    let view = g.D.Disk.disk in
    let u = view c.args.disk.now in
    let items = c.args.self.now.journals.items in
    let same : c.as_mut_slice-journals.result.now ≡ items = cc (c.as_mut_slice-journals.ensures.value) in
    let v = view c.harden_all.new.disk in
    let two = c.harden_all.new.journals in
    let a : WentRound u v SyncBodies items two = subst (λ l. WentRound u v SyncBodies l two) same (record { count = c.harden_all.auto.journals; moments = c.harden_all.ensures.any_moment; frame = c.harden_all.ensures.frame }) in
    let a_turned : AllTurned u v (HasDone SyncBodies) (Becomes SyncBodies) items two = subst (λ l. AllTurned u v (HasDone SyncBodies) (Becomes SyncBodies) l two) same c.in_ok-harden_all.ensures.turned in
    let w = view c.harden_all-2.new.disk in
    let three = c.harden_all-2.new.journals in
    let b : WentRound v w OpenGates two three = record { count = c.harden_all-2.auto.journals; moments = c.harden_all-2.ensures.any_moment; frame = c.harden_all-2.ensures.frame } in
    let b_turned : AllTurned v w (HasDone OpenGates) (Becomes OpenGates) two three = c.in_ok-harden_all-2.ensures.turned in
    let z = view c.harden_all-3.new.disk in
    let four = c.harden_all-3.new.journals in
    let d : WentRound w z SyncGates three four = record { count = c.harden_all-3.auto.journals; moments = c.harden_all-3.ensures.any_moment; frame = c.harden_all-3.ensures.frame } in
    first_few u z h (length items) hard waiting (hardened.moments_three u v items two a w three a_turned b z four b_turned d (g.met.D.Disk.lawful c.harden_all.new.disk) (g.met.D.Disk.lawful c.harden_all-2.new.disk) h hard waiting ready keeps)

pub returns-clause-frame : goal.returns-clause-frame
returns-clause-frame g c h ready =
    let view = g.D.Disk.disk in
    let u = view c.args.disk.now in
    let items = c.args.self.now.journals.items in
    let same : c.as_mut_slice-journals.result.now ≡ items = cc (c.as_mut_slice-journals.ensures.value) in
    let v = view c.harden_all.new.disk in
    let two = c.harden_all.new.journals in
    let a : WentRound u v SyncBodies items two = subst (λ l. WentRound u v SyncBodies l two) same (record { count = c.harden_all.auto.journals; moments = c.harden_all.ensures.any_moment; frame = c.harden_all.ensures.frame }) in
    let a_turned : AllTurned u v (HasDone SyncBodies) (Becomes SyncBodies) items two = subst (λ l. AllTurned u v (HasDone SyncBodies) (Becomes SyncBodies) l two) same c.in_ok-harden_all.ensures.turned in
    let w = view c.harden_all-2.new.disk in
    let three = c.harden_all-2.new.journals in
    let b : WentRound v w OpenGates two three = record { count = c.harden_all-2.auto.journals; moments = c.harden_all-2.ensures.any_moment; frame = c.harden_all-2.ensures.frame } in
    let b_turned : AllTurned v w (HasDone OpenGates) (Becomes OpenGates) two three = c.in_ok-harden_all-2.ensures.turned in
    let z = view c.harden_all-3.new.disk in
    let four = c.harden_all-3.new.journals in
    let d : WentRound w z SyncGates three four = record { count = c.harden_all-3.auto.journals; moments = c.harden_all-3.ensures.any_moment; frame = c.harden_all-3.ensures.frame } in
    hardened.frame_three u v items two a w three a_turned b z four b_turned d h ready
