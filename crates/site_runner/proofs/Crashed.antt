-- FUSE and CRASH at a place.
use Rattle.std.proofs.Common.{◌≡◌, ℕ, Bool, true, false, List, [], ◌∷◌, ◌++◌, None, Some, refl, sym, ◌∙◌, ap, subst, arith, inl, inr}
use Rattle.std.specs.Prelude.{Option, codes, IfSome, IsSomeAnd, Result, IfOk, OnErr}
use Rattle.std.proofs.lemmas.Bool.{false≢true}
use Rattle.std.specs.Fmt.{decimal}
use Rattle.disk_defs.specs.Disk.{Files, View, Image, IsLawful, Reads}
use Rattle.site_defs.specs.Lists.{Among}
use Rattle.world_defs.specs.World as world
use Rattle.world_defs.specs.World.{Place, Covers, CoversSo, AmongCovered, AmongCoveredSo, has_failed_on}
use Rattle.site_defs.specs.Contents.{Contents, Leftover, Standing}
use Rattle.world_defs.specs.Answers.{NotSimulated, line, cause_text}
use Rattle.world_defs.specs.Meaning.{row_at}
use Rattle.gvn_key.specs.declared.bytes.NoMemory.{NoMemory}
use Rattle.world_defs.specs.Ties.{StandsBy, StandsSoBy}
use Rattle.command_defs.specs.Commands.{Name}
use Rattle.world_defs.specs.Row.{refused_with, stopped, not_running, not_simulated}
use Rattle.world_defs.specs.Changes.{in_new_state}
use Rattle.world_defs.specs.rows.Crash.{crash}
use Rattle.world_defs.specs.rows.Fuse.{fuse}
use Rattle.site_defs.specs.Opening.{IsBehind}
use Rattle.site_defs.specs.Stands as stands
use Rattle.site_defs.specs.Stands.{Stands}
use Rattle.site_defs.specs.Behind.{StandsSo}
use Rattle.site_runner.specs.declared.cause.Cause.TheVariants as causes
use Rattle.site_runner.specs.declared.slot.Slot.{Slot}
use Rattle.site_runner.specs.declared.slot.Slot.TheVariants as slots
use Rattle.site_runner.specs.declared.ending.Ended.{Ended}
use Rattle.site_runner.specs.declared.ending.Ended.TheVariants.{Undone}
use Rattle.site_runner.specs.Ending.{down, is_done_at}
use Rattle.site_runner.specs.Executes.{Leaves}
use Rattle.site_runner.specs.Sites.{state_value, IsOf, Down, State, Site, disk_in, site_in}
use Rattle.site_runner.specs.Steps.{IsAt, ExecutesAt, in_state}
use Rattle.site_runner.proofs.Results.{ok_so, on_errs}
use Rattle.site_runner.proofs.Stopped.{leaves_at, cut_unless, cut_nowhere}
use Rattle.site_runner.proofs.Fused.{state_read}
use Rattle.site_runner.proofs.Ats.{comes_done, not_early, refuses_by, state_at, second_cause, no_cause, is_true_or_false, Leftovers, reads_stand, only, files_of, kept_same, as_told, shown_same, StandForOne, standing_read, at_image_by, so_of, stands_for, stands_so_for, stands_by, stands_so_by, still_by}
use Rattle.repl_section.proofs.Results.{if_ok as on_done}

simulated_at : (v : View) (s : Site) (p : Place) (b : Bool) → IsAt v s p → b ≡ v.simulated → not_simulated p.simulated ≡ not_simulated b
simulated_at v s p b h e = ap not_simulated (sym h.disk.simulated ∙ sym e)

pub fuse_real : (v : View) (s : Site) (calls : ℕ) (p : Place) → stopped (state_value s.state) ≡ None → false ≡ v.simulated → IsAt v s p → (fuse calls s.name p).early ≡ refused_with s.name (Some NotSimulated)
fuse_real v s calls p e f h = ap (refused_with s.name) (second_cause _ _ [] NotSimulated (state_at stopped v s p h ∙ e) (simulated_at v s p false h f))

pub crash_real : (v : View) (s : Site) (p : Place) → not_running (state_value s.state) ≡ None → false ≡ v.simulated → IsAt v s p → (crash s.name p).early ≡ refused_with s.name (Some NotSimulated)
crash_real v s p e f h = ap (refused_with s.name) (second_cause _ _ [] NotSimulated (state_at not_running v s p h ∙ e) (simulated_at v s p false h f))

-- what a disk that crashed reads as
record CrashPlace (f : Files) (p : Place) : Type 0 where
  now : Contents
  left : Leftover
  among : p.told ≡ true → AmongCovered p.outcomes now
  behind : p.told ≡ true → IsBehind now left
  reads : p.told ≡ true → stands.Reads f now left
  so : p.told ≡ true → IfSome p.standings (λ os. AmongCoveredSo os (record { contents = now; broken = left.broken }))

-- what covers the image's standing covers what it reads as
covered_there : (leftovers : Leftovers) (one_only : StandForOne) (f : Files) (c : Contents) (left : Leftover) (failed : Bool) (x : Option (List Standing)) → stands.Reads f c left → IfSome x (λ os. (o : Standing) × Among os o × StandsSoBy failed f o)
    → IfSome x (λ os. AmongCoveredSo os (record { contents = c; broken = left.broken }))
covered_there leftovers one_only f c left failed None reads h = tt
covered_there leftovers one_only f c left failed (Some os) reads h =
    let s = stands_so_for failed f h.0 h.2 in
    (h.0, h.1, subst (CoversSo h.0) (standing_read leftovers one_only f c left s.0 reads s.2) s.1)

-- it is of the same site
of_covered : (name : Name) (o c : Contents) → Covers o c → IsOf name o → IsOf name c
of_covered name o c (inl same) h = subst (IsOf name) (sym same) h
of_covered name o c (inr told) h = subst (IsOf name) (sym told.is) (record { made = h.made; name = h.name })

crash_place : (leftovers : Leftovers) (one_only : StandForOne) (f : Files) (p : Place) → (p.told ≡ true → (o : Contents) × Among p.outcomes o × StandsBy (has_failed_on p.site) f o) → (p.told ≡ true → IfSome p.standings (λ os. (o : Standing) × Among os o × StandsSoBy (has_failed_on p.site) f o)) → CrashPlace f p
crash_place leftovers one_only f p images standing = elim (is_true_or_false p.told) [
  | inl sure ↦
      let o = images sure in
      let c = stands_for (has_failed_on p.site) f o.0 o.2 in
      let left = leftovers.reads f c.0 c.2 in
      record { now = c.0; left = left.0; among = λ _. (o.0, o.1, c.1); behind = λ _. leftovers.behind f c.0 left.0 left.1; reads = λ _. left.1; so = λ yes. covered_there leftovers one_only f c.0 left.0 (has_failed_on p.site) p.standings left.1 (standing yes) }
  | inr not ↦ record {
    now = p.now;
    left = p.left;
    among = λ sure. absurd (false≢true (sym not ∙ sure));
    behind = λ sure. absurd (false≢true (sym not ∙ sure));
    reads = λ sure. absurd (false≢true (sym not ∙ sure));
    so = λ sure. absurd (false≢true (sym not ∙ sure));
  }
]

pub crashes : (leftovers : Leftovers) (one_only : StandForOne) (v w : View) (s : Site) (before now : List ℕ) → IsLawful w → true ≡ v.simulated → not_running (state_value s.state) ≡ None → IfSome w.content (Image v)
    → IfSome w.content (λ files. (c : Files) → Image w c → c ≡ files) → w.simulated ≡ v.simulated → w.faults ≡ v.faults → now ≡ before ++ line s.name (codes "CRASHED")
    → ExecutesAt (crash s.name) v s w (record { name = s.name; state = Down }) before now true
crashes leftovers one_only v w s before now law sim up image durable same count t p h =
    let d = files_of w.content (law.told (same ∙ sym sim)) in
    let f : Files = d.0 in
    let i : Image v f = subst (λ (o : Option Files). IfSome o (Image v)) d.1 image in
    let u : (c : Files) → Image w c → c ≡ f = subst (λ (o : Option Files). IfSome o (λ files. (c : Files) → Image w c → c ≡ files)) d.1 durable in
    let m = crash_place leftovers one_only f p (λ yes. h.disk.images yes f i) (λ yes. at_image_by (has_failed_on p.site) v f p.standings i (h.disk.standings yes)) in
    let o : Contents = m.now in
    let of : p.told ≡ true → IsOf s.name o = λ yes. let c = m.among yes in of_covered s.name c.0 o c.2 ((h.held.made yes).outcomes c.0 c.1) in
    let stands_so : Standing = record { contents = o; broken = m.left.broken } in
    let q : Place = record { site = in_new_state world.Down p.site; told = p.told; now = o; left = m.left; outcomes = o ∷ []; standings = Some (stands_so ∷ []); shown = w.content; faults = p.faults; simulated = p.simulated } in
    comes_done
    q
    (not_early s.name _ (no_cause _ _ (state_at not_running v s p h ∙ up) (simulated_at v s p true h sim)))
    (record { site = refl; told = refl; chosen = m.among; left = m.behind; behind = m.so; outcomes = refl; standings = refl; faults = omega arith; simulated = refl })
    tt
    (
    record {
      disk = record {
        told = λ yes. subst (λ (x : Option Files). IsSomeAnd x (λ files. stands.Reads files o m.left)) (sym d.1) (m.reads yes);
        images = λ yes c j. (o, inl refl, stands_by (has_failed_on q.site) c o (subst (λ (x : Files). Stands x o) (sym (u c j)) (reads_stand f o m.left (m.reads yes))));
        standings = λ yes c j. (stands_so, inl refl, stands_so_by (has_failed_on q.site) c stands_so (subst (λ (x : Files). StandsSo x stands_so) (sym (u c j)) (so_of f o m.left (m.reads yes))));
        shown = as_told w.content;
        known = λ _. refl;
        faults = count ∙ h.disk.faults;
        simulated = same ∙ h.disk.simulated;
      };
      site = ap (in_new_state world.Down) h.site;
      held = record {
        made = λ yes. record { now = of yes; outcomes = λ x j. subst (IsOf s.name) (sym (only x o j)) (of yes) };
        state = tt;
      };
    }
    )
    t

-- a call that reads leaves a site as it is
pub fused : (v w : View) (s : Site) (calls : ℕ) (before now : List ℕ) → Reads v w → w.faults ≡ v.faults → true ≡ v.simulated → stopped (state_value s.state) ≡ None
    → now ≡ before ++ line s.name (codes "FUSED " ++ decimal calls) → ExecutesAt (fuse calls s.name) v s w s before now true
fused v w s calls before now r count sim up t p h =
    comes_done
    p
    (not_early s.name _ (no_cause _ _ (state_at stopped v s p h ∙ up) (simulated_at v s p true h sim)))
    (kept_same p)
    tt
    (
    record {
      disk = record {
        told = λ yes. subst (λ (x : Option Files). IsSomeAnd x (λ files. stands.Reads files p.now p.left)) (sym r.content) (h.disk.told yes);
        images = λ yes c j.
            let k = r.passes.images c j in
            h.disk.images yes c (subst (Image v) (sym k.2) k.1);
        standings = λ yes. still_by (has_failed_on p.site) v w p.standings (λ c j. let k = r.passes.images c j in subst (Image v) (sym k.2) k.1) (h.disk.standings yes);
        shown = shown_same p.shown v.content w.content r.content h.disk.shown;
        known = λ sure. h.disk.known sure ∙ sym r.content;
        faults = count ∙ h.disk.faults;
        simulated = r.passes.simulated ∙ h.disk.simulated;
      };
      site = h.site;
      held = record { made = h.held.made; state = state_read v w s.state p r h.held.state };
    }
    )
    t

-- a crash of a site that was given up
pub crash_leaves : {D : Type 0} (view : D → View) (old : Slot D) (state : State) (disk : D) (name : Name) (r : Slot D × Result Ended NoMemory) (before now : List ℕ) → site_in old ≡ Some (record { name = name; state = state }) → disk ≡ disk_in old
    → not_running (state_value state) ≡ None → r.0 ≡ slots.Down (disk_in r.0) name
    → IfOk r.1 (λ e. (s : State) → not_running (state_value s) ≡ None → ExecutesAt (crash name) (view disk) (in_state (down name) s) (view (disk_in r.0)) (down name) before now (is_done_at e)) → OnErr r.1 (disk_in r.0 ≡ disk)
    → Leaves view (row_at crash) old r before now
crash_leaves {D} view old state disk name r before now is of up left done kept =
    let s : Site = record { name = name; state = state } in
    leaves_at view crash old r.0 (view (disk_in r.0)) s (λ _. down name) r.1 before now is refl (ok_so r.1 _ (ap site_in left))
    (on_done r.1 _ _ done (λ e h. subst (λ (d : D). ExecutesAt (crash name) (view d) s (view (disk_in r.0)) (down name) before now (is_done_at e)) of (h state up)))
    (cut_unless view r.1 (crash name) (disk_in old) (disk_in r.0) s (on_errs r.1 _ _ kept (λ e. e ∙ of)))

-- a disk that isn't simulated isn't crashed
pub crash_refused : {D : Type 0} (view : D → View) (old : Slot D) (s : Site) (n : Name) (r : Result Ended NoMemory) (before now : List ℕ) → site_in old ≡ Some s → not_running (state_value s.state) ≡ None → false ≡ (view (disk_in old)).simulated → n ≡ s.name
    → IfOk r (λ ended. (ended ≡ Undone) × (now ≡ before ++ line n (cause_text NotSimulated))) → Leaves view (row_at crash) old (old, r) before now
crash_refused {D} view old s n r before now is up real named h =
    leaves_at view crash old old (view (disk_in old)) s (λ _. s) r before now is refl (ok_so r _ is)
    (refuses_by (crash s.name) (view (disk_in old)) s causes.NotSimulated before now n r (λ _. s) refl (λ p at. crash_real (view (disk_in old)) s p up real at) kept_same (λ p. tt) named h) (cut_nowhere r (crash s.name) (view (disk_in old)) s)
