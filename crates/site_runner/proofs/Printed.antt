-- TYPE at a place.
use Rattle.std.proofs.Common.{◌≡◌, ◌≢◌, ℕ, ◌-◌, ◌≤◌, ◌==◌, Bool, true, false, List, [], ◌∷◌, ◌++◌, length, get_or, None, Some, refl, sym, ◌∙◌, ap, subst, arith, inl, inr, if◌then◌else◌}
use Rattle.std.specs.Prelude.{◌⊎◌, Option, codes, IfSome, Result, Ok, Err, OnOk, OnErr, IfOk, IsErrOf}
use Rattle.std.specs.Fmt.{decimal}
use Rattle.std.proofs.lemmas.Bool.{ne_eqb}
use Rattle.global_defs.specs.declared.limits.TheConstants.{MOST_GENERATIONS}
use Rattle.disk_defs.specs.Disk as disk
use Rattle.disk_defs.specs.Disk.{Files, View, Rose, MayFail}
use Rattle.journal_defs.specs.Numbers.{lost_file, broken_file}
use Rattle.world_defs.specs.World.{Place, IfShown}
use Rattle.site_defs.specs.Contents.{Contents, Leftover}
use Rattle.world_defs.specs.Answers.{NoFile, Refusal, Refused, Typed, line, fault_line}
use Rattle.world_defs.specs.Row.{refused_with, in_state, stopped}
use Rattle.world_defs.specs.rows.Print.{TypedBy, typed, file_typed, no_file, print}
use Rattle.site_defs.specs.Stands.{IsSite, HasLeft}
use Rattle.site_store.specs.declared.error.SiteError.{SiteError}
use Rattle.site_store.specs.declared.error.SiteError.TheVariants as errors
use Rattle.site_runner.specs.declared.ending.Ended.{Ended}
use Rattle.site_runner.specs.declared.ending.Ended.TheVariants as ends
use Rattle.site_runner.specs.Ending.{is_done_at, ShowsBytes}
use Rattle.site_runner.specs.Sites.{state_value, Failed, Site}
use Rattle.site_runner.specs.Steps.{IsAt, ExecutesAt, IsCutAt}
use Rattle.site_runner.proofs.Ats.{on_not_done, comes_refused, comes_may_refuse, comes_typed, refused_late, none_refused, state_at, is_true_or_false, some_both, reads_site, by_shown}
use Rattle.site_runner.proofs.Seen.{counted, kept_counted, read_at, read_faulted, read_cut}
use Rattle.repl_section.proofs.Results.{if_ok as on_done}
use Rattle.site_store.proofs.Unwritten.{some_read as if_some}

-- The tests of a site that isn't stopped.

up_at : (v : View) (s : Site) (p : Place) → IsAt v s p → stopped (state_value s.state) ≡ None → in_state stopped p.site ≡ None
up_at v s p h up = state_at stopped v s p h ∙ up

-- What the file has, where the site's files are known.

-- the files that are typed, as contents have them
abbrev texts_read : (lost : Bool) → Contents → Leftover → List (List ℕ)
texts_read true c left = c.losts
texts_read false c left = c.texts ++ left.torn ∷ []

-- what such a file has is what is typed of it
abbrev pub TypingReads : Bool → Type 0
TypingReads lost = (f : Files) (c : Contents) (left : Leftover) (g : ℕ) → IsSite f c → HasLeft f c left → 1 ≤ g → g ≤ MOST_GENERATIONS → f (file_typed lost g) ≡ get_or (texts_read lost c left) (g - 1) []

pub typing_of : (lost : Bool) → ((f : Files) (c : Contents) (left : Leftover) (g : ℕ) → IsSite f c → HasLeft f c left → 1 ≤ g → g ≤ MOST_GENERATIONS → f (broken_file g) ≡ get_or (c.texts ++ left.torn ∷ []) (g - 1) [])
    → ((f : Files) (c : Contents) (g : ℕ) → IsSite f c → 1 ≤ g → g ≤ MOST_GENERATIONS → f (lost_file g) ≡ get_or c.losts (g - 1) []) → TypingReads lost
typing_of true broken lost = λ f c left g site is some most. lost f c g site some most
typing_of false broken lost = broken

typed_is : (lost : Bool) (g : ℕ) (p : Place) → get_or (texts_read lost p.now p.left) (g - 1) [] ≡ typed lost g p
typed_is true g p = refl
typed_is false g p = refl

typed_here : (lost : Bool) (typing : TypingReads lost) (g : ℕ) (v : View) (s : Site) (p : Place) (old bytes : List ℕ) → IsAt v s p → 1 ≤ g → g ≤ MOST_GENERATIONS → old ≡ [] → IfSome v.content (λ files. bytes ≡ old ++ files (file_typed lost g)) → p.told ≡ true → bytes ≡ typed lost g p
typed_here lost typing g v s p old bytes h some most none text sure =
    let here = some_both v.content _ _ (h.disk.told sure) text in
    let site = reads_site here.0 p.now p.left (h.held.made sure).now.made here.1 in
    here.2 ∙ ap (λ (x : List ℕ). x ++ here.0 (file_typed lost g)) none ∙ typing here.0 p.now p.left g site.0 site.1 some most ∙ typed_is lost g p

no_byte : (lost : Bool) (g : ℕ) (p : Place) → p.told ≡ true → typed lost g p ≡ [] → no_file lost g p ≡ Some NoFile
no_byte lost g p sure e =
    ap (λ (b : Bool). if b then (if length (typed lost g p) == 0 then Some NoFile else None) else None) sure
    ∙ ap (λ (t : List ℕ). if length t == 0 then Some NoFile else None) e

some_byte : (t : List ℕ) → t ≢ [] → (if length t == 0 then Some NoFile else None) ≡ None
some_byte [] f = absurd (f refl)
some_byte (b ∷ t) f = let e : (length (b ∷ t) == 0) ≡ false = ne_eqb (length (b ∷ t)) 0 (λ z. absurd (omega (arith, z))) in rw e refl

has_file : (lost : Bool) (g : ℕ) (p : Place) → (p.told ≡ true) ⊎ (p.told ≡ false) → (p.told ≡ true → typed lost g p ≢ []) → no_file lost g p ≡ None
has_file lost g p (inl sure) f =
    ap (λ (b : Bool). if b then (if length (typed lost g p) == 0 then Some NoFile else None) else None) sure ∙ some_byte (typed lost g p) (f sure)
has_file lost g p (inr unsure) f = ap (λ (b : Bool). if b then (if length (typed lost g p) == 0 then Some NoFile else None) else None) unsure

-- there is no such file
pub print_none : (lost : Bool) (typing : TypingReads lost) (g : ℕ) (v w : View) (s : Site) (old bytes before now : List ℕ) → disk.Reads v w → v.faults ≤ w.faults → stopped (state_value s.state) ≡ None → 1 ≤ g → g ≤ MOST_GENERATIONS → old ≡ []
    → IfSome v.content (λ files. bytes ≡ old ++ files (file_typed lost g)) → bytes ≡ [] → now ≡ before ++ line s.name (codes "NOFILE") → ExecutesAt (print lost g s.name) v s w s before now false
print_none lost typing g v w s old bytes before now r later up some most none text empty t p h = elim (is_true_or_false p.told) [
  | inl sure ↦ comes_refused no (counted p w.faults)
      (refused_late s.name (in_state stopped p.site) (no_file lost g p) NoFile (up_at v s p h up) (no_byte lost g p sure (sym (typed_here lost typing g v s p old bytes h some most none text sure) ∙ empty)))
      (kept_counted p w.faults faults) by (read_at v w s p r h) t
  | inr unsure ↦ comes_may_refuse no (counted p w.faults) (ap (refused_with s.name) (up_at v s p h up)) (refl, record { unknown = unsure; kept = kept_counted p w.faults faults }) by (read_at v w s p r h) t
]
  where
    no : Refusal
    no = record { site = s.name; cause = NoFile }

    by : IfShown p (TypedBy lost g (Refused no))
    by = by_shown p.shown v.content (TypedBy lost g (Refused no)) h.disk.shown (if_some v.content _ (TypedBy lost g (Refused no)) (λ f e same. sym (e ∙ ap (λ (x : List ℕ). x ++ f (file_typed lost g)) none) ∙ empty) text)

    faults : p.faults ≤ w.faults
    faults = omega (arith, later, h.disk.faults)

-- the bytes of the file
pub printed : (lost : Bool) (typing : TypingReads lost) (g : ℕ) (v w : View) (s : Site) (old bytes before now : List ℕ) → disk.Reads v w → v.faults ≤ w.faults → stopped (state_value s.state) ≡ None → 1 ≤ g → g ≤ MOST_GENERATIONS → old ≡ []
    → IfSome v.content (λ files. bytes ≡ old ++ files (file_typed lost g)) → bytes ≢ [] → now ≡ before ++ bytes → ExecutesAt (print lost g s.name) v s w s before now false
printed lost typing g v w s old bytes before now r later up some most none text full t p h =
    let typed_so : p.told ≡ true → bytes ≡ typed lost g p = λ sure. typed_here lost typing g v s p old bytes h some most none text sure in
    comes_typed bytes (counted p w.faults)
    (none_refused s.name (in_state stopped p.site) (no_file lost g p) (up_at v s p h up) (has_file lost g p (is_true_or_false p.told) (λ sure e. full (typed_so sure ∙ e))))
    (record { some = full; told = typed_so; kept = kept_counted p w.faults (omega (arith, later, h.disk.faults)) })
    (by_shown p.shown v.content (TypedBy lost g (Typed bytes)) h.disk.shown (if_some v.content _ (TypedBy lost g (Typed bytes)) (λ f e. e ∙ ap (λ (x : List ℕ). x ++ f (file_typed lost g)) none) text))
    (read_at v w s p r h) t

-- a call failed
pub print_fault : (lost : Bool) (g : ℕ) (v w : View) (s : Site) (k : ℕ) (before now : List ℕ) → disk.Reads v w → stopped (state_value s.state) ≡ None → k ≡ w.faults → Rose v.faults w.faults
    → now ≡ before ++ line s.name (codes "DISKFAULT " ++ decimal k) → ExecutesAt (print lost g s.name) v s w (record { name = s.name; state = Failed k }) before now false
print_fault lost g v w s k before now r up count rose t = read_faulted (print lost g s.name) v w s k before now r (λ p h. ap (refused_with s.name) (up_at v s p h up)) (λ p q d. d) count rose (λ p. t)

pub print_cut : (lost : Bool) (g : ℕ) (v w : View) (s : Site) → disk.Reads v w → v.faults ≤ w.faults → IsCutAt (print lost g s.name) v s w
print_cut lost g v w s = read_cut (print lost g s.name) v w s

-- by the file's number
pub text_of : (lost : Bool) (g file : ℕ) (o : Option Files) (old bytes : List ℕ) → file ≡ file_typed lost g → IfSome o (λ files. bytes ≡ old ++ files file) → IfSome o (λ files. bytes ≡ old ++ files (file_typed lost g))
text_of lost g file o old bytes e h = subst (λ (n : ℕ). IfSome o (λ files. bytes ≡ old ++ files n)) e h

-- what was read of the file, or that a call failed
shown : (lost : Bool) (typing : TypingReads lost) (g : ℕ) (v w : View) (s : Site) (old bytes before now : List ℕ) → disk.Reads v w → v.faults ≤ w.faults → stopped (state_value s.state) ≡ None → 1 ≤ g → g ≤ MOST_GENERATIONS → old ≡ []
    → IfSome v.content (λ files. bytes ≡ old ++ files (file_typed lost g)) → ShowsBytes bytes s.name before now → ExecutesAt (print lost g s.name) v s w s before now false
shown lost typing g v w s old [] before now r later up some most none text shows = print_none lost typing g v w s old [] before now r later up some most none text refl shows
shown lost typing g v w s old (b ∷ bytes) before now r later up some most none text shows = printed lost typing g v w s old (b ∷ bytes) before now r later up some most none text (λ e. cc) shows

pub prints : {T E : Type 0} (lost : Bool) (typing : TypingReads lost) (g : ℕ) (v w : View) (s : Site) (after : Ended → Site) (old bytes before now : List ℕ) (read : Result T SiteError) (result : Result Ended E) → disk.Reads v w → MayFail v.faults w.faults (λ fault. IsErrOf read (errors.Failed fault))
    → stopped (state_value s.state) ≡ None → 1 ≤ g → g ≤ MOST_GENERATIONS → old ≡ [] → after ends.Undone ≡ s → ((k : ℕ) → after (ends.Failed k) ≡ record { name = s.name; state = Failed k })
    → OnOk read (IfSome v.content (λ files. bytes ≡ old ++ files (file_typed lost g))) → OnOk read (IfOk result (λ ended. (ended ≡ ends.Undone) × ShowsBytes bytes s.name before now))
    → OnErr read (IfOk result (λ ended. (fault : ℕ) × IsErrOf read (errors.Failed fault) × (ended ≡ ends.Failed fault) × (now ≡ before ++ fault_line s.name fault)))
    → IfOk result (λ ended. ExecutesAt (print lost g s.name) v s w (after ended) before now (is_done_at ended))
prints lost typing g v w s after old bytes before now (Ok x) result r faults up some most none same failed text ok err =
    on_not_done result _ (λ ended. ExecutesAt (print lost g s.name) v s w (after ended) before now (is_done_at ended)) ok (λ shows.
    subst (λ (x : Site). ExecutesAt (print lost g s.name) v s w x before now false) (sym same) (shown lost typing g v w s old bytes before now r faults.later up some most none text shows))
prints lost typing g v w s after old bytes before now (Err x) result r faults up some most none same failed text ok err =
    let Then : Ended → Type 0 = λ ended. ExecutesAt (print lost g s.name) v s w (after ended) before now (is_done_at ended) in
    on_done result _ Then err (λ ended h. subst Then (sym h.2)
    (subst (λ (x : Site). ExecutesAt (print lost g s.name) v s w x before now false) (sym (failed h.0)) (print_fault lost g v w s h.0 before now r up (faults.count h.0 h.1) (faults.cause h.0 h.1) h.3)))
