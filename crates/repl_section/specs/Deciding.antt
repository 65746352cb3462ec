-- Deciding jobs in the order of picks, where each entry is hardened before its reply is released.
use Rattle.std.specs.Prelude.{◌≡◌, ◌⊎◌, ◌≤◌, ◌<◌, ℕ, ◌+◌, Bool, true, List, [], ◌∷◌, ◌++◌, length, take, Option, Some, None, IsTrue, IsSome}
use Rattle.disk_defs.specs.Disk.{View, Files, Image}
use Rattle.global_defs.specs.Entry.{Stamp, Entry, Sequence, Globals}
use Rattle.global_defs.specs.Jobs.{Job}
use Rattle.global_defs.specs.Evaluation.{Evaluated}
use Rattle.global_defs.specs.Evaluation as evaluation
use Rattle.global_defs.specs.Serial.{Turn, Replied, decided, begun}
use Rattle.site_defs.specs.Contents.{Contents, Standing, NO_LEFTOVER}
use Rattle.site_defs.specs.Fronts.{with_sequence, IsFrontOf, turn_of}
use Rattle.site_defs.specs.Stands.{IsSite, HasLeft}
use Rattle.site_defs.specs.Behind.{MayStand, IsSiteWith}
use Rattle.site_defs.specs.Texts.{is_past, printed}
use Rattle.site_store.specs.Owning.{memory_of}
use Rattle.site_store.specs.Site.{IsOpen, HasRoomFor}
use Rattle.repl_section.specs.declared.reign.Reign.{Reign}
use Rattle.repl_section.specs.declared.running.RunError.{RunError}
use Rattle.repl_section.specs.declared.running.RunError.TheVariants as run
use Rattle.repl_section.specs.Reigns.{Reigns, stamp_of}

-- what an updater's next job comes to that was evaluated so, where these are the next serials and the entries
abbrev pub outcome : Stamp → List ℕ → Sequence → ℕ → Evaluated → Turn
outcome stamp serials seq u evaluated = decided stamp (begun serials [] seq) u evaluated

-- updates, if there are some, leave no more nodes than there may be
abbrev pub FitsIn : Globals → Evaluated → Type 0
FitsIn g (evaluation.Done updates answers) = 1 ≤ length updates → HasRoomFor g updates
FitsIn g (evaluation.RolledBack cause) = Unit {0}

-- Each image stands for the first entries, those that are hardened, with nothing behind them.
pub record StandsAt (v : View) (c : Contents) (hardened : ℕ) : Type 0 where
  pub told : IsSome v.content
  pub images : (files : Files) → Image v files → IsSite files (with_sequence c (take hardened c.sequence))
  pub bare : (files : Files) → Image v files → HasLeft files (with_sequence c (take hardened c.sequence)) NO_LEFTOVER

-- A job was decided: the reign has come to this turn's entries, of which so many are hardened, and to its next serials. This is the turn's reply.
pub record ComesTo {D : Type 0} (v : View) (told : Bool) (c : Contents) (hardened : ℕ) (t : Turn) (r : Reign D) (decision : Replied) : Type 0 where
  pub open_site : IsOpen v told (with_sequence c t.sequence) hardened (memory_of r.site)
  pub serials : r.serials ≡ t.serials
  pub reply : t.replies ≡ decision ∷ []

-- How many entries are hardened once those are that a reply waits for: all, where it names an entry, else as many as before.
abbrev pub hardened_for : Option ℕ → Contents → (before : ℕ) → ℕ
hardened_for None c before = before
hardened_for (Some number) c before = length c.sequence

-- each image stands for these contents, or for those with this sequence
pub record MayHave (v : View) (c : Contents) (after : Sequence) : Type 0 where
  pub told : IsSome v.content
  pub images : (files : Files) → Image v files → IsSite files c ⊎ IsSite files (with_sequence c after)

-- files stand as they may once one more pick has come to this sequence, or failed
abbrev pub StandsLeft : Contents → (after : Sequence) → Files → Type 0
StandsLeft c after files = (o : Standing) × MayStand c c.sequence after o × IsSiteWith files o

-- so it is of each image
abbrev pub LeavesPick : View → Contents → (after : Sequence) → Type 0
LeavesPick v c after = (files : Files) → Image v files → StandsLeft c after files

-- A pick has come to this turn: the reign has its entries and its next serials, and its replies were given.
pub record HasCome {D : Type 0} (v : View) (told : Bool) (c : Contents) (t : Turn) (r : Reign D) (gave : List Replied → Type 0) : Type 0 where
  pub reigns : Reigns v told (with_sequence c t.sequence) r
  pub serials : r.serials ≡ t.serials
  pub given : gave t.replies

-- a turn that appended one entry to these, which its reply names
pub record Appends (seq : Sequence) (t : Turn) : Type 0 where
  pub entry : Entry
  pub sequence : t.sequence ≡ seq ++ entry ∷ []
  pub reply : Replied
  pub replies : t.replies ≡ reply ∷ []
  pub names : is_past (length seq) reply.reply ≡ true

-- A section has come to this turn: besides, there are no fewer entries, and each reply names one that is there or none.
pub record HasReached {D : Type 0} (v : View) (told : Bool) (c : Contents) (t : Turn) (r : Reign D) (gave : List Replied → Type 0) : Type 0 where
  pub reigns : Reigns v told (with_sequence c t.sequence) r
  pub serials : r.serials ≡ t.serials
  pub given : gave t.replies
  pub grown : length c.sequence ≤ length t.sequence
  pub printed : printed (length t.sequence) t.replies ≡ t.replies

-- These picks were decided: entries, serials and replies are those of the serial run.
abbrev pub HasDecided : {D : Type 0} → View → Bool → Contents → List (List Job) → (picks : List ℕ) → Reign D → Reign D → (List Replied → Type 0) → Type 0
HasDecided v told c jobs picks old new gave = HasReached v told c (turn_of (stamp_of old) old.serials jobs picks c.sequence) new gave

-- where files are known, each image stands for a front of this sequence that has at least so many entries
pub record MayHaveFront (v : View) (is_told : Bool) (c : Contents) (all : Sequence) (low : ℕ) : Type 0 where
  pub told : IsTrue is_told → IsSome v.content
  pub images : IsTrue is_told → (files : Files) → Image v files → (o : Contents) × IsFrontOf all low c o × IsSite files o

-- A fault in the last pick of this turn, of so many: its entry may stand or not, and it has no reply.
pub record FailsBy (v : View) (told : Bool) (c : Contents) (t : Turn) (picks undecided : ℕ) (gave : List Replied → Type 0) : Type 0 where
  pub hardened : ℕ
  pub begun : length c.sequence ≤ hardened
  pub at_once : length t.sequence ≤ hardened + 1
  pub count : undecided + length (printed hardened t.replies) ≡ picks
  pub given : gave (printed hardened t.replies)
  pub front : MayHaveFront v told c t.sequence hardened

-- a fault in the last of the first n picks
abbrev pub FailsAt : View → Stamp → Bool → Contents → List (List Job) → (order serials : List ℕ) → (undecided : ℕ) → (List Replied → Type 0) → ℕ → Type 0
FailsAt v stamp told c jobs order serials undecided gave n = FailsBy v told c (turn_of stamp serials jobs (take n order) c.sequence) (length order) undecided gave

-- So many first picks were decided, and perhaps one more was under way: what files stand for then, with what lies behind it.
pub record LeftAfter (stamp : Stamp) (c : Contents) (jobs : List (List Job)) (order serials : List ℕ) (decided : ℕ) (files : Files) : Type 0 where
  pub standing : Standing
  pub may : MayStand c (turn_of stamp serials jobs (take decided order) c.sequence).sequence (turn_of stamp serials jobs (take (decided + 1) order) c.sequence).sequence standing
  pub stands : IsSiteWith files standing

-- A fault in the pick behind the first ones, which were decided: each of them that had a job has its reply, and no other has one. The
-- entry of the pick that failed may stand or not; where it doesn't, some of its parts may lie behind the sequence.
pub record FailsIn (v : View) (stamp : Stamp) (told : Bool) (c : Contents) (jobs : List (List Job)) (order serials : List ℕ) (undecided : ℕ) (gave : List Replied → Type 0) : Type 0 where
  pub decided : ℕ
  pub inside : decided < length order
  pub count : undecided + length (turn_of stamp serials jobs (take decided order) c.sequence).replies ≡ length order
  pub given : gave (turn_of stamp serials jobs (take decided order) c.sequence).replies
  pub front : MayHaveFront v told c (turn_of stamp serials jobs (take (decided + 1) order) c.sequence).sequence (length (turn_of stamp serials jobs (take decided order) c.sequence).sequence)
  pub left : IsTrue told → (files : Files) → Image v files → LeftAfter stamp c jobs order serials decided files

-- where files are known, each image stands for a front of what some first picks come to
pub record MayLeave (v : View) (stamp : Stamp) (is_told : Bool) (c : Contents) (jobs : List (List Job)) (order serials : List ℕ) : Type 0 where
  pub told : IsTrue is_told → IsSome v.content
  pub images : IsTrue is_told → (files : Files) → Image v files
      → (o : Contents) × ((n : ℕ) × IsFrontOf (turn_of stamp serials jobs (take n order) c.sequence).sequence (length c.sequence) c o) × IsSite files o
  pub left : IsTrue is_told → (files : Files) → Image v files → (decided : ℕ) × LeftAfter stamp c jobs order serials decided files

-- how a section ends that was not decided to its end
abbrev pub Breaks : RunError → View → Stamp → Bool → Contents → List (List Job) → (order serials : List ℕ) → (List Replied → Type 0) → Type 0
Breaks (run.Failed undecided) v stamp told c jobs order serials gave = (n : ℕ) × FailsAt v stamp told c jobs order serials undecided gave n
Breaks run.NoMemory v stamp told c jobs order serials gave = MayLeave v stamp told c jobs order serials

-- no reply is withheld where the disk failed
abbrev pub WithholdsNone : RunError → View → Stamp → Bool → Contents → List (List Job) → (order serials : List ℕ) → (List Replied → Type 0) → Type 0
WithholdsNone (run.Failed undecided) v stamp told c jobs order serials gave = FailsIn v stamp told c jobs order serials undecided gave
WithholdsNone run.NoMemory v stamp told c jobs order serials gave = Unit {0}

abbrev pub IsFault : RunError → Type 0
IsFault (run.Failed undecided) = Unit {0}
IsFault run.NoMemory = ⊥
