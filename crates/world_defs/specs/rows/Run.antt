-- RUN: a section of jobs at a primary.
use Rattle.std.specs.Prelude.{◌≡◌, ℕ, ◌+◌, ◌-◌, ◌<◌, List, [], ◌++◌, length, take, codes, Option, Some, None}
use Rattle.std.specs.Fmt.{decimal}
use Rattle.std.specs.List.{AllByRecursion, flat_map}
use Rattle.global_defs.specs.Entry.{Stamp, Sequence}
use Rattle.global_defs.specs.Jobs.{Job}
use Rattle.global_defs.specs.Serial.{Turn, begun}
use Rattle.command_defs.specs.Commands.{Name}
use Rattle.site_defs.specs.Contents.{Contents, Standing}
use Rattle.site_defs.specs.Behind.{MayStand}
use Rattle.site_defs.specs.Lists.{Among}
use Rattle.site_defs.specs.Fronts.{IsFrontOf, turn_of, with_sequence}
use Rattle.site_defs.specs.Texts.{reply_line}
use Rattle.world_defs.specs.World.{State, Down, Primary, Failed, Site, Place}
use Rattle.world_defs.specs.Answers.{Section, line}
use Rattle.world_defs.specs.Changes.{in_new_state, Becomes, Fails}
use Rattle.world_defs.specs.Row.{Row, quiet, refused_with, in_state, why_not_primary}

-- without a fault the jobs are decided one after another, all of them
pub record RunsWhole (stamp : Stamp) (t : Turn) (old new : Place) : Type 0 where
  pub all_decided : AllByRecursion (λ (jobs : List Job). jobs ≡ []) t.left
  pub becomes : Becomes (Primary stamp t.serials) (with_sequence old.now t.sequence) old new

-- what stands after a fault in a pick, by what was decided before it and what one more pick would have come to
abbrev pub StandWithin : Contents → (before after : Sequence) → Option (List Standing) → Type 0
StandWithin c before after None = ⊥
StandWithin c before after (Some os) = (o : Standing) → Among os o → MayStand c before after o

-- With a fault each outcome is a front of what one pick more would have appended that has all that the picks before it appended, which is hardened: the
-- entry of the job that failed may stand or not, and where it doesn't, some of its parts may lie behind.
abbrev pub RunsTo : Stamp → (t further : Turn) → Option ℕ → Place → Place → Type 0
RunsTo stamp t further None old new = RunsWhole stamp t old new
RunsTo stamp t further (Some k) old new = Fails k (in_new_state (Failed k) old.site) (λ c o. IsFrontOf further.sequence (length t.sequence) old.now o)
    (λ was now. StandWithin old.now t.sequence further.sequence now) old new

-- Without a fault all jobs are picked, in the order of their lines. With one the picks are those before the pick that failed.
abbrev pub IsPicked : Option ℕ → List ℕ → List ℕ → Type 0
IsPicked None order picks = picks ≡ order
IsPicked (Some k) order picks = (length picks < length order) × (picks ≡ take (length picks) order)

-- the picks, and one more
abbrev pub one_further : List ℕ → List ℕ → List ℕ
one_further order picks = take (length picks + 1) order

pub record Runs (name : Name) (jobs : List (List Job)) (order : List ℕ) (s : Section) (old new : Place) : Type 0 where
  pub stamp : Stamp
  pub serials : List ℕ
  pub state : old.site ≡ Some (record { name = name; state = Primary stamp serials })
  pub picks : IsPicked s.fault order s.picks
  pub ran : RunsTo stamp (turn_of stamp serials jobs s.picks old.now.sequence) (turn_of stamp serials jobs (one_further order s.picks) old.now.sequence) s.fault old new

abbrev pub turn_in : State → List (List Job) → (picks : List ℕ) → Place → Turn
turn_in Down jobs picks p = begun [] jobs p.now.sequence
turn_in (Primary stamp serials) jobs picks p = turn_of stamp serials jobs picks p.now.sequence
turn_in (Failed k) jobs picks p = begun [] jobs p.now.sequence

-- the jobs as the picks decided them, by the primary's place before the section
abbrev pub turn_on : Option Site → List (List Job) → (picks : List ℕ) → Place → Turn
turn_on None jobs picks p = begun [] jobs []
turn_on (Some site) jobs picks p = turn_in site.state jobs picks p

abbrev pub undecided_line : Name → (fault undecided : ℕ) → List ℕ
undecided_line name k undecided = line name (codes "DISKFAULT " ++ decimal k ++ codes " UNDECIDED " ++ decimal undecided)

-- A line a pick in the order of picks, and the primary's line. After a fault each pick before it has its line, and all other jobs are undecided.
abbrev pub section_text : Name → (jobs : ℕ) → Turn → (fault : Option ℕ) → List ℕ
section_text name jobs t None = flat_map reply_line t.replies ++ line name (codes "AT " ++ decimal (length t.sequence))
section_text name jobs t (Some k) = flat_map reply_line t.replies ++ undecided_line name k (jobs - length t.replies)

-- what a fault in a section of a site in that state might have left, once some of its jobs were decided
abbrev pub RunMayLeave : State → List (List Job) → List ℕ → Place → Contents → Type 0
RunMayLeave Down jobs order old o = ⊥
RunMayLeave (Failed k) jobs order old o = ⊥
RunMayLeave (Primary stamp serials) jobs order old o = (n : ℕ) × IsFrontOf (turn_of stamp serials jobs (take n order) old.now.sequence).sequence (length old.now.sequence) old.now o

abbrev pub RunMayLeaveOn : Option Site → List (List Job) → List ℕ → Place → Contents → Type 0
RunMayLeaveOn None jobs order old o = ⊥
RunMayLeaveOn (Some site) jobs order old o = RunMayLeave site.state jobs order old o

-- and what lies behind it: what a fault may leave in the pick behind the first ones, which were decided
abbrev pub RunMayStand : State → List (List Job) → List ℕ → Place → Standing → Type 0
RunMayStand Down jobs order old o = ⊥
RunMayStand (Failed k) jobs order old o = ⊥
RunMayStand (Primary stamp serials) jobs order old o =
    (decided : ℕ) × MayStand old.now (turn_of stamp serials jobs (take decided order) old.now.sequence).sequence (turn_of stamp serials jobs (take (decided + 1) order) old.now.sequence).sequence o

abbrev pub RunMayStandOn : Option Site → List (List Job) → List ℕ → Place → Standing → Type 0
RunMayStandOn None jobs order old o = ⊥
RunMayStandOn (Some site) jobs order old o = RunMayStand site.state jobs order old o

abbrev pub run : List (List Job) → (order : List ℕ) → Name → Place → Row
run jobs order name p = record (quiet name p) {
  early = refused_with name (in_state why_not_primary p.site);
  ran = λ s q. Runs name jobs order s p q;
  tells = λ s. section_text name (length order) (turn_on p.site jobs s.picks p) s.fault;
  left = λ c o. RunMayLeaveOn p.site jobs order p o;
  left_so = λ s o. RunMayStandOn p.site jobs order p o;
}
