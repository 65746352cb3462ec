-- What a ROLLBACK writes of the entries that it drops.
use Rattle.std.specs.Prelude.{◌≡◌, ◌⊎◌, ◌+◌, ◌∷◌, ◌++◌, ℕ, true, List, [], codes, length, take}
use Rattle.std.specs.Fmt.{decimal}
use Rattle.journal_defs.specs.Instance.{generation}
use Rattle.site_defs.specs.Contents.{Contents}
use Rattle.site_defs.specs.Lists.{Among}
use Rattle.site_defs.specs.Rolling.{lost_text}
use Rattle.world_defs.specs.World.{Place, IfKnown, Settled, name_on}
use Rattle.world_defs.specs.Answers.{line}
use Rattle.world_defs.specs.rows.Print.{typed}
use Rattle.world_defs.specs.rows.Rollback.{stay_of}

-- how many entries of the place stay
abbrev pub stays_at : (number : ℕ) → Place → ℕ
stays_at number p = stay_of number p.now

-- the generation of the file, the first one that is drawn
abbrev pub lost_generation : Place → ℕ
lost_generation p = generation p.now.instance + 1

-- the extract of the others, with their numbers
abbrev pub dropped_text : (number : ℕ) → Place → List ℕ
dropped_text number p = lost_text (stays_at number p) p.now

-- The first entries stay, and the extract of the others is a lost-transaction file.
pub record WritesLost (number : ℕ) (text : List ℕ) (p q : Place) : Type 0 where
  pub stay : q.now.sequence ≡ take (stays_at number p) p.now.sequence
  -- that of the first of two generations; there is nothing in the other one's
  pub files : q.now.losts ≡ p.now.losts ++ dropped_text number p ∷ [] ∷ []
  -- TYPE reads it by the number that was printed, since contents that files stand for have one such file a generation
  pub typed_so : length p.now.losts ≡ generation p.now.instance → typed true (lost_generation p) q ≡ dropped_text number p
  pub printed : text ≡ line (name_on p.site) (codes "ROLLEDBACK " ++ decimal (stays_at number p) ++ codes " LOST " ++ decimal (lost_generation p))
  -- and no image stands for anything else
  pub only : Settled q

-- The one has the entries of the other, or only the first ones; then the extract of the others is a lost-transaction file of it.
abbrev pub IsKeptOrWritten : (number : ℕ) → Contents → Contents → Type 0
IsKeptOrWritten number c o = (o.sequence ≡ c.sequence) ⊎ ((o.sequence ≡ take (stay_of number c) c.sequence) × (o.losts ≡ c.losts ++ lost_text (stay_of number c) c ∷ [] ∷ []))

-- Where the files are known, each outcome is so to one that there was.
abbrev pub KeepsOrWrites : (number : ℕ) → Place → Place → Type 0
KeepsOrWrites number p q = IfKnown p ((o : Contents) → Among q.outcomes o → (c : Contents) × Among p.outcomes c × IsKeptOrWritten number c o)

-- where the files are known
abbrev pub WritesLostThere : (number : ℕ) → List ℕ → Place → Place → Type 0
WritesLostThere number text p q = IfKnown p (WritesLost number text p q)
