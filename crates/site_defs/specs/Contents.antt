-- What the files of a site stand for.
use Rattle.std.specs.Prelude.{ℕ, Bool, List, [], nat_eq, nat_lt, length}
use Rattle.std.specs.Cmp.Lexicographic.{pointwise}
use Rattle.global_defs.specs.Entry.{Sequence}
use Rattle.journal_defs.specs.Journal.{Start}
use Rattle.journal_defs.specs.Instance.{InstanceRecord}

-- of a site or a region
abbrev pub Name : Type 0
Name = List ℕ

abbrev pub same_name : Name → Name → Bool
same_name a b = pointwise nat_eq a b

-- An epoch in a region's journals: the generation that it stands in, and of how many entries it is (GT.M: an EPOCH record; what was changed before it
-- stands in the database file).
pub record Taken : Type 0 where
  pub generation : ℕ
  pub number : ℕ

-- What the files on one disk stand for, in one image.
pub record Contents : Type 0 where
  -- the records of its instance file; none where no site was made there
  pub instance : List InstanceRecord
  -- how the generations of its journals began, by region, in their order
  pub starts : ℕ → List Start
  -- the epochs in its journals, by region, in their order
  pub epochs : ℕ → List Taken
  -- its broken-transaction files, from generation 1 to the newest one
  pub texts : List (List ℕ)
  -- its lost-transaction files, of the same generations
  pub losts : List (List ℕ)
  pub sequence : Sequence

-- no site was made there
abbrev pub nothing : Contents
nothing = record { instance = []; starts = λ r. []; epochs = λ r. []; texts = []; losts = []; sequence = [] }

-- a site was made there
abbrev pub is_made : Contents → Bool
is_made c = nat_lt 0 (length c.instance)

-- What lies behind the sequence on a disk, as its files read.
pub record Leftover : Type 0 where
  -- the text of the broken transactions, which the next opening writes down
  pub broken : List ℕ
  -- the broken-transaction file of the next generation, as far as an opening that a fault ended wrote it
  pub torn : List ℕ

abbrev pub NO_LEFTOVER : Leftover
NO_LEFTOVER = record { broken = []; torn = [] }

-- What the files of one image stand for, and the text of the broken transactions behind that, which the next opening writes down.
pub record Standing : Type 0 where
  pub contents : Contents
  pub broken : List ℕ

-- nothing lies behind these
abbrev pub bare : Contents → Standing
bare c = record { contents = c; broken = [] }
