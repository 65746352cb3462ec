-- Reading from generation to generation.
use Rattle.std.proofs.Common.{◌≡◌, inl, inr, ℕ, suc, ◌≤◌, List, IfSome, sym, subst, arith}
use Rattle.std.proofs.lemmas.Bool.{cases_lt}
use Rattle.disk_defs.specs.Disk.{Files, View, IsDurable}
use Rattle.disk_defs.specs.Frames.{Only, OthersStay}
use Rattle.disk_defs.proofs.Frames.{durable_stays, others_then, others_wider}
use Rattle.disk_defs.proofs.Told.{told_at, both_weak}
use Rattle.journal_defs.specs.Numbers.{journal_file}
use Rattle.journal_defs.specs.Sequence.{Placed}
use Rattle.journal_defs.specs.Stands.{IsJournal}
use Rattle.jnl_file.specs.Errors.{error_in}
use Rattle.jnl_file.specs.declared.error.JournalError.{JournalError}
use Rattle.jnl_file.specs.declared.error.JournalError.TheVariants.{Failed, NotARecord, NoMemory}
use Rattle.jnl_file.specs.declared.error.GenerationsError.TheVariants.{NotAFile}
use Rattle.jnl_file.specs.Generations.{AreJournals, AreDurable, HasNewer}
use Rattle.site_defs.specs.OutsideJournal.{IsOutsideAfter, IsOutsideGenerations}

newer_joins : (files : Files) (region g n last began : ℕ) (older whole : List Placed) → n ≡ suc g → IsJournal files region g last older → HasNewer region n last (files (journal_file n region)) older whole began → IsJournal files region n began whole
newer_joins files region g n last began older whole next is newer =
    let here = subst (λ (k : ℕ). HasNewer region k last (files (journal_file k region)) older whole began) next newer in
    subst (λ (k : ℕ). IsJournal files region k began whole) (sym next) (last, older, here.newer, is, here.newer_is, here.begins, here.began_is, here.whole)

durable_joins : (v w : View) (files : Files) (region g n : ℕ) → n ≡ suc g → OthersStay (Only (journal_file n region)) v w → AreDurable v region g files → IsDurable w (journal_file n region) (files (journal_file n region)) → AreDurable w region n files
durable_joins v w files region g n next stays so_far here h first most = elim (cases_lt h n) [
  | inl less ↦
      durable_stays (Only (journal_file n region)) v w (journal_file h region) (files (journal_file h region)) stays (λ (same : journal_file h region ≡ journal_file n region). absurd (omega (arith, same, less)))
      (so_far h first (omega (arith, next, less)))
  | inr not_less ↦
      let same : n ≡ h = omega (arith, not_less, most) in
      subst (λ (k : ℕ). IsDurable w (journal_file k region) (files (journal_file k region))) same here
]

outside_here : (files : Files) (region last g n began offset : ℕ) (older : List Placed) → n ≡ suc g → n ≤ last → IsJournal files region g began older → IsOutsideAfter region n began (files (journal_file n region)) offset
    → IsOutsideGenerations files region last (journal_file n region) offset
outside_here files region last g n began offset older next most is outside = record {
  inside = g;
  began = began;
  older = older;
  older_is = is;
  no_later = subst (λ (k : ℕ). k ≤ last) next most;
  file_is = let same : n ≡ suc g = next in omega (arith, same);
  outside = subst (λ (k : ℕ). IsOutsideAfter region k began (files (journal_file n region)) offset) next outside;
}

-- one generation more, on a disk that tells its files, or doesn't
module _ (u v w : View) (region g n : ℕ) (next : n ≡ suc g) (content : v.content ≡ u.content) where
  pub told_joins : (last began : ℕ) (older whole : List Placed) → IfSome u.content (λ files. IsJournal files region g last older) → IfSome v.content (λ files. HasNewer region n last (files (journal_file n region)) older whole began)
      → IfSome u.content (λ files. IsJournal files region n began whole)
  told_joins last began older whole so_far newer =
      both_weak u.content (λ files. IsJournal files region g last older) (λ files. HasNewer region n last (files (journal_file n region)) older whole began) (λ files. IsJournal files region n began whole) so_far
      (told_at u.content v.content (λ files. HasNewer region n last (files (journal_file n region)) older whole began) content newer) (λ files is more. newer_joins files region g n last began older whole next is more)

  pub told_durable : OthersStay (Only (journal_file n region)) v w → IfSome u.content (AreDurable v region g) → IfSome v.content (λ files. IsDurable w (journal_file n region) (files (journal_file n region))) → IfSome u.content (AreDurable w region n)
  told_durable stays so_far here =
      both_weak u.content (AreDurable v region g) (λ files. IsDurable w (journal_file n region) (files (journal_file n region))) (AreDurable w region n) so_far
      (told_at u.content v.content (λ files. IsDurable w (journal_file n region) (files (journal_file n region))) content here) (λ files are is. durable_joins v w files region g n next stays are is)

  pub told_wrong : (last began offset : ℕ) (older : List Placed) → n ≤ last → IfSome u.content (λ files. IsJournal files region g began older) → IfSome v.content (λ files. IsOutsideAfter region n began (files (journal_file n region)) offset)
      → IfSome u.content (λ files. IsOutsideGenerations files region last (journal_file n region) offset)
  told_wrong last began offset older most so_far outside =
      both_weak u.content (λ files. IsJournal files region g began older) (λ files. IsOutsideAfter region n began (files (journal_file n region)) offset) (λ files. IsOutsideGenerations files region last (journal_file n region) offset) so_far
      (told_at u.content v.content (λ files. IsOutsideAfter region n began (files (journal_file n region)) offset) content outside) (λ files is out. outside_here files region last g n began offset older next most is out)

  pub frame_joins : (last : ℕ) → 1 ≤ n → n ≤ last → OthersStay (AreJournals region last) u v → OthersStay (Only (journal_file n region)) v w → OthersStay (AreJournals region last) u w
  frame_joins last first most so_far more =
      others_then (AreJournals region last) u v w so_far (others_wider (Only (journal_file n region)) (AreJournals region last) v w (λ f is. (n, first, most, is)) more)

-- the error of a journal that names its file
pub record IsNamed (f : ℕ) (e : JournalError) (file offset : ℕ) : Type 0 where
  pub error : e ≡ NotARecord offset
  pub file_is : f ≡ file

pub named_by : (f : ℕ) (e : JournalError) (file offset : ℕ) → error_in f e ≡ NotAFile file offset → IsNamed f e file offset
named_by f Failed file offset is = absurd (cc is)
named_by f (NotARecord k) file offset is = record { error = cc is; file_is = cc is }
named_by f NoMemory file offset is = absurd (cc is)
