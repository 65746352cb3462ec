-- A site that was found, and that is to be rolled back.
use Rattle.std.proofs.Common.{◌≡◌, ◌⊎◌, inr, ℕ, suc, ◌<◌, List, [], length, Some, IfSome, sym, ◌∙◌, ap, subst, arith}
use Rattle.disk_defs.specs.Disk.{Files, View, Image, IsLawful, AtEachMoment}
use Rattle.disk_defs.specs.Gates.{records}
use Rattle.disk_defs.proofs.Told.{weaker_told, both_weak, told_at}
use Rattle.disk_defs.proofs.Moments.{holds_now}
use Rattle.entry_index.specs.Found.{entry_count}
use Rattle.global_defs.specs.Entry.{Sequence}
use Rattle.journal_defs.specs.Instance.{InstanceRecord, generation, regions}
use Rattle.journal_defs.specs.Numbers.{journal_file}
use Rattle.journal_defs.specs.Sequence.{Placed, Records, IsSequence}
use Rattle.journal_defs.specs.Stands.{AreRecords}
use Rattle.site_defs.specs.Contents.{Contents, Leftover}
use Rattle.site_defs.specs.Outside.{HaveBegun, IsOutsideSite, IsBegunAhead}
use Rattle.site_defs.specs.Outside as outside
use Rattle.site_defs.specs.Stands.{IsSite, HasLeft}
use Rattle.site_files.specs.Loading.{AreUnbegun, last_of}
use Rattle.site_files.specs.Reading.{AreUnbegunDurable}
use Rattle.site_store.specs.declared.preparing.FoundFiles.{FoundFiles}
use Rattle.site_store.specs.Opening.{EachStands}
use Rattle.site_store.specs.Standing.{HasFound, WasFound, IsFoundIn, found_records}
use Rattle.site_store.proofs.Drawn.{site_read, left_read}
use Rattle.site_store.proofs.Founded.{Given, found_count, images_found}
use Rattle.site_store.proofs.TheFiles.{told_then, as_told}

module _ (u v : View) (f : FoundFiles) (has : HasFound f) (was : WasFound u v f) where
  abbrev rs : List InstanceRecord
  rs = f.read.log.records

  abbrev last : ℕ → ℕ
  last = last_of f.read.last_began.items

  abbrev many : ℕ
  many = length (regions rs)

  abbrev g : ℕ
  g = generation rs

  -- no journal of the generation behind the next one has begun
  pub ahead : (w : View) → v.content ≡ u.content → (n m : ℕ) → n ≡ many → m ≡ suc (suc g) → IfSome v.content (outside.AreUnbegun n m) → IfSome v.content (AreUnbegunDurable w n m)
      → IfSome u.content (λ _. (d : Files) → Image w d → AreUnbegun (suc (suc g)) many d)
  ahead w same n m n_is m_is none durable =
      told_at u.content v.content (λ _. (d : Files) → Image w d → AreUnbegun (suc (suc g)) many d) same
      (both_weak v.content (outside.AreUnbegun n m) (AreUnbegunDurable w n m) (λ _. (d : Files) → Image w d → AreUnbegun (suc (suc g)) many d) none durable
      (λ files no kept d image r here.
      let low : r < n = omega (arith, here, n_is) in
      subst (λ (h : ℕ). records (d (journal_file h r)) ≡ Some []) m_is (ap records (kept r low d image) ∙ no r low)))

  module _ (file offset : ℕ) where
    pub begun_ahead : v.content ≡ u.content → (n m : ℕ) → n ≡ many → m ≡ suc (suc g) → IfSome v.content (λ files. HaveBegun files n m file offset) → IfSome u.content (λ files. IsOutsideSite files file offset ⊎ IsBegunAhead files file offset)
    begun_ahead same n m n_is m_is begun =
        both_weak u.content (Given v f) (λ files. HaveBegun files n m file offset) (λ files. IsOutsideSite files file offset ⊎ IsBegunAhead files file offset) was.told
        (told_at u.content v.content (λ files. HaveBegun files n m file offset) same begun)
        (λ files x b. inr (rs, x.2.read.holds.instance, subst (λ (h : ℕ). HaveBegun files many h file offset) m_is (subst (λ (k : ℕ). HaveBegun files k m file offset) n_is b)))

  pub none_begun : v.content ≡ u.content → (n m : ℕ) → n ≡ many → m ≡ suc (suc g) → IfSome v.content (λ files. outside.AreUnbegun n m files → ⊥) → IfSome u.content (λ files. (c : Contents) → IsSite files c → ⊥)
  none_begun same n m n_is m_is begun =
      both_weak u.content (Given v f) (λ files. outside.AreUnbegun n m files → ⊥) (λ files. (c : Contents) → IsSite files c → ⊥) was.told
      (told_at u.content v.content (λ files. outside.AreUnbegun n m files → ⊥) same begun)
      (λ files x no c site.
      let sound = (site_read rs last x.0 x.1 has.form x.2.found.sequence files c x.2.read.holds site).0 in
      let low = has.low in
      no (λ q here. subst (λ (h : ℕ). records (files (journal_file h q)) ≡ Some []) (sym m_is) (sound.clean.journals (suc (suc g)) q (omega arith, omega (arith, low)) (omega (arith, here, n_is)))))

  -- what the files hold
  pub held_so : (P : Records → Sequence → Type 0) → ((files : Files) (journal : ℕ → List Placed) (seq : Sequence) → IsFoundIn v f journal seq files → P (found_records f journal) seq)
      → IfSome u.content (λ files. (x : Records) × (es : Sequence) × AreRecords files x × IsSequence x es × P x es)
  held_so P is = weaker_told u.content (Given v f) (λ files. (x : Records) × (es : Sequence) × AreRecords files x × IsSequence x es × P x es) was.told
      (λ files x. (found_records f x.0, x.1, x.2.found.held, x.2.found.sequence, is files x.0 x.1 x.2))

  abbrev pub AllStand : Contents → Type 0
  AllStand c = (entry_count f.entries ≡ length c.sequence) × (EachStands u → (d : Files) → Image v d → IsSite d c)

  -- each image stands for the same
  pub site_is : IsLawful v → AtEachMoment u v (Image u) → IfSome u.content (λ files. (c : Contents) → IsSite files c → AllStand c)
  site_is lawful synced = told_then u.content (Given v f) (λ files. (c : Contents) → IsSite files c → AllStand c) was.told (λ files told x. as_told u.content files (λ files. (c : Contents) → IsSite files c → AllStand c) told (λ c site.
      let own = (site_read rs last x.0 x.1 has.form x.2.found.sequence files c x.2.read.holds site).1 in (
        found_count v f x.0 x.1 files has x.2 ∙ ap (λ (y : Contents). length y.sequence) (sym own),
        λ each d image. images_found u v f was files told x.0 x.1 x.2 has (λ b i. each b (holds_now u v (Image u) lawful synced b i)) c site d image,
      )))

  pub left_is : IfSome u.content (λ files. (c : Contents) (left : Leftover) → IsSite files c → HasLeft files c left → left.broken ≡ f.broken)
  left_is = weaker_told u.content (Given v f) (λ files. (c : Contents) (left : Leftover) → IsSite files c → HasLeft files c left → left.broken ≡ f.broken) was.told
      (λ files x c left site h. left_read rs last x.0 x.1 has.form x.2.found.sequence files c left x.2.read.holds site h ∙ sym x.2.broken_is)
