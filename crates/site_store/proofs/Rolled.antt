-- A site that was read, whose next generation is drawn with a CUT to the first few entries, and its lost-transaction file.
use Rattle.std.proofs.Common.{◌≡◌, ◌⊎◌, inl, inr, ℕ, suc, false, ◌+◌, ◌≤◌, ◌<◌, List, [], ◌∷◌, ◌++◌, length, map, take, refl, sym, ◌∙◌, ap, subst, arith}
use Rattle.std.specs.Prelude.{Some, true, slice_get}
use Rattle.std.proofs.lemmas.List.{length-take-le}
use Rattle.global_defs.specs.declared.limits.TheConstants.{MOST_GENERATIONS}
use Rattle.disk_defs.specs.Disk.{Files, View, Image, IsLawful, From}
use Rattle.disk_defs.specs.Frames.{Only, SameOutside}
use Rattle.disk_defs.specs.Gates.{records}
use Rattle.global_defs.specs.Entry.{Sequence, state}
use Rattle.instance_file.specs.Instance as instances
use Rattle.jnl_file.specs.Journal as journals
use Rattle.jnl_file.specs.Records.{settled}
use Rattle.jnl_file.specs.declared.journal.Journal.{Journal}
use Rattle.journal_defs.specs.Broken.{broken, broken_text}
use Rattle.journal_defs.specs.Fit.{IsSoundImage}
use Rattle.journal_defs.specs.Instance.{InstanceRecord, generation, regions, site_name}
use Rattle.journal_defs.specs.Numbers.{lost_file, broken_file}
use Rattle.journal_defs.specs.Sequence.{Placed, Records, IsSequence}
use Rattle.journal_laws.proofs.Drawing as drawing
use Rattle.journal_laws.proofs.Readings.{records_one}
use Rattle.site_defs.specs.Behind.{IsStanding, IsSiteWith}
use Rattle.site_defs.specs.Contents.{Contents, Leftover, Standing, NO_LEFTOVER, bare}
use Rattle.site_defs.specs.Opening.{cut_with, with_starts}
use Rattle.site_defs.specs.Rolling.{cut_to}
use Rattle.site_defs.specs.Stands.{losts_of, IsSite, HasLeft}
use Rattle.site_files.specs.Loading.{MayBeOpened, AreRead, HasDrawn, MayDraw, next_cut, next_pini}
use Rattle.site_files.proofs.Keeping as keeping
use Rattle.site_files.proofs.LostFiles.{lost_changed}
use Rattle.region_store.specs.Joined.{joined}
use Rattle.site_store.specs.declared.memory.Memory.{Memory}
use Rattle.site_store.specs.Site.{IsOpen, AreOnBlocks, AreSynced, count_of}
use Rattle.site_store.proofs.Drawn.{S, text, cut_at, DrawsTo, site_read, site_drawn, left_drawn, standing_may}
use Rattle.site_store.proofs.Images.{losts_same, texts_same, torn_same}
use Rattle.site_store.proofs.OpenedTo as opened
use Rattle.site_store.proofs.OpenedTo.{newly, one_image}
use Rattle.entry_index.specs.Among.{IsIndexOf}
use Rattle.entry_index.specs.Order.{StandUpTo}
use Rattle.journal_defs.specs.Surviving.{reigns}

module _ (rs : List InstanceRecord) (last : ℕ → ℕ) (journal : ℕ → List Placed) (seq : Sequence) (form : MayBeOpened rs last) (sequence : IsSequence (record { instance = rs; journal = journal }) seq)
    (none : broken (record { instance = rs; journal = journal }) (length seq) ≡ []) (t : ℕ) (most : t ≤ length seq) where
  abbrev many : ℕ
  many = length (regions rs)

  abbrev kept : Sequence
  kept = take t seq

  size : length kept ≡ t
  size = length-take-le t seq most

  no_text : [] ≡ text rs last journal seq form sequence
  no_text = sym (ap (broken_text (site_name rs) (length seq)) none)

  pub draws_to : (a : Files) → AreRead rs last journal a → IsSoundImage a (S rs last journal seq form sequence) seq → DrawsTo rs last journal seq form sequence false a t kept []
  draws_to a read sound b k has = (
    keeping.drawn_image_to a (S rs last journal seq form sequence) last form seq sound t most false [] read k b has,
    keeping.text_is_to a (S rs last journal seq form sequence) last form seq sound false t [] b k no_text has,
  )

  -- the images
  module _ (a : Files) (read : AreRead rs last journal a) (c : Contents) (is : IsSite a c) where
    sound : IsSoundImage a (S rs last journal seq form sequence) seq
    sound = (site_read rs last journal seq form sequence a c read is).0

    pub site_cut : (b : Files) (k : ℕ) → HasDrawn rs t [] last k a b → IsSite b (with_starts k (cut_to t c))
    site_cut b k has = subst (λ (x : Contents). IsSite b (with_starts k (cut_to t x))) (sym (site_read rs last journal seq form sequence a c read is).1)
        (site_drawn rs last journal seq form sequence false a read sound t kept size [] (draws_to a read sound) b k has)

    -- and nothing lies behind it
    pub left_cut : (b : Files) (k : ℕ) → HasDrawn rs t [] last k a b → HasLeft b (with_starts k (cut_to t c)) NO_LEFTOVER
    left_cut b k has = subst (λ (x : Contents). HasLeft b (with_starts k (cut_to t x)) NO_LEFTOVER) (sym (site_read rs last journal seq form sequence a c read is).1)
        (left_drawn rs last journal seq form sequence false a read sound t kept size [] (draws_to a read sound) b k has)

    pub standing_cut : (b : Files) (k : ℕ) → HasDrawn rs t [] last k a b → IsStanding b (bare (with_starts k (cut_to t c)))
    standing_cut b k has = record { site = site_cut b k has; torn = []; left = left_cut b k has }

  -- whatever a crash leaves of it
  pub standing_either_cut : (a : Files) → AreRead rs last journal a → (s : Standing) → IsStanding a s → (b : Files) → MayDraw rs t [] last a b → IsStanding b s ⊎ ((k : ℕ) × IsStanding b (bare (with_starts k (cut_to t s.contents))))
  standing_either_cut a read s was b may =
      let found = site_read rs last journal seq form sequence a s.contents read was.site in
      elim (standing_may rs last journal seq form sequence false a read found.0 t kept size [] (draws_to a read found.0) b s was no_text may) [
        | inl still ↦ inl still
        | inr drawn ↦ inr (drawn.0, subst (λ (x : Contents). IsStanding b (bare (with_starts drawn.0 (cut_to t x)))) (sym found.1) drawn.1)
      ]

  -- the open site: all images stood for c at v, and it was drawn at w
  pub open_cut : (v w : View) → IsLawful w → (reads : (f : Files) → Image v f → AreRead rs last journal f) (c : Contents) (stands : (f : Files) → Image v f → IsSite f c)
      → (s : Memory) → s.instance.records ≡ rs ++ next_cut rs t ∷ [] → count_of s ≡ length kept → IsIndexOf journal (reigns rs) s.entries kept
      → ((f : Files) → Image v f → (r : ℕ) → r < length (regions rs) → StandUpTo f r (generation rs) (journal r)) → s.hardened ≡ t
      → (begun : List Journal) → s.journals.journals.items ≡ map newly begun
      → AreSynced v many → ((f : Files) → Image v f → AreOnBlocks f (S rs last journal seq form sequence) t s.globals) → joined s.globals ≡ state kept
      → ((f : Files) → Image w f → From (Image v) (HasDrawn rs t [] last many) f) → instances.HasRecords w s.instance (rs ++ next_cut rs t ∷ []) → ((r : ℕ) (j : Journal) → slice_get begun r ≡ Some j → journals.HasRecords w j (settled (next_pini rs last r ∷ [])))
      → IsOpen w true (with_starts many (cut_to t c)) t s
  open_cut v w lawful reads c stands s records count indexed stand hardened begun js_are synced on globals drawn instance has =
      let now = one_image w w.content (instances.HoldsRecords w s.instance (rs ++ next_cut rs t ∷ [])) instance lawful.as_read in
      let was = drawn now.0 now.1 in
      let seqs : c.sequence ≡ seq = ap (λ (x : Contents). x.sequence) (site_read rs last journal seq form sequence was.0 c (reads was.0 was.1) (stands was.0 was.1)).1 in
      subst (λ (q : Sequence). IsOpen w true (with_starts many (cut_at t [] (take t q) c)) t s) (sym seqs)
      (opened.open_to false v w rs last journal seq form sequence lawful reads c stands t kept size [] (λ f image. draws_to f (reads f image) (site_read rs last journal seq form sequence f c (reads f image) (stands f image)).0)
      s records count indexed stand hardened begun js_are synced on globals drawn instance has)

-- the last of a list
without_last : {X : Type 0} → List X → List X
without_last [] = []
without_last (x ∷ []) = []
without_last (x ∷ y ∷ xs) = x ∷ without_last (y ∷ xs)

last_off : {X : Type 0} (xs : List X) (x : X) → without_last (xs ++ x ∷ []) ≡ xs
unfolding without_last
last_off [] x = refl
last_off (y ∷ []) x = refl
last_off (y ∷ z ∷ xs) x = ap (λ l. y ∷ l) (last_off (z ∷ xs) x)

-- the lost-transaction file of the newest generation has other bytes
module _ (a b : Files) (broken_there : List ℕ) (c : Contents) (room : generation c.instance < MOST_GENERATIONS) (is : IsSite a (cut_with broken_there [] c)) (same : SameOutside (Only (lost_file (generation c.instance + 1))) a b) where
  abbrev g : ℕ
  g = generation c.instance

  abbrev now : Contents
  now = cut_with broken_there (b (lost_file (g + 1))) c

  abbrev us : Records
  us = is.records

  newest : generation us.instance ≡ g + 1
  newest = ap generation is.instance ∙ drawing.generation-cut c.instance (length c.sequence) (g + 1) (omega arith)

  newest_is : generation now.instance ≡ suc g
  newest_is = let e = drawing.generation-cut c.instance (length c.sequence) (g + 1) (omega arith) in omega (arith, e)

  sound_still : IsSoundImage b us c.sequence
  sound_still = lost_changed a b us c.sequence (g + 1) is.image (let e = newest in omega (arith, e)) same

  losts_before : c.losts ≡ losts_of b g
  losts_before =
      sym (last_off c.losts []) ∙ ap without_last (is.losts ∙ ap (losts_of a) newest_is) ∙ last_off (losts_of a g) (a (lost_file (suc g)))
      ∙ sym (losts_same a b g (λ h low. same (lost_file h) (λ e. omega (arith, e, low))))

  pub site_lost : IsSite b (cut_with broken_there (b (lost_file (generation c.instance + 1))) c)
  site_lost = record {
    made = is.made;
    mapped = is.mapped;
    records = us;
    instance = is.instance;
    starts = is.starts;
    epochs = is.epochs;
    texts = is.texts ∙ sym (texts_same a b (generation now.instance) (λ h low. same (broken_file h) (λ e. omega (arith, e, room))));
    losts =
        let next : g + 1 ≡ suc g = omega arith in
        ap (λ (l : List (List ℕ)). l ++ b (lost_file (g + 1)) ∷ []) losts_before ∙ ap (λ (n : ℕ). losts_of b g ++ b (lost_file n) ∷ []) next ∙ ap (losts_of b) (sym newest_is);
    image = sound_still;
  }

  -- what lies behind stays
  pub left_lost : (left : Leftover) → HasLeft a (cut_with broken_there [] c) left → HasLeft b (cut_with broken_there (b (lost_file (generation c.instance + 1))) c) left
  left_lost left has = record {
    records = us;
    held = sound_still.held;
    broken = has.broken ∙ ap (λ (u : Records). broken_text (site_name now.instance) (length c.sequence) (broken u (length c.sequence))) (records_one a has.records us has.held is.image.held);
    torn = has.torn ∙ torn_same a b (generation now.instance) (λ low. same (broken_file (suc (generation now.instance))) (λ e. omega (arith, e, room)));
  }

  pub standing_lost : HasLeft a (cut_with broken_there [] c) NO_LEFTOVER → IsStanding b (bare (cut_with broken_there (b (lost_file (generation c.instance + 1))) c))
  standing_lost has = record { site = site_lost; torn = []; left = left_lost NO_LEFTOVER has }

  pub site_with_lost : HasLeft a (cut_with broken_there [] c) NO_LEFTOVER → IsSiteWith b (bare (cut_with broken_there (b (lost_file (generation c.instance + 1))) c))
  site_with_lost has = record { site = site_lost; left = left_lost NO_LEFTOVER has }
