-- What the calls of a disk in memory do to its images.
use Rattle.std.proofs.Common.{◌≡◌, ◌≢◌, ◌⊎◌, ℕ, zero, suc, ◌+◌, ◌-◌, ◌≤◌, ◌<◌, ◌==◌, true, false, cond, List, ◌∷◌, ◌++◌, length, take, drop, replicate, get_or, refl, sym, ◌∙◌, ap, subst, arith, append_assoc, length-append, length-take, length-drop, get_or-drop, get_or-take, inl, inr, ⊎_elim}
use Rattle.std.proofs.lemmas.Bool.{cases_eq, cases_lt}
use Rattle.std.proofs.lemmas.Bool.Decides.{nat_tests}
use Rattle.std.proofs.lemmas.List.{take_at, drop_at, drop_all, get_or_append_left, get_or-append_right, same_lists, get_or_default, length-replicate, get_or-replicate}
use Rattle.disk_defs.specs.Disk.{Files, Image, From, OnFile, Same, Passes, Torn}
use Rattle.repl_disk.specs.Mem.{Call, Wrote, Synced, Mem, Room, States, put, settled, wrote, last, front, before, replay, ago, IsImageOf, IsImageAt, Since, mem_view}
use Rattle.repl_disk.specs.MemLaws.{IsWhole, whole_replay, read_image}
use Rattle.repl_disk.proofs.Parts.{length_over, over_below, over_above}

-- an image after a write is one from before it that a crash tore
abbrev TornFrom : Mem → ℕ → ℕ → List ℕ → Type 0
TornFrom m at n c = (d : List ℕ) × IsImageOf m d × Torn at n d c

module _ (m : Mem) (at : ℕ) (bytes c : List ℕ) (whole : IsWhole m) (inside : at ≤ length m.read) (im : IsImageOf (wrote at bytes m) c) where
  outside : (i : ℕ) → i < length c → get_or m.marks i true ≡ false → (i < at) ⊎ (at + length bytes ≤ i) → get_or c i 0 ≡ get_or m.read i 0
  outside i lt free (inl low) =
      let in_marks : at ≤ length m.marks = omega (arith, whole.marks, inside) in
      im.same i lt (over_below m.marks (replicate (length bytes) true) at (length bytes) in_marks (length-replicate (length bytes) true) i true low ∙ free)
      ∙ over_below m.read bytes at (length bytes) inside (omega arith) i 0 low
  outside i lt free (inr high) =
      let in_marks : at ≤ length m.marks = omega (arith, whole.marks, inside) in
      im.same i lt (over_above m.marks (replicate (length bytes) true) at (length bytes) in_marks (length-replicate (length bytes) true) i true high ∙ free)
      ∙ over_above m.read bytes at (length bytes) inside (omega arith) i 0 high

  torn_low : length c ≤ at → TornFrom m at (length bytes) c
  torn_low low = (
    c,
    record { no_shorter = im.no_shorter; no_longer = omega (arith, inside, low); same = λ i lt free. outside i lt free (inl (omega (arith, lt, low))) },
    record { before = refl; after = refl; no_shorter = omega arith; no_longer = omega arith },
  )

  torn_mid : at < length c → length c ≤ at + length bytes → TornFrom m at (length bytes) c
  torn_mid above below =
      let mid = take (length c - at) (drop at m.read) in
      let d = take at c ++ mid in
      let at_is : length (take at c) ≡ at = omega (arith, length-take at c, above) in
      let mid_is : length mid + at ≤ length c = omega (arith, length-take (length c - at) (drop at m.read), above) in
      let d_is : length d ≡ at + length mid = omega (arith, length-append (take at c) mid, at_is) in
      let mid_long : length mid + at ≤ length m.read = omega (arith, length-take (length c - at) (drop at m.read), length-drop at m.read, inside) in
      let mid_enough : length m.synced ≤ at + length mid = omega (arith, length-take (length c - at) (drop at m.read), length-drop at m.read, inside, whole.ends, im.no_shorter, above) in (
        d,
        record {
          no_shorter = omega (arith, d_is, mid_enough);
          no_longer = omega (arith, d_is, mid_long);
          same = λ i lt free. ⊎_elim
              (λ low. get_or_append_left (take at c) mid 0 i (omega (arith, low, at_is)) ∙ get_or-take at c i 0 low ∙ outside i (omega (arith, low, above)) free (inl low))
              (λ high. get_or-append_right (take at c) mid at i 0 at_is high ∙ get_or-take (length c - at) (drop at m.read) (i - at) 0 (omega (arith, lt, d_is, mid_is, high)) ∙ get_or-drop at m.read (i - at) 0
              ∙ ap (λ (k : ℕ). get_or m.read k 0) (omega (arith, high)))
              (cases_lt i at);
        },
        record {
          before = sym (take_at (take at c) mid at at_is);
          after = drop_all (at + length bytes) c below ∙ sym (drop_all (at + length bytes) d (omega (arith, d_is, mid_is, below)));
          no_shorter = omega (arith, d_is, mid_is);
          no_longer = omega (arith, below);
        },
      )

  torn_high : at + length bytes < length c → TornFrom m at (length bytes) c
  torn_high above =
      let n = length bytes in
      let mid = take n (drop at m.read) in
      let back = drop (at + n) c in
      let d = take at c ++ mid ++ back in
      let longer : length c ≤ length m.read = omega (arith, im.no_longer, length_over m.read bytes at (length bytes) inside refl, above) in
      let at_is : length (take at c) ≡ at = omega (arith, length-take at c, above) in
      let mid_is : length mid ≡ n = omega (arith, length-take n (drop at m.read), length-drop at m.read, longer, above) in
      let both_is : length (take at c ++ mid) ≡ at + n = omega (arith, length-append (take at c) mid, at_is, mid_is) in
      let d_is : length d ≡ length c = omega (arith, length-append (take at c ++ mid) back, both_is, length-drop (at + n) c, above) in (
        d,
        record {
          no_shorter = omega (arith, d_is, im.no_shorter);
          no_longer = omega (arith, d_is, longer);
          same = λ i lt free. ⊎_elim
              (λ low. get_or_append_left (take at c ++ mid) back 0 i (omega (arith, low, both_is)) ∙ get_or_append_left (take at c) mid 0 i (omega (arith, low, at_is)) ∙ get_or-take at c i 0 low ∙ outside i (omega (arith, low, above)) free (inl low))
              (λ high. ⊎_elim
              (λ within. get_or_append_left (take at c ++ mid) back 0 i (omega (arith, within, both_is)) ∙ get_or-append_right (take at c) mid at i 0 at_is high ∙ get_or-take n (drop at m.read) (i - at) 0 (omega (arith, high, within)) ∙ get_or-drop at m.read (i - at) 0
              ∙ ap (λ (k : ℕ). get_or m.read k 0) (omega (arith, high)))
              (λ past. get_or-append_right (take at c ++ mid) back (at + n) i 0 both_is past ∙ get_or-drop (at + n) c (i - (at + n)) 0 ∙ ap (λ (k : ℕ). get_or c k 0) (omega (arith, past)) ∙ outside i (omega (arith, lt, d_is)) free (inr past))
              (cases_lt i (at + n)))
              (cases_lt i at);
        },
        record {
          before = sym (ap (λ (l : List ℕ). take at l) (append_assoc (take at c) mid back) ∙ take_at (take at c) (mid ++ back) at at_is);
          after = sym (drop_at (take at c ++ mid) back (at + n) both_is);
          no_shorter = omega (arith, d_is);
          no_longer = omega (arith, d_is);
        },
      )

  pub torn_back : TornFrom m at (length bytes) c
  torn_back = ⊎_elim (λ low. torn_low (omega (arith, low))) (λ high. ⊎_elim (λ past. torn_high past) (λ short. torn_mid (omega (arith, high)) short) (cases_lt (at + length bytes) (length c))) (cases_lt (length c) (suc at))

put_same : (file : ℕ) (m : Mem) (old : States) (f : ℕ) → f ≡ file → put file m old f ≡ m
put_same file m old f is = grind (arith, nat_tests)

put_other : (file : ℕ) (m : Mem) (old : States) (f : ℕ) → f ≢ file → put file m old f ≡ old f
put_other file m old f ne = grind (arith, nat_tests)

-- an image with another file in one place
abbrev swapped : ℕ → List ℕ → Files → Files
swapped file d c f = cond (f == file) d (c f)

swapped_same : (file : ℕ) (d : List ℕ) (c : Files) (f : ℕ) → f ≡ file → swapped file d c f ≡ d
swapped_same file d c f is = grind (arith, nat_tests)

swapped_other : (file : ℕ) (d : List ℕ) (c : Files) (f : ℕ) → f ≢ file → swapped file d c f ≡ c f
swapped_other file d c f ne = grind (arith, nat_tests)

-- each image after a change of one file is one from before, where the file's is
pub images_back : (file : ℕ) (m : Mem) (old : States) (step : List ℕ → List ℕ → Type 0) → ((c : List ℕ) → IsImageOf m c → (d : List ℕ) × IsImageOf (old file) d × step d c)
    → (c : Files) → IsImageAt (put file m old) c → (d : Files) × IsImageAt old d × OnFile file step d c
images_back file m old step back c im =
    let here : IsImageOf m (c file) = subst (λ (x : Mem). IsImageOf x (c file)) (put_same file m old file refl) (im file) in
    let d = back (c file) here in (
      swapped file d.0 c,
      λ f. elim (cases_eq f file) [
        | inl is ↦ subst (λ (x : List ℕ). IsImageOf (old f) x) (sym (swapped_same file d.0 c f is)) (subst (λ (n : ℕ). IsImageOf (old n) d.0) (sym is) d.1)
        | inr ne ↦ subst (λ (x : List ℕ). IsImageOf (old f) x) (sym (swapped_other file d.0 c f ne)) (subst (λ (x : Mem). IsImageOf x (c f)) (put_other file m old f ne) (im f))
      ],
      record {
        here = subst (λ (x : List ℕ). step x (c file)) (sym (swapped_same file d.0 c file refl)) d.2;
        others = λ f ne. sym (swapped_other file d.0 c f ne);
      },
    )

-- one more call, after which the files are those, and each image is one from before after a step
pub one_more : (left : Files) (step : Files → Files → Type 0) (calls : List Call) (call : Call) (kept_old kept_new : List ℕ) (rooms_old rooms_new : ℕ → Room) (faults_old faults_new : ℕ) → before call kept_new ≡ kept_old
    → ((c : Files) → IsImageAt (replay left (call ∷ calls) kept_new) c → (d : Files) × IsImageAt (replay left calls kept_old) d × step d c)
    → Passes step (mem_view left calls kept_old rooms_old faults_old) (mem_view left (call ∷ calls) kept_new rooms_new faults_new)
one_more left step calls call kept_old kept_new rooms_old rooms_new faults_old faults_new is back = record {
  later = omega arith;
  images = λ c now. newest now.0 c now.1 now.2;
  nothing_else = λ t c le since. earlier since.0 t c since.1 since.2;
  keeps = λ t c le since. (suc since.0, omega (arith, since.1), λ f. subst (λ (l : List ℕ). IsImageOf (ago left since.0 calls l f) (c f)) (sym is) (since.2 f));
  simulated = refl;
}
  where
    newest : (n : ℕ) (c : Files) → n + suc (length calls) ≤ suc (length calls) → IsImageAt (ago left n (call ∷ calls) kept_new) c → From (Image (mem_view left calls kept_old rooms_old faults_old)) step c
    newest zero c le im = let d = back c im in (d.0, (0, omega arith, d.1), d.2)
    newest (suc n) c le im = absurd (omega arith)

    earlier : (n t : ℕ) (c : Files) → n + t ≤ suc (length calls) → IsImageAt (ago left n (call ∷ calls) kept_new) c → Since left calls kept_old t c ⊎ Image (mem_view left (call ∷ calls) kept_new rooms_new faults_new) c
    earlier zero t c le im = inr (0, omega arith, im)
    earlier (suc n) t c le im = inl (n, omega arith, λ f. subst (λ (l : List ℕ). IsImageOf (ago left n calls l f) (c f)) is (im f))

pub written_passes : (left : Files) (calls : List Call) (file at : ℕ) (bytes kept : List ℕ) (rooms_old rooms_new : ℕ → Room) (faults_old faults_new : ℕ) → at ≤ length (replay left calls kept file).read
    → Passes (OnFile file (Torn at (length bytes))) (mem_view left calls kept rooms_old faults_old) (mem_view left (Wrote file at (length bytes) ∷ calls) (kept ++ bytes) rooms_new faults_new)
written_passes left calls file at bytes kept rooms_old rooms_new faults_old faults_new inside =
    let n = length bytes in
    let long : length (kept ++ bytes) - n ≡ length kept = omega (arith, length-append kept bytes) in
    let front_is : front n (kept ++ bytes) ≡ kept = ap (λ (k : ℕ). take k (kept ++ bytes)) long ∙ take_at kept bytes (length kept) refl in
    let last_is : last n (kept ++ bytes) ≡ bytes = ap (λ (k : ℕ). drop k (kept ++ bytes)) long ∙ drop_at kept bytes (length kept) refl in
    one_more left (OnFile file (Torn at n)) calls (Wrote file at n) kept (kept ++ bytes) rooms_old rooms_new faults_old faults_new front_is (λ c im.
    images_back file (wrote at bytes (replay left calls kept file)) (replay left calls kept) (Torn at n) (λ x i. torn_back (replay left calls kept file) at bytes x (whole_replay left calls kept file) inside i) c
    (λ f. subst (λ (b : List ℕ). IsImageOf (put file (wrote at b (replay left calls kept file)) (replay left calls kept) f) (c f)) last_is
    (subst (λ (l : List ℕ). IsImageOf (put file (wrote at (last n (kept ++ bytes)) (replay left calls l file)) (replay left calls l) f) (c f)) front_is (im f))))

pub settled_image : (bytes c : List ℕ) → IsImageOf (settled bytes) c → c ≡ bytes
settled_image bytes c im = same_lists c bytes (omega (arith, im.no_shorter, im.no_longer)) (λ k d lt. get_or_default c k d 0 lt ∙ im.same k lt (get_or-replicate (length bytes) k false true (omega (arith, lt, im.no_longer))) ∙ get_or_default bytes k 0 d (omega (arith, lt, im.no_longer)))

pub synced_passes : (left : Files) (calls : List Call) (file : ℕ) (kept : List ℕ) (rooms_old rooms_new : ℕ → Room) (faults_old faults_new : ℕ) → Passes Same (mem_view left calls kept rooms_old faults_old) (mem_view left (Synced file ∷ calls) kept rooms_new faults_new)
synced_passes left calls file kept rooms_old rooms_new faults_old faults_new = one_more left Same calls (Synced file) kept kept rooms_old rooms_new faults_old faults_new refl (λ c im.
    let old = replay left calls kept in
    let m = settled (old file).read in
    let here : IsImageOf m (c file) = subst (λ (x : Mem). IsImageOf x (c file)) (put_same file m old file refl) (im file) in
    let is = settled_image (old file).read (c file) here in (
      c,
      (λ f. elim (cases_eq f file) [
        | inl same ↦ subst (λ (n : ℕ). IsImageOf (old n) (c n)) (sym same) (subst (λ (x : List ℕ). IsImageOf (old file) x) (sym is) (read_image (old file) (whole_replay left calls kept file)))
        | inr ne ↦ subst (λ (x : Mem). IsImageOf x (c f)) (put_other file m old f ne) (im f)
      ]),
      refl,
    ))
