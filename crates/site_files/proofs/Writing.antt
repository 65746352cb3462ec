-- A text that is written into a file from place 0 on.
use Rattle.std.proofs.Common.{◌≡◌, inl, inr, ℕ, zero, suc, ◌+◌, ◌≤◌, List, [], ◌∷◌, ◌++◌, length, drop, max, Option, Some, None, IfSome, Result, Ok, Err, OnOk, IfOk, refl, sym, ◌∙◌, ap, subst, arith, append-nil}
use Rattle.disk_defs.specs.Disk.{Files, View, Image, IsLawful, From, OnFile, Torn, Same, Passes, Reads, ReadsAfter, RoomUsed, AtEachMoment, IsDurable, written}
use Rattle.disk_defs.specs.Frames.{Only, OthersStay}
use Rattle.disk_defs.proofs.Frames.{reads_weaker, reads_same, others_then, others_read, others_written, others_synced}
use Rattle.disk_defs.proofs.Moments.{goes_on, weaker, read_only, nothing_new, passed}
use Rattle.site_files.specs.Loading.{IsNoLonger, IsWritten}

pub on_ok : {T E : Type 0} (r : Result T E) (P Q : Type 0) → OnOk r P → (P → Q) → OnOk r Q
on_ok (Ok t) P Q p k = k p
on_ok (Err e) P Q p k = tt

pub if_on : {T E : Type 0} (r : Result T E) (P : T → Type 0) (Q : Type 0) → IfOk r P → ((t : T) → P t → Q) → OnOk r Q
if_on (Ok t) P Q p k = k t p
if_on (Err e) P Q p k = tt

drop_all : (n : ℕ) (xs : List ℕ) → length xs ≤ n → drop n xs ≡ []
drop_all zero [] low = refl
drop_all zero (x ∷ xs) low = absurd (omega arith)
drop_all (suc n) [] low = refl
drop_all (suc n) (x ∷ xs) low = drop_all n xs (omega arith)

-- a text that is no shorter than what was there is all of the file
pub all_of : (old text : List ℕ) → length old ≤ length text → written old 0 text ≡ text
all_of old text short =
    let least : length old ≤ 0 + length text = omega (arith, short) in
    ap (λ (l : List ℕ). text ++ l) (drop_all (0 + length text) old least) ∙ append-nil text

pub same_length : (text : List ℕ) (file : ℕ) (a : Files) → OnFile file (IsNoLonger text) a a
same_length text file a = record { here = omega arith; others = λ f ne. refl }

torn_length : (text : List ℕ) (file : ℕ) (a b : Files) → OnFile file (Torn 0 (length text)) a b → OnFile file (IsNoLonger text) a b
torn_length text file a b on =
    let most = on.here.no_longer in
    let short : length (b file) ≤ max (length (a file)) (length text) = omega (arith, most) in
    record { here = short; others = on.others }

module _ (text : List ℕ) (file : ℕ) where
  pub reads_kept : (o n : Option Files) → n ≡ o → ReadsAfter (OnFile file (IsNoLonger text)) o n
  reads_kept o n same = subst (λ (x : Option Files). ReadsAfter (OnFile file (IsNoLonger text)) o x) (sym same) (reads_same o (OnFile file (IsNoLonger text)) (λ a. same_length text file a))

  pub reads_torn : (o m n : Option Files) → m ≡ o → ReadsAfter (OnFile file (Torn 0 (length text))) m n → ReadsAfter (OnFile file (IsNoLonger text)) o n
  reads_torn o m n same after = subst (λ (x : Option Files). ReadsAfter (OnFile file (IsNoLonger text)) x n) same
      (reads_weaker m n (OnFile file (Torn 0 (length text))) (OnFile file (IsNoLonger text)) (λ a b on. torn_length text file a b on) after)

  pub reads_synced : (o m n p : Option Files) → m ≡ o → ReadsAfter (OnFile file (Torn 0 (length text))) m n → p ≡ n → ReadsAfter (OnFile file (IsNoLonger text)) o p
  reads_synced o m n p same after synced = subst (λ (x : Option Files). ReadsAfter (OnFile file (IsNoLonger text)) o x) (sym synced) (reads_torn o m n same after)

  -- once it's synced
  pub text_here : (y : View) (o m n : Option Files) → m ≡ o → ReadsAfter (OnFile file (λ old new. new ≡ written old 0 text)) m n → IfSome n (λ files. IsDurable y file (files file))
      → IfSome o (λ files. length (files file) ≤ length text → (c : Files) → Image y c → c file ≡ text)
  text_here y o m n same after durable = subst (λ (x : Option Files). IfSome x (λ files. length (files file) ≤ length text → (c : Files) → Image y c → c file ≡ text)) same (among m n after durable)
    where
      among : (m n : Option Files) → ReadsAfter (OnFile file (λ old new. new ≡ written old 0 text)) m n → IfSome n (λ files. IsDurable y file (files file))
          → IfSome m (λ files. length (files file) ≤ length text → (c : Files) → Image y c → c file ≡ text)
      among None n after durable = tt
      among (Some a) None after durable = absurd after
      among (Some a) (Some b) after durable = λ short c now. durable c now ∙ after.here ∙ all_of (a file) text short

  abbrev pub IsShort : View → Files → Type 0
  IsShort u = From (Image u) (OnFile file (IsNoLonger text))

  pub kept_moments : (u t : View) → Reads u t → AtEachMoment u t (IsShort u)
  kept_moments u t reads = weaker u t (Image u) (IsShort u) (λ c now. (c, now, same_length text file c)) (read_only u t reads)

  pub write_moments : (u t x : View) → Reads u t → Passes (OnFile file (Torn 0 (length text))) t x → AtEachMoment u x (IsShort u)
  write_moments u t x reads call = goes_on u t x (IsShort u) (kept_moments u t reads) call (λ c now.
      let torn = call.images c now in
      let from = reads.passes.images torn.0 torn.1 in
      (torn.0, subst (Image u) (sym from.2) from.1, torn_length text file torn.0 c torn.2))

  pub sync_moments : (u t x y : View) → IsLawful x → Reads u t → Passes (OnFile file (Torn 0 (length text))) t x → Passes Same x y → AtEachMoment u y (IsShort u)
  sync_moments u t x y lawful reads call synced = nothing_new u x y (IsShort u) lawful (write_moments u t x reads call) (passed x y synced)

  pub write_frame : (u t x : View) → Reads u t → ReadsAfter (OnFile file (Torn 0 (length text))) t.content x.content → Passes (OnFile file (Torn 0 (length text))) t x → RoomUsed file (length text) t x → OthersStay (Only file) u x
  write_frame u t x reads content call used = others_then (Only file) u t x (others_read (Only file) u t reads) (others_written t x file (length text) (Torn 0 (length text)) (Torn 0 (length text)) content call used)

  pub sync_frame : (u t x y : View) → Reads u t → ReadsAfter (OnFile file (Torn 0 (length text))) t.content x.content → Passes (OnFile file (Torn 0 (length text))) t x → RoomUsed file (length text) t x
      → y.content ≡ x.content → Passes Same x y → RoomUsed file 0 x y → OthersStay (Only file) u y
  sync_frame u t x y reads content call used same synced room = others_then (Only file) u x y (write_frame u t x reads content call used) (others_synced x y file 0 same synced room)

  -- what an image and the reading have then
  pub all_written : (u y : View) → OthersStay (Only file) u y → IfSome u.content (λ files. length (files file) ≤ length text → (c : Files) → Image y c → c file ≡ text)
      → IfSome u.content (λ files. length (files file) ≤ length text → (c : Files) → Image y c → From (Image u) (OnFile file (IsWritten text)) c)
  all_written u y stays here = among u.content here
    where
      among : (o : Option Files) → IfSome o (λ files. length (files file) ≤ length text → (c : Files) → Image y c → c file ≡ text)
          → IfSome o (λ files. length (files file) ≤ length text → (c : Files) → Image y c → From (Image u) (OnFile file (IsWritten text)) c)
      among None here = tt
      among (Some a) here = λ short c now. let from = stays.images c now in (from.0, from.1, record { here = inl (here short c now); others = from.2 })

  pub read_written : (u y : View) → IsLawful y → OthersStay (Only file) u y → IfSome u.content (λ files. length (files file) ≤ length text → (c : Files) → Image y c → c file ≡ text)
      → IfSome u.content (λ files. length (files file) ≤ length text → ReadsAfter (OnFile file (IsWritten text)) u.content y.content)
  read_written u y lawful stays here = among u.content y.content stays.content here lawful.as_read
    where
      among : (o n : Option Files) → ReadsAfter (λ a b. (f : ℕ) → (f ≡ file → ⊥) → b f ≡ a f) o n → IfSome o (λ files. length (files file) ≤ length text → (c : Files) → Image y c → c file ≡ text)
          → IfSome n (λ now. Image y now) → IfSome o (λ files. length (files file) ≤ length text → ReadsAfter (OnFile file (IsWritten text)) o n)
      among None n after here read = tt
      among (Some a) None after here read = absurd after
      among (Some a) (Some b) after here read = λ short. record { here = inl (here short b read); others = after }

  -- without a text
  pub none_written : (u : View) → text ≡ [] → (c : Files) → Image u c → From (Image u) (OnFile file (IsWritten text)) c
  none_written u none c now = (c, now, record { here = inr (none, refl); others = λ f ne. refl })

  pub none_read : (o : Option Files) → text ≡ [] → ReadsAfter (OnFile file (IsWritten text)) o o
  none_read o none = reads_same o (OnFile file (IsWritten text)) (λ a. record { here = inr (none, refl); others = λ f ne. refl })

  pub none_moments : (u : View) → AtEachMoment u u (IsShort u)
  none_moments u = record { later = omega arith; each = λ c now. (c, now, same_length text file c); before = λ t c le since. inl since }
