-- What stays of the files that a call doesn't name.
use Rattle.std.proofs.Common.{◌≡◌, ◌≤◌, inl, inr, ⊎_elim, arith, ℕ, List, Option, Some, None, refl, sym, ◌∙◌, subst}
use Rattle.disk_defs.specs.Disk.{Files, View, Image, IsLawful, From, OnFile, Same, Passes, ReadsAfter, Reads, RoomUsed, IsDurable}
use Rattle.disk_defs.specs.Frames.{Only, IsWithin, SameOutside, OthersStay}

pub reads_weaker : (o n : Option Files) (P Q : Files → Files → Type 0) → ((a b : Files) → P a b → Q a b) → ReadsAfter P o n → ReadsAfter Q o n
reads_weaker None n P Q gives after = after
reads_weaker (Some a) None P Q gives after = after
reads_weaker (Some a) (Some b) P Q gives after = gives a b after

pub reads_same : (o : Option Files) (P : Files → Files → Type 0) → ((a : Files) → P a a) → ReadsAfter P o o
reads_same None P same = refl
reads_same (Some a) P same = same a

pub reads_then : (o m n : Option Files) (P Q R : Files → Files → Type 0) → ((a b c : Files) → P a b → Q b c → R a c) → ReadsAfter P o m → ReadsAfter Q m n → ReadsAfter R o n
reads_then None m n P Q R gives first second = none m n first second
  where
    none : (m n : Option Files) → m ≡ None → ReadsAfter Q m n → n ≡ None
    none None n is after = after
    none (Some b) n is after = absurd (cc)
reads_then (Some a) None n P Q R gives first second = absurd first
reads_then (Some a) (Some b) None P Q R gives first second = second
reads_then (Some a) (Some b) (Some c) P Q R gives first second = gives a b c first second

-- a call that changes one file alone
one_file : (file : ℕ) (P : List ℕ → List ℕ → Type 0) (a b : Files) → OnFile file P a b → SameOutside (Only file) a b
one_file file P a b on f out = on.others f out

-- one disk call that writes
pub others_written : (v w : View) (file n : ℕ) (P Q : List ℕ → List ℕ → Type 0) → ReadsAfter (OnFile file P) v.content w.content → Passes (OnFile file Q) v w → RoomUsed file n v w → OthersStay (Only file) v w
others_written v w file n P Q reads passes used = record {
  content = reads_weaker v.content w.content (OnFile file P) (SameOutside (Only file)) (one_file file P) reads;
  images = λ c now. let from = passes.images c now in (from.0, from.1, one_file file Q from.0 c from.2);
  room = λ f out. used.others f out;
  simulated = passes.simulated;
}

same_reads : (F : ℕ → Type 0) (o n : Option Files) → n ≡ o → ReadsAfter (SameOutside F) o n
same_reads F o n is = subst (λ x. ReadsAfter (SameOutside F) o x) (sym is) (reads_same o (SameOutside F) (λ a f out. refl))

same_images : (F : ℕ → Type 0) (v w : View) → Passes Same v w → (c : Files) → Image w c → From (Image v) (SameOutside F) c
same_images F v w passes c now = let from = passes.images c now in (from.0, from.1, λ f out. subst (λ (x : Files). c f ≡ x f) from.2 refl)

-- one that leaves what files have
pub others_synced : (v w : View) (file n : ℕ) → w.content ≡ v.content → Passes Same v w → RoomUsed file n v w → OthersStay (Only file) v w
others_synced v w file n content passes used = record {
  content = same_reads (Only file) v.content w.content content;
  images = same_images (Only file) v w passes;
  room = λ f out. used.others f out;
  simulated = passes.simulated;
}

-- one that reads
pub others_read : (F : ℕ → Type 0) (v w : View) → Reads v w → OthersStay F v w
others_read F v w reads = record {
  content = same_reads F v.content w.content reads.content;
  images = same_images F v w reads.passes;
  room = λ f out. reads.room f;
  simulated = reads.passes.simulated;
}

pub others_same : (F : ℕ → Type 0) (v : View) → OthersStay F v v
others_same F v = record {
  content = reads_same v.content (SameOutside F) (λ a f out. refl);
  images = λ c now. (c, now, λ f out. refl);
  room = λ f out calls bytes room. room;
  simulated = refl;
}

-- one call after another
pub others_then : (F : ℕ → Type 0) (u v w : View) → OthersStay F u v → OthersStay F v w → OthersStay F u w
others_then F u v w first second = record {
  content = reads_then u.content v.content w.content (SameOutside F) (SameOutside F) (SameOutside F) (λ a b c p q f out. q f out ∙ p f out) first.content second.content;
  images = λ c now.
      let q = second.images c now in
      let p = first.images q.0 q.1 in
      (p.0, p.1, λ f out. q.2 f out ∙ p.2 f out);
  room = λ f out calls bytes room. second.room f out calls bytes (first.room f out calls bytes room);
  simulated = second.simulated ∙ first.simulated;
}

-- a call that may change fewer files
pub others_wider : (F G : ℕ → Type 0) (u v : View) → IsWithin F G → OthersStay F u v → OthersStay G u v
others_wider F G u v within stay = record {
  content = reads_weaker u.content v.content (SameOutside F) (SameOutside G) (λ a b same f out. same f (λ is. out (within f is))) stay.content;
  images = λ c now. let from = stay.images c now in (from.0, from.1, λ f out. from.2 f (λ is. out (within f is)));
  room = λ f out. stay.room f (λ is. out (within f is));
  simulated = stay.simulated;
}

-- what is on the disk for good stays so
pub durable_stays : (F : ℕ → Type 0) (u v : View) (file : ℕ) (bytes : List ℕ) → OthersStay F u v → (F file → ⊥) → IsDurable u file bytes → IsDurable v file bytes
durable_stays F u v file bytes stay out durable c now = let from = stay.images c now in from.2 file out ∙ durable from.0 from.1

-- two calls that read
pub reads_more : (u v w : View) → IsLawful u → Reads u v → Reads v w → Reads u w
reads_more u v w lawful first second = record {
  content = second.content ∙ first.content;
  passes = record {
    later = omega (arith, first.passes.later, second.passes.later);
    images = λ c now. back c now;
    nothing_else = λ t c le since. ⊎_elim
        (λ mid. ⊎_elim (λ was. inl was) (λ now. inl (earlier t c le now)) (first.passes.nothing_else t c le mid))
        (λ now. inr now) (second.passes.nothing_else t c (omega (arith, le, first.passes.later)) since);
    keeps = λ t c le since. second.passes.keeps t c (omega (arith, le, first.passes.later)) (first.passes.keeps t c le since);
    simulated = second.passes.simulated ∙ first.passes.simulated;
  };
  room = λ f calls bytes room. second.room f calls bytes (first.room f calls bytes room);
}
  where
    back : (c : Files) → Image w c → From (Image u) Same c
    back c now =
        let q = second.passes.images c now in
        let p = first.passes.images q.0 q.1 in
        (p.0, p.1, q.2 ∙ p.2)

    earlier : (t : ℕ) (c : Files) → t ≤ u.moment → Image v c → u.since t c
    earlier t c le now =
        let p = first.passes.images c now in
        lawful.counts_now t c le (subst (λ (x : Files). Image u x) (sym p.2) p.1)
