-- Dirty blocks written one after another.
use Rattle.std.proofs.Common.{◌≡◌, ◌≢◌, ℕ, zero, suc, ◌+◌, ◌*◌, ◌≤◌, ◌<◌, inl, inr, ⊎_elim, Bool, true, false, List, length, drop, get_or, IfSome, OnOk, refl, sym, ◌∙◌, ap, subst, arith}
use Rattle.std.specs.Prelude.{Result, Option, Some, None, Ok, Err, ◌⊎◌, if◌then◌else◌, slice_index_or}
use Rattle.std.proofs.Math.Seq.{drop-cons}
use Rattle.std.proofs.lemmas.Bool.{cases_lt}
use Rattle.std.proofs.lemmas.List.{drop_more, drop_all}
use Rattle.disk_defs.specs.Disk.{Files, View, Image, IsLawful, From, OnFile, written, Torn, Passes, ReadsAfter, RoomUsed}
use Rattle.disk_defs.specs.Frames.{Only}
use Rattle.disk_defs.proofs.Told.{weaker_told, both_weak, reads_after}
use Rattle.disk_defs.proofs.Moments.{started, goes_on, then_more, holds_now}
use Rattle.disk_defs.proofs.Frames.{reads_weaker, reads_same, reads_then, others_written, others_same, others_then}
use Rattle.journal_defs.specs.Leaves.{IsLeaf, IsBlock, spelled_leaf}
use Rattle.journal_defs.specs.Epochs.{block_of}
use Rattle.journal_laws.proofs.Images.{one_block}
use Rattle.block_fmt.proofs.Spelled.{length-spelled_leaf, length-block}
use Rattle.block_pool.specs.Code.{Pool}
use Rattle.block_pool.specs.Pool.{leaf_at, is_dirty, CleanStand, AllStand, StandBelow, ChangesDirty, numbers_from, count_set, dirty_from, WritesDirty}
use Rattle.block_pool.proofs.Numbers.{IsNext, count-numbers, next_of, none_behind}
use Rattle.block_pool.proofs.Written.{block_of-written, block_inside}

-- two facts of one step
pub both_reads : (o n : Option Files) (P Q R : Files → Files → Type 0) → ReadsAfter P o n → ReadsAfter Q o n → ((a b : Files) → P a b → Q a b → R a b) → ReadsAfter R o n
both_reads None n P Q R p q k = p
both_reads (Some a) None P Q R p q k = absurd p
both_reads (Some a) (Some b) P Q R p q k = k a b p q

-- the blocks below reach up to this one
pub place_inside : (p : Pool) (n : ℕ) (file : List ℕ) → n ≤ length p.leaves → StandBelow p n file → 4096 * n ≤ length file
place_inside p zero file in_pool below = omega arith
place_inside p (suc n) file in_pool below =
    let block = below n (omega arith) (omega arith) in
    omega (arith, block_inside file n (length-block (block_of file n) (leaf_at p n) block))

-- a block more stands
pub stand_more : (p : Pool) (n : ℕ) (file : List ℕ) → StandBelow p n file → IsBlock (block_of file n) (leaf_at p n) → StandBelow p (n + 1) file
stand_more p n file below here b lt in_pool = elim (cases_lt b n) [
  | inl less ↦ below b less in_pool
  | inr not_less ↦ let same : n ≡ b = omega arith in subst (λ (c : ℕ). IsBlock (block_of file c) (leaf_at p c)) same here
]

pub stand_clean : (p : Pool) (n : ℕ) (file : List ℕ) → n < length p.leaves → is_dirty p n ≡ false → CleanStand p file → StandBelow p n file → StandBelow p (n + 1) file
stand_clean p n file in_pool is clean below = stand_more p n file below (clean n in_pool is)

count_next : (ds : List Bool) (n : ℕ) → n < length ds → count_set (drop n ds) ≡ (if slice_index_or ds n false then 1 + count_set (drop (n + 1) ds) else count_set (drop (n + 1) ds))
count_next ds n inside =
    let next : suc n ≡ n + 1 = omega arith in
    ap count_set (drop-cons ds n false inside) ∙ ap (λ (k : ℕ). if slice_index_or ds n false then 1 + count_set (drop k ds) else count_set (drop k ds)) next

pub left_clean : (p : Pool) (n : ℕ) → n < length p.dirty → is_dirty p n ≡ false → dirty_from p n ≡ dirty_from p (n + 1)
left_clean p n in_pool is = count_next p.dirty n in_pool ∙ ap (λ (d : Bool). if d then 1 + dirty_from p (n + 1) else dirty_from p (n + 1)) is

pub left_dirty : (p : Pool) (n : ℕ) → n < length p.dirty → is_dirty p n ≡ true → dirty_from p n ≡ 1 + dirty_from p (n + 1)
left_dirty p n in_pool is = count_next p.dirty n in_pool ∙ ap (λ (d : Bool). if d then 1 + dirty_from p (n + 1) else dirty_from p (n + 1)) is

-- the blocks up to the next dirty one stand, since those between are clean
pub stand_up_to : (p : Pool) (n b : ℕ) (file : List ℕ) → ((c : ℕ) → n ≤ c → c < b → is_dirty p c ≡ false) → CleanStand p file → StandBelow p n file → StandBelow p b file
stand_up_to p n b file between clean below c low inside = elim (cases_lt c n) [
  | inl less ↦ below c less inside
  | inr more ↦ clean c inside (between c (omega (arith, more)) low)
]

-- The blocks below the dirty ones that are left stand on the file, and there is room for these.
pub record IsWrittenTo (p : Pool) (file i : ℕ) (ns : List ℕ) (v : View) : Type 0 where
  pub reached : ℕ
  pub left : numbers_from reached (drop reached p.dirty) ≡ drop i ns
  pub below : IfSome v.content (λ files. StandBelow p reached (files file))
  pub room : v.has_room file (dirty_from p reached) (4096 * dirty_from p reached)

-- as many are left from the next one on
left_same : (p : Pool) (n b i : ℕ) (ns : List ℕ) → numbers_from n (drop n p.dirty) ≡ drop i ns → i < length ns → IsNext p.dirty n b (drop (i + 1) ns) → dirty_from p n ≡ dirty_from p b
left_same p n b i ns left low next =
    let here = sym (count-numbers n (drop n p.dirty)) ∙ ap length left ∙ ap length (drop_more ns i 0 low) in
    let behind = sym (count-numbers (b + 1) (drop (b + 1) p.dirty)) ∙ ap length next.rest_is in
    let one = left_dirty p b next.inside next.is_set in
    omega (arith, here, behind, one)

pub below_next : (p : Pool) (file i x : ℕ) (ns : List ℕ) (v : View) (w : IsWrittenTo p file i ns v) → i < length ns → x ≡ get_or ns i 0 → IfSome v.content (λ files. CleanStand p (files file))
    → IfSome v.content (λ files. StandBelow p x (files file))
below_next p file i x ns v w low read clean =
    let next = next_of p.dirty ns w.reached i x w.left low read in
    both_weak v.content (λ files. CleanStand p (files file)) (λ files. StandBelow p w.reached (files file)) (λ files. StandBelow p x (files file)) clean w.below
    (λ files all below. stand_up_to p w.reached x (files file) next.between all below)

pub room_next : (p : Pool) (file i x : ℕ) (ns : List ℕ) (v : View) (w : IsWrittenTo p file i ns v) → i < length ns → x ≡ get_or ns i 0 → v.has_room file (dirty_from p x) (4096 * dirty_from p x)
room_next p file i x ns v w low read =
    subst (λ (k : ℕ). v.has_room file k (4096 * k)) (left_same p w.reached x i ns w.left low (next_of p.dirty ns w.reached i x w.left low read)) w.room

pub written_on : (p : Pool) (file i x : ℕ) (ns : List ℕ) (u v : View) (w : IsWrittenTo p file i ns u) → i < length ns → x ≡ get_or ns i 0 → IfSome v.content (λ files. StandBelow p (x + 1) (files file))
    → v.has_room file (dirty_from p (x + 1)) (4096 * dirty_from p (x + 1)) → IsWrittenTo p file (i + 1) ns v
written_on p file i x ns u v w low read below room = record { reached = x + 1; left = let next = next_of p.dirty ns w.reached i x w.left low read in next.rest_is; below = below; room = room }

-- and where none is left all stand
pub all_written : (p : Pool) (file i : ℕ) (ns : List ℕ) (v : View) → IsWrittenTo p file i ns v → length ns ≤ i → IfSome v.content (λ files. CleanStand p (files file)) → IfSome v.content (λ files. AllStand p (files file))
all_written p file i ns v w all clean =
    let none = none_behind p.dirty w.reached (w.left ∙ drop_all i ns all) in
    both_weak v.content (λ files. CleanStand p (files file)) (λ files. StandBelow p w.reached (files file)) (λ files. AllStand p (files file)) clean w.below
    (λ files stand below b inside. stand_up_to p w.reached (b + 1) (files file) (λ c from to. none c from) stand below b (omega arith) inside)

pub on_ok : {T E P Q : Type 0} → (r : Result T E) → OnOk r P → (P → Q) → OnOk r Q
on_ok (Ok x) p k = k p
on_ok (Err e) p k = tt

module _ (p : Pool) (file : ℕ) where
  Step : Files → Files → Type 0
  Step = OnFile file (ChangesDirty p)

  same_step : (a : Files) → OnFile file (ChangesDirty p) a a
  same_step a = record { here = λ b. inr refl; others = λ f ne. refl }

  step_then : (a b c : Files) → OnFile file (ChangesDirty p) a b → OnFile file (ChangesDirty p) b c → OnFile file (ChangesDirty p) a c
  step_then a b c first second = record {
    here = λ n. ⊎_elim (λ is. inl is) (λ q. ⊎_elim (λ is. inl is) (λ r. inr (q ∙ r)) (first.here n)) (second.here n);
    others = λ f ne. second.others f ne ∙ first.others f ne;
  }

  -- nothing was written
  pub writes_none : (v : View) → WritesDirty p file v v
  writes_none v = record {
    content = reads_same v.content (OnFile file (ChangesDirty p)) same_step;
    any_moment = started v (From (Image v) (OnFile file (ChangesDirty p))) (λ c now. (c, now, same_step c));
    frame = others_same (Only file) v;
  }

  pub writes_then : (u v w : View) → IsLawful v → WritesDirty p file u v → WritesDirty p file v w → WritesDirty p file u w
  writes_then u v w lawful first second = record {
    content = reads_then u.content v.content w.content (OnFile file (ChangesDirty p)) (OnFile file (ChangesDirty p)) (OnFile file (ChangesDirty p)) step_then first.content second.content;
    any_moment = then_more u v w (From (Image u) (OnFile file (ChangesDirty p))) (From (Image v) (OnFile file (ChangesDirty p))) first.any_moment second.any_moment (λ c from.
        let before = holds_now u v (From (Image u) (OnFile file (ChangesDirty p))) lawful first.any_moment from.0 from.1 in
        (before.0, before.1, step_then before.0 from.0 c before.2 from.2));
    frame = others_then (Only file) u v w first.frame second.frame;
  }

  torn_step : (n : ℕ) → is_dirty p n ≡ true → (a b : Files) → OnFile file (Torn (4096 * n) 4096) a b → OnFile file (ChangesDirty p) a b
  torn_step n is a b torn = record {
    here = λ c. same_or c (cases_lt c n) (cases_lt n c);
    others = torn.others;
  }
    where
      same_or : (c : ℕ) → (c < n) ⊎ (n ≤ c) → (n < c) ⊎ (c ≤ n) → (is_dirty p c ≡ true) ⊎ (block_of (b file) c ≡ block_of (a file) c)
      same_or c (inl less) more = inr (one_block (a file) (b file) (4096 * n) 4096 n torn.here (omega arith) (omega arith) c (omega arith))
      same_or c (inr here) (inl more) = inr (one_block (a file) (b file) (4096 * n) 4096 n torn.here (omega arith) (omega arith) c (omega arith))
      same_or c (inr here) (inr there) = let same : n ≡ c = omega arith in inl (subst (λ (k : ℕ). is_dirty p k ≡ true) same is)

  -- a dirty block was written, or a part of it
  pub writes_one : (v w : View) (n : ℕ) → is_dirty p n ≡ true → ReadsAfter (OnFile file (Torn (4096 * n) 4096)) v.content w.content → Passes (OnFile file (Torn (4096 * n) 4096)) v w → RoomUsed file 4096 v w → WritesDirty p file v w
  writes_one v w n is content passes room = record {
    content = reads_weaker v.content w.content (OnFile file (Torn (4096 * n) 4096)) (OnFile file (ChangesDirty p)) (torn_step n is) content;
    any_moment = goes_on v v w (From (Image v) (OnFile file (ChangesDirty p))) (started v (From (Image v) (OnFile file (ChangesDirty p))) (λ c now. (c, now, same_step c))) passes (λ c now.
        let from = passes.images c now in (from.0, from.1, torn_step n is from.0 c from.2));
    frame = others_written v w file 4096 (Torn (4096 * n) 4096) (Torn (4096 * n) 4096) content passes room;
  }

-- What writing the whole block n does to a file.
record Wrote (p : Pool) (file n : ℕ) (a b : Files) : Type 0 where
  wrote : b file ≡ written (a file) (4096 * n) (spelled_leaf (leaf_at p n))
  torn : Torn (4096 * n) 4096 (a file) (b file)

wrote_both : (p : Pool) (file n : ℕ) (v w : View) → ReadsAfter (OnFile file (λ old new. new ≡ written old (4096 * n) (spelled_leaf (leaf_at p n)))) v.content w.content
    → ReadsAfter (OnFile file (Torn (4096 * n) 4096)) v.content w.content → ReadsAfter (Wrote p file n) v.content w.content
wrote_both p file n v w wrote torn =
    both_reads v.content w.content (OnFile file (λ old new. new ≡ written old (4096 * n) (spelled_leaf (leaf_at p n)))) (OnFile file (Torn (4096 * n) 4096)) (Wrote p file n) wrote torn
    (λ a b x y. record { wrote = x.here; torn = y.here })

other_block : (p : Pool) (file n : ℕ) (a b : Files) (c : ℕ) → Wrote p file n a b → c ≢ n → block_of (b file) c ≡ block_of (a file) c
other_block p file n a b c w ne = one_block (a file) (b file) (4096 * n) 4096 n w.torn (omega arith) (omega arith) c ne

-- the blocks below stand after one of them was written, and so does that one
pub stand_written : (p : Pool) (file n : ℕ) (v w : View) → n < length p.leaves → IsLeaf (leaf_at p n)
    → ReadsAfter (OnFile file (λ old new. new ≡ written old (4096 * n) (spelled_leaf (leaf_at p n)))) v.content w.content
    → ReadsAfter (OnFile file (Torn (4096 * n) 4096)) v.content w.content → IfSome v.content (λ files. StandBelow p n (files file)) → IfSome w.content (λ files. StandBelow p (n + 1) (files file))
stand_written p file n v w in_pool form wrote torn below =
    reads_after v.content w.content (Wrote p file n) (λ files. StandBelow p n (files file)) (λ files. StandBelow p (n + 1) (files file)) (wrote_both p file n v w wrote torn) below (λ a b was both.
    stand_more p n (b file)
    (λ c lt inside. let ne : c ≢ n = omega arith in subst (λ (l : List ℕ). IsBlock l (leaf_at p c)) (sym (other_block p file n a b c both ne)) (was c lt inside))
    (record { form = form; spelled = ap (λ (l : List ℕ). block_of l n) both.wrote ∙ block_of-written (a file) (spelled_leaf (leaf_at p n)) n (length-spelled_leaf (leaf_at p n) form) (place_inside p n (a file) (omega arith) was) }))

-- the clean blocks stand after a dirty one was written
pub clean_written : (p : Pool) (file n : ℕ) (v w : View) → is_dirty p n ≡ true
    → ReadsAfter (OnFile file (λ old new. new ≡ written old (4096 * n) (spelled_leaf (leaf_at p n)))) v.content w.content
    → ReadsAfter (OnFile file (Torn (4096 * n) 4096)) v.content w.content → IfSome v.content (λ files. CleanStand p (files file)) → IfSome w.content (λ files. CleanStand p (files file))
clean_written p file n v w is wrote torn clean =
    reads_after v.content w.content (Wrote p file n) (λ files. CleanStand p (files file)) (λ files. CleanStand p (files file)) (wrote_both p file n v w wrote torn) clean (λ a b was both c inside not_dirty.
    let ne : c ≢ n = λ same. let q : true ≡ false = sym is ∙ ap (is_dirty p) (sym same) ∙ not_dirty in cc in
    subst (λ (l : List ℕ). IsBlock l (leaf_at p c)) (sym (other_block p file n a b c both ne)) (was c inside not_dirty))

-- room for the blocks that are left
pub room_left : (p : Pool) (v w : View) (file n : ℕ) → is_dirty p n ≡ true → n < length p.dirty → RoomUsed file 4096 v w → v.has_room file (dirty_from p n) (4096 * dirty_from p n)
    → w.has_room file (dirty_from p (n + 1)) (4096 * dirty_from p (n + 1))
room_left p v w file n is inside used room =
    let k = dirty_from p (n + 1) in
    let left = left_dirty p n inside is in
    let calls : dirty_from p n ≡ k + 1 = omega (arith, left) in
    let bytes : 4096 * dirty_from p n ≡ 4096 * k + 4096 = omega (arith, left) in
    used.used k (4096 * k) (subst (λ (m : ℕ). v.has_room file m (4096 * k + 4096)) calls (subst (λ (m : ℕ). v.has_room file (dirty_from p n) m) bytes room))

-- room for one block
pub room_one : (p : Pool) (v : View) (file n : ℕ) → IsLawful v → is_dirty p n ≡ true → n < length p.dirty → v.has_room file (dirty_from p n) (4096 * dirty_from p n) → v.has_room file 1 4096
room_one p v file n lawful is inside room =
    let left = left_dirty p n inside is in
    lawful.less_room file 1 4096 (dirty_from p n) (4096 * dirty_from p n) (omega (arith, left)) (omega (arith, left)) room

pub none_below : (p : Pool) (o : Option Files) (file : ℕ) → IfSome o (λ files. StandBelow p 0 (files file))
none_below p None file = tt
none_below p (Some files) file = λ b lt inside. absurd (omega arith)
