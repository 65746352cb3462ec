-- What picks come to.
use Rattle.std.proofs.Common.{◌≡◌, ℕ, zero, suc, ◌+◌, ◌-◌, ◌<◌, ◌≤◌, ◌⊎◌, inl, inr, Bool, true, false, List, [], ◌∷◌, ◌++◌, length, take, drop, get_or, set, refl, ap, sym, ◌∙◌, subst, arith, nat_lt, if◌then◌else◌, length-append, None, Some}
use Rattle.std.specs.Prelude.{Option, slice_get, IsTrue}
use Rattle.std.proofs.Math.Seq.{take-length, take-append_seam}
use Rattle.std.proofs.lemmas.Bool.{le-ltb, ltb-false}
use Rattle.std.proofs.lemmas.List.{set-get_or, take_more}
use Rattle.std.proofs.lemmas.List.Sums.{fold-append}
use Rattle.disk_defs.specs.Disk.{View, Files}
use Rattle.global_defs.specs.Entry.{Entry, Stamp, Sequence, Globals, state}
use Rattle.global_defs.specs.Jobs.{Job, Answers}
use Rattle.global_defs.specs.Evaluation.{Evaluated, Done, eval}
use Rattle.global_defs.specs.Evaluation as evaluation
use Rattle.global_defs.specs.Serial.{Turn, Replied, Reply, Seq, Read, RolledBack, first_of, next_job, without_next, picked, decided, replied, begun, MOST_ENTRIES}
use Rattle.site_defs.specs.Contents.{Contents, Standing}
use Rattle.site_defs.specs.Behind.{MayStand}
use Rattle.site_defs.specs.Fronts.{with_sequence, IsFrontOf, turn_of}
use Rattle.site_defs.specs.Stands.{IsSite}
use Rattle.site_defs.specs.Texts.{is_past, printed}
use Rattle.repl_section.specs.declared.reign.Reign.{Reign}
use Rattle.repl_section.specs.Reigns.{stamp_in, stamp_of}
use Rattle.repl_section.specs.Deciding.{outcome, HasCome, Appends, MayHave, HasReached, MayHaveFront, FailsBy, FailsAt, FailsIn, LeftAfter, MayLeave, StandsLeft, LeavesPick}
use Rattle.region_store.specs.Joined.{joined}
use Rattle.site_store.specs.Owning.{memory_of}

-- a turn with one more pick
abbrev pub with_pick : Turn → ℕ → Turn → Turn
with_pick t u p = record { left = without_next u t.left; serials = p.serials; sequence = p.sequence; replies = t.replies ++ p.replies }

either_way : (b : Bool) (s : Stamp) (t : Turn) (u : ℕ) (x y : Reply) (xs ys : Sequence)
    → (if b then replied t u x xs else replied t u y ys) ≡ with_pick t u (if b then replied (begun t.serials [] t.sequence) u x xs else replied (begun t.serials [] t.sequence) u y ys)
either_way true s t u x y xs ys = refl
either_way false s t u x y xs ys = refl

-- what a job comes to depends on the next serials and the entries alone
pub decided_is : (stamp : Stamp) (t : Turn) (u : ℕ) (e : Evaluated) → decided stamp t u e ≡ with_pick t u (outcome stamp t.serials t.sequence u e)
decided_is stamp t u (evaluation.RolledBack cause) = refl
decided_is stamp t u (Done [] answers) = refl
decided_is stamp t u (Done (x ∷ xs) answers) = either_way (nat_lt (length t.sequence) MOST_ENTRIES) stamp t u _ _ _ _

no_job : (o : Option (List Job)) → first_of o ≡ None → (l : List (List Job)) (i : ℕ) → o ≡ slice_get l i → drop 1 (get_or l i []) ≡ get_or l i []
no_job o h [] i e = refl
no_job None h (x ∷ l) zero e = absurd (cc e)
no_job (Some []) h (x ∷ l) zero e = let s : [] ≡ x = cc e in ap (drop 1) (sym s) ∙ s
no_job (Some (j ∷ js)) h (x ∷ l) zero e = absurd (cc h)
no_job o h (x ∷ l) (suc i) e = no_job o h l i e

-- where an updater has no job nothing is taken
pub none_taken : (u : ℕ) (left : List (List Job)) → next_job u left ≡ None → without_next u left ≡ left
none_taken u left h = ap (set left (u - 1)) (no_job (slice_get left (u - 1)) h left (u - 1) refl) ∙ set-get_or left (u - 1) []

-- one pick more
pub serial_more : (stamp : Stamp) (serials : List ℕ) (jobs : List (List Job)) (picks : List ℕ) (u : ℕ) (seq : Sequence)
    → turn_of stamp serials jobs (picks ++ u ∷ []) seq ≡ (let t = turn_of stamp serials jobs picks seq in picked stamp t u (next_job u t.left))
serial_more stamp serials jobs picks u seq =
    fold-append (λ (t : Turn) (v : ℕ). picked stamp t v (next_job v t.left)) (begun serials jobs seq) picks (u ∷ [])

past_later : (n m : ℕ) (x : Reply) → n ≤ m → is_past n x ≡ false → is_past m x ≡ false
past_later n m (Seq k answers) le h = let l : k ≤ n = ltb-false n k h in le-ltb m k (omega (arith, l, le))
past_later n m (Read answers) le h = refl
past_later n m (RolledBack cause) le h = refl

all_told : (b : Bool) (n : ℕ) (r : Replied) (rs : List Replied) → (if b then [] else r ∷ printed n rs) ≡ r ∷ rs → (b ≡ false) × (printed n rs ≡ rs)
all_told true n r rs e = absurd (cc e)
all_told false n r rs e = (refl, cc e)

printed_step : (b : Bool) (r : Replied) (rs : List Replied) → b ≡ false → (if b then [] else r ∷ rs) ≡ r ∷ rs
printed_step true r rs e = absurd (cc e)
printed_step false r rs e = refl

printed_stop : (b : Bool) (r : Replied) (rs : List Replied) → b ≡ true → (if b then [] else r ∷ rs) ≡ []
printed_stop true r rs e = refl
printed_stop false r rs e = absurd (cc e)

-- no reply of these names an entry past that many
printed_more : (n m : ℕ) (rs more : List Replied) → n ≤ m → printed n rs ≡ rs → printed m more ≡ more → printed m (rs ++ more) ≡ rs ++ more
printed_more n m [] more le e h = h
printed_more n m (x ∷ rs) more le e h =
    let t = all_told (is_past n x.reply) n x rs e in
    printed_step (is_past m x.reply) x (printed m (rs ++ more)) (past_later n m x.reply le t.0) ∙ ap (λ (y : List Replied). x ∷ y) (printed_more n m rs more le t.1 h)

-- the reply to what is not hardened is not
printed_till : (n : ℕ) (rs : List Replied) (r : Replied) → printed n rs ≡ rs → is_past n r.reply ≡ true → printed n (rs ++ r ∷ []) ≡ rs
printed_till n [] r e h = printed_stop (is_past n r.reply) r [] h
printed_till n (x ∷ rs) r e h =
    let t = all_told (is_past n x.reply) n x rs e in
    printed_step (is_past n x.reply) x (printed n (rs ++ r ∷ [])) t.0 ∙ ap (λ (y : List Replied). x ∷ y) (printed_till n rs r t.1 h)

pub longer : {X : Type 0} (xs : List X) (x : X) → length (xs ++ x ∷ []) ≡ length xs + 1
longer xs x = length-append xs (x ∷ [])

-- a pick has one reply, which names no entry past the last one, and it takes no entry away
pub record IsPick (seq : Sequence) (p : Turn) : Type 0 where
  pub grown : length seq ≤ length p.sequence
  pub printed : printed (length p.sequence) p.replies ≡ p.replies
  pub one : length p.replies ≡ 1

appended_pick : (b : Bool) (serials : List ℕ) (seq : Sequence) (u : ℕ) (e : Entry) (answers : Answers) (cause : Reply) → is_past (length seq) cause ≡ false
    → IsPick seq (if b then replied (begun serials [] seq) u (Seq (length seq + 1) answers) (seq ++ e ∷ []) else replied (begun serials [] seq) u cause seq)
appended_pick true serials seq u e answers cause h = record {
  grown = omega (arith, longer seq e);
  printed = printed_step _ _ [] (le-ltb (length (seq ++ e ∷ [])) (length seq + 1) (omega (arith, longer seq e)));
  one = refl;
}
appended_pick false serials seq u e answers cause h = record { grown = omega arith; printed = printed_step _ _ [] h; one = refl }

pub is_pick : (stamp : Stamp) (serials : List ℕ) (seq : Sequence) (u : ℕ) (e : Evaluated) → IsPick seq (outcome stamp serials seq u e)
is_pick stamp serials seq u (evaluation.RolledBack cause) = record { grown = omega arith; printed = refl; one = refl }
is_pick stamp serials seq u (Done [] answers) = record { grown = omega arith; printed = refl; one = refl }
is_pick stamp serials seq u (Done (x ∷ xs) answers) = appended_pick (nat_lt (length seq) MOST_ENTRIES) serials seq u _ answers _ refl

-- the turn with the next job of an updater decided
pub turn_more : (stamp : Stamp) (serials now : List ℕ) (jobs left : List (List Job)) (picks : List ℕ) (u : ℕ) (job : Job) (seq : Sequence) (g : Globals)
    → left ≡ (turn_of stamp serials jobs picks seq).left → next_job u left ≡ Some job → now ≡ (turn_of stamp serials jobs picks seq).serials → g ≡ state (turn_of stamp serials jobs picks seq).sequence
    → turn_of stamp serials jobs (picks ++ u ∷ []) seq ≡ (let t = turn_of stamp serials jobs picks seq in with_pick t u (outcome stamp now t.sequence u (eval job g)))
turn_more stamp serials now jobs left picks u job seq g l j s e =
    let t = turn_of stamp serials jobs picks seq in
    serial_more stamp serials jobs picks u seq
    ∙ ap (picked stamp t u) (ap (next_job u) (sym l) ∙ j)
    ∙ decided_is stamp t u (eval job (state t.sequence))
    ∙ ap (λ (x : Globals). with_pick t u (outcome stamp t.serials t.sequence u (eval job x))) (sym e)
    ∙ ap (λ (x : List ℕ). with_pick t u (outcome stamp x t.sequence u (eval job g))) (sym s)

-- a section on its way: these jobs are left, so many picks of all have no reply, and the reign is still under that stamp
pub record HasGone {D : Type 0} (v : View) (stamp : Stamp) (told : Bool) (c : Contents) (t : Turn) (jobs : List (List Job)) (undecided all : ℕ) (r : Reign D) (gave : List Replied → Type 0) : Type 0 where
  pub left : jobs ≡ t.left
  pub under : stamp_of r ≡ stamp
  pub count : undecided + length t.replies ≡ all
  pub reached : HasReached v told c t r gave

one_gone : {D : Type 0} → (v w : View) (stamp : Stamp) (told : Bool) (c : Contents) (t p : Turn) (u : ℕ) (left : List (List Job)) (undecided all : ℕ) (r1 r2 : Reign D) (before here after : List Replied → Type 0)
    → HasGone v stamp told c t left (undecided + 1) all r1 before → IsPick t.sequence p → HasCome w told (with_sequence c t.sequence) p r2 here → (memory_of r2.site).stamp ≡ (memory_of r1.site).stamp
    → ((xs ys : List Replied) → before xs → here ys → after (xs ++ ys)) → HasGone w stamp told c (with_pick t u p) (without_next u left) undecided all r2 after
one_gone v w stamp told c t p u left undecided all r1 r2 before here after h k s same further = record {
  left = ap (without_next u) h.left;
  under = ap stamp_in same ∙ h.under;
  count = omega (arith, h.count, length-append t.replies p.replies, k.one);
  reached = record {
    reigns = s.reigns;
    serials = s.serials;
    given = further t.replies p.replies h.reached.given s.given;
    grown = omega (arith, h.reached.grown, k.grown);
    printed = printed_more (length t.sequence) (length p.sequence) t.replies p.replies k.grown h.reached.printed k.printed;
  };
}

all_front : (seq : Sequence) (c : Contents) (low : ℕ) → low ≤ length seq → IsFrontOf seq low c (with_sequence c seq)
all_front seq c low l = record { count = length seq; least = l; most = omega arith; is = ap (with_sequence c) (sym (take-length seq)) }

-- all but the entry that was appended
old_front : (seq : Sequence) (p : Turn) (c : Contents) → Appends seq p → IsFrontOf p.sequence (length seq) c (with_sequence c seq)
old_front seq p c a = subst (λ (x : Sequence). IsFrontOf x (length seq) c (with_sequence c seq)) (sym a.sequence)
    (record { count = length seq; least = omega arith; most = omega (arith, longer seq a.entry); is = ap (with_sequence c) (sym (take-append_seam seq (a.entry ∷ []))) })

-- the same of contents with another sequence
over_other : (before after : Sequence) (c : Contents) (o : Standing) → MayStand (with_sequence c before) before after o → MayStand c before after o
over_other before after c o (inl is) = inl is
over_other before after c o (inr left) =
    let front = left.front in
    inr (record { front = record { count = front.count; least = front.least; most = front.most; is = front.is }; kept = left.kept; broken = left.broken; lacks = left.lacks })

-- what stands where the entry of a pick may stand or not
failed_front : (w : View) (told : Bool) (c : Contents) (seq : Sequence) (p : Turn) → Appends seq p → (IsTrue told → MayHave w (with_sequence c seq) p.sequence) → MayHaveFront w told c p.sequence (length seq)
failed_front w told c seq p a may = record { told = λ k. (may k).told; images = λ k files now. by_image files ((may k).images files now) }
  where
    by_image : (files : Files) → IsSite files (with_sequence c seq) ⊎ IsSite files (with_sequence c p.sequence) → (x : Contents) × IsFrontOf p.sequence (length seq) c x × IsSite files x
    by_image files (inl s) = (with_sequence c seq, old_front seq p c a, s)
    by_image files (inr s) = (with_sequence c p.sequence, all_front p.sequence c (length seq) (omega (arith, ap (λ (x : Sequence). length x) a.sequence, longer seq a.entry)), s)

failed_by : {D : Type 0} → (v w : View) (stamp : Stamp) (told : Bool) (c : Contents) (t p : Turn) (u : ℕ) (left : List (List Job)) (undecided all : ℕ) (r1 : Reign D) (gave : List Replied → Type 0)
    → HasGone v stamp told c t left undecided all r1 gave → Appends t.sequence p → (IsTrue told → MayHave w (with_sequence c t.sequence) p.sequence)
    → FailsBy w told c (with_pick t u p) all undecided gave
failed_by v w stamp told c t p u left undecided all r1 gave h a may =
    let n = length t.sequence in
    let shown : printed n (t.replies ++ p.replies) ≡ t.replies = ap (λ (x : List Replied). printed n (t.replies ++ x)) a.replies ∙ printed_till n t.replies a.reply h.reached.printed a.names in
    record {
      hardened = n;
      begun = h.reached.grown;
      at_once = omega (arith, ap (λ (x : Sequence). length x) a.sequence, longer t.sequence a.entry);
      count = ap (λ (x : List Replied). undecided + length x) shown ∙ h.count;
      given = subst gave (sym shown) h.reached.given;
      front = failed_front w told c t.sequence p a may;
    }

front_more : (order : List ℕ) (i u : ℕ) → i < length order → u ≡ get_or order i 0 → take (i + 1) order ≡ take i order ++ u ∷ []
front_more order i u h e = take_more order i 0 h ∙ ap (λ (x : ℕ). take i order ++ x ∷ []) (sym e)

abbrev pub come_to : Stamp → List ℕ → List (List Job) → List ℕ → ℕ → Sequence → Turn
come_to stamp serials jobs order i seq = turn_of stamp serials jobs (take i order) seq

abbrev pub pick_at : {D : Type 0} → Stamp → List ℕ → List (List Job) → List ℕ → ℕ → Contents → Reign D → ℕ → Job → Turn
pick_at stamp serials jobs order i c r u job = outcome (stamp_of r) r.serials (come_to stamp serials jobs order i c.sequence).sequence u (eval job (joined (memory_of r.site).globals))

next_turn : {D : Type 0} → (v : View) (stamp : Stamp) (told : Bool) (c : Contents) (serials : List ℕ) (jobs left : List (List Job)) (order : List ℕ) (i u : ℕ) (job : Job) (undecided : ℕ) (r1 : Reign D) (gave : List Replied → Type 0)
    → HasGone v stamp told c (come_to stamp serials jobs order i c.sequence) left undecided (length order) r1 gave → i < length order → u ≡ get_or order i 0 → next_job u left ≡ Some job
    → come_to stamp serials jobs order (i + 1) c.sequence ≡ with_pick (come_to stamp serials jobs order i c.sequence) u (pick_at stamp serials jobs order i c r1 u job)
next_turn v stamp told c serials jobs left order i u job undecided r1 gave h inside is next =
    ap (λ (x : List ℕ). turn_of stamp serials jobs x c.sequence) (front_more order i u inside is)
    ∙ turn_more stamp serials r1.serials jobs left (take i order) u job c.sequence (joined (memory_of r1.site).globals) h.left next h.reached.serials h.reached.reigns.remembered.globals
    ∙ ap (λ (x : Stamp). with_pick (come_to stamp serials jobs order i c.sequence) u (outcome x r1.serials (come_to stamp serials jobs order i c.sequence).sequence u (eval job (joined (memory_of r1.site).globals)))) (sym h.under)

-- the pick was decided
pub one_decided : {D : Type 0} → (v w : View) (stamp : Stamp) (told : Bool) (c : Contents) (serials : List ℕ) (jobs left : List (List Job)) (order : List ℕ) (i u : ℕ) (job : Job) (undecided : ℕ) (r1 r2 : Reign D) (before here after : List Replied → Type 0)
    → HasGone v stamp told c (come_to stamp serials jobs order i c.sequence) left (undecided + 1) (length order) r1 before → i < length order → u ≡ get_or order i 0 → next_job u left ≡ Some job
    → HasCome w told (with_sequence c (come_to stamp serials jobs order i c.sequence).sequence) (pick_at stamp serials jobs order i c r1 u job) r2 here → (memory_of r2.site).stamp ≡ (memory_of r1.site).stamp
    → ((xs ys : List Replied) → before xs → here ys → after (xs ++ ys))
    → HasGone w stamp told c (come_to stamp serials jobs order (i + 1) c.sequence) (without_next u left) undecided (length order) r2 after
one_decided v w stamp told c serials jobs left order i u job undecided r1 r2 before here after h inside is next s same further =
    let t = come_to stamp serials jobs order i c.sequence in
    let p = pick_at stamp serials jobs order i c r1 u job in
    subst (λ (x : Turn). HasGone w stamp told c x (without_next u left) undecided (length order) r2 after) (sym (next_turn v stamp told c serials jobs left order i u job (undecided + 1) r1 before h inside is next))
    (one_gone v w stamp told c t p u left undecided (length order) r1 r2 before here after h (is_pick (stamp_of r1) r1.serials t.sequence u (eval job (joined (memory_of r1.site).globals))) s same further)

-- the updater had no job
pub none_decided : {D : Type 0} → (v : View) (stamp : Stamp) (told : Bool) (c : Contents) (serials : List ℕ) (jobs left : List (List Job)) (order : List ℕ) (i u : ℕ) (undecided : ℕ) (r1 : Reign D) (gave : List Replied → Type 0)
    → HasGone v stamp told c (come_to stamp serials jobs order i c.sequence) left undecided (length order) r1 gave → i < length order → u ≡ get_or order i 0 → next_job u left ≡ None
    → HasGone v stamp told c (come_to stamp serials jobs order (i + 1) c.sequence) (without_next u left) undecided (length order) r1 gave
none_decided v stamp told c serials jobs left order i u undecided r1 gave h inside is none =
    let t = come_to stamp serials jobs order i c.sequence in
    let same : come_to stamp serials jobs order (i + 1) c.sequence ≡ t =
    ap (λ (x : List ℕ). turn_of stamp serials jobs x c.sequence) (front_more order i u inside is) ∙ serial_more stamp serials jobs (take i order) u c.sequence ∙ ap (picked stamp t u) (ap (next_job u) (sym h.left) ∙ none) in
    subst (λ (x : Turn). HasGone v stamp told c x (without_next u left) undecided (length order) r1 gave) (sym same)
    (subst (λ (x : List (List Job)). HasGone v stamp told c t x undecided (length order) r1 gave) (sym (none_taken u left none)) h)

-- the pick failed
pub failed_at : {D : Type 0} → (v w : View) (stamp : Stamp) (told : Bool) (c : Contents) (serials : List ℕ) (jobs left : List (List Job)) (order : List ℕ) (i u : ℕ) (job : Job) (undecided : ℕ) (r1 : Reign D) (gave : List Replied → Type 0)
    → HasGone v stamp told c (come_to stamp serials jobs order i c.sequence) left undecided (length order) r1 gave → i < length order → u ≡ get_or order i 0 → next_job u left ≡ Some job
    → Appends (come_to stamp serials jobs order i c.sequence).sequence (pick_at stamp serials jobs order i c r1 u job)
    → (IsTrue told → MayHave w (with_sequence c (come_to stamp serials jobs order i c.sequence).sequence) (pick_at stamp serials jobs order i c r1 u job).sequence)
    → FailsAt w stamp told c jobs order serials undecided gave (i + 1)
failed_at v w stamp told c serials jobs left order i u job undecided r1 gave h inside is next a may =
    subst (λ (x : Turn). FailsBy w told c x (length order) undecided gave) (sym (next_turn v stamp told c serials jobs left order i u job undecided r1 gave h inside is next))
    (failed_by v w stamp told c (come_to stamp serials jobs order i c.sequence) (pick_at stamp serials jobs order i c r1 u job) u left undecided (length order) r1 gave h a may)

-- what it left, with what lies behind that
left_after : {D : Type 0} → (v : View) (stamp : Stamp) (told : Bool) (c : Contents) (serials : List ℕ) (jobs left : List (List Job)) (order : List ℕ) (i u : ℕ) (job : Job) (undecided : ℕ) (r1 : Reign D) (gave : List Replied → Type 0)
    → HasGone v stamp told c (come_to stamp serials jobs order i c.sequence) left undecided (length order) r1 gave → i < length order → u ≡ get_or order i 0 → next_job u left ≡ Some job
    → (files : Files) → StandsLeft (with_sequence c (come_to stamp serials jobs order i c.sequence).sequence) (pick_at stamp serials jobs order i c r1 u job).sequence files → LeftAfter stamp c jobs order serials i files
left_after v stamp told c serials jobs left order i u job undecided r1 gave h inside is next files q =
    let t = come_to stamp serials jobs order i c.sequence in
    let p = pick_at stamp serials jobs order i c r1 u job in
    record {
      standing = q.0;
      may = subst (λ (x : Turn). MayStand c t.sequence x.sequence q.0) (sym (next_turn v stamp told c serials jobs left order i u job undecided r1 gave h inside is next)) (over_other t.sequence p.sequence c q.0 q.1);
      stands = q.2;
    }

-- and the picks before it have their replies
pub failed_in : {D : Type 0} → (v w : View) (stamp : Stamp) (told : Bool) (c : Contents) (serials : List ℕ) (jobs left : List (List Job)) (order : List ℕ) (i u : ℕ) (job : Job) (undecided : ℕ) (r1 : Reign D) (gave : List Replied → Type 0)
    → HasGone v stamp told c (come_to stamp serials jobs order i c.sequence) left undecided (length order) r1 gave → i < length order → u ≡ get_or order i 0 → next_job u left ≡ Some job
    → Appends (come_to stamp serials jobs order i c.sequence).sequence (pick_at stamp serials jobs order i c r1 u job)
    → (IsTrue told → MayHave w (with_sequence c (come_to stamp serials jobs order i c.sequence).sequence) (pick_at stamp serials jobs order i c r1 u job).sequence)
    → (IsTrue told → LeavesPick w (with_sequence c (come_to stamp serials jobs order i c.sequence).sequence) (pick_at stamp serials jobs order i c r1 u job).sequence)
    → FailsIn w stamp told c jobs order serials undecided gave
failed_in v w stamp told c serials jobs left order i u job undecided r1 gave h inside is next a may leaves =
    let t = come_to stamp serials jobs order i c.sequence in
    record {
      decided = i;
      inside = inside;
      count = h.count;
      given = h.reached.given;
      front = subst (λ (x : Turn). MayHaveFront w told c x.sequence (length t.sequence)) (sym (next_turn v stamp told c serials jobs left order i u job undecided r1 gave h inside is next))
          (failed_front w told c t.sequence (pick_at stamp serials jobs order i c r1 u job) a may);
      left = λ k files now. left_after v stamp told c serials jobs left order i u job undecided r1 gave h inside is next files (leaves k files now);
    }

-- the pick was cut off
pub left_at : {D : Type 0} → (v w : View) (stamp : Stamp) (told : Bool) (c : Contents) (serials : List ℕ) (jobs left : List (List Job)) (order : List ℕ) (i u : ℕ) (job : Job) (undecided : ℕ) (r1 : Reign D) (gave : List Replied → Type 0)
    → HasGone v stamp told c (come_to stamp serials jobs order i c.sequence) left undecided (length order) r1 gave → i < length order → u ≡ get_or order i 0 → next_job u left ≡ Some job
    → (IsTrue told → MayHave w (with_sequence c (come_to stamp serials jobs order i c.sequence).sequence) (pick_at stamp serials jobs order i c r1 u job).sequence)
    → (IsTrue told → LeavesPick w (with_sequence c (come_to stamp serials jobs order i c.sequence).sequence) (pick_at stamp serials jobs order i c r1 u job).sequence)
    → MayLeave w stamp told c jobs order serials
left_at v w stamp told c serials jobs left order i u job undecided r1 gave h inside is next may leaves = record {
  told = λ k. (may k).told;
  images = λ k files now. by_image files ((may k).images files now);
  left = λ k files now. (i, left_after v stamp told c serials jobs left order i u job undecided r1 gave h inside is next files (leaves k files now));
}
  where
    by_image : (files : Files) → IsSite files (with_sequence c (come_to stamp serials jobs order i c.sequence).sequence) ⊎ IsSite files (with_sequence c (pick_at stamp serials jobs order i c r1 u job).sequence)
        → (x : Contents) × ((n : ℕ) × IsFrontOf (come_to stamp serials jobs order n c.sequence).sequence (length c.sequence) c x) × IsSite files x
    by_image files (inl s) =
        let t = come_to stamp serials jobs order i c.sequence in
        (with_sequence c t.sequence, (i, all_front t.sequence c (length c.sequence) h.reached.grown), s)
    by_image files (inr s) =
        let t = come_to stamp serials jobs order i c.sequence in
        let p = pick_at stamp serials jobs order i c r1 u job in
        let more : length t.sequence ≤ length p.sequence = (is_pick (stamp_of r1) r1.serials t.sequence u (eval job (joined (memory_of r1.site).globals))).grown in (
          with_sequence c p.sequence,
          (
            i + 1,
            subst (λ (x : Turn). IsFrontOf x.sequence (length c.sequence) c (with_sequence c p.sequence)) (sym (next_turn v stamp told c serials jobs left order i u job undecided r1 gave h inside is next))
                (all_front p.sequence c (length c.sequence) (omega (arith, h.reached.grown, more))),
          ),
          s,
        )
