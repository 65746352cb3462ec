-- A pick whose entry, if it has one, was hardened.
use Rattle.std.proofs.Common.{◌≡◌, ℕ, ◌+◌, ◌⊎◌, inl, inr, Bool, true, false, List, [], ◌∷◌, ◌++◌, length, nat_lt, if◌then◌else◌, None, Some, refl, ap, sym, ◌∙◌, subst, arith}
use Rattle.std.specs.Prelude.{Option, IsSome}
use Rattle.std.proofs.lemmas.Bool.{lt-ltb}
use Rattle.disk_defs.specs.Disk.{View, Files, Image}
use Rattle.global_defs.specs.Entry.{Stamp, Entry, Sequence}
use Rattle.global_defs.specs.Jobs.{Answers}
use Rattle.global_defs.specs.Evaluation.{Evaluated, Done}
use Rattle.global_defs.specs.Evaluation as evaluation
use Rattle.global_defs.specs.Serial.{Turn, Replied, Reply, Seq, Read, RolledBack, replied, begun, serial_at, MOST_ENTRIES}
use Rattle.site_defs.specs.Contents.{Contents, Standing}
use Rattle.site_defs.specs.Behind.{IsFrontLeft, IsSiteWith}
use Rattle.site_defs.specs.Fronts.{with_sequence, IsFrontOf}
use Rattle.site_defs.specs.Stands.{IsSite}
use Rattle.site_defs.specs.Texts.{is_past}
use Rattle.site_store.specs.declared.memory.Memory.{Memory}
use Rattle.site_store.specs.Site.{IsOpen}
use Rattle.repl_section.specs.declared.reign.Reign.{Reign}
use Rattle.repl_section.specs.Replies.{named}
use Rattle.repl_section.specs.Deciding.{outcome, hardened_for, ComesTo, HasCome, Appends, StandsAt, MayHave, LeavesPick}
use Rattle.repl_section.proofs.Standing.{stays_at}
use Rattle.repl_section.proofs.Replied.{still_may_have, still_leaves, with_it_perhaps}
use Rattle.site_store.specs.Owning.{memory_of}

-- a turn whose reply names no entry, and that appended none
pub record Quiet (seq : Sequence) (t : Turn) : Type 0 where
  pub sequence : t.sequence ≡ seq
  pub reply : Replied
  pub replies : t.replies ≡ reply ∷ []
  pub unnamed : named reply.reply ≡ None

abbrev pub Either : Sequence → Turn → Type 0
Either seq t = Quiet seq t ⊎ Appends seq t

entered_or_not : (b : Bool) (serials : List ℕ) (seq : Sequence) (u : ℕ) (e : Entry) (answers : Answers) (cause : Reply) → named cause ≡ None
    → Either seq (if b then replied (begun serials [] seq) u (Seq (length seq + 1) answers) (seq ++ e ∷ []) else replied (begun serials [] seq) u cause seq)
entered_or_not true serials seq u e answers cause h = inr (record {
  entry = e;
  sequence = refl;
  reply = record { updater = u; serial = serial_at serials u; reply = Seq (length seq + 1) answers };
  replies = refl;
  names = lt-ltb (length seq) (length seq + 1) (omega arith);
})
entered_or_not false serials seq u e answers cause h = inl (record { sequence = refl; reply = record { updater = u; serial = serial_at serials u; reply = cause }; replies = refl; unnamed = h })

pub quiet_or_appends : (stamp : Stamp) (serials : List ℕ) (seq : Sequence) (u : ℕ) (e : Evaluated) → Either seq (outcome stamp serials seq u e)
quiet_or_appends stamp serials seq u (evaluation.RolledBack cause) = inl (record { sequence = refl; reply = record { updater = u; serial = serial_at serials u; reply = RolledBack cause }; replies = refl; unnamed = refl })
quiet_or_appends stamp serials seq u (Done [] answers) = inl (record { sequence = refl; reply = record { updater = u; serial = serial_at serials u; reply = Read answers }; replies = refl; unnamed = refl })
quiet_or_appends stamp serials seq u (Done (x ∷ xs) answers) = entered_or_not (nat_lt (length seq) MOST_ENTRIES) serials seq u _ answers _ refl

pub not_both : (o : Option ℕ) → IsSome o → o ≡ None → ⊥
not_both None some none = cc some
not_both (Some n) some none = cc none

past_named : (n : ℕ) (x : Reply) → is_past n x ≡ true → IsSome (named x)
past_named n (Seq k answers) h = refl
past_named n (Read answers) h = absurd (cc h)
past_named n (RolledBack cause) h = absurd (cc h)

-- the one reply
same_reply : (x y : Replied) (all : List Replied) → all ≡ x ∷ [] → all ≡ y ∷ [] → x ≡ y
same_reply x y all a b = let e : x ∷ [] ≡ y ∷ [] = sym a ∙ b in cc e

unnamed_is : (seq : Sequence) (t : Turn) (d : Replied) → Quiet seq t → t.replies ≡ d ∷ [] → named d.reply ≡ None
unnamed_is seq t d q e = ap (λ (x : Replied). named x.reply) (same_reply d q.reply t.replies e q.replies) ∙ q.unnamed

named_is : (seq : Sequence) (t : Turn) (d : Replied) → Appends seq t → t.replies ≡ d ∷ [] → IsSome (named d.reply)
named_is seq t d a e = past_named (length seq) d.reply (ap (λ (x : Replied). is_past (length seq) x.reply) (same_reply d a.reply t.replies e a.replies) ∙ a.names)

-- where a reply names an entry, the turn has appended it
pub named_appends : (seq : Sequence) (t : Turn) (d : Replied) → Either seq t → t.replies ≡ d ∷ [] → IsSome (named d.reply) → Appends seq t
named_appends seq t d (inl q) e some = absurd (not_both (named d.reply) some (unnamed_is seq t d q e))
named_appends seq t d (inr a) e some = a

all_hardened : (c : Contents) (t : Turn) (d : Replied) → Either c.sequence t → t.replies ≡ d ∷ [] → hardened_for (named d.reply) (with_sequence c t.sequence) (length c.sequence) ≡ length t.sequence
all_hardened c t d (inl q) e = ap (λ (o : Option ℕ). hardened_for o (with_sequence c t.sequence) (length c.sequence)) (unnamed_is c.sequence t d q e) ∙ ap (λ (s : Sequence). length s) (sym q.sequence)
all_hardened c t d (inr a) e = by_name (named d.reply) (named_is c.sequence t d a e)
  where
    by_name : (o : Option ℕ) → IsSome o → hardened_for o (with_sequence c t.sequence) (length c.sequence) ≡ length t.sequence
    by_name None h = absurd (cc h)
    by_name (Some n) h = refl

pub settled : {D : Type 0} → (v w : View) (told : Bool) (c : Contents) (t : Turn) (d : Replied) (m r : Reign D) (gave : List Replied → Type 0) → Either c.sequence t → ComesTo v told c (length c.sequence) t m d
    → IsOpen w told (with_sequence c t.sequence) (hardened_for (named d.reply) (with_sequence c t.sequence) (length c.sequence)) (memory_of r.site) → r.serials ≡ m.serials → gave (d ∷ []) → HasCome w told c t r gave
settled v w told c t d m r gave either comes is kept given = record {
  reigns = subst (λ (h : ℕ). IsOpen w told (with_sequence c t.sequence) h (memory_of r.site)) (all_hardened c t d either comes.reply) is;
  serials = kept ∙ comes.serials;
  given = subst gave (sym comes.reply) given;
}

-- where a reply names no entry, nothing was hardened
pub stands_quietly : (w : View) (c : Contents) (t : Turn) (d : Replied) (s : Memory) → IsOpen w true (with_sequence c t.sequence) (hardened_for (named d.reply) (with_sequence c t.sequence) (length c.sequence)) s
    → named d.reply ≡ None → StandsAt w (with_sequence c t.sequence) (length c.sequence)
stands_quietly w c t d s is none =
    stays_at w (with_sequence c t.sequence) (length c.sequence) s (subst (λ (o : Option ℕ). IsOpen w true (with_sequence c t.sequence) (hardened_for o (with_sequence c t.sequence) (length c.sequence)) s) none is)

pub settled_may_have : (w : View) (c : Contents) (t : Turn) (d : Replied) → Either c.sequence t → t.replies ≡ d ∷ [] → IsSome w.content
    → (IsSome (named d.reply) → (f : Files) → Image w f → (o : Contents) × IsFrontOf t.sequence (length c.sequence) (with_sequence c t.sequence) o × IsSite f o)
    → (named d.reply ≡ None → StandsAt w (with_sequence c t.sequence) (length c.sequence)) → MayHave w c t.sequence
settled_may_have w c t d (inl q) e told fronts quiet =
    still_may_have w c t.sequence (subst (λ (s : Sequence). StandsAt w (with_sequence c s) (length c.sequence)) q.sequence (quiet (unnamed_is c.sequence t d q e)))
settled_may_have w c t d (inr a) e told fronts quiet =
    subst (MayHave w c) (sym a.sequence) (with_it_perhaps w c a.entry told
    (subst (λ (s : Sequence). (f : Files) → Image w f → (o : Contents) × IsFrontOf s (length c.sequence) (with_sequence c s) o × IsSite f o) a.sequence (fronts (named_is c.sequence t d a e))))

pub settled_leaves : (w : View) (c : Contents) (t : Turn) (d : Replied) → Either c.sequence t → t.replies ≡ d ∷ []
    → (IsSome (named d.reply) → (f : Files) → Image w f → (o : Standing) × IsFrontLeft t.sequence (length c.sequence) (with_sequence c t.sequence) o × IsSiteWith f o)
    → (named d.reply ≡ None → StandsAt w (with_sequence c t.sequence) (length c.sequence)) → LeavesPick w c t.sequence
settled_leaves w c t d (inl q) e fronts quiet =
    still_leaves w c t.sequence (subst (λ (s : Sequence). StandsAt w (with_sequence c s) (length c.sequence)) q.sequence (quiet (unnamed_is c.sequence t d q e)))
settled_leaves w c t d (inr a) e fronts quiet = λ f i.
    let p = fronts (named_is c.sequence t d a e) f i in
    let front = p.1.front in
    (p.0, inr (record { front = record { count = front.count; least = front.least; most = front.most; is = front.is }; kept = p.1.kept; broken = p.1.broken; lacks = p.1.lacks }), p.2)
