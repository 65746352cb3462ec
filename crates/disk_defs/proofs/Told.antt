-- Contents that a disk tells or doesn't.
use Rattle.std.proofs.Common.{◌≡◌, Option, Some, None, IfSome, IsSomeAnd, sym, subst}
use Rattle.disk_defs.specs.Disk.{Files, ReadsAfter}

pub with_told : (o : Option Files) (P : Files → Type 0) (Q : Type 0) → IsSomeAnd o P → ((f : Files) → P f → Q) → Q
with_told None P Q is k = absurd is
with_told (Some f) P Q is k = k f is

pub weaker_told : (o : Option Files) (P Q : Files → Type 0) → IfSome o P → ((f : Files) → P f → Q f) → IfSome o Q
weaker_told None P Q p k = tt
weaker_told (Some f) P Q p k = k f p

-- two facts of a disk that may tell nothing
pub both_weak : (o : Option Files) (P Q R : Files → Type 0) → IfSome o P → IfSome o Q → ((f : Files) → P f → Q f → R f) → IfSome o R
both_weak None P Q R p q k = tt
both_weak (Some f) P Q R p q k = k f p q

-- a fact of a disk that tells, and one of a disk that may tell nothing
pub both_told : (o : Option Files) (P Q R : Files → Type 0) → IsSomeAnd o P → IfSome o Q → ((f : Files) → P f → Q f → R f) → IsSomeAnd o R
both_told None P Q R p q k = absurd p
both_told (Some f) P Q R p q k = k f p q

-- the same at a content that equals it
pub told_at : (o n : Option Files) (P : Files → Type 0) → n ≡ o → IfSome n P → IfSome o P
told_at o n P is p = subst (λ x. IfSome x P) is p

-- after a step
pub reads_after : (o n : Option Files) (step : Files → Files → Type 0) (P Q : Files → Type 0) → ReadsAfter step o n → IfSome o P → ((a b : Files) → P a → step a b → Q b) → IfSome n Q
reads_after None n step P Q after p k = subst (λ x. IfSome x Q) (sym after) tt
reads_after (Some a) None step P Q after p k = absurd after
reads_after (Some a) (Some b) step P Q after p k = k a b p after

pub has_after : (o n : Option Files) (step : Files → Files → Type 0) (P Q : Files → Type 0) → ReadsAfter step o n → IsSomeAnd o P → ((a b : Files) → P a → step a b → Q b) → IsSomeAnd n Q
has_after None n step P Q after p k = absurd p
has_after (Some a) None step P Q after p k = absurd after
has_after (Some a) (Some b) step P Q after p k = k a b p after
