-- Entries that have one part.
use Rattle.std.proofs.Common.{◌≡◌, ℕ, zero, suc, ◌^◌, ◌<◌, ◌&&◌, ◌||◌, not, Bool, true, List, Option, Some, IsSome, refl, sym, ◌∙◌, ap, subst, arith}
use Rattle.std.proofs.lemmas.List.{append-nil}
use Rattle.std.specs.List.{list_all}
use Rattle.global_defs.specs.declared.limits.TheConstants.{MOST_REGIONS}
use Rattle.journal_defs.specs.Journal.{Item, Part}
use Rattle.journal_defs.specs.Sequence.{REGIONS, in_mask, is_like, items_of, items_in, updates_by}
use Rattle.mupip_recover.specs.Slots.{next_after, is_at}
use Rattle.mupip_recover.proofs.Completion.{by_agreement}
use Rattle.mupip_recover.proofs.InOrder.{by_order}
use Rattle.journal_laws.proofs.EveryTarget.{eq_self as itself}

likes_itself : (p : Part) → is_like p (Some p) ≡ true
likes_itself p =
    let m = itself p.mask in
    let c = itself p.count in
    let u = itself p.origin.updater in
    let s = itself p.origin.serial in
    rw (m, c, u, s) refl

-- a mask of one region
one_agrees : (part : ℕ → Option Part) (p : Part) (r : ℕ) → r < MOST_REGIONS → is_like p (part r) ≡ true → list_all (λ q. not (in_mask (2 ^ r) q) || is_like p (part q)) REGIONS ≡ true
one_agrees part p zero low like = ap (λ (b : Bool). b && true) like
one_agrees part p (suc zero) low like = ap (λ (b : Bool). b && true) like
one_agrees part p (suc (suc zero)) low like = ap (λ (b : Bool). b && true) like
one_agrees part p (suc (suc (suc zero))) low like = ap (λ (b : Bool). b && true) like
one_agrees part p (suc (suc (suc (suc zero)))) low like = ap (λ (b : Bool). b && true) like
one_agrees part p (suc (suc (suc (suc (suc zero))))) low like = ap (λ (b : Bool). b && true) like
one_agrees part p (suc (suc (suc (suc (suc (suc zero)))))) low like = ap (λ (b : Bool). b && true) like
one_agrees part p (suc (suc (suc (suc (suc (suc (suc zero))))))) low like = ap (λ (b : Bool). b && true) like
one_agrees part p (suc (suc (suc (suc (suc (suc (suc (suc r)))))))) low like = absurd (omega arith)

one_items : (part : ℕ → Option Part) (r : ℕ) → r < MOST_REGIONS → items_in (2 ^ r) part ≡ items_of (part r)
one_items part zero low = append-nil (items_of (part 0))
one_items part (suc zero) low = append-nil (items_of (part 1))
one_items part (suc (suc zero)) low = append-nil (items_of (part 2))
one_items part (suc (suc (suc zero))) low = append-nil (items_of (part 3))
one_items part (suc (suc (suc (suc zero)))) low = append-nil (items_of (part 4))
one_items part (suc (suc (suc (suc (suc zero))))) low = append-nil (items_of (part 5))
one_items part (suc (suc (suc (suc (suc (suc zero)))))) low = append-nil (items_of (part 6))
one_items part (suc (suc (suc (suc (suc (suc (suc zero))))))) low = append-nil (items_of (part 7))
one_items part (suc (suc (suc (suc (suc (suc (suc (suc r)))))))) low = absurd (omega arith)

-- the only part, with its positions in order
pub one_part : (part : ℕ → Option Part) (r : ℕ) (p : Part) → r < MOST_REGIONS → part r ≡ Some p → p.mask ≡ 2 ^ r → is_at p.count (next_after 0 p.items) ≡ true → IsSome (updates_by part p)
one_part part r p low at mask order =
    let like : is_like p (part r) ≡ true = ap (is_like p) at ∙ likes_itself p in
    let agree : list_all (λ q. not (in_mask p.mask q) || is_like p (part q)) REGIONS ≡ true =
    ap (λ (m : ℕ). list_all (λ q. not (in_mask m q) || is_like p (part q)) REGIONS) mask ∙ one_agrees part p r low like in
    let items : items_in p.mask part ≡ p.items = ap (λ (m : ℕ). items_in m part) mask ∙ one_items part r low ∙ ap items_of at in
    let ordered : is_at p.count (next_after 0 (items_in p.mask part)) ≡ true = ap (λ (l : List Item). is_at p.count (next_after 0 l)) items ∙ order in
    subst IsSome (sym (by_agreement part p agree ∙ by_order (items_in p.mask part) p.count ordered)) refl
