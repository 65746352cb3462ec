-- Sequences of records of which some are missing.
use Rattle.std.proofs.Common.{◌≡◌, ◌⊎◌, inl, inr, ℕ, zero, suc, ◌+◌, ◌≤◌, ◌<◌, ◌&&◌, ◌||◌, not, Bool, true, false, List, [], ◌∷◌, ◌++◌, length, take, flat_map, Option, Some, None, refl, sym, ◌∙◌, ap, subst, arith, length-take-le, option_map, if◌then◌else◌}
use Rattle.std.proofs.lemmas.Bool.{cases_eq, cases_lt, and_parts}
use Rattle.std.proofs.lemmas.Bool.Decides.{nat_tests}
use Rattle.std.proofs.lemmas.List.{take-take}
use Rattle.std.specs.List.{AllByRecursion, list_all}
use Rattle.std.specs.Option.{option_or, option_and_then}
use Rattle.global_defs.specs.Entry.{Update, Entry, Globals, Sequence, Stamp}
use Rattle.global_defs.specs.Prefix.{stamp_at}
use Rattle.global_defs.specs.Serial.{entry_of}
use Rattle.journal_defs.specs.Journal.{Part, Item}
use Rattle.journal_defs.specs.Instance.{InstanceRecord}
use Rattle.journal_defs.specs.Surviving.{survives, reigns}
use Rattle.journal_defs.specs.Sequence.{Placed, Records, parts, in_mask, is_like, items_of, items_in, updates_of, updates_by, REGIONS, entry_by, entry_among, entry_with, entry, EntriesFrom, IsSequence}
use Rattle.journal_defs.specs.Epochs.{Chosen, chosen, image_state, Blocks}
use Rattle.journal_defs.specs.Sound.{Restores, IsSoundRegion}
use Rattle.journal_defs.specs.Growth.{with_parts, NonePast, AreNumbered, AreTidy, TidyPast, HasFewer}
use Rattle.journal_laws.proofs.Runs.{parts_other, parts_here}
use Rattle.journal_laws.proofs.Targets as targets

-- parts that are the same in these regions
abbrev SameIn : (ℕ → Option Part) → (ℕ → Option Part) → List ℕ → Type 0
SameIn u v rs = AllByRecursion (λ r. u r ≡ v r) rs

-- a region that lacks its part
abbrev Lacking : (ℕ → Option Part) → (ℕ → Option Part) → List ℕ → Type 0
Lacking u v [] = ⊥
Lacking u v (r ∷ rs) = ((p : Part) × (u r ≡ None) × (v r ≡ Some p)) ⊎ Lacking u v rs

same_or_lacking : (u v : ℕ → Option Part) (rs : List ℕ) → ((r : ℕ) → (u r ≡ None) ⊎ (u r ≡ v r)) → SameIn u v rs ⊎ Lacking u v rs
same_or_lacking u v [] fewer = inl tt
same_or_lacking u v (r ∷ rs) fewer = elim (same_or_lacking u v rs fewer) [
  | inr lacking ↦ inr (inr lacking)
  | inl same ↦ elim (fewer r) [
    | inr here ↦ inl (here, same)
    | inl none ↦ elim (v r) as (λ o. v r ≡ o → SameIn u v (r ∷ rs) ⊎ Lacking u v (r ∷ rs)) [
      | None ↦ λ is. inl (none ∙ sym is, same)
      | Some p ↦ λ is. inr (inl (p, none, is))
    ] refl
  ]
]

-- the same parts make the same entry
like_same : (u v : ℕ → Option Part) (head : Part) (rs : List ℕ) → SameIn u v rs
    → list_all (λ r. not (in_mask head.mask r) || is_like head (u r)) rs ≡ list_all (λ r. not (in_mask head.mask r) || is_like head (v r)) rs
like_same u v head [] same = refl
like_same u v head (r ∷ rs) same =
    ap (λ (o : Option Part). (not (in_mask head.mask r) || is_like head o) && list_all (λ r. not (in_mask head.mask r) || is_like head (u r)) rs) same.0
    ∙ ap (λ (b : Bool). (not (in_mask head.mask r) || is_like head (v r)) && b) (like_same u v head rs same.1)

items_same : (u v : ℕ → Option Part) (mask : ℕ) (rs : List ℕ) → SameIn u v rs
    → flat_map (λ r. if in_mask mask r then items_of (u r) else []) rs ≡ flat_map (λ r. if in_mask mask r then items_of (v r) else []) rs
items_same u v mask [] same = refl
items_same u v mask (r ∷ rs) same =
    ap (λ (o : Option Part). (if in_mask mask r then items_of o else []) ++ flat_map (λ r. if in_mask mask r then items_of (u r) else []) rs) same.0
    ∙ ap (λ (l : List Item). (if in_mask mask r then items_of (v r) else []) ++ l) (items_same u v mask rs same.1)

updates_same : (u v : ℕ → Option Part) (head : Part) → SameIn u v REGIONS → updates_by u head ≡ updates_by v head
updates_same u v head same =
    ap (λ (b : Bool). if b then updates_of (items_in head.mask u) head.count else None) (like_same u v head REGIONS same)
    ∙ ap (λ (l : List Item). if list_all (λ r. not (in_mask head.mask r) || is_like head (v r)) REGIONS then updates_of l head.count else None) (items_same u v head.mask REGIONS same)

by_same : (u v : ℕ → Option Part) (stamp : Stamp) (head : Option Part) → SameIn u v REGIONS
    → option_and_then (λ p. entry_by u stamp p) head ≡ option_and_then (λ p. entry_by v stamp p) head
by_same u v stamp None same = refl
by_same u v stamp (Some head) same = ap (λ (o : Option (List Update)). option_map (λ us. entry_of stamp head.origin.updater head.origin.serial us) o) (updates_same u v head same)

among_same : (u v : ℕ → Option Part) (stamp : Stamp) (rs : List ℕ) → SameIn u v REGIONS → SameIn u v rs → entry_among u stamp rs ≡ entry_among v stamp rs
among_same u v stamp [] same here = refl
among_same u v stamp (r ∷ rs) same here =
    ap (λ (o : Option Part). option_or (option_and_then (λ p. entry_by u stamp p) o) (entry_among u stamp rs)) here.0
    ∙ ap (λ (o : Option Entry). option_or o (entry_among u stamp rs)) (by_same u v stamp (v r) same)
    ∙ ap (option_or (option_and_then (λ p. entry_by v stamp p) (v r))) (among_same u v stamp rs same here.1)

whole_same : (u v : ℕ → Option Part) (stamp : Option Stamp) → SameIn u v REGIONS → entry_with u stamp ≡ entry_with v stamp
whole_same u v None same = refl
whole_same u v (Some stamp) same = among_same u v stamp REGIONS same same

-- where a part lacks there is no entry
by_none : (u : ℕ → Option Part) (stamp : Stamp) (head : Part) → list_all (λ r. not (in_mask head.mask r) || is_like head (u r)) REGIONS ≡ false → entry_by u stamp head ≡ None
by_none u stamp head fails = ap (λ (b : Bool). option_map (λ us. entry_of stamp head.origin.updater head.origin.serial us) (if b then updates_of (items_in head.mask u) head.count else None)) fails

lacking_fails : (u v : ℕ → Option Part) (head : Part) (rs : List ℕ) → AreTidy v → (q : ℕ) → v q ≡ Some head → Lacking u v rs
    → list_all (λ r. not (in_mask head.mask r) || is_like head (u r)) rs ≡ false
lacking_fails u v head [] tidy q is lacking = absurd lacking
lacking_fails u v head (r ∷ rs) tidy q is (inl here) =
    let like = tidy.alike q r head here.0 is here.2 in
    let mask : (here.0).mask ≡ head.mask = same_mask head here.0 like in
    let in_it : in_mask head.mask r ≡ true = ap (λ (m : ℕ). in_mask m r) (sym mask) ∙ tidy.within r here.0 here.2 in
    ap (λ (o : Option Part). (not (in_mask head.mask r) || is_like head o) && list_all (λ r. not (in_mask head.mask r) || is_like head (u r)) rs) here.1
    ∙ ap (λ (b : Bool). (not b || false) && list_all (λ r. not (in_mask head.mask r) || is_like head (u r)) rs) in_it
  where
    same_mask : (a b : Part) → is_like a (Some b) ≡ true → b.mask ≡ a.mask
    same_mask a b like = grind (arith, nat_tests, and_parts)
lacking_fails u v head (r ∷ rs) tidy q is (inr there) =
    ap (λ (b : Bool). (not (in_mask head.mask r) || is_like head (u r)) && b) (lacking_fails u v head rs tidy q is there) ∙ and_false (not (in_mask head.mask r) || is_like head (u r))
  where
    and_false : (b : Bool) → (b && false) ≡ false
    and_false true = refl
    and_false false = refl

among_lacking : (u v : ℕ → Option Part) (stamp : Stamp) (rs : List ℕ) → AreTidy v → ((r : ℕ) → (u r ≡ None) ⊎ (u r ≡ v r)) → Lacking u v REGIONS → entry_among u stamp rs ≡ None
among_lacking u v stamp [] tidy fewer lacking = refl
among_lacking u v stamp (r ∷ rs) tidy fewer lacking =
    ap (λ (o : Option Entry). option_or o (entry_among u stamp rs)) (elim (u r) as (λ o. u r ≡ o → option_and_then (λ p. entry_by u stamp p) o ≡ None) [
      | None ↦ λ is. refl
      | Some head ↦ λ is. by_none u stamp head (lacking_fails u v head REGIONS tidy r (there head is) lacking)
    ] refl)
    ∙ among_lacking u v stamp rs tidy fewer lacking
  where
    there : (head : Part) → u r ≡ Some head → v r ≡ Some head
    there head is = elim (fewer r) [
      | inl none ↦ cc
      | inr same ↦ sym same ∙ is
    ]

whole_lacking : (u v : ℕ → Option Part) (stamp : Option Stamp) → AreTidy v → ((r : ℕ) → (u r ≡ None) ⊎ (u r ≡ v r)) → Lacking u v REGIONS → entry_with u stamp ≡ None
whole_lacking u v None tidy fewer lacking = refl
whole_lacking u v (Some stamp) tidy fewer lacking = among_lacking u v stamp REGIONS tidy fewer lacking

whole_fewer : (u v : ℕ → Option Part) (stamp : Option Stamp) → AreTidy v → ((r : ℕ) → (u r ≡ None) ⊎ (u r ≡ v r)) → (entry_with u stamp ≡ None) ⊎ (entry_with u stamp ≡ entry_with v stamp)
whole_fewer u v stamp tidy fewer = elim (same_or_lacking u v REGIONS fewer) [
  | inl same ↦ inr (whole_same u v stamp same)
  | inr lacking ↦ inl (whole_lacking u v stamp tidy fewer lacking)
]

same_stamps : (u v : Records) (n : ℕ) → u.instance ≡ v.instance → entry u n ≡ entry_with (parts u n) (stamp_at n (reigns v.instance))
same_stamps u v n same = ap (λ (i : List InstanceRecord). entry_with (parts u n) (stamp_at n (reigns i))) same

entry_fewer : (u v : Records) (n : ℕ) → AreTidy (parts v n) → u.instance ≡ v.instance → HasFewer u v → (entry u n ≡ None) ⊎ (entry u n ≡ entry v n)
entry_fewer u v n tidy same fewer = elim (whole_fewer (parts u n) (parts v n) (stamp_at n (reigns v.instance)) tidy (fewer n)) [
  | inl none ↦ inl (same_stamps u v n same ∙ none)
  | inr here ↦ inr (same_stamps u v n same ∙ here)
]

entry_stays : (u v : Records) (k : ℕ) → u.instance ≡ v.instance → ((r : ℕ) → parts u k r ≡ parts v k r) → entry u k ≡ entry v k
entry_stays u v k same keeps = same_stamps u v k same ∙ whole_same (parts u k) (parts v k) (stamp_at k (reigns v.instance)) (keeps 0, (keeps 1, (keeps 2, (keeps 3, (keeps 4, (keeps 5, (keeps 6, (keeps 7, tt))))))))

entry_either : (u v : Records) (n k : ℕ) → TidyPast n v → u.instance ≡ v.instance → HasFewer u v → ((k r : ℕ) → k ≤ n → parts u k r ≡ parts v k r) → (entry u k ≡ None) ⊎ (entry u k ≡ entry v k)
entry_either u v n k tidy same fewer keeps = elim (cases_lt n k) [
  | inl past ↦ entry_fewer u v k (tidy k past) same fewer
  | inr within ↦ inr (entry_stays u v k same (λ r. keeps k r within))
]

-- a run of which some entries are gone
runs_fewer : (at to : ℕ → Option Entry) (n : ℕ) (seq : Sequence) → ((k : ℕ) → (to k ≡ None) ⊎ (to k ≡ at k)) → EntriesFrom at n seq → at (n + length seq) ≡ None
    → (j : ℕ) × (j ≤ length seq) × EntriesFrom to n (take j seq) × (to (n + j) ≡ None)
runs_fewer at to n [] fewer h end = (0, omega arith, tt, elim (fewer (n + 0)) [ inl none ↦ none | inr same ↦ same ∙ end ])
runs_fewer at to n (e ∷ es) fewer h end = elim (fewer n) [
  | inl none ↦ (0, omega arith, tt, subst (λ (k : ℕ). to k ≡ None) (omega arith) none)
  | inr same ↦
      let more = runs_fewer at to (suc n) es fewer h.1 (subst (λ (k : ℕ). at k ≡ None) (omega arith) end) in
      (suc more.0, omega (arith, more.1), (same ∙ h.0, more.2), subst (λ (k : ℕ). to k ≡ None) (omega arith) more.3)
]

run_at : (at : ℕ → Option Entry) (n j : ℕ) (seq : Sequence) → EntriesFrom at n seq → j < length seq → (e : Entry) × (at (n + j) ≡ Some e)
run_at at n j [] h low = absurd (omega arith)
run_at at n zero (e ∷ es) h low = (e, subst (λ (k : ℕ). at k ≡ Some e) (omega arith) h.0)
run_at at n (suc j) (e ∷ es) h low = let more = run_at at (suc n) j es h.1 (omega arith) in (more.0, subst (λ (k : ℕ). at k ≡ Some more.0) (omega arith) more.1)

pub front : (u v : Records) (seq : Sequence) (n : ℕ) → IsSequence v seq → TidyPast n v → u.instance ≡ v.instance → HasFewer u v
    → n ≤ length seq → ((k r : ℕ) → k ≤ n → parts u k r ≡ parts v k r)
    → (j : ℕ) × (n ≤ j) × (j ≤ length seq) × IsSequence u (take j seq)
front u v seq n h tidy same fewer few keeps =
    let found = runs_fewer (entry v) (entry u) 1 seq (λ k. entry_either u v n k tidy same fewer keeps) h.each (subst (λ (k : ℕ). entry v k ≡ None) (omega arith) h.ended) in (
      found.0,
      long found.0 found.1 found.3,
      found.1,
      record {
        each = found.2;
        ended = subst (λ (k : ℕ). entry u k ≡ None) (omega (arith, length-take-le found.0 seq found.1)) found.3;
      },
    )
  where
    long : (j : ℕ) → j ≤ length seq → entry u (1 + j) ≡ None → n ≤ j
    long j low none = elim (cases_lt j n) [
      | inr enough ↦ enough
      | inl short ↦
          let there = run_at (entry v) 1 j seq h.each (omega arith) in
          let stays : entry u (1 + j) ≡ entry v (1 + j) = entry_stays u v (1 + j) same (λ r. keeps (1 + j) r (omega arith)) in
          let is : entry v (1 + j) ≡ Some there.0 = there.1 in
          cc
    ]

pub tidy_same : (u v : ℕ → Option Part) → ((r : ℕ) → u r ≡ v r) → AreTidy v → AreTidy u
tidy_same u v same tidy = record {
  alike = λ r q p o is_p is_o. tidy.alike r q p o (sym (same r) ∙ is_p) (sym (same q) ∙ is_o);
  within = λ r p is. tidy.within r p (sym (same r) ∙ is);
}

tidy_none : (u : ℕ → Option Part) → ((r : ℕ) → u r ≡ None) → AreTidy u
tidy_none u none = record {
  alike = λ r q p o is_p is_o. let no : u r ≡ None = none r in cc;
  within = λ r p is. let no : u r ≡ None = none r in cc;
}

pub tidy_start : (s : Records) (n : ℕ) → NonePast n s → TidyPast n s
tidy_start s n none k past = tidy_none (parts s k) (λ r. none k r past)

pub tidy_parts : (s : Records) (h n g : ℕ) (part : ℕ → Option Part) → TidyPast h s → AreNumbered n part → survives s.instance g n ≡ true
    → ((r : ℕ) → parts s n r ≡ None) → AreTidy part → TidyPast h (with_parts s g part)
tidy_parts s h n g part tidy numbered lives none new k past = elim (cases_eq k n) [
  | inl here ↦ subst (λ (j : ℕ). AreTidy (parts (with_parts s g part) j)) (sym here) (tidy_same (parts (with_parts s g part) n) part (parts_here s n g part numbered lives none) new)
  | inr other ↦ tidy_same (parts (with_parts s g part) k) (parts s k) (parts_other s k n g part numbered other) (tidy k past)
]

pub sound_front : (of : Sequence → Globals) (instance : List InstanceRecord) (seq : Sequence) (journal : List Placed) (database : Blocks) (j : ℕ)
    → IsSoundRegion of instance seq journal database → j ≤ length seq → IsSoundRegion of instance (take j seq) journal database
sound_front of instance seq journal database j sound few t low =
    let e : Chosen = chosen instance t journal in
    let long : length (take j seq) ≡ j = length-take-le j seq few in
    let fits : e.number ≤ t = targets.number instance t journal in
    elim (sound t (omega arith)) [
      | inl needs ↦ inl needs
      | inr good ↦ inr (subst (λ (l : Sequence). Restores (image_state e database) (of l)) (sym (take-take e.number j seq (omega arith))) good)
    ]
