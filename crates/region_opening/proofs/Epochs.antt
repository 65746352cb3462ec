-- The last epoch of a region, by the signs of its records.
use Rattle.std.proofs.Common.{◌≡◌, ℕ, suc, ◌-◌, ◌<◌, ◌≤◌, List, ◌∷◌, length, take, drop, get_or, Option, Some, None, refl, sym, ◌∙◌, ap, subst, arith}
use Rattle.std.specs.Option.{option_or, option_map, unwrap_or}
use Rattle.std.proofs.lemmas.List.{take-append-drop, drop_all}
use Rattle.journal_defs.specs.Journal.{JournalRecord, Pini, Epoch, Pblk, Tcom}
use Rattle.journal_defs.specs.Instance.{InstanceRecord}
use Rattle.journal_defs.specs.Sequence.{Placed}
use Rattle.journal_defs.specs.Epochs.{Chosen, epoch_in, last_epoch, chosen, beginning}
use Rattle.jnl_file.proofs.Zips.{zip_length}
use Rattle.entry_index.specs.declared.placed.PlacedSign.{PlacedSign}
use Rattle.entry_index.specs.declared.sign.Sign.{Sign}
use Rattle.entry_index.specs.RecordSigns.{sign_of}
use Rattle.region_opening.specs.declared.epoch.EpochAt.{EpochAt}
use Rattle.region_opening.specs.Epochs.{chosen_at}
use Rattle.region_opening.specs.Signs.{Says, Say, epoch_by}
use Rattle.region_opening.proofs.Said.{said_at}
use Rattle.mupip_recover.proofs.Epochs.{last_there}

-- the epoch that a record is, by its sign
by_kind : (rs : List InstanceRecord) (t g : ℕ) (what : JournalRecord) (behind : List Placed) → epoch_in rs t g what behind ≡ epoch_by rs t g (sign_of what) behind
by_kind rs t g (Epoch m) behind = refl
by_kind rs t g (Pini s) behind = refl
by_kind rs t g (Pblk b) behind = refl
by_kind rs t g (Tcom p) behind = refl

by_sign : (rs : List InstanceRecord) (t : ℕ) (s : PlacedSign) (p : Placed) (behind : List Placed) → Says s p → epoch_in rs t p.generation p.what behind ≡ epoch_by rs t s.generation s.sign behind
by_sign rs t s p behind says =
    by_kind rs t p.generation p.what behind ∙ ap (λ (g : ℕ). epoch_by rs t g (sign_of p.what) behind) (sym says.generation) ∙ ap (λ (k : Sign). epoch_by rs t s.generation k behind) (sym says.what)

-- the epoch with these records behind it
abbrev pub with_behind : List Placed → EpochAt → Chosen
with_behind behind e = record { number = e.number; blocks = e.blocks; after = behind }

-- no epoch is behind a place: what the sign before it says is the last one
pub last_before : (rs : List InstanceRecord) (t : ℕ) (ss : List PlacedSign) (js : List Placed) (n : ℕ) (s d : PlacedSign) (o : Option EpochAt) → Say ss js → 0 < n → n ≤ length ss → s ≡ get_or ss (n - 1) d
    → ((behind : List Placed) → epoch_by rs t s.generation s.sign behind ≡ option_map (with_behind behind) o) → last_epoch rs t (drop n js) ≡ None → last_epoch rs t (drop (n - 1) js) ≡ option_map (with_behind (drop n js)) o
last_before rs t ss js n s d o all some within is epoch none =
    let next : suc (n - 1) ≡ n = omega (arith, some) in
    let at = said_at ss js (n - 1) d (omega (arith, some, within)) all in
    let p = at.0 in
    let says : Says s p = subst (λ (x : PlacedSign). Says x p) (sym is) at.2 in
    let behind = drop n js in
    ap (last_epoch rs t) (at.1 ∙ ap (λ (m : ℕ). p ∷ drop m js) next)
    ∙ ap (λ (x : Option Chosen). option_or x (epoch_in rs t p.generation p.what behind)) none
    ∙ by_sign rs t s p behind says ∙ epoch behind

-- behind the last record there is none
pub none_last : (rs : List InstanceRecord) (t : ℕ) (ss : List PlacedSign) (js : List Placed) (n : ℕ) → n ≡ length ss → Say ss js → last_epoch rs t (drop n js) ≡ None
none_last rs t ss js n is all =
    let long : length js ≤ n = let same : length ss ≡ length js = zip_length Says ss js all in omega (arith, same, is) in
    ap (last_epoch rs t) (drop_all n js long)

-- one that is found is the chosen one
chosen_there : (rs : List InstanceRecord) (t : ℕ) (js : List Placed) (i : ℕ) (e : Chosen) → last_epoch rs t (drop i js) ≡ Some e → chosen rs t js ≡ e
chosen_there rs t js i e h =
    let last : last_epoch rs t js ≡ Some e = ap (last_epoch rs t) (sym (take-append-drop i js)) ∙ last_there rs t (take i js) (drop i js) e h in
    ap (λ (o : Option Chosen). unwrap_or o (beginning js)) last

pub chosen_before : (rs : List InstanceRecord) (t : ℕ) (ss : List PlacedSign) (js : List Placed) (n : ℕ) (s d : PlacedSign) (e : EpochAt) → Say ss js → 0 < n → n ≤ length ss → s ≡ get_or ss (n - 1) d
    → ((behind : List Placed) → epoch_by rs t s.generation s.sign behind ≡ Some (with_behind behind e)) → e.after ≡ n → last_epoch rs t (drop n js) ≡ None → chosen rs t js ≡ chosen_at e js
chosen_before rs t ss js n s d e all some within is epoch after none =
    chosen_there rs t js (n - 1) (with_behind (drop n js) e) (last_before rs t ss js n s d (Some e) all some within is epoch none)
    ∙ ap (λ (m : ℕ). with_behind (drop m js) e) (sym after)

pub none_chosen : (rs : List InstanceRecord) (t : ℕ) (js : List Placed) (n : ℕ) → n ≡ 0 → last_epoch rs t (drop n js) ≡ None → chosen rs t js ≡ beginning js
none_chosen rs t js n zero h =
    let last : last_epoch rs t js ≡ None = subst (λ (m : ℕ). last_epoch rs t (drop m js) ≡ None) zero h in
    ap (λ (o : Option Chosen). unwrap_or o (beginning js)) last
