-- What a site has in memory beside its contents.
use Rattle.std.proofs.Common.{◌≡◌, ℕ, List, [], ◌∷◌, ◌++◌, length, sym, ◌∙◌, ap, append-nil}
use Rattle.std.specs.Prelude.{fold}
use Rattle.std.specs.List.{flat_map}
use Rattle.std.specs.FinMap as globals
use Rattle.std.proofs.lemmas.List.Concat.{flat_map-append}
use Rattle.std.proofs.lemmas.List.Sums.{fold-append}
use Rattle.global_defs.specs.Entry.{Update, Entry, Sequence, Globals, apply, state}
use Rattle.site_defs.specs.Contents.{Contents}
use Rattle.site_store.specs.declared.memory.Memory.{Memory}
use Rattle.site_store.specs.Site.{Remembers, count_of}

pub remembered_length : (c : Contents) (h : ℕ) (s : Memory) → Remembers c h s → count_of s ≡ length c.sequence
remembered_length c h s r = r.count

state_more : (es : Sequence) (e : Entry) → state (es ++ e ∷ []) ≡ fold apply (state es) e.transaction.updates
state_more es e =
    let f : Entry → List Update = λ (x : Entry). x.transaction.updates in
    ap (fold apply globals.empty) (flat_map-append f es (e ∷ []) ∙ ap (λ (us : List Update). flat_map f es ++ us) (append-nil e.transaction.updates)) ∙ fold-append apply globals.empty (flat_map f es) e.transaction.updates

pub globals_more : (old new : Globals) (seq : Sequence) (e : Entry) → old ≡ state seq → new ≡ fold apply old e.transaction.updates → new ≡ state (seq ++ e ∷ [])
globals_more old new seq e are is = is ∙ ap (λ (g : Globals). fold apply g e.transaction.updates) are ∙ sym (state_more seq e)
