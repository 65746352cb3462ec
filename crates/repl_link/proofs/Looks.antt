-- What looking at the other end tells.
use Rattle.std.proofs.Common.{◌≡◌, ℕ, suc, ◌+◌, ◌-◌, ◌≤◌, Bool, true, false, List, [], ◌∷◌, ◌++◌, length, ap, sym, refl, ◌∙◌, arith, append_assoc, append-nil, IsTrue, if◌then◌else◌}
use Rattle.std.proofs.lemmas.List.{length-append}
use mathlib.Core.List.{IsPrefix as Begins}
use Rattle.global_defs.specs.Prefix.{IsPrefix}
use Rattle.wire_defs.specs.Links.{Sending, Receiving, SendingLooked, ReceivingLooked, KnowAll, Carries}
use Rattle.repl_link.specs.Items.{Symbol, Byte, End, bytes_of, has_end}
use Rattle.repl_link.specs.EndLaws.{has_end-ended}
use Rattle.repl_link.proofs.ItemLists.{has_end-append, bytes_of-taken, bytes_of-ended, bytes_of-more}

-- items without an end are all bytes
pub length-bytes_of : (items : List Symbol) → has_end items ≡ false → length (bytes_of items) ≡ length items
length-bytes_of [] open_end = refl
length-bytes_of (Byte b ∷ items) open_end = ap (λ n. suc n) (length-bytes_of items open_end)
length-bytes_of (End ∷ items) open_end = cc

-- an end that learned of more items knows its unread bytes as before, and perhaps more
pub unread_more : (ended : Bool) (known known' : List Symbol) → Begins known known' → IsPrefix (if ended then [] else bytes_of known) (if ended then [] else bytes_of known')
unread_more true known known' front = ([], refl)
unread_more false known known' front = let more = bytes_of-more known front.0 in (more.0, ap bytes_of (sym front.1) ∙ more.1)

-- an end that knows the end has no more bytes to learn of
pub unread_whole : (received known known' : List Symbol) (ended : Bool) → Begins known known' → has_end received ≡ ended → has_end (received ++ known) ≡ true
    → (if ended then [] else bytes_of known') ≡ (if ended then [] else bytes_of known)
unread_whole received known known' true front is e = refl
unread_whole received known known' false front is e = ap bytes_of (sym front.1) ∙ bytes_of-ended known front.0 (sym (has_end-append received known is) ∙ e)

pub ended_more : (received known known' : List Symbol) → Begins known known' → has_end (received ++ known) ≡ true → has_end (received ++ known') ≡ true
ended_more received known known' front e =
    ap (λ l. has_end (received ++ l)) (sym front.1) ∙ ap has_end (sym (append_assoc received known front.0)) ∙ has_end-ended (received ++ known) front.0 e

-- once all items are known, so are all bytes
pub all_unread : (received known sent : List Symbol) (ended : Bool) → has_end received ≡ ended → received ++ known ≡ sent
    → bytes_of received ++ (if ended then [] else bytes_of known) ≡ bytes_of sent
all_unread received known sent ended is all = bytes_of-taken received known ended is ∙ ap bytes_of all

-- and each place that holds no byte is free, beside that of the end
pub all_places : (received known sent : List Symbol) (ended finished : Bool) (free : ℕ) → has_end received ≡ ended → has_end sent ≡ finished → received ++ known ≡ sent
    → 4097 + length received ≤ free + length sent → finished ≡ false
    → 4096 ≤ (if finished then 0 else free - 1) + length (if ended then [] else bytes_of known)
all_places received known sent true finished free is end all room open_end =
    let bad : true ≡ false = sym (has_end-ended received known is) ∙ ap has_end all ∙ end ∙ open_end in cc
all_places received known sent false true free is end all room open_end = cc
all_places received known sent false false free is end all room open_end =
    let plain : has_end known ≡ false = sym (has_end-append received known is) ∙ ap has_end all ∙ end in
    let same : length (bytes_of known) ≡ length known = length-bytes_of known plain in
    let parts : length received + length known ≡ length sent = sym (length-append received known) ∙ ap length all in
    omega arith

pub begins_twice : (a b c : List Symbol) → Begins a b → Begins b c → Begins a c
begins_twice a b c first second = (first.0 ++ second.0, sym (append_assoc a first.0 second.0) ∙ ap (λ l. l ++ second.0) first.1 ∙ second.1)

-- what was known before the ends looked
pub carries : (s s' : Sending) (r r' : Receiving) → SendingLooked s s' → ReceivingLooked r r' → KnowAll s' r'
    → (IsTrue r.closed → IsTrue r.ended × (r.unread ≡ [])) → Carries s r
carries s s' r r' tx rx all over =
    let finished : IsTrue r.ended → IsTrue s.finished = λ e. sym tx.finished ∙ sym all.ended ∙ rx.ended e in
    let whole : s.sent ≡ r.received ++ r'.unread = sym tx.sent ∙ sym all.unread ∙ ap (λ l. l ++ r'.unread) rx.received in
    record {
      prefix = (r'.unread, whole);
      unread = (rx.unread.0, whole ∙ ap (λ l. r.received ++ l) rx.unread.1 ∙ sym (append_assoc r.received r.unread rx.unread.0));
      ended = λ e. (finished e, whole ∙ ap (λ l. r.received ++ l) (rx.whole e));
      closed = λ e. let o = over e in (finished o.0, whole ∙ ap (λ l. r.received ++ l) (rx.whole o.0 ∙ o.1) ∙ append-nil r.received);
    }

-- the places known to be free after one look are known after the next
pub room_kept : (slots capacity got got' gone gone' free free' : ℕ) → slots + gone ≡ capacity + got → capacity ≡ 4097 → slots ≡ free → got' ≡ got → gone' ≡ gone
    → free ≤ free' → 4097 + got' ≤ free' + gone'
room_kept slots capacity got got' gone gone' free free' all is same got_is gone_is more = omega arith
