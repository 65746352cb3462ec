-- What one call of a link in memory moves.
use Rattle.std.proofs.Common.{◌≡◌, ℕ, ◌+◌, ◌-◌, ◌≤◌, Bool, true, false, Option, Some, None, option_map, IfSome, List, [], ◌++◌, ap, sym, refl, ◌∙◌, subst, arith, append_assoc, length, map, take, drop, if◌then◌else◌}
use Rattle.std.proofs.lemmas.List.{length-append, length-take-le, length-map, take-append-le, take-append-drop}
use Rattle.global_defs.specs.Prefix.{IsPrefix}
use Rattle.repl_link.specs.Items.{Symbol, Byte, bytes_of, has_end, Drained}
use Rattle.repl_link.specs.EndLaws.{has_end-ended}
use Rattle.repl_link.proofs.ItemLists.{bytes_of-append, has_end-append, bytes_of-taken, bytes_of-ended, bytes_of-more, sent_front}

-- what is left of an order, and what was moved, is the order as before
pub order_stays : (left : Option ℕ) (before after moved : ℕ) → after ≡ before + moved → ((x : ℕ) → left ≡ Some x → moved ≤ x)
    → option_map (λ l. l + after) (option_map (λ most. most - moved) left) ≡ option_map (λ l. l + before) left
order_stays None before after moved is fits = refl
order_stays (Some x) before after moved is fits = let enough = fits x refl in ap {B = Option ℕ} (λ n. Some n) (omega arith)

-- what is at most as much as may be moved is at most what is left
pub fits_left : (left : Option ℕ) (n most : ℕ) → IfSome left (λ x. most ≤ x) → n ≤ most → (x : ℕ) → left ≡ Some x → n ≤ x
fits_left left n most fits le x is =
    let P : Option ℕ → Type 0 = λ o. IfSome o (λ y. most ≤ y) in
    let here : most ≤ x = subst P is fits in
    omega arith

-- what a receiving end holds after it took items that hold these bytes
pub record Pulled (before after known known' : List Symbol) (bytes : List ℕ) (b : Bool) : Type 0 where
  pub received : bytes_of after ≡ bytes_of before ++ bytes
  pub ends : has_end after ≡ b
  pub unread : IsPrefix (bytes_of known) (bytes ++ (if b then [] else bytes_of known'))
  pub ended : has_end (before ++ known) ≡ true → has_end (after ++ known') ≡ true
  pub whole : has_end (before ++ known) ≡ true → bytes ++ (if b then [] else bytes_of known') ≡ bytes_of known
  pub at_end : b ≡ true → ((if b then [] else bytes_of known') ≡ []) × (has_end (after ++ known') ≡ true)

pub pulled : (before after known known' : List Symbol) (bytes : List ℕ) (b : Bool) → has_end before ≡ false → Drained before after known known' bytes b
    → Pulled before after known known' bytes b
pulled before after known known' bytes b open_end d =
    let all : has_end after ≡ b = ap has_end d.after_is ∙ has_end-append before d.taken open_end ∙ d.ended_is in
    let rest = d.known_first.0 in
    let more = bytes_of-more known rest in
    let all_bytes_known : bytes ++ (if b then [] else bytes_of known') ≡ bytes_of (known ++ rest) =
    ap (λ l. l ++ (if b then [] else bytes_of known')) d.bytes_are ∙ bytes_of-taken d.taken known' b d.ended_is ∙ ap bytes_of (sym d.known_first.1) in
    record {
      received = ap bytes_of d.after_is ∙ bytes_of-append before d.taken open_end ∙ ap (λ l. bytes_of before ++ l) (sym d.bytes_are);
      ends = all;
      unread = (more.0, all_bytes_known ∙ more.1);
      ended = λ e. ap (λ l. has_end (l ++ known')) d.after_is ∙ ap has_end (append_assoc before d.taken known' ∙ ap (λ l. before ++ l) (sym d.known_first.1) ∙ sym (append_assoc before known rest)) ∙ has_end-ended (before ++ known) rest e;
      whole = λ e. all_bytes_known ∙ bytes_of-ended known rest (sym (has_end-append before known open_end) ∙ e);
      at_end = λ e. (ap (λ v. if v then [] else bytes_of known') e, has_end-ended after known' (all ∙ e));
    }

-- what a sending end holds after it put a beginning of so many of the bytes
pub record Pushed (before after : List Symbol) (bytes : List ℕ) (count n : ℕ) : Type 0 where
  pub fits : n ≤ count
  pub sent : bytes_of after ≡ bytes_of before ++ take n bytes
  pub ends : has_end after ≡ false
  pub length_is : length (bytes_of after) ≡ length (bytes_of before) + n

pub pushed : (before after front back items : List Symbol) (bytes : List ℕ) (count : ℕ) → has_end before ≡ false → after ≡ before ++ front
    → count ≤ length bytes → front ++ back ≡ take count items → take (length (take count bytes)) items ≡ map Byte (take count bytes) → Pushed before after bytes count (length front)
pushed before after front back items bytes count open_end is fits parts filled =
    let len : length (take count bytes) ≡ count = length-take-le count bytes fits in
    let whole : front ++ back ≡ map Byte (take count bytes) = parts ∙ ap (λ n. take n items) (sym len) ∙ filled in
    let moved = sent_front before front back (take count bytes) open_end whole in
    let mapped : length (map {A = ℕ} {B = Symbol} Byte (take count bytes)) ≡ length (take count bytes) = simp length-map in
    let short : length front + length back ≡ count = sym (length-append front back) ∙ ap length whole ∙ mapped ∙ len in
    let same : take (length front) (take count bytes) ≡ take (length front) bytes =
    sym (take-append-le (length front) (take count bytes) (drop count bytes) (omega arith)) ∙ ap (λ l. take (length front) l) (take-append-drop count bytes) in
    let sent : bytes_of after ≡ bytes_of before ++ take (length front) bytes = ap bytes_of is ∙ moved.0 ∙ ap (λ l. bytes_of before ++ l) same in
    record {
      fits = omega arith;
      sent = sent;
      ends = ap has_end is ∙ moved.1;
      length_is = ap length sent ∙ length-append (bytes_of before) (take (length front) bytes) ∙ ap (λ n. length (bytes_of before) + n) (length-take-le (length front) bytes (omega arith));
    }
