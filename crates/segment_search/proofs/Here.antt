-- Where a search is among the bytes that a reader had at its start.
use Rattle.std.proofs.Common.{◌≡◌, Bool, true, false, cond, is_ok, ℕ, zero, suc, ◌+◌, ◌-◌, ◌^◌, ◌<◌, ◌≤◌, Option, None, Some, IfSome, List, [], ◌∷◌, ◌++◌, length, take, drop, refl, sym, ap, ◌∙◌, append-nil, arith, subst, inl}
use Rattle.std.specs.Bool.{⊤}
use Rattle.std.specs.List.{filter, range_with_len}
use Rattle.std.proofs.lemmas.List.{drop-drop, drop-append-le, length-drop, length-append, map-id}
use Rattle.std.proofs.lemmas.List.FromFn.{map-range_with_len_more}
use Rattle.std.proofs.lemmas.List.Elements.{filter-append}
use Rattle.std.specs.Io.KnownBytes.{IsAtEnd, Keeps}
use Rattle.segment_image.specs.Head.{header_of}
use Rattle.segment_search.specs.Places.{words_in, said_words, is_segment_at, segments_before, IsNth, ahead}
use Rattle.segment_image.proofs.WordsOfBytes.{length-words_in}
use Rattle.segment_search.proofs.Headers.{none-from_short, said_words-from_header}

-- The words ahead are those from a word on, of the bytes at the start. `more` segments are still to be found: `nth`, less those before the
-- word.
abbrev pub Here : Option (List ℕ) → ℕ → ℕ → ℕ → Option (List ℕ) → Type 0
Here None word nth more now = ⊤
Here (Some bytes) word nth more None = ⊥
Here (Some bytes) word nth more (Some words) =
    (words ≡ drop word (words_in bytes)) × (word ≤ length (words_in bytes)) × (length (segments_before (words_in bytes) word) + more ≡ nth)

pub Here-start : (a : Option (List ℕ)) (nth : ℕ) → Here a 0 nth nth (ahead [] a)
Here-start None nth = tt
Here-start (Some bytes) nth = (refl, omega arith, omega arith)

pub Here-kept : (a x y : Option (List ℕ)) (word nth more : ℕ) → Here a word nth more x → Keeps x y → Here a word nth more y
Here-kept None x y word nth more here kept = tt
Here-kept (Some bytes) None y word nth more here kept = absurd here
Here-kept (Some bytes) (Some u) None word nth more here kept = absurd kept
Here-kept (Some bytes) (Some u) (Some v) word nth more here kept = (kept ∙ here.0, here.1, here.2)

numbers_more : (n : ℕ) → range_with_len 0 (n + 1) ≡ range_with_len 0 n ++ n ∷ []
numbers_more n = sym (map-id (range_with_len 0 (n + 1))) ∙ map-range_with_len_more (λ x. x) 0 n n (omega arith)
    ∙ ap (λ l. l ++ n ∷ []) (map-id (range_with_len 0 n))

-- what is counted with one more word
counted_more : (words : List ℕ) (at : ℕ) → length (segments_before words (at + 1)) ≡ length (segments_before words at) + cond (is_segment_at words at) 1 0
counted_more words at =
    let split : segments_before words (at + 1) ≡ segments_before words at ++ filter (is_segment_at words) (at ∷ []) =
    ap (filter (is_segment_at words)) (numbers_more at) ∙ filter-append (is_segment_at words) (range_with_len 0 at) (at ∷ []) in
    ap length split ∙ length-append (segments_before words at) (filter (is_segment_at words) (at ∷ []))
    ∙ ap (λ n. length (segments_before words at) + n) (one (is_segment_at words at))
  where
    one : (b : Bool) → length (cond b (at ∷ []) []) ≡ cond b 1 0
    one true = refl
    one false = refl

-- whether there is a segment here, from the words ahead
stands : (words ahead_words : List ℕ) (at : ℕ) (b : Bool) → ahead_words ≡ drop at words → is_ok (header_of (said_words ahead_words)) ≡ b → is_segment_at words at ≡ b
stands words ahead_words at b e h = ap (λ l. is_ok (header_of (said_words l))) (sym e) ∙ h

-- the words ahead, without the first of them
behind : (words front left : List ℕ) (at : ℕ) → front ++ left ≡ drop at words → 1 ≤ length front → drop 1 front ++ left ≡ drop (at + 1) words
behind words front left at e some = sym (drop-append-le 1 front left some) ∙ ap (drop 1) e ∙ drop-drop 1 at words

further : (words front left : List ℕ) (at : ℕ) → front ++ left ≡ drop at words → 1 ≤ length front → at + 1 ≤ length words
further words front left at e some = let same : length (front ++ left) ≡ length (drop at words) = ap length e in
    omega (arith, same, some, length-append front left, length-drop at words)

-- there is no segment here
pub Here-passed : (a : Option (List ℕ)) (word nth more same : ℕ) (front now behind_it : List ℕ) (left after : Option (List ℕ))
    → Here a word nth more (ahead front left) → Keeps (ahead front left) (ahead now after) → 1 ≤ length now
    → IfSome (ahead front left) (λ words. is_ok (header_of (said_words words)) ≡ false) → behind_it ≡ drop 1 now → same ≡ more
    → Here a (word + 1) nth same (ahead behind_it after)
Here-passed None word nth more same front now behind_it left after here kept some none e f = tt
Here-passed (Some bytes) word nth more same front now behind_it None after here kept some none e f = absurd here
Here-passed (Some bytes) word nth more same front now behind_it (Some rest) None here kept some none e f = absurd kept
Here-passed (Some bytes) word nth more same front now behind_it (Some rest) (Some last) here kept some none e f =
    let w = words_in bytes in
    let no = stands w (front ++ words_in rest) word false here.0 none in
    let count : length (segments_before w (word + 1)) ≡ length (segments_before w word) + 0 =
    counted_more w word ∙ ap (λ b. length (segments_before w word) + cond b 1 0) no in
    let was = here.2 in
    let at : now ++ words_in last ≡ drop word w = kept ∙ here.0 in
    (ap (λ l. l ++ words_in last) e ∙ behind w now (words_in last) word at some, further w now (words_in last) word at some, omega (arith, count, was, f))

-- there is a segment here, and it is not the one that is searched for
pub Here-counted : (a : Option (List ℕ)) (word nth more fewer size : ℕ) (front behind_it : List ℕ) (left : Option (List ℕ)) → Here a word nth more (ahead front left)
    → 1 ≤ length front → size ≤ length front → is_ok (header_of (take size front)) ≡ true → 1 ≤ more → behind_it ≡ drop 1 front → fewer + 1 ≡ more
    → Here a (word + 1) nth fewer (ahead behind_it left)
Here-counted None word nth more fewer size front behind_it left here some there lawful wanted e f = tt
Here-counted (Some bytes) word nth more fewer size front behind_it None here some there lawful wanted e f = absurd here
Here-counted (Some bytes) word nth more fewer size front behind_it (Some rest) here some there lawful wanted e f =
    let w = words_in bytes in
    let said = said_words-from_header front (words_in rest) size there lawful in
    let yes = stands w (front ++ words_in rest) word true here.0 (ap (λ l. is_ok (header_of l)) said ∙ lawful) in
    let count : length (segments_before w (word + 1)) ≡ length (segments_before w word) + 1 =
    counted_more w word ∙ ap (λ b. length (segments_before w word) + cond b 1 0) yes in
    let was = here.2 in
    (ap (λ l. l ++ words_in rest) e ∙ behind w front (words_in rest) word here.0 some, further w front (words_in rest) word here.0 some, omega (arith, count, was, wanted, f))

-- the segment that is searched for is here
pub Here-found : (a : Option (List ℕ)) (word nth more size : ℕ) (front segment : List ℕ) (left : Option (List ℕ)) → Here a word nth more (ahead front left)
    → size ≤ length front → is_ok (header_of (take size front)) ≡ true → more ≡ 1 → segment ≡ take size front
    → IfSome a (λ bytes. IsNth (words_in bytes) nth word segment)
Here-found None word nth more size front segment left here there lawful last is = tt
Here-found (Some bytes) word nth more size front segment None here there lawful last is = absurd here
Here-found (Some bytes) word nth more size front segment (Some rest) here there lawful last is =
    let w = words_in bytes in
    let said = said_words-from_header front (words_in rest) size there lawful in
    let was = here.2 in
    record {
      stands = stands w (front ++ words_in rest) word true here.0 (ap (λ l. is_ok (header_of l)) said ∙ lawful);
      segment_is = is ∙ sym said ∙ ap said_words here.0;
      earlier = omega (arith, was, last);
    }

-- too few words are left for a segment
none_behind : (words : List ℕ) (at n : ℕ) → length (drop at words) < 16 → length (segments_before words (at + n)) ≡ length (segments_before words at)
none_behind words at zero few = ap (λ k. length (segments_before words k)) (omega arith)
none_behind words at (suc n) few =
    let on : at + suc n ≡ at + n + 1 = omega arith in
    let short : length (drop (at + n) words) < 16 = omega (arith, few, length-drop at words, length-drop (at + n) words) in
    let no : is_segment_at words (at + n) ≡ false = none-from_short (drop (at + n) words) (inl short) in
    let count : length (segments_before words (at + n + 1)) ≡ length (segments_before words (at + n)) + 0 =
    counted_more words (at + n) ∙ ap (λ b. length (segments_before words (at + n)) + cond b 1 0) no in
    ap (λ k. length (segments_before words k)) on ∙ omega (arith, count, none_behind words at n few)

pub Here-ended : (a : Option (List ℕ)) (word nth more : ℕ) (front : List ℕ) (left : Option (List ℕ)) → Here a word nth more (ahead front left)
    → length front < 16 → IsAtEnd left → 1 ≤ more → IfSome a (λ bytes. length (segments_before (words_in bytes) (length (words_in bytes))) < nth)
Here-ended None word nth more front left here few end wanted = tt
Here-ended (Some bytes) word nth more front None here few end wanted = absurd here
Here-ended (Some bytes) word nth more front (Some rest) here few end wanted =
    let w = words_in bytes in
    let all : front ≡ drop word w = sym (append-nil front) ∙ ap (λ l. front ++ words_in l) (sym end) ∙ here.0 in
    let short : length (drop word w) < 16 = subst (λ (l : List ℕ). length l < 16) all few in
    let within = here.1 in
    let was = here.2 in
    let whole : word + (length w - word) ≡ length w = omega (arith, within) in
    let same : length (segments_before w (length w)) ≡ length (segments_before w word) =
    ap (λ k. length (segments_before w k)) (sym whole) ∙ none_behind w word (length w - word) short in
    omega (arith, same, was, wanted)

-- the search went over 2^61 words
pub Here-long : (a x : Option (List ℕ)) (word nth more : ℕ) → Here a word nth more x → word ≡ 2305843009213693952 → IfSome a (λ bytes. 2 ^ 64 ≤ length bytes)
Here-long None x word nth more here e = tt
Here-long (Some bytes) None word nth more here e = absurd here
Here-long (Some bytes) (Some words) word nth more here e =
    let within = here.1 in
    omega (arith, within, e, length-words_in bytes)
