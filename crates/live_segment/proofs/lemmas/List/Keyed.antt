-- Words of records that a recorder has seen, and the keys that it finds records by: what was seen stays so.
use Rattle.std.proofs.Common.{◌≡◌, ◌≢◌, ℕ, zero, suc, ◌+◌, ◌<◌, ◌^◌, Bool, true, List, [], ◌∷◌, ◌++◌, length, slice_index, Option, Some, None, if◌then◌else◌, inl, inr, refl, sym, ap, subst, ◌∙◌, arith, eq-eqb, ne_eqb}
use Rattle.std.specs.Prelude.{is_some}
use Rattle.std.specs.Int.{div_ceil}
use Rattle.std.specs.Option.{unwrap_or}
use mathlib.Core.Logic.{dite}
use native.Mathlib.Decide.{ℕ_discrete}
use Rattle.std.proofs.lemmas.List.{get_or_push, length_push}
use Rattle.bucket_ranges.specs.Reading.{name_words}
use Rattle.segment_machine.specs.declared.actor.Actor.{Actor}
use Rattle.segment_machine.specs.declared.seen.Seen.{Seen}
use Rattle.segment_machine.specs.Actor.{word_seen}
use Rattle.segment_machine.specs.Event.{walking_event}
use Rattle.segment_machine.specs.Walking.{IsFixed, load_published}
use Rattle.segment_promises.specs.Onward.{Grows}
use Rattle.segment_promises.proofs.Growing.{still}
use Rattle.list_index.specs.Keys.{key_of, next_key}
use Rattle.list_index.proofs.KeyOrder.{key_more}
use Rattle.live_segment.specs.declared.list.index.KeyKind.{KeyKind}
use Rattle.live_segment.specs.declared.list.index.KeyKind.TheVariants as kind
use Rattle.live_segment.specs.List.Keys.{HasLookedForKey, HasLookedForName, HasLookedForSample, HasSeen, sample_key, seen_key, seen_letters, seen_name, seen_sample, seen_word, seen_words}
use Rattle.live_segment.specs.Steps.{Pass, Stepped}
use Rattle.live_segment.proofs.lemmas.List.Showing.{sees_one, seen_one}

-- ---- what was seen

pub seen_is : (seen : Seen) (word : ℕ) → HasSeen seen word → word_seen seen.words word ≡ Some (seen_word seen word)
seen_is seen word has = by (word_seen seen.words word) has
  where
    by : (o : Option ℕ) → is_some o ≡ true → o ≡ Some (unwrap_or o 0)
    by None none = absurd (cc none)
    by (Some w) one = refl

pub has_seen : (seen : Seen) (word w : ℕ) → word_seen seen.words word ≡ Some w → HasSeen seen word
has_seen seen word w is = ap (λ (o : Option ℕ). is_some o) is

pub word_is : (seen : Seen) (word w : ℕ) → word_seen seen.words word ≡ Some w → seen_word seen word ≡ w
word_is seen word w is = ap (λ (o : Option ℕ). unwrap_or o 0) is

-- ---- several words

pub words_long : (seen : Seen) (from n : ℕ) → length (seen_words seen from n) ≡ n
words_long seen from zero = refl
words_long seen from (suc n) =
    let one = length_push (seen_words seen from n) (seen_word seen (from + n)) in let front = words_long seen from n in omega (arith, one, front)

pub word_at : (seen : Seen) (from n i : ℕ) → i < n → slice_index (seen_words seen from n) i ≡ seen_word seen (from + i)
word_at seen from zero i below = absurd (omega (arith, below))
word_at seen from (suc n) i below =
    let long = words_long seen from n in
    dite (ℕ_discrete i n)
    (λ last. get_or_push (seen_words seen from n) (seen_word seen (from + n)) 0 i (omega (arith, last, long)) ∙ ap (λ (k : ℕ). seen_word seen (from + k)) (sym last))
    (λ front.
    get_or_front (seen_words seen from n) (seen_word seen (from + n)) i (omega (arith, below, front, long))
    ∙ word_at seen from n i (omega (arith, below, front)))
  where
    get_or_front : (l : List ℕ) (x i : ℕ) → i < length l → slice_index (l ++ x ∷ []) i ≡ slice_index l i
    get_or_front [] x i low = absurd (omega (arith, low))
    get_or_front (y ∷ l) x zero low = refl
    get_or_front (y ∷ l) x (suc i) low = get_or_front l x i (omega (arith, low))

-- ---- the key of a record

pub name_some : (seen : Seen) (at : ℕ) → seen_word seen (at + 2) ≡ 1 → seen_name seen at ≡ Some (key_of (seen_letters seen at))
name_some seen at is = ap (λ (b : Bool). if b then Some (key_of (seen_letters seen at)) else None) (eq-eqb (seen_word seen (at + 2)) 1 is)

pub name_none : (seen : Seen) (at : ℕ) → seen_word seen (at + 2) ≢ 1 → seen_name seen at ≡ None
name_none seen at apart = ap (λ (b : Bool). if b then Some (key_of (seen_letters seen at)) else None) (ne_eqb (seen_word seen (at + 2)) 1 apart)

pub sample_some : (seen : Seen) (at : ℕ) → seen_word seen (at + 2) ≡ 3
    → seen_sample seen at ≡ Some (sample_key (seen_word seen (at + 4)) (seen_word seen (at + 5)))
sample_some seen at is =
    ap (λ (b : Bool). if b then Some (sample_key (seen_word seen (at + 4)) (seen_word seen (at + 5))) else None) (eq-eqb (seen_word seen (at + 2)) 3 is)

pub sample_none : (seen : Seen) (at : ℕ) → seen_word seen (at + 2) ≢ 3 → seen_sample seen at ≡ None
sample_none seen at apart =
    ap (λ (b : Bool). if b then Some (sample_key (seen_word seen (at + 4)) (seen_word seen (at + 5))) else None) (ne_eqb (seen_word seen (at + 2)) 3 apart)

-- ---- more was seen

module _ (a b : Seen) (grows : Grows a.words b.words) where
  seen_still : (word : ℕ) → HasSeen a word → word_seen b.words word ≡ Some (seen_word a word)
  seen_still word has = still a.words b.words grows word (seen_word a word) (seen_is a word has)

  pub has_still : (word : ℕ) → HasSeen a word → HasSeen b word
  has_still word has = has_seen b word (seen_word a word) (seen_still word has)

  pub word_still : (word : ℕ) → HasSeen a word → seen_word b word ≡ seen_word a word
  word_still word has = word_is b word (seen_word a word) (seen_still word has)

  -- what it saw later it had seen before, if it had seen the word
  pub was_seen : (word w : ℕ) → HasSeen a word → word_seen b.words word ≡ Some w → word_seen a.words word ≡ Some w
  was_seen word w has is = seen_is a word has ∙ (sym (seen_still word has) ∙ is)

  pub words_still : (from n : ℕ) → ((i : ℕ) → i < n → HasSeen a (from + i)) → seen_words b from n ≡ seen_words a from n
  words_still from zero has = refl
  words_still from (suc n) has =
      let front = words_still from n (λ i below. has i (omega (arith, below))) in
      let last = word_still (from + n) (has n (omega arith)) in
      λ i. front i ++ last i ∷ []

  -- a record that was looked at for its name
  name_looked : (at : ℕ) → HasLookedForName a at → HasLookedForName b at
  name_looked at looked =
      let tag = word_still (at + 2) looked.tag in record {
        tag = has_still (at + 2) looked.tag;
        length_seen = λ is. has_still (at + 14) (looked.length_seen (sym tag ∙ is));
        letters = λ is i below.
            let was = sym tag ∙ is in
            let len = word_still (at + 14) (looked.length_seen was) in
            has_still (at + 15 + i) (looked.letters was i (subst (λ (n : ℕ). i < name_words n) len below));
        small = λ is i below.
            let was = sym tag ∙ is in
            let len = word_still (at + 14) (looked.length_seen was) in
            let inside = subst (λ (n : ℕ). i < name_words n) len below in
            subst (λ (w : ℕ). w < 2 ^ 64) (sym (word_still (at + 15 + i) (looked.letters was i inside))) (looked.small was i inside);
      }

  name_same : (at : ℕ) → HasLookedForName a at → seen_name b at ≡ seen_name a at
  name_same at looked = dite (ℕ_discrete (seen_word a (at + 2)) 1)
      (λ is.
      let len = word_still (at + 14) (looked.length_seen is) in
      let letters : seen_letters b at ≡ seen_letters a at =
      ap (λ (n : ℕ). seen_words b (at + 15) (name_words n)) len ∙ words_still (at + 15) (name_words (seen_word a (at + 14))) (looked.letters is) in
      name_some b at (word_still (at + 2) looked.tag ∙ is) ∙ (ap (λ (l : List ℕ). Some (key_of l)) letters ∙ sym (name_some a at is)))
      (λ apart. name_none b at (λ is. apart (sym (word_still (at + 2) looked.tag) ∙ is)) ∙ sym (name_none a at apart))

  -- or for its value
  sample_looked : (at : ℕ) → HasLookedForSample a at → HasLookedForSample b at
  sample_looked at looked =
      let tag = word_still (at + 2) looked.tag in record {
        tag = has_still (at + 2) looked.tag;
        histogram = λ is. has_still (at + 4) (looked.histogram (sym tag ∙ is));
        value = λ is. has_still (at + 5) (looked.value (sym tag ∙ is));
      }

  sample_same : (at : ℕ) → HasLookedForSample a at → seen_sample b at ≡ seen_sample a at
  sample_same at looked = dite (ℕ_discrete (seen_word a (at + 2)) 3)
      (λ is.
      let of = word_still (at + 4) (looked.histogram is) in
      let value = word_still (at + 5) (looked.value is) in
      sample_some b at (word_still (at + 2) looked.tag ∙ is) ∙ ((λ i. Some (sample_key (of i) (value i))) ∙ sym (sample_some a at is)))
      (λ apart. sample_none b at (λ is. apart (sym (word_still (at + 2) looked.tag) ∙ is)) ∙ sym (sample_none a at apart))

  -- or for its key
  pub looked_still : (of_kind : KeyKind) (at : ℕ) → HasLookedForKey of_kind a at → HasLookedForKey of_kind b at
  looked_still kind.Name at looked = name_looked at looked
  looked_still kind.Sample at looked = sample_looked at looked

  pub key_still : (of_kind : KeyKind) (at : ℕ) → HasLookedForKey of_kind a at → seen_key of_kind b at ≡ seen_key of_kind a at
  key_still kind.Name at looked = name_same at looked
  key_still kind.Sample at looked = sample_same at looked

-- ---- the words of a name are loaded

-- eight bytes are a word
pub words_of_bytes : (n : ℕ) → div_ceil n 8 ≡ name_words n
words_of_bytes n = omega arith

-- they never change
pub letter_fixed : (a : Actor) (at len i : ℕ) → word_seen a.seen.words (at + 2) ≡ Some 1 → word_seen a.seen.words (at + 14) ≡ Some len → i < name_words len
    → IsFixed a at (15 + i)
letter_fixed a at len i tag long below = inr (inl (tag, inr (inr (len, long, omega arith, inl (omega (arith, below))))))

-- one more
module _ (old new : Pass) (at i found : ℕ) (step : Stepped old (walking_event (load_published at (15 + i))) found new) where
  one_grows : Grows old.me.0.seen.words new.me.0.seen.words
  one_grows = (sees_one old new at (15 + i) found step).words

  seen_here : word_seen new.me.0.seen.words (at + 15 + i) ≡ Some found
  seen_here = let here : at + (15 + i) ≡ at + 15 + i = omega arith in ap (word_seen new.me.0.seen.words) (sym here) ∙ seen_one old new at (15 + i) found step

  pub letters_seen : ((j : ℕ) → j < i → HasSeen old.me.0.seen (at + 15 + j)) → (j : ℕ) → j < i + 1 → HasSeen new.me.0.seen (at + 15 + j)
  letters_seen seen j below = dite (ℕ_discrete j i)
      (λ here. subst (λ (n : ℕ). HasSeen new.me.0.seen (at + 15 + n)) (sym here) (has_seen new.me.0.seen (at + 15 + i) found seen_here))
      (λ apart. has_still old.me.0.seen new.me.0.seen one_grows (at + 15 + j) (seen j (omega (arith, below, apart))))

  pub letters_small : found < 2 ^ 64 → ((j : ℕ) → j < i → HasSeen old.me.0.seen (at + 15 + j))
      → ((j : ℕ) → j < i → seen_word old.me.0.seen (at + 15 + j) < 2 ^ 64) → (j : ℕ) → j < i + 1 → seen_word new.me.0.seen (at + 15 + j) < 2 ^ 64
  letters_small few seen small j below = dite (ℕ_discrete j i)
      (λ here. subst (λ (n : ℕ). seen_word new.me.0.seen (at + 15 + n) < 2 ^ 64) (sym here)
      (subst (λ (w : ℕ). w < 2 ^ 64) (sym (word_is new.me.0.seen (at + 15 + i) found seen_here)) few))
      (λ apart.
      let front : j < i = omega (arith, below, apart) in
      subst (λ (w : ℕ). w < 2 ^ 64) (sym (word_still old.me.0.seen new.me.0.seen one_grows (at + 15 + j) (seen j front))) (small j front))

  pub letters_key : (key next : ℕ) → ((j : ℕ) → j < i → HasSeen old.me.0.seen (at + 15 + j)) → key ≡ key_of (seen_words old.me.0.seen (at + 15) i)
      → next ≡ next_key key found → next ≡ key_of (seen_words new.me.0.seen (at + 15) (i + 1))
  letters_key key next seen is is_next =
      let front = words_still old.me.0.seen new.me.0.seen one_grows (at + 15) i seen in
      let last = word_is new.me.0.seen (at + 15 + i) found seen_here in
      let longer : suc i ≡ i + 1 = omega arith in
      subst (λ (n : ℕ). next ≡ key_of (seen_words new.me.0.seen (at + 15) n)) longer
      (is_next ∙ (ap (λ (k : ℕ). next_key k found) is ∙ (sym (key_more next_key 0 (seen_words old.me.0.seen (at + 15) i) found)
      ∙ (λ k. key_of (sym front k ++ sym last k ∷ [])))))

-- all of them
module _ (seen : Seen) (at len n : ℕ) (tag : word_seen seen.words (at + 2) ≡ Some 1) (long : word_seen seen.words (at + 14) ≡ Some len)
    (all : n ≡ name_words len) (has : (j : ℕ) → j < n → HasSeen seen (at + 15 + j)) (small : (j : ℕ) → j < n → seen_word seen (at + 15 + j) < 2 ^ 64) where
  many : name_words (seen_word seen (at + 14)) ≡ n
  many = ap name_words (word_is seen (at + 14) len long) ∙ sym all

  pub looked_at : HasLookedForName seen at
  looked_at = record {
    tag = has_seen seen (at + 2) 1 tag;
    length_seen = λ is. has_seen seen (at + 14) len long;
    letters = λ is i below. has i (subst (λ (k : ℕ). i < k) many below);
    small = λ is i below. small i (subst (λ (k : ℕ). i < k) many below);
  }

  pub key_at : (key : ℕ) → key ≡ key_of (seen_words seen (at + 15) n) → seen_name seen at ≡ Some key
  key_at key is =
      name_some seen at (word_is seen (at + 2) 1 tag)
      ∙ (ap (λ (k : ℕ). Some (key_of (seen_words seen (at + 15) k))) many ∙ ap Some (sym is))

-- a record that is not one of a histogram
module _ (seen : Seen) (at tag : ℕ) (is : word_seen seen.words (at + 2) ≡ Some tag) (other : tag ≢ 1) where
  no_tag : seen_word seen (at + 2) ≢ 1
  no_tag same = other (sym (word_is seen (at + 2) tag is) ∙ same)

  pub passed_over : HasLookedForName seen at
  passed_over = record {
    tag = has_seen seen (at + 2) tag is;
    length_seen = λ same. absurd (no_tag same);
    letters = λ same. absurd (no_tag same);
    small = λ same. absurd (no_tag same);
  }

  pub no_key : seen_name seen at ≡ None
  no_key = name_none seen at no_tag

-- ---- the words of a sample are loaded

-- all of them
module _ (first tagged named last : Pass) (at tag of value : ℕ) (one : Stepped first (walking_event (load_published at 2)) tag tagged)
    (two : Stepped tagged (walking_event (load_published at 4)) of named) (three : Stepped named (walking_event (load_published at 5)) value last)
    (is : tag ≡ 3) where
  abbrev seen : Seen
  seen = last.me.0.seen

  tag_then : word_seen seen.words (at + 2) ≡ Some 3
  tag_then =
      still named.me.0.seen.words seen.words (sees_one named last at 5 value three).words (at + 2) 3
      (still tagged.me.0.seen.words named.me.0.seen.words (sees_one tagged named at 4 of two).words (at + 2) 3 (seen_one first tagged at 2 tag one ∙ ap Some is))

  of_then : word_seen seen.words (at + 4) ≡ Some of
  of_then = still named.me.0.seen.words seen.words (sees_one named last at 5 value three).words (at + 4) of (seen_one tagged named at 4 of two)

  value_then : word_seen seen.words (at + 5) ≡ Some value
  value_then = seen_one named last at 5 value three

  pub sample_looked_at : HasLookedForSample seen at
  sample_looked_at = record {
    tag = has_seen seen (at + 2) 3 tag_then;
    histogram = λ same. has_seen seen (at + 4) of of_then;
    value = λ same. has_seen seen (at + 5) value value_then;
  }

  pub sample_key_at : seen_sample seen at ≡ Some (sample_key of value)
  sample_key_at =
      let histogram = word_is seen (at + 4) of of_then in
      let valued = word_is seen (at + 5) value value_then in
      sample_some seen at (word_is seen (at + 2) 3 tag_then) ∙ (λ i. Some (sample_key (histogram i) (valued i)))

-- a record that is no sample
module _ (seen : Seen) (at tag : ℕ) (is : word_seen seen.words (at + 2) ≡ Some tag) (other : tag ≢ 3) where
  no_sample_tag : seen_word seen (at + 2) ≢ 3
  no_sample_tag same = other (sym (word_is seen (at + 2) tag is) ∙ same)

  pub passed_over_sample : HasLookedForSample seen at
  passed_over_sample = record {
    tag = has_seen seen (at + 2) tag is;
    histogram = λ same. absurd (no_sample_tag same);
    value = λ same. absurd (no_sample_tag same);
  }

  pub no_sample_key : seen_sample seen at ≡ None
  no_sample_key = sample_none seen at no_sample_tag
