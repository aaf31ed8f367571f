-- What the words that were loaded of a record show: that it has the name that is asked for, and the spec, or another one.
use Rattle.std.proofs.Common.{◌≡◌, ◌≢◌, ◌⊎◌, ℕ, ◌+◌, ◌-◌, ◌<◌, ◌≤◌, Bool, true, false, List, [], ◌∷◌, ◌++◌, length, take, drop, slice_index, get_or, inl, inr, refl, sym, ap, subst, ◌∙◌, arith, length-append}
use Rattle.std.specs.Prelude.{Some}
use mathlib.Core.Logic.{dite}
use native.Mathlib.Decide.{ℕ_discrete}
use lib.Seq.{take-append_seam, drop-append_seam}
use Rattle.std.proofs.lemmas.List.{drop-drop, get_or_default, get_or-take, length-drop, length-take, length-take-le}
use Rattle.std.proofs.Math.Seq.{take-length}
use Rattle.segment_image.specs.Shape.{Dimensions}
use Rattle.bucket_ranges.specs.Reading.{name_words}
use Rattle.bucket_ranges.specs.declared.spec.Spec.{Spec}
use Rattle.bucket_ranges.specs.declared.spec.Spec.TheVariants.{Linear, Boolean, Custom, Sparse}
use Rattle.bucket_ranges.specs.Spec.{spec_fields, spec_ranges}
use Rattle.segment_machine.specs.declared.actor.Actor.{Actor}
use Rattle.segment_machine.specs.declared.seen.Seen.{Seen}
use Rattle.segment_machine.specs.Actor.{word_seen}
use Rattle.segment_machine.specs.Made.{SawOtherSpec}
use Rattle.segment_image.specs.Words.{bytes_of_words}
use Rattle.segment_machine.specs.Walking.{IsFixed}
use Rattle.segment_invariant.proofs.Walking.Words.{letters_long}
use Rattle.segment_calls.specs.declared.asked.Asked.{Asked}
use Rattle.segment_machine.specs.Event.{walking_event}
use Rattle.segment_machine.specs.Walking.{load_published}
use Rattle.live_segment.specs.declared.segment.Segment.{Segment}
use Rattle.live_segment.specs.Rule.{IsOf}
use Rattle.live_segment.specs.Steps.{Pass, Stepped}
use Rattle.live_segment.specs.Hist.ListSearch.{IsAsked, SeesWords, ShowsName, ShowsSpec, ShowsWords}
use Rattle.segment_promises.proofs.Growing.{still}
use Rattle.live_segment.proofs.lemmas.List.Showing.{sees_one, seen_one}

-- ---- the words of a payload

-- the fields of the spec, seven words, and what follows them
behind_fields : (s : Spec) (n : ℕ) (rest : List ℕ) → drop 11 (spec_fields s ++ 0 ∷ 0 ∷ 0 ∷ 0 ∷ 0 ∷ 0 ∷ n ∷ rest) ≡ rest
behind_fields (Linear low high m) n rest = refl
behind_fields Boolean n rest = refl
behind_fields (Custom values) n rest = refl
behind_fields Sparse n rest = refl

module _ (shape : Dimensions) (asked : Asked) (is : IsAsked shape asked) where
  letters_and_ranges : drop 11 asked.payload.items ≡ is.payload.letters ++ spec_ranges asked.spec
  letters_and_ranges = ap (drop 11) is.payload.words ∙ behind_fields asked.spec (length asked.name.items) (is.payload.letters ++ spec_ranges asked.spec)

  -- the words of the name
  pub letters_are : (words : List ℕ) → words ≡ asked.payload.items → take (11 + asked.letters - 11) (drop 11 words) ≡ is.payload.letters
  letters_are words all =
      let many : 11 + asked.letters - 11 ≡ length is.payload.letters = let count = is.payload.count_is in omega (arith, count) in
      ap (λ (l : List ℕ). take (11 + asked.letters - 11) (drop 11 l)) all
      ∙ (ap (take (11 + asked.letters - 11)) letters_and_ranges
      ∙ (ap (λ (n : ℕ). take n (is.payload.letters ++ spec_ranges asked.spec)) many ∙ take-append_seam is.payload.letters (spec_ranges asked.spec)))

  -- ---- a name

  module _ (a : Actor) (at : ℕ) (tag : word_seen a.seen.words (at + 2) ≡ Some 1)
      (len : word_seen a.seen.words (at + 14) ≡ Some (length asked.name.items)) where
    long : name_words (length asked.name.items) ≡ length is.payload.letters
    long = letters_long asked.name.items is.payload.letters is.payload.spells

    -- its words never change
    pub letters_fixed : (words : List ℕ) → words ≡ is.payload.letters → (i : ℕ) → i < length words → IsFixed a at (15 + i)
    letters_fixed words all i below =
        let same = ap length all in let many = long in
        inr (inl (tag, inr (inr (length asked.name.items, len, omega arith, inl (omega (arith, below, same, many))))))

    pub letters_room : (n size : ℕ) → at + 15 + name_words (length asked.name.items) ≤ n → n ≡ size → at + 15 + asked.letters ≤ size
    letters_room n size within is_size = let many = long in let count = is.payload.count_is in omega (arith, within, is_size, many, count)

    pub named : (b : Bool) (words : List ℕ) → words ≡ is.payload.letters → at + 15 + asked.letters ≤ a.segment.shape.size → ShowsWords at 15 words b a.seen
        → ShowsName asked at b a
    named b words all room shown = by b (subst (λ (l : List ℕ). ShowsWords at 15 l b a.seen) all shown)
      where
        by : (b : Bool) → ShowsWords at 15 is.payload.letters b a.seen → ShowsName asked at b a
        by true shown = ((tag, len, is.payload.letters, is.payload.spells, shown), room)
        by false (i, word, below, seen, other) = inr (inr (is.payload.letters, i, word, is.payload.spells, below, seen, other))

-- ---- type and length of the name are those that are asked for

module _ (segment : Segment) (first mid last : Pass) (asked : Asked) (at tag len : ℕ) (is : IsAsked segment.setting.shape asked)
    (of : IsOf segment.setting first.me.0) (load_tag : Stepped first (walking_event (load_published at 2)) tag mid) (tagged : tag ≡ 1)
    (load_len : Stepped mid (walking_event (load_published at 14)) len last) (counted : len ≡ length asked.name.items) where
  saw_tag : word_seen last.me.0.seen.words (at + 2) ≡ Some 1
  saw_tag = still mid.me.0.seen.words last.me.0.seen.words (sees_one mid last at 14 len load_len).words (at + 2) 1
      (seen_one first mid at 2 tag load_tag ∙ ap Some tagged)

  saw_len : word_seen last.me.0.seen.words (at + 14) ≡ Some (length asked.name.items)
  saw_len = seen_one mid last at 14 len load_len ∙ ap Some counted

  pub name_fixed : (words : List ℕ) → words ≡ is.payload.letters → (i : ℕ) → i < length words → IsFixed last.me.0 at (15 + i)
  name_fixed = letters_fixed segment.setting.shape asked is last.me.0 at saw_tag saw_len

  name_room : at + 15 + asked.letters ≤ segment.setting.shape.size
  name_room =
      letters_room segment.setting.shape asked is last.me.0 at saw_tag saw_len mid.me.0.segment.shape.size segment.setting.shape.size
      (subst (λ (n : ℕ). at + 15 + name_words n ≤ mid.me.0.segment.shape.size) counted (load_len.learned.0.2 refl))
      (ap (λ (a : Actor). a.segment.shape.size) load_tag.view ∙ ap (λ (d : Dimensions). d.size) of.shape)

  pub words_room : (words : List ℕ) → words ≡ is.payload.letters → at + 15 + length words ≤ segment.setting.shape.size
  words_room words all = let room = name_room in let same = ap length all in let count = is.payload.count_is in omega (arith, room, same, count)

  module _ (new : Pass) (sees : SeesWords last.me.0 new.me.0) where
    pub shown_name : (b : Bool) (words : List ℕ) → words ≡ is.payload.letters → ShowsWords at 15 words b new.me.0.seen → ShowsName asked at b new.me.0
    shown_name b words all shown =
        named segment.setting.shape asked is new.me.0 at
        (still last.me.0.seen.words new.me.0.seen.words sees.words (at + 2) 1 saw_tag)
        (still last.me.0.seen.words new.me.0.seen.words sees.words (at + 14) (length asked.name.items) saw_len)
        b words all
        (subst (λ (d : Dimensions). at + 15 + asked.letters ≤ d.size)
        (sym (ap (λ (a : Actor). a.segment.shape) sees.view ∙ (ap (λ (a : Actor). a.segment.shape) load_len.view ∙ (ap (λ (a : Actor). a.segment.shape) load_tag.view ∙ of.shape)))) name_room)
        shown

-- ---- the spec

-- the first three fields of a spec, and the fourth
front_fields : (s : Spec) (rest : List ℕ) → take 3 (spec_fields s ++ rest) ≡ take 3 (spec_fields s)
front_fields (Linear low high m) rest = refl
front_fields Boolean rest = refl
front_fields (Custom values) rest = refl
front_fields Sparse rest = refl

last_field : (s : Spec) (rest : List ℕ) → slice_index (spec_fields s ++ rest) 3 ≡ slice_index (spec_fields s) 3
last_field (Linear low high m) rest = refl
last_field Boolean rest = refl
last_field (Custom values) rest = refl
last_field Sparse rest = refl

fields_long : (s : Spec) → length (spec_fields s) ≡ 4
fields_long (Linear low high n) = refl
fields_long Boolean = refl
fields_long (Custom values) = refl
fields_long Sparse = refl

-- it has ranges only if it is a custom one, whose last field is one more than their number
ranges_if_custom : (s : Spec) → (length (spec_ranges s) ≡ 0)
    ⊎ ((slice_index (spec_fields s) 0 ≡ 3) × (length (spec_ranges s) ≡ slice_index (spec_fields s) 3 - 1))
ranges_if_custom (Linear low high n) = inl refl
ranges_if_custom Boolean = inl refl
ranges_if_custom (Custom values) = inr (refl, omega arith)
ranges_if_custom Sparse = inl refl

module _ (shape : Dimensions) (asked : Asked) (is : IsAsked shape asked) where
  pub fields_are : (words : List ℕ) → words ≡ asked.payload.items → take 3 words ≡ take 3 (spec_fields asked.spec)
  fields_are words all = ap (take 3) (all ∙ is.payload.words) ∙ front_fields asked.spec _

  long_payload : 3 < length asked.payload.items
  long_payload = let whole = ap length is.payload.words ∙ length-append (spec_fields asked.spec) _ in omega (arith, whole)

  pub buckets_are : (x : ℕ) → x ≡ get_or asked.payload.items 3 x → x ≡ slice_index (spec_fields asked.spec) 3
  buckets_are x there = there ∙ (get_or_default asked.payload.items 3 x 0 long_payload ∙ (ap (λ (l : List ℕ). slice_index l 3) is.payload.words ∙ last_field asked.spec _))

  pub ranges_are : (words : List ℕ) → words ≡ asked.payload.items
      → take (length words - (11 + asked.letters)) (drop (11 + asked.letters) words) ≡ spec_ranges asked.spec
  ranges_are words all =
      ap (λ (n : ℕ). take n (drop (11 + asked.letters) words)) (sym (length-drop (11 + asked.letters) words))
      ∙ take-length (drop (11 + asked.letters) words)
      ∙ ap (drop (11 + asked.letters)) all
      ∙ (sym (drop-drop asked.letters 11 asked.payload.items)
      ∙ (ap (drop asked.letters) (letters_and_ranges shape asked is)
      ∙ (ap (λ (n : ℕ). drop n (is.payload.letters ++ spec_ranges asked.spec)) is.payload.count_is ∙ drop-append_seam is.payload.letters (spec_ranges asked.spec))))

  module _ (at : ℕ) (seen : Seen) where
    -- the first three fields show another spec
    pub other_field : (words : List ℕ) → words ≡ take 3 (spec_fields asked.spec) → ShowsWords at 4 words false seen
        → SawOtherSpec seen asked.spec asked.letters at
    other_field words all (i, word, below, saw, other) =
        let few : i < 3 = let same = ap length all in let most = length-take 3 (spec_fields asked.spec) in omega (arith, below, same, most) in
        inl (
          i,
          word,
          omega (arith, few),
          saw,
          λ same. other (ap (λ (n : ℕ). bytes_of_words (n ∷ []))
              (same ∙ sym (ap (λ (l : List ℕ). slice_index l i) all ∙ get_or-take 3 (spec_fields asked.spec) i 0 few))),
        )

    -- so does the fourth
    pub other_buckets : (word : ℕ) → word_seen seen.words (at + 7) ≡ Some word → word ≢ slice_index (spec_fields asked.spec) 3
        → SawOtherSpec seen asked.spec asked.letters at
    other_buckets word saw other = inl (3, word, omega arith, ap (word_seen seen.words) (let e : at + 4 + 3 ≡ at + 7 = omega arith in e) ∙ saw, other)

    -- and the ranges
    pub shown_ranges : (b : Bool) (words ranges : List ℕ) → words ≡ take 3 (spec_fields asked.spec) → ShowsWords at 4 words true seen
        → word_seen seen.words (at + 7) ≡ Some (slice_index (spec_fields asked.spec) 3) → ranges ≡ spec_ranges asked.spec
        → ShowsWords at (15 + asked.letters) ranges b seen → ShowsSpec asked at b seen
    shown_ranges true words ranges all fields buckets are shown = (
      λ i below. field i below,
      λ i below.
          let here : at + 15 + asked.letters + i ≡ at + (15 + asked.letters) + i = omega arith in
          let same = ap length are in
          ap (word_seen seen.words) here ∙ (shown i (omega (arith, below, same)) ∙ ap (λ (l : List ℕ). Some (slice_index l i)) are),
    )
      where
        field : (i : ℕ) → i < 4 → word_seen seen.words (at + 4 + i) ≡ Some (slice_index (spec_fields asked.spec) i)
        field i below = dite (ℕ_discrete i 3)
            (λ last.
            let here : at + 4 + i ≡ at + 7 = omega (arith, last) in
            ap (word_seen seen.words) here ∙ (buckets ∙ ap (λ (n : ℕ). Some (slice_index (spec_fields asked.spec) n)) (sym last)))
            (λ front.
            let few : i < 3 = omega (arith, below, front) in
            let three = fields_long asked.spec in
            let same = ap length all in let most = length-take-le 3 (spec_fields asked.spec) (omega (arith, three)) in
            fields i (omega (arith, few, same, most))
            ∙ ap Some (ap (λ (l : List ℕ). slice_index l i) all ∙ get_or-take 3 (spec_fields asked.spec) i 0 few))
    shown_ranges false words ranges all fields buckets are (i, word, below, saw, other) =
        let here : at + 15 + asked.letters + i ≡ at + (15 + asked.letters) + i = omega arith in
        let same = ap length are in
        inr (
          i,
          word,
          omega (arith, below, same),
          ap (word_seen seen.words) here ∙ saw,
          λ equal. other (ap (λ (n : ℕ). bytes_of_words (n ∷ [])) (equal ∙ sym (ap (λ (l : List ℕ). slice_index l i) are))),
        )

-- ---- the name is the one that is asked for, and so are the first fields

module _ (segment : Segment) (first mid : Pass) (asked : Asked) (at : ℕ) (is : IsAsked segment.setting.shape asked)
    (of : IsOf segment.setting first.me.0) (name : ShowsName asked at true first.me.0) (sees : SeesWords first.me.0 mid.me.0) where
  still_tag : word_seen mid.me.0.seen.words (at + 2) ≡ Some 1
  still_tag = still first.me.0.seen.words mid.me.0.seen.words sees.words (at + 2) 1 name.0.0

  pub buckets_fixed : IsFixed mid.me.0 at 7
  buckets_fixed = inr (inl (still_tag, inl (omega arith, omega arith)))

  module _ (last : Pass) (n : ℕ) (words : List ℕ) (all : words ≡ take 3 (spec_fields asked.spec)) (fields : ShowsWords at 4 words true mid.me.0.seen)
      (load : Stepped mid (walking_event (load_published at 7)) n last) (counted : n ≡ slice_index (spec_fields asked.spec) 3) where
    still_len : word_seen mid.me.0.seen.words (at + 14) ≡ Some (length asked.name.items)
    still_len = still first.me.0.seen.words mid.me.0.seen.words sees.words (at + 14) (length asked.name.items) name.0.1

    saw_kind : word_seen mid.me.0.seen.words (at + 4) ≡ Some (slice_index (spec_fields asked.spec) 0)
    saw_kind =
        let here : at + 4 ≡ at + 4 + 0 = omega arith in
        let some_there : 0 < length words =
        (let same = ap length all in let three = fields_long asked.spec in
        let most = length-take-le 3 (spec_fields asked.spec) (omega (arith, three)) in omega (arith, same, most)) in
        ap (word_seen mid.me.0.seen.words) here
        ∙ (fields 0 some_there ∙ ap Some (ap (λ (l : List ℕ). slice_index l 0) all ∙ get_or-take 3 (spec_fields asked.spec) 0 0 (omega arith)))

    long_name : name_words (length asked.name.items) ≡ asked.letters
    long_name = letters_long asked.name.items is.payload.letters is.payload.spells ∙ sym is.payload.count_is

    size_is : mid.me.0.segment.shape.size ≡ segment.setting.shape.size
    size_is = ap (λ (a : Actor). a.segment.shape.size) sees.view ∙ ap (λ (d : Dimensions). d.size) of.shape

    on : (at word : ℕ) → word_seen mid.me.0.seen.words at ≡ Some word → word_seen last.me.0.seen.words at ≡ Some word
    on = still mid.me.0.seen.words last.me.0.seen.words (sees_one mid last at 7 n load).words

    pub saw_buckets : word_seen last.me.0.seen.words (at + 7) ≡ Some (slice_index (spec_fields asked.spec) 3)
    saw_buckets = seen_one mid last at 7 n load ∙ ap Some counted

    pub ranges_fixed : (ranges : List ℕ) → ranges ≡ spec_ranges asked.spec → (i : ℕ) → i < length ranges → IsFixed last.me.0 at (15 + asked.letters + i)
    ranges_fixed ranges are i below = by (ranges_if_custom asked.spec)
      where
        by : (length (spec_ranges asked.spec) ≡ 0)
            ⊎ ((slice_index (spec_fields asked.spec) 0 ≡ 3) × (length (spec_ranges asked.spec) ≡ slice_index (spec_fields asked.spec) 3 - 1))
            → IsFixed last.me.0 at (15 + asked.letters + i)
        by (inl none) = let same = ap length are in absurd (omega (arith, below, same, none))
        by (inr (kind, count)) =
            let same = ap length are in
            let many = long_name in
            inr (inl (
              on (at + 2) 1 still_tag,
              inr (inr (
                length asked.name.items,
                on (at + 14) (length asked.name.items) still_len,
                omega arith,
                inr (
                  slice_index (spec_fields asked.spec) 3,
                  on (at + 4) 3 (saw_kind ∙ ap Some kind),
                  saw_buckets,
                  omega (arith, below, same, many, count),
                ),
              )),
            ))

    pub ranges_room : (ranges : List ℕ) → ranges ≡ spec_ranges asked.spec → at + (15 + asked.letters) + length ranges ≤ segment.setting.shape.size
    ranges_room ranges are = by (ranges_if_custom asked.spec)
      where
        by : (length (spec_ranges asked.spec) ≡ 0)
            ⊎ ((slice_index (spec_fields asked.spec) 0 ≡ 3) × (length (spec_ranges asked.spec) ≡ slice_index (spec_fields asked.spec) 3 - 1))
            → at + (15 + asked.letters) + length ranges ≤ segment.setting.shape.size
        by (inl none) =
            let same = ap length are in let size = ap (λ (d : Dimensions). d.size) of.shape in let within = name.1 in
            omega (arith, same, none, size, within)
        by (inr (kind, count)) =
            let same = ap length are in
            let many = long_name in
            let size = size_is in
            let within = load.learned.0.3 (length asked.name.items) refl (saw_kind ∙ ap Some kind) still_len in
            omega (arith, same, many, count, counted, size, within)

    pub shown_spec : (new : Pass) → SeesWords last.me.0 new.me.0 → (b : Bool) (ranges : List ℕ) → ranges ≡ spec_ranges asked.spec
        → ShowsWords at (15 + asked.letters) ranges b new.me.0.seen → ShowsSpec asked at b new.me.0.seen
    shown_spec new then_sees b ranges are shown =
        let then_on = still last.me.0.seen.words new.me.0.seen.words then_sees.words in
        shown_ranges segment.setting.shape asked is at new.me.0.seen b words ranges all
        (λ i below. then_on (at + 4 + i) (slice_index words i) (on (at + 4 + i) (slice_index words i) (fields i below)))
        (then_on (at + 7) (slice_index (spec_fields asked.spec) 3) saw_buckets) are shown
