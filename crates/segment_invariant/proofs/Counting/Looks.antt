-- What an actor looks back at when it sees one word more: a single word, or a counter, as it is now.
use Rattle.segment_invariant.proofs.Prelude.Std.{◌≡◌, ◌≢◌, ◌⊎◌, ℕ, ◌+◌, ◌<◌, ◌≤◌, ℤ, true, false, List, [], ◌∷◌, ◌++◌, length, take, drop, Contains, inl, inr, ⊎_elim, refl, sym, ap, ◌∙◌, subst, arith, length-append, None, true≢false, slice_index, Some, drop-append-le, All-contains, Contains-append_cases, dite, some, none, some-injective, ℕ_discrete, get_elem?, one_in}
use Rattle.segment_invariant.proofs.Prelude.Machine.{Dimensions, word_at, buckets_of, single_of, packed_bucket, units_packed, Actor, Given, Known, Place, Spent, SumLoaded, Moving, Seen, Sighting, tally_units, is_off, Leads, word_seen, all_counted, bucket_key, SawCount, is_opener, made_of, SawBucket, State, Look}
use Rattle.segment_invariant.proofs.Prelude.Invariant.{Record, Counts, Body, histogram, counts, sample, words_of, Piece, Anatomy, form_at, key_of_bucket, Stands, HasRecord, HasCounts, IsFirst, WasFixed, WasCounter, WasInUse, WasSingle, IsRightlyKnown, StandsRight, IsAlone, LooksBack, Invariant}
use Rattle.std.proofs.lemmas.List.{take-append-le}
use Rattle.std.proofs.lemmas.List.Elements.{All-take}
use Rattle.bucket_ranges.specs.declared.spec.Spec.TheVariants as spec
use Rattle.segment_machine.specs.Actor.{transit_of}
use Rattle.segment_invariant.specs.Seen.{IsFixedIn}
use Rattle.segment_invariant.specs.Invariant.{NoneInTransit}
use Rattle.segment_invariant.proofs.Frames.LaidOut.{laid_out}
use Rattle.segment_invariant.proofs.Lists.FewTerms.{zero_index}
use Rattle.list_lemmas.proofs.Maps.{one_at}
use Rattle.segment_invariant.proofs.Blocks.Pieces.{one_index, one_stands, piece_word, piece_from}
use Rattle.segment_invariant.proofs.Blocks.Places.{fixed_within, counter_within}
use Rattle.segment_invariant.proofs.Frames.OneActor.{lives_on}
use Rattle.segment_invariant.proofs.Frames.SeesMore.{seer}
use Rattle.segment_invariant.proofs.Walking.Words.{word_contains}
use Rattle.segment_invariant.proofs.Consistency.Books.{one_name, sample_first}
use Rattle.segment_invariant.proofs.Consistency.Firsts.{sample_of_first}
use Rattle.segment_invariant.proofs.Counting.Accepted.{accepted_counted, accepted_noted}
use Rattle.segment_invariant.proofs.Counting.Seen.{count_in, count_most, off_is}
use Rattle.segment_invariant.proofs.Counting.Whole.{rests, whole_alone, whole_mounted, whole_sample, whole_noted, known_first}

-- ---- lists that are one longer

since_push : {X : Type 0} (n : ℕ) (xs : List X) (y u : X) → n ≤ length xs → Contains (drop n (xs ++ y ∷ [])) u → Contains (drop n xs) u ⊎ (y ≡ u)
since_push n xs y u le has = ⊎_elim (λ old. inl old) (λ new. inr (one_in y u new))
    (Contains-append_cases (drop n xs) (y ∷ []) u (subst (λ list. Contains list u) (drop-append-le n xs (y ∷ []) le) has))

before_push : {X : Type 0} (n : ℕ) (xs : List X) (y u : X) → n ≤ length xs → Contains (take n (xs ++ y ∷ [])) u → Contains (take n xs) u
before_push n xs y u le has = subst (λ list. Contains list u) (take-append-le n xs (y ∷ []) le) has

longer_push : {X : Type 0} (n : ℕ) (xs : List X) (y : X) → n ≤ length xs → n ≤ length (xs ++ y ∷ [])
longer_push n xs y le = let e = length-append xs (y ∷ []) in omega (arith, le, e)

module _ (shape : Dimensions) (opened : Anatomy) (state : State) (kept : Invariant shape opened state) where
  abbrev blocks : List Piece
  blocks = kept.anatomy.pieces

  abbrev version : ℕ
  version = kept.anatomy.version

  -- blocks that share a word are one
  pub same_block : (at other i j : ℕ) (body before : Body) → Stands blocks at none body → Stands blocks other none before
      → i < length (words_of body) → j < length (words_of before) → at + i ≡ other + j → (at ≡ other) × (body ≡ before) × (i ≡ j)
  same_block at other i j body before (k, there) (m, here) lt within same =
      let index = one_index shape state.words kept.anatomy kept.shown k m _ _ i j there here lt within same in
      let one = some-injective _ _ (sym there ∙ (ap (get_elem? blocks) index ∙ here)) in
      let place = ap (λ (p : Piece). p.at) one in
      (place, ap (λ (p : Piece). p.body) one, omega (arith, place, same))

  pub one_record : (at : ℕ) (r s : Record) → HasRecord blocks at r → HasRecord blocks at s → r ≡ s
  one_record at r s first second = cc (one_stands shape state.words kept.anatomy kept.shown at none none (histogram r) (histogram s) first second).1

  -- a word of a block
  pub body_word : (at i : ℕ) (body : Body) → Stands blocks at none body → i < length (words_of body) → word_at state.words (at + i) ≡ slice_index (words_of body) i
  body_word at i body (k, there) lt = piece_word shape state.words kept.anatomy kept.shown k _ i there lt

  -- a counter that was seen is at most the present one
  pub counter_now : (s : Sighting) → WasCounter blocks s → s.word ≤ word_at state.words s.at
  counter_now s (at, i, body, stands, place, counter, most) =
      let word = body_word at i body stands (counter_within body i counter) in
      let here = ap (word_at state.words) place in
      omega (arith, most, word, here)

  -- a single word that was seen leads to the record's, and has a form
  pub single_now : (s : Sighting) (at : ℕ) (r : Record) → WasSingle version blocks s → s.at ≡ at + 9 → HasRecord blocks at r
      → (single_of version (buckets_of r.spec) s.word ≢ None) × Leads version (buckets_of r.spec) s.word r.single
  single_now s at r (place, q, stands, is, formed, leads) spot there =
      let here : place ≡ at = omega (arith, is, spot) in
      let same = one_record at q r (subst (λ (n : ℕ). HasRecord blocks n q) here stands) there in
      subst (λ (z : Record). (single_of version (buckets_of z.spec) s.word ≢ None) × Leads version (buckets_of z.spec) s.word z.single) same (formed, leads)

  -- a count after a counts reference
  pub count_now : (place bucket : ℕ) (c : Counts) → HasCounts blocks place c → bucket < length c.units
      → word_at state.words (place + 4 + bucket) ≡ slice_index c.units bucket
  count_now place bucket c stands below =
      let long = length-append c.units c.marks in
      let all = length-append (c.units ++ c.marks) c.rest in
      let spot : place + 4 + bucket ≡ place + (4 + bucket) = omega arith in
      ap (word_at state.words) spot ∙ (body_word place (4 + bucket) (counts c) stands (omega (arith, below, long, all)) ∙ count_in c bucket below)

  -- counts that were seen are in use: the single word of their record is off
  pub in_use_now : (s : Sighting) (r : Record) (c : Counts) (at i : ℕ) → WasInUse blocks s → HasRecord blocks at r → HasCounts blocks r.counts c
      → s.at ≡ r.counts + i → 4 ≤ i → i < 4 + (length c.units + length c.marks) → is_off r.single ≡ true
  in_use_now s r c at i was there mounts is from below =
      let (q, stands, off) = was r.counts i c mounts is from below in
      let (d, mounted, of_it) = kept.records.mounted at r there not_zero in
      let same : d ≡ c = cc (one_stands shape state.words kept.anatomy kept.shown r.counts none none (counts d) (counts c) mounted mounts).1 in
      let place : c.of ≡ at = sym (ap (λ (c : Counts). c.of) same) ∙ of_it.mine in
      let one = one_record at q r (subst (λ (n : ℕ). HasRecord blocks n q) place stands) there in
      sym (ap (λ (z : Record). is_off z.single) one) ∙ off
    where
      not_zero : r.counts ≢ 0
      not_zero none_there = ⊎_elim (λ queue. omega (arith, queue, none_there)) (λ later. omega (arith, later, none_there))
          (piece_from shape state.words kept.anatomy kept.shown mounts.0 _ mounts.1)

  -- a counts reference that was seen is the record's
  pub counts_was : (at place : ℕ) (r : Record) → HasRecord blocks at r → WasFixed blocks (record { at = at + 8; word = place }) → (r.counts ≡ place) × (r.counts ≢ 0)
  counts_was at place r there (other, i, body, stands, is, fixed, value) =
      let (spot, same, eight) = same_block at other 8 i (histogram r) body there stands (omega arith) (fixed_within body i fixed) is in (
        (λ j. slice_index (words_of (same j)) (eight j)) ∙ value,
        mounted (subst (λ (p : Body × ℕ). IsFixedIn p.0 p.1) (λ j. (sym same j, sym eight j)) fixed),
      )
    where
      mounted : IsFixedIn (histogram r) 8 → r.counts ≢ 0
      mounted (inl two) = absurd (omega (arith, two))
      mounted (inr (inl (from, below))) = absurd (omega (arith, below))
      mounted (inr (inr (inl (eight, some_there)))) = some_there
      mounted (inr (inr (inr (from, below)))) = absurd (omega (arith, from))

  module _ (id : ℕ) (a : Actor) (mine : get_elem? state.actors id ≡ some a) (records : is_opener a.role ≡ false) (lives : a.hand.place ≢ Spent) where
    abbrev Known_as : Known → Type 0
    Known_as known = (r : Record) × IsFirst kept.anatomy.records known.name r.spec known.reference × HasRecord blocks known.reference r × (r.name ≡ known.name)
        × (buckets_of r.spec ≡ buckets_of known.spec) × ((i : ℕ) → key_of_bucket r.spec i ≡ bucket_key (Some known) i)

    pub knows_of : (known : Known) → Contains a.answers.names known → Known_as known
    knows_of known has = known_first shape opened state kept known (All-contains (IsRightlyKnown kept.anatomy) a.answers.names known (kept.each id a mine lives).names has)

    -- a counts reference that it saw is the record's
    pub counts_seen : (at place : ℕ) (r : Record) → HasRecord blocks at r → word_seen a.seen.words (at + 8) ≡ Some place → (r.counts ≡ place) × (r.counts ≢ 0)
    counts_seen at place r there seen = counts_was at place r there (All-contains (WasFixed blocks) a.seen.words _ (kept.each id a mine lives).sees.fixed
        (word_contains a.seen.words (at + 8) place seen))

    -- what was seen of a bucket is at most what was counted, if the word is the record's, the counts reference is fixed, and the count no
    -- more than it is
    pub fixed_most : (known : Known) (bucket word place count : ℕ) → Contains a.answers.names known → bucket < buckets_of known.spec
        → ((r : Record) → HasRecord blocks known.reference r → word ≡ r.single) → WasFixed blocks (record { at = known.reference + 8; word = place })
        → ((c : Counts) → HasCounts blocks place c → bucket < length c.units → count ≤ slice_index c.units bucket)
        → count + units_packed (single_of a.segment.version (buckets_of known.spec) word) bucket
        ≤ tally_units (all_counted state.actors) known.name (bucket_key (Some known) bucket)
    fixed_most known bucket word place count has below is fixed most =
        let (r, first, stands, named, many, keys) = knows_of known has in
        let (place_is, mounts) = counts_was known.reference place r stands fixed in
        let (c, mounted, of_it) = kept.records.mounted known.reference r stands mounts in
        let units = of_it.units in
        let within : bucket < buckets_of r.spec = omega (arith, below, many) in
        let up = most c (subst (λ (n : ℕ). HasCounts blocks n c) place_is mounted) (omega (arith, within, units)) in
        let whole = whole_mounted shape opened state kept known.name r.spec known.reference r first stands named refl bucket within c mounted of_it in
        let form : units_packed (single_of a.segment.version (buckets_of known.spec) word) bucket ≡ units_packed (form_at version r) bucket =
        (λ i. units_packed (single_of ((kept.each id a mine lives).versioned i) (sym many i) (is r stands i)) bucket) in
        let key = ap (tally_units (all_counted state.actors) known.name) (keys bucket) in
        omega (arith, up, whole, form, key)

    -- so it is if it saw that reference
    pub off_most : (known : Known) (bucket word place count : ℕ) → Contains a.answers.names known → bucket < buckets_of known.spec
        → ((r : Record) → HasRecord blocks known.reference r → word ≡ r.single) → word_seen a.seen.words (known.reference + 8) ≡ Some place
        → ((c : Counts) → HasCounts blocks place c → bucket < length c.units → count ≤ slice_index c.units bucket)
        → count + units_packed (single_of a.segment.version (buckets_of known.spec) word) bucket
        ≤ tally_units (all_counted state.actors) known.name (bucket_key (Some known) bucket)
    off_most known bucket word place count has below is seen = fixed_most known bucket word place count has below is
        (All-contains (WasFixed blocks) a.seen.words _ (kept.each id a mine lives).sees.fixed (word_contains a.seen.words (known.reference + 8) place seen))

    -- while the word of a record is on it has all units of a bucket
    pub on_whole : (known : Known) (bucket : ℕ) (r : Record) → IsFirst kept.anatomy.records known.name r.spec known.reference
        → HasRecord blocks known.reference r → r.name ≡ known.name → bucket < buckets_of r.spec → is_off r.single ≡ false
        → units_packed (form_at version r) bucket ≡ tally_units (all_counted state.actors) known.name (key_of_bucket r.spec bucket)
    on_whole known bucket r first stands named within on = dite (ℕ_discrete r.counts 0)
        (λ unmounted.
        let whole = whole_alone shape opened state kept known.name r.spec known.reference r first stands named refl bucket within unmounted in
        omega (arith, whole, quiet))
        (λ mounts.
        let (c, mounted, of_it) = kept.records.mounted known.reference r stands mounts in
        let whole = whole_mounted shape opened state kept known.name r.spec known.reference r first stands named refl bucket within c mounted of_it in
        let unused = zero_index c.units bucket (of_it.unused on).0 in
        omega (arith, whole, quiet, unused))
      where
        quiet : transit_of state.actors known.reference bucket ≡ 0
        quiet = rests shape opened state kept known.reference bucket (λ who x look units there place at.
            let moves = subst (StandsRight shape kept.anatomy who x) place (kept.standing who x there) in
            let (q, its, packs, off) = moves.5 in
            let same = one_record known.reference q r (subst (λ (n : ℕ). HasRecord blocks n q) at its) stands in
            true≢false (sym off ∙ (ap (λ (z : Record). is_off z.single) same ∙ on)))

    -- nothing of a bucket is in transit if it is settled, and the actor itself moves nothing
    pub settled_quiet : (known : Known) (bucket : ℕ) (r : Record) → HasRecord blocks known.reference r → NoneInTransit kept.anatomy state.actors a known bucket
        → ((look : Look) (bucket units : ℕ) → a.hand.place ≢ Moving look bucket units) → transit_of state.actors known.reference bucket ≡ 0
    settled_quiet known bucket r stands settled still = rests shape opened state kept known.reference bucket nobody
      where
        nobody : (who : ℕ) (x : Actor) (look : Look) (units : ℕ) → get_elem? state.actors who ≡ some x → x.hand.place ≡ Moving look bucket units
            → look.histogram ≡ known.reference → ⊥
        nobody who x look units there place at = by_case settled
          where
            moves : StandsRight shape kept.anatomy who x (Moving look bucket units)
            moves = subst (StandsRight shape kept.anatomy who x) place (kept.standing who x there)

            alone : IsAlone state.actors a → ⊥
            alone (one, here, none_out, youngest) = dite (ℕ_discrete who 0)
                (λ zero_is.
                let same = one_at state.actors 0 kept.roles.opener x kept.roles.stands (sym (ap (get_elem? state.actors) zero_is) ∙ there) in
                cc (sym kept.roles.idle ∙ (ap (λ (c : Actor). c.hand.place) same ∙ place)))
                (λ recorder. dite (ℕ_discrete who id)
                (λ itself.
                let same = one_at state.actors id a x mine (sym (ap (get_elem? state.actors) itself) ∙ there) in
                still look bucket units (ap (λ (c : Actor). c.hand.place) same ∙ place))
                (λ other.
                let alive = lives_on x (kept.roles.only who x there recorder).0 (λ spent. cc (sym place ∙ spent)) in
                let below = kept.roles.eldest id who a x mine there (lives_on a records lives) alive (λ e. other (sym e)) none_out in
                let young = kept.roles.younger who x there alive in
                let same = ap (λ (c : Actor). made_of c.role) (one_at state.actors 0 kept.roles.opener one kept.roles.stands here) in
                omega (arith, below, young, youngest, same)))

            by_case : NoneInTransit kept.anatomy state.actors a known bucket → ⊥
            by_case (inl two) = let one = moves.1 in omega (arith, one, two)
            by_case (inr (inl only)) = alone only
            by_case (inr (inr apart)) =
                let (q, its, packs, off) = moves.5 in
                apart q (subst (λ (n : ℕ). HasRecord blocks n q) at its) (ap (λ (v : ℕ). packed_bucket (form_at v q)) moves.1 ∙ packs)

    -- ---- a single word more

    module _ (h : ℕ) (r : Record) (stands : HasRecord blocks h r) (place : Place) (given : List Given)
        (no_sum : (reference : ℕ) (sum : ℤ) → place ≢ SumLoaded reference sum) where
      abbrev y : Sighting
      y = record { at = h + 9; word = r.single }

      abbrev more : Seen
      more = record a.seen { singles = a.seen.singles ++ y ∷ [] }

      abbrev looks : LooksBack kept.anatomy state.actors kept.roles.opener a
      looks = (kept.each id a mine lives).looks records

      -- the word that it sees now is that of the record
      now_is : (at word : ℕ) → y ≡ record { at = at + 9; word = word } → (q : Record) → HasRecord blocks at q → word ≡ q.single
      now_is at word same q there =
          let spot = ap (λ (s : Sighting). s.at) same in
          let here : h ≡ at = omega (arith, spot) in
          sym (ap (λ (s : Sighting). s.word) same) ∙ ap (λ (z : Record). z.single) (one_record at r q (subst (λ (n : ℕ). HasRecord blocks n r) here stands) there)

      most_now : (known : Known) (bucket total : ℕ) → Contains a.answers.names known → bucket < buckets_of known.spec
          → SawBucket (seer a place more given a.done.lost) known bucket total → total ≤ tally_units (all_counted state.actors) known.name (bucket_key (Some known) bucket)
      most_now known bucket total has below (word, single, rest) = ⊎_elim
          (λ old. looks.most known bucket total has below (word, old, rest))
          (λ new. fresh (now_is known.reference word new) rest)
          (since_push a.since.singles a.seen.singles y _ looks.begun.0 single)
        where
          fresh : ((q : Record) → HasRecord blocks known.reference q → word ≡ q.single)
              → (((is_off word ≡ false) × (total ≡ units_packed (single_of a.segment.version (buckets_of known.spec) word) bucket))
              ⊎ ((is_off word ≡ true) × ((counts count : ℕ) × (word_seen a.seen.words (known.reference + 8) ≡ Some counts)
              × SawCount a (counts + 4 + bucket) count × (total ≡ count + units_packed (single_of a.segment.version (buckets_of known.spec) word) bucket))))
              → total ≤ tally_units (all_counted state.actors) known.name (bucket_key (Some known) bucket)
          fresh is (inl (on, total_is)) =
              let (q, first, there, named, many, keys) = knows_of known has in
              let whole = on_whole known bucket q first there named (omega (arith, below, many)) (ap is_off (sym (is q there)) ∙ on) in
              let form : units_packed (single_of a.segment.version (buckets_of known.spec) word) bucket ≡ units_packed (form_at version q) bucket =
              (λ i. units_packed (single_of ((kept.each id a mine lives).versioned i) (sym many i) (is q there i)) bucket) in
              let key = ap (tally_units (all_counted state.actors) known.name) (keys bucket) in
              omega (arith, total_is, whole, form, key)
          fresh is (inr (off, (refers, count, seen, saw, total_is))) =
              let up = off_most known bucket word refers count has below is seen
              (λ c mounted low. count_most shape opened state kept id a mine lives refers bucket count c mounted low saw) in
              omega (arith, up, total_is)

      pub looks_single : LooksBack kept.anatomy state.actors kept.roles.opener (seer a place more given a.done.lost)
      looks_single = record {
        most = most_now;
        packed = λ known bucket word has below saw on. ⊎_elim
            (λ old. looks.packed known bucket word has below old on)
            (λ new.
            let (q, first, there, named, many, keys) = knows_of known has in
            let is = now_is known.reference word new q there in
            let whole = on_whole known bucket q first there named (omega (arith, below, many)) (ap is_off (sym is) ∙ on) in
            let form : units_packed (single_of version (buckets_of known.spec) word) bucket ≡ units_packed (form_at version q) bucket =
            (λ i. units_packed (single_of version (sym many i) (is i)) bucket) in
            let key = ap (tally_units (all_counted state.actors) known.name) (keys bucket) in
            let accepted = accepted_counted shape opened state kept id a mine records lives known.name (bucket_key (Some known) bucket) in
            omega (arith, whole, form, key, accepted))
            (since_push a.since.singles a.seen.singles y _ looks.begun.0 saw);
        counted = looks.counted;
        samples = looks.samples;
        rising = looks.rising;
        leading = λ s t q at before now same spot there.
            let was = before_push a.since.singles a.seen.singles y s looks.begun.0 before in
            ⊎_elim
            (λ old. looks.leading s t q at was old same spot there)
            (λ new.
            let is = now_is at t.word (new ∙ (λ i. record { at = spot i; word = t.word })) q there in
            let leads = single_now s at q (All-contains (WasSingle version blocks) _ s
            (All-take (WasSingle version blocks) a.since.singles a.seen.singles (kept.each id a mine lives).sees.singles) was) (same ∙ spot) there in
            subst (Leads version (buckets_of q.spec) s.word) (sym is) leads.1)
            (since_push a.since.singles a.seen.singles y t looks.begun.0 now);
        closed = λ s t q c at i before now spot there mounts is from below. ⊎_elim
            (λ old. looks.closed s t q c at i before old spot there mounts is from below)
            (λ new.
            let word = now_is at t.word (new ∙ (λ i. record { at = spot i; word = t.word })) q there in
            ap is_off word ∙ in_use_now s q c at i (All-contains (WasInUse blocks) _ s
            (All-take (WasInUse blocks) a.since.counts a.seen.counts (kept.each id a mine lives).sees.in_use) before) there mounts is from below)
            (since_push a.since.singles a.seen.singles y t looks.begun.0 now);
        begun = (longer_push a.since.singles a.seen.singles y looks.begun.0, looks.begun.1);
        noted = looks.noted;
        sum = λ reference sum q loaded. absurd (no_sum reference sum loaded);
      }

    -- ---- a counter more

    module _ (at : ℕ) (place : Place) (given : List Given) (still : (look : Look) (bucket units : ℕ) → a.hand.place ≢ Moving look bucket units)
        (sums : (reference : ℕ) (sum : ℤ) → place ≡ SumLoaded reference sum → a.hand.place ≡ SumLoaded reference sum) where
      abbrev z : Sighting
      z = record { at = at; word = word_at state.words at }

      abbrev counter_more : Seen
      counter_more = record a.seen { counts = a.seen.counts ++ z ∷ [] }

      abbrev looked : LooksBack kept.anatomy state.actors kept.roles.opener a
      looked = (kept.each id a mine lives).looks records

      now_word : (spot word : ℕ) → z ≡ record { at = spot; word = word } → word ≡ word_at state.words spot
      now_word spot word same = sym (ap (λ (s : Sighting). s.word) same) ∙ ap (λ (s : Sighting). word_at state.words s.at) same

      most_then : (known : Known) (bucket total : ℕ) → Contains a.answers.names known → bucket < buckets_of known.spec
          → SawBucket (seer a place counter_more given a.done.lost) known bucket total
          → total ≤ tally_units (all_counted state.actors) known.name (bucket_key (Some known) bucket)
      most_then known bucket total has below (word, single, inl on) = looked.most known bucket total has below (word, single, inl on)
      most_then known bucket total has below (word, single, inr (off, (refers, count, seen, saw, total_is))) = ⊎_elim
          (λ old. looked.most known bucket total has below (word, single, inr (off, (refers, count, seen, old, total_is))))
          (λ new.
          let is = now_word _ count new in
          let up = off_most known bucket word refers count has below (λ q there. off_is shape opened state kept id a mine lives known.reference word q there single off) seen
          (λ c mounted low. let now = count_now refers bucket c mounted low in omega (arith, is, now)) in
          omega (arith, up, total_is))
          (since_push a.since.counts a.seen.counts z _ looked.begun.1 saw)

      pub looks_count : LooksBack kept.anatomy state.actors kept.roles.opener (seer a place counter_more given a.done.lost)
      looks_count = record {
        most = most_then;
        packed = looked.packed;
        counted = λ known bucket count q has below there mounts saw settled. ⊎_elim
            (λ old. looked.counted known bucket count q has below there mounts old settled)
            (λ new.
            let (r, first, stands, named, many, keys) = knows_of known has in
            let same = one_record known.reference r q stands there in
            let form = ap (λ (x : Record). units_packed (form_at version x) bucket) same in
            let refers = ap (λ (x : Record). x.counts) same in
            let (c, mounted, of_it) = kept.records.mounted known.reference r stands (λ none_there. mounts (sym refers ∙ none_there)) in
            let within : bucket < buckets_of r.spec = omega (arith, below, many) in
            let units = of_it.units in
            let is = now_word _ count new ∙ ap (λ (n : ℕ). word_at state.words (n + 4 + bucket)) (sym refers) in
            let now = count_now r.counts bucket c mounted (omega (arith, within, units)) in
            let whole = whole_mounted shape opened state kept known.name r.spec known.reference r first stands named refl bucket within c mounted of_it in
            let quiet = settled_quiet known bucket r stands settled still in
            let key = ap (tally_units (all_counted state.actors) known.name) (keys bucket) in
            let accepted = accepted_counted shape opened state kept id a mine records lives known.name (bucket_key (Some known) bucket) in
            omega (arith, form, is, now, whole, quiet, key, accepted))
            (since_push a.since.counts a.seen.counts z _ looked.begun.1 saw);
        samples = λ known value where_at count has first saw. ⊎_elim
            (λ old. looked.samples known value where_at count has first old)
            (λ new.
            let (r, its_first, stands, named, many, keys) = knows_of known has in
            let (s, (there, of_it, valued)) = sample_of_first shape opened state.words (laid_out shape opened state kept) known.reference value where_at first in
            let is = now_word _ count new in
            let now = body_word where_at 6 (sample s) there (omega arith) in
            let whole = whole_sample shape opened state kept known.reference value where_at s first there in
            let name = one_name shape opened state kept s.name known.name spec.Sparse r.spec known.reference
            (subst (λ (n : ℕ). IsFirst kept.anatomy.records s.name spec.Sparse n) of_it (sample_first shape opened state.words (laid_out shape opened state kept) where_at s there)) its_first in
            let tally = ap (λ (name : List ℕ). tally_units (all_counted state.actors) name value) name in
            let accepted = accepted_counted shape opened state kept id a mine records lives known.name value in
            omega (arith, is, now, whole, tally, accepted))
            (since_push a.since.counts a.seen.counts z _ looked.begun.1 saw);
        rising = λ s t before now same.
            let was = before_push a.since.counts a.seen.counts z s looked.begun.1 before in
            ⊎_elim
            (λ old. looked.rising s t was old same)
            (λ new.
            let low = counter_now s (All-contains (WasCounter blocks) _ s
            (All-take (WasCounter blocks) a.since.counts a.seen.counts (kept.each id a mine lives).sees.counters) was) in
            let is = now_word t.at t.word new in
            let spot = ap (word_at state.words) same in
            omega (arith, low, is, spot))
            (since_push a.since.counts a.seen.counts z t looked.begun.1 now);
        leading = looked.leading;
        closed = λ s t q c spot i before. looked.closed s t q c spot i (before_push a.since.counts a.seen.counts z s looked.begun.1 before);
        begun = (looked.begun.0, longer_push a.since.counts a.seen.counts z looked.begun.1);
        noted = λ known count has saw. ⊎_elim
            (λ old. looked.noted known count has old)
            (λ new.
            let (r, first, stands, named, many, keys) = knows_of known has in
            let is = now_word _ count new in
            let now = body_word known.reference 13 (histogram r) stands (omega arith) in
            let whole = whole_noted shape opened state kept known.name r.spec known.reference r first stands named in
            let accepted = accepted_noted shape opened state kept id a mine records lives known.name in
            omega (arith, is, now, whole, accepted))
            (since_push a.since.counts a.seen.counts z _ looked.begun.1 saw);
        sum = λ reference sum q loaded. looked.sum reference sum q (sums reference sum loaded);
      }
