-- What an actor has seen of a bucket is at most what was counted there, even if it comes to know the counts only now.
use Rattle.segment_invariant.proofs.Prelude.Std.{◌≡◌, ◌≢◌, ℕ, ◌+◌, ◌-◌, ◌<◌, ◌≤◌, true, [], ◌∷◌, ◌++◌, length, Contains, refl, sym, ap, ◌∙◌, subst, arith, length-append, slice_index, pos, Some, get_or_append_left, All-contains, some, none, some-injective, get_elem?, split_among}
use Rattle.segment_invariant.proofs.Prelude.Machine.{Dimensions, buckets_of, boundaries_of, single_of, units_packed, Actor, Known, Spent, is_off, Leads, all_counted, bucket_key, SawCount, tally_units, State}
use Rattle.segment_invariant.proofs.Prelude.Invariant.{Record, Counts, Body, histogram, counts, words_of, Piece, Anatomy, form_at, Stands, HasRecord, HasCounts, WasCounter, WasSingle, IsRightlyKnown, StandsAs, Invariant}
use Rattle.std.proofs.lemmas.List.{get_or-append_right}
use Rattle.std.proofs.lemmas.List.Elements.{All-drop}
use Rattle.segment_machine.specs.Actor.{SawSingle}
use Rattle.segment_invariant.proofs.Blocks.Places.{counter_within}
use Rattle.segment_invariant.proofs.Blocks.Pieces.{one_index}
use Rattle.segment_invariant.proofs.Consistency.Keys.{same_boundaries, same_buckets}
use Rattle.segment_invariant.proofs.Counting.Held.{held_most}
use Rattle.segment_invariant.proofs.Frames.Leads.{off_leads}

-- a count comes after the header of its block
pub count_in : (c : Counts) (i : ℕ) → i < length c.units → slice_index (words_of (counts c)) (4 + i) ≡ slice_index c.units i
count_in c i below =
    let long = length-append c.units c.marks in
    let back : 4 + i - 4 ≡ i = omega arith in
    get_or-append_right (c.size ∷ 0xC8799269 ∷ 2 ∷ c.next ∷ []) (c.units ++ c.marks ++ c.rest) 4 (4 + i) 0 refl (omega arith)
    ∙ (ap (slice_index (c.units ++ c.marks ++ c.rest)) back
    ∙ (get_or_append_left (c.units ++ c.marks) c.rest 0 i (omega (arith, below, long)) ∙ get_or_append_left c.units c.marks 0 i below))

-- and a mark after the counts
pub mark_in : (c : Counts) (i : ℕ) → i < length c.marks → slice_index (words_of (counts c)) (4 + length c.units + i) ≡ slice_index c.marks i
mark_in c i below =
    let long = length-append c.units c.marks in
    let back : 4 + length c.units + i - 4 ≡ length c.units + i = omega arith in
    let again : length c.units + i - length c.units ≡ i = omega arith in
    get_or-append_right (c.size ∷ 0xC8799269 ∷ 2 ∷ c.next ∷ []) (c.units ++ c.marks ++ c.rest) 4 (4 + length c.units + i) 0 refl (omega arith)
    ∙ (ap (slice_index (c.units ++ c.marks ++ c.rest)) back
    ∙ (get_or_append_left (c.units ++ c.marks) c.rest 0 (length c.units + i) (omega (arith, below, long))
    ∙ (get_or-append_right c.units c.marks (length c.units) (length c.units + i) 0 refl (omega arith) ∙ ap (slice_index c.marks) again)))

module _ (shape : Dimensions) (opened : Anatomy) (state : State) (kept : Invariant shape opened state) (id : ℕ) (a : Actor)
    (mine : get_elem? state.actors id ≡ some a) (lives : a.hand.place ≢ Spent) where
  -- a histogram that it knows is there as a record of that name and with as many buckets, with the same keys
  pub known_stands : (known : Known) → Contains a.answers.names known
      → (r : Record) × HasRecord kept.anatomy.pieces known.reference r × (r.name ≡ known.name) × (boundaries_of r.spec ≡ boundaries_of known.spec)
      × (buckets_of r.spec ≡ buckets_of known.spec)
  known_stands known has =
      let knows = All-contains (IsRightlyKnown kept.anatomy) a.answers.names known (kept.each id a mine lives).names has in
      let (r, stands, named, same) =
      All-contains (λ l. StandsAs kept.anatomy.pieces l l.made) kept.anatomy.records _ kept.list.standing (split_among knows.first.0 knows.first.1 knows.first.2) in (
        r,
        stands,
        named,
        ap boundaries_of same ∙ same_boundaries knows.first_spec known.spec knows.same,
        ap buckets_of same ∙ same_buckets knows.first_spec known.spec knows.same,
      )

  -- a single word that was seen leads to that of the record
  led_on : (at word : ℕ) (r : Record) → HasRecord kept.anatomy.pieces at r
      → WasSingle kept.anatomy.version kept.anatomy.pieces (record { at = at + 9; word = word }) → Leads kept.anatomy.version (buckets_of r.spec) word r.single
  led_on at word r (k, there) (place, q, (j, here), is, formed, leads) =
      let index = one_index shape state.words kept.anatomy kept.shown k j _ _ 9 9 there here (omega arith) (omega arith) is in
      let same = some-injective _ _ (sym there ∙ (ap (get_elem? kept.anatomy.pieces) index ∙ here)) in
      let bodies : histogram q ≡ histogram r = sym (ap (λ (p : Piece). p.body) same) in
      let one : q ≡ r = cc bodies in
      subst (λ (r : Record). Leads kept.anatomy.version (buckets_of r.spec) word r.single) one leads

  -- so one that was off is that of the record
  pub off_was : (at word : ℕ) (r : Record) → HasRecord kept.anatomy.pieces at r
      → WasSingle kept.anatomy.version kept.anatomy.pieces (record { at = at + 9; word = word }) → is_off word ≡ true → word ≡ r.single
  off_was at word r stands was off = off_leads kept.anatomy.version (buckets_of r.spec) word r.single off (led_on at word r stands was)

  -- and so it is of one that it saw
  single_was : (at word : ℕ) → SawSingle a (at + 9) word → WasSingle kept.anatomy.version kept.anatomy.pieces (record { at = at + 9; word = word })
  single_was at word saw = All-contains (WasSingle kept.anatomy.version kept.anatomy.pieces) _ (record { at = at + 9; word = word })
      (All-drop (WasSingle kept.anatomy.version kept.anatomy.pieces) a.since.singles a.seen.singles (kept.each id a mine lives).sees.singles) saw

  pub seen_leads : (at word : ℕ) (r : Record) → HasRecord kept.anatomy.pieces at r → SawSingle a (at + 9) word
      → Leads kept.anatomy.version (buckets_of r.spec) word r.single
  seen_leads at word r stands saw = led_on at word r stands (single_was at word saw)

  pub off_is : (at word : ℕ) (r : Record) → HasRecord kept.anatomy.pieces at r → SawSingle a (at + 9) word → is_off word ≡ true → word ≡ r.single
  off_is at word r stands saw = off_was at word r stands (single_was at word saw)

  -- a counter that it saw is no more than it is
  pub counter_most : (at i word : ℕ) (body : Body) → Stands kept.anatomy.pieces at none body → i < length (words_of body) → SawCount a (at + i) word
      → word ≤ slice_index (words_of body) i
  counter_most at i word body (k, there) within saw =
      let counters = (kept.each id a mine lives).sees.counters in
      let (place, j, there_body, (m, here), is, counter, least) =
      All-contains (WasCounter kept.anatomy.pieces) _ (record { at = at + i; word = word })
      (All-drop (WasCounter kept.anatomy.pieces) a.since.counts a.seen.counts counters) saw in
      let index = one_index shape state.words kept.anatomy kept.shown k m _ _ i j there here within (counter_within there_body j counter) is in
      let same = some-injective _ _ (sym there ∙ (ap (get_elem? kept.anatomy.pieces) index ∙ here)) in
      let spot : at ≡ place = ap (λ (p : Piece). p.at) same in
      let word_is : j ≡ i = omega (arith, spot, is) in
      let value : slice_index (words_of there_body) j ≡ slice_index (words_of body) i = (λ n. slice_index (words_of (sym same n).body) (word_is n)) in
      omega (arith, least, value)

  -- so are a count and a mark of a counts block
  pub count_most : (at bucket count : ℕ) (c : Counts) → HasCounts kept.anatomy.pieces at c → bucket < length c.units → SawCount a (at + 4 + bucket) count
      → count ≤ slice_index c.units bucket
  count_most at bucket count c has below saw =
      let long = length-append c.units c.marks in
      let all = length-append (c.units ++ c.marks) c.rest in
      let place : at + 4 + bucket ≡ at + (4 + bucket) = omega arith in
      let most = counter_most at (4 + bucket) count (counts c) has (omega (arith, below, long, all)) (subst (λ n. SawCount a n count) place saw) in
      let value = count_in c bucket below in
      omega (arith, most, value)

  pub mark_most : (at bucket mark : ℕ) (c : Counts) → HasCounts kept.anatomy.pieces at c → bucket < length c.marks
      → SawCount a (at + 4 + length c.units + bucket) mark → mark ≤ slice_index c.marks bucket
  mark_most at bucket mark c has below saw =
      let long = length-append c.units c.marks in
      let all = length-append (c.units ++ c.marks) c.rest in
      let place : at + 4 + length c.units + bucket ≡ at + (4 + length c.units + bucket) = omega arith in
      let most = counter_most at (4 + length c.units + bucket) mark (counts c) has (omega (arith, below, long, all)) (subst (λ n. SawCount a n mark) place saw) in
      let value = mark_in c bucket below in
      omega (arith, most, value)

  -- so is what it saw of a bucket, if it saw the single word off and a count of the counts that the record names
  pub seen_most : (known : Known) (bucket word place count : ℕ) → Contains a.answers.names known → bucket < buckets_of known.spec
      → SawSingle a (known.reference + 9) word → is_off word ≡ true
      → ((r : Record) → HasRecord kept.anatomy.pieces known.reference r → r.counts ≡ place) → place ≢ 0 → SawCount a (place + 4 + bucket) count
      → count + units_packed (single_of kept.anatomy.version (buckets_of known.spec) word) bucket
      ≤ tally_units (all_counted state.actors) known.name (bucket_key (Some known) bucket)
  seen_most known bucket word place count has below single off refers some_place saw =
      let (r, stands, named, bounds, many) = known_stands known has in
      let at_place = refers r stands in
      let (c, mounted, of_it) = kept.records.mounted known.reference r stands (λ none_there. some_place (sym at_place ∙ none_there)) in
      let units = of_it.units in
      let counted = count_most r.counts bucket count c mounted (omega (arith, below, many, units)) (subst (λ n. SawCount a (n + 4 + bucket) count) (sym at_place) saw) in
      let most = held_most shape opened state kept known.reference r c bucket stands mounted of_it (omega (arith, below, many)) in
      let form : units_packed (single_of kept.anatomy.version (buckets_of known.spec) word) bucket ≡ units_packed (form_at kept.anatomy.version r) bucket =
      (λ i. units_packed (single_of kept.anatomy.version (sym many i) (off_is known.reference word r stands single off i)) bucket) in
      let tally : tally_units (all_counted state.actors) r.name (pos (slice_index (boundaries_of r.spec) bucket))
      ≡ tally_units (all_counted state.actors) known.name (bucket_key (Some known) bucket) =
      (λ i. tally_units (all_counted state.actors) (named i) (pos (slice_index (bounds i) bucket))) in
      omega (arith, counted, most, form, tally)
