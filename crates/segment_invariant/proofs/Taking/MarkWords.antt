-- A mark of a counts block rises: the block continues. What a recorder that has loaded a count knows of a mark, and that it sees the mark.
use Rattle.segment_invariant.proofs.Prelude.Std.{◌≡◌, ◌≢◌, true, false, ℕ, suc, ◌+◌, ◌-◌, ◌<◌, ◌≤◌, List, [], ◌∷◌, ◌++◌, length, set, Some, ⊎_elim, refl, sym, ap, ◌∙◌, subst, arith, length-append, length-set, slice_index, get_or-set_same, All-contains, All-push, dite, some, ℕ_discrete, get_elem?}
use Rattle.segment_invariant.proofs.Prelude.Machine.{Dimensions, word_at, buckets_of, packed_bucket, Actor, Look, Spent, Looking, Moving, Seen, Sighting, is_bound, is_opener, is_off, State}
use Rattle.segment_invariant.proofs.Prelude.Invariant.{Record, Counts, Sample, counts, sample, Anatomy, form_at, HasRecord, HasCounts, HasSample, WasCounter, WasInUse, WasSingle, WasMet, IsCountsOf, Invariant, KeptOn}
use Rattle.std.proofs.lemmas.List.{get_or-set_other, set-append_left, set-append_right}
use Rattle.segment_invariant.specs.Body.{counts_words}
use Rattle.segment_invariant.specs.Invariant.{LoadedOff}
use Rattle.segment_invariant.proofs.Blocks.Places.{counter_within}
use Rattle.segment_invariant.proofs.Frames.Leads.{off_leads}
use Rattle.segment_invariant.proofs.Frames.OneActor.{rests_at}
use Rattle.segment_invariant.proofs.Frames.SeesMore.{seer, near_on}
use Rattle.segment_invariant.proofs.Changes.Words.{Turns, word_turns}
use Rattle.segment_invariant.proofs.Counting.CountSeen.{the_counts}
use Rattle.segment_invariant.proofs.Counting.Looks.{same_block, body_word, single_now, looks_count}
use Rattle.segment_invariant.proofs.Counting.Seen.{mark_in}
use Rattle.segment_invariant.proofs.Counting.Sights.{counter_is, sees_on}

-- ---- the block

module _ (c : Counts) (i u : ℕ) (below : i < length c.marks) where
  -- with `u` units more in a mark
  abbrev pub marked : Counts
  marked = record c { marks = set c.marks i (slice_index c.marks i + u) }

  abbrev spot : ℕ
  spot = 4 + (length c.units + i)

  abbrev v : ℕ
  v = slice_index c.marks i + u

  marked_words : counts_words marked ≡ set (counts_words c) spot v
  marked_words =
      let long = length-append c.units c.marks in
      let four : suc (suc (suc (suc (length c.units + i)))) ≡ spot = omega arith in
      let back : length c.units + i - length c.units ≡ i = omega arith in
      ap (λ (l : List ℕ). c.size ∷ 0xC8799269 ∷ 2 ∷ c.next ∷ l)
      (sym (set-append_left (c.units ++ c.marks) c.rest (length c.units + i) v (omega (arith, below, long))
      ∙ ap (λ (l : List ℕ). l ++ c.rest) (set-append_right c.units c.marks (length c.units) (length c.units + i) v refl (omega arith)
      ∙ ap (λ (k : ℕ). c.units ++ set c.marks k v) back)))
      ∙ ap (λ (k : ℕ). set (counts_words c) k v) four

  within : spot < length (counts_words c)
  within =
      let long = length-append c.units c.marks in
      let all = length-append (c.units ++ c.marks) c.rest in
      omega (arith, below, long, all)

  rises : (k : ℕ) → slice_index (counts_words c) k ≤ slice_index (counts_words marked) k
  rises k =
      let words = ap (λ (l : List ℕ). slice_index l k) marked_words in
      dite (ℕ_discrete k spot)
      (λ same.
      let now = ap (slice_index (set (counts_words c) spot v)) same ∙ get_or-set_same (counts_words c) spot v 0 within in
      let four : 4 + length c.units + i ≡ spot = omega arith in
      let was = ap (slice_index (counts_words c)) (same ∙ sym four) ∙ mark_in c i below in
      omega (arith, words, now, was))
      (λ ne. let now = get_or-set_other (counts_words c) spot k v 0 ne in omega (arith, words, now))

  -- the block continues in this way
  pub marked_turns : (version : ℕ) → Turns version (counts c) (counts marked) spot v
  marked_turns version = word_turns version (counts c) (counts marked) spot v refl refl marked_words within (omega arith)
      (marked, refl, record { is = refl; long = (refl, length-set c.marks i v); rise = rises })

  -- and is the counts block of a record whose single word is off and packs another bucket
  pub marked_counts : (version at : ℕ) (r : Record) → is_off r.single ≡ true → packed_bucket (form_at version r) ≢ Some i → IsCountsOf version at r c
      → IsCountsOf version at r marked
  marked_counts version at r off apart is = record {
    mine = is.mine;
    named = is.named;
    same = is.same;
    units = is.units;
    marks = length-set c.marks i v ∙ is.marks;
    sized = (let sized = is.sized in let long = length-set c.marks i v in omega (arith, sized, long));
    packed = λ k packs. get_or-set_other c.marks i k v 0 (λ same. apart (packs ∙ ap Some same)) ∙ is.packed k packs;
    unused = λ on. absurd (cc (sym off ∙ on));
    mark = is.mark;
  }

-- ---- what a recorder knows that has loaded a count

module _ (shape : Dimensions) (opened : Anatomy) (state : State) (kept : Invariant shape opened state) (id : ℕ) (a : Actor)
    (mine : get_elem? state.actors id ≡ some a) (recorder : is_opener a.role ≡ false) (unbound : is_bound a.hand.place ≡ false) (look : Look) (off : LoadedOff a look) (bucket : ℕ)
    (below : bucket < buckets_of off.0.known.spec) where
  abbrev pub TheMarks : Type 0
  TheMarks = (r : Record) × (c : Counts) × HasRecord kept.anatomy.pieces look.histogram r × HasCounts kept.anatomy.pieces look.counts c
      × IsCountsOf kept.anatomy.version look.histogram r c × (bucket < length c.marks) × (off.2.0 ≡ r.single) × (is_off r.single ≡ true)
      × (word_at state.words (look.counts + 4 + bucket) ≡ slice_index c.units bucket)

  pub the_marks : TheMarks
  the_marks =
      let fits = kept.each id a mine (λ spent. cc (unbound, ap is_bound spent)) in
      let (r, c, stands, mounted, of_it, low, now, few) = the_counts shape opened state kept id a mine recorder unbound look off.0 off.1 bucket below in
      let leads = single_now shape opened state kept (record { at = look.histogram + 9; word = off.2.0 }) look.histogram r
      (All-contains (WasSingle kept.anatomy.version kept.anatomy.pieces) a.seen.singles _ fits.sees.singles (off.0.single off.2.0 off.2.1)) refl stands in
      let same = off_leads kept.anatomy.version (buckets_of r.spec) off.2.0 r.single off.2.2 leads.1 in
      let units = of_it.units in
      let marks = of_it.marks in
      (r, c, stands, mounted, of_it, omega (arith, low, units, marks), same, sym (ap is_off same) ∙ off.2.2, now)

  abbrev c : Counts
  c = the_marks.1

  abbrev i : ℕ
  i = 4 + (length c.units + bucket)

  pub mark_now : word_at state.words (look.counts + (4 + (length c.units + bucket))) ≡ slice_index c.marks bucket
  mark_now =
      let low = the_marks.5 in
      let four : 4 + (length c.units + bucket) ≡ 4 + length c.units + bucket = omega arith in
      body_word shape opened state kept look.counts i (counts c) the_marks.3 (counter_within (counts c) i (omega arith, omega (arith, low)))
      ∙ (ap (slice_index (counts_words c)) four ∙ mark_in c bucket low)

  -- ---- it sees the mark

  module _ (at : ℕ) (spot : at ≡ look.counts + (4 + (length c.units + bucket))) where
    abbrev z : Sighting
    z = record { at = at; word = word_at state.words at }

    abbrev saw : Seen
    saw = record a.seen { counts = a.seen.counts ++ z ∷ [] }

    used : WasInUse kept.anatomy.pieces z
    used other k d there is from inside =
        let low = the_marks.5 in
        let long = length-append d.units d.marks in
        let all = length-append (d.units ++ d.marks) d.rest in
        let (place, bodies, index) = same_block shape opened state kept look.counts other i k (counts c) (counts d) the_marks.3 there
        (counter_within (counts c) i (omega arith, omega (arith, low))) (omega (arith, inside, long, all)) (sym spot ∙ is) in
        let same : c ≡ d = cc bodies in
        (the_marks.0, subst (λ (n : ℕ). HasRecord kept.anatomy.pieces n the_marks.0) (sym the_marks.4.mine ∙ ap (λ (c : Counts). c.of) same) the_marks.2, the_marks.7)

    no_sample : {X : Type 0} (other k : ℕ) (x : Sample) → HasSample kept.anatomy.pieces other x → at ≡ other + k → k < 8 → X
    no_sample other k x is_sample same few =
        let low = the_marks.5 in
        let (place, bodies, index) = same_block shape opened state kept look.counts other i k (counts c) (sample x) the_marks.3 is_sample
        (counter_within (counts c) i (omega arith, omega (arith, low))) (omega (arith, few)) (sym spot ∙ same) in
        absurd (cc bodies)

    -- so the state is kept when it sees that mark and looks on
    pub mark_seen : KeptOn shape opened kept (record {
      words = state.words;
      cursors = state.cursors;
      actors = set state.actors id (seer a (Looking look) saw a.done.given a.done.lost);
    })
    mark_seen =
        let lives : a.hand.place ≢ Spent = λ spent. cc (unbound, ap is_bound spent) in
        let still : (look : Look) (bucket units : ℕ) → a.hand.place ≢ Moving look bucket units = λ look bucket units moving. cc (unbound, ap is_bound moving) in
        let fits = kept.each id a mine lives in
        let low = the_marks.5 in
        let right = off.0 in
        sees_on shape opened state kept id a mine recorder (Looking look) a.seen.singles (a.seen.counts ++ z ∷ []) unbound refl
        (λ name key. sym (rests_at a name key a.hand.place still))
        (near_on shape opened state kept id a mine recorder (Looking look) saw a.done.given a.done.lost lives (λ spent. cc spent)
        (λ name key. sym (rests_at a name key a.hand.place still)) (λ reference sum is. absurd (cc is)))
        fits.sees.singles
        (All-push (WasCounter kept.anatomy.pieces) a.seen.counts z fits.sees.counters
        (counter_is shape opened state kept at look.counts i (counts c) the_marks.3 (omega arith, omega (arith, low)) spot))
        (All-push (WasInUse kept.anatomy.pieces) a.seen.counts z fits.sees.in_use used)
        (All-push (WasMet kept.anatomy.pieces a.seen) a.seen.counts z fits.sees.met (λ other x is_sample which. ⊎_elim
        (λ six. no_sample other 6 x is_sample six (omega arith))
        (λ seven. no_sample other 7 x is_sample seven (omega arith))
        which))
        right
        (looks_count shape opened state kept id a mine recorder lives at (Looking look) a.done.given still (λ reference sum is. absurd (cc is)))
