-- Before its record names it the counts and the marks of a counts block are 0: it is mounted with nothing stored in it, and what was
-- stored would have stayed.
use Rattle.segment_promises.proofs.Readings.Lists.{is_chain}
use Rattle.segment_invariant.proofs.Notes.Announcements.{with_actor, notes_follow}
use Rattle.segment_invariant.proofs.Prelude.Std.{refl, ◌≡◌, ◌≢◌, ℕ, zero, suc, ◌+◌, ◌<◌, ◌≤◌, List, length, inl, inr, sym, ap, subst, ◌∙◌, arith, eq-eqb, slice_index, get_or_append_left, None, none, Contains, Contains-append_left, All-contains, dite, ℕ_discrete, [], ◌++◌, get_elem?, length-append, get_or-set_same, ⊎_elim, some, set, false}
use Rattle.segment_invariant.proofs.Prelude.Machine.{Dimensions, State, word_at, head_of, IsChain, Event, Actor, packing_event, mount_counts, buckets_of, is_opener, Ready}
use Rattle.segment_invariant.proofs.Prelude.Invariant.{counts, Anatomy, Record, histogram, other, words_of, Listed, layout_of, order_of, StandsAs, HasRecord, Invariant, found_at, KeptOn}
use Rattle.std.proofs.Math.Decide.{dec_lt}
use Rattle.std.proofs.lemmas.List.{get_or-set_other}
use Rattle.alloc_core.proofs.Layouts.{length_shown}
use Rattle.bucket_ranges.proofs.Walks.{IsListed-from_end, listed_agree}
use Rattle.segment_image.specs.declared.layout.TheConstants.{VERSION_FROZEN}
use Rattle.segment_machine.specs.Event.{spot, change}
use Rattle.segment_machine.specs.Reached.{IsReached, started, stepped}
use Rattle.segment_machine.specs.State.{memory}
use Rattle.segment_invariant.proofs.Blocks.Pieces.{piece_word, one_stands}
use Rattle.segment_invariant.proofs.Consistency.Firsts.{record_on_list}
use Rattle.segment_invariant.proofs.Frames.LaidOut.{laid_out}
use Rattle.look_promises.specs.Runs.{RunsThrough}
use Rattle.look_promises.proofs.Moments.Runs.{Run, run_of, kept_at, chain_at, chain_is, reached}
use Rattle.look_promises.proofs.NewRecords.Earlier.{Became, becoming}
use Rattle.look_promises.proofs.Copies.References.{counts_word}
use Rattle.look_promises.proofs.NewRecords.Starts.{not_yet}
use Rattle.look_promises.proofs.NewRecords.Mounting.{mounts, turns}
use Rattle.look_promises.proofs.NewRecords.Blank.{hand_at}
use Rattle.look_promises.proofs.NewRecords.Payloads.{HasStored}
use Rattle.look_promises.proofs.Moments.Room.{claimed_from}
use Rattle.look_promises.proofs.Moments.Grounds.{buckets_said}
use Rattle.look_promises.proofs.Copies.Following.{lies}
use Rattle.look_promises.proofs.Moments.Unchanged.{IsUnchanging}
use Rattle.segment_promises.specs.Lists.{links_of}
use Rattle.segment_promises.proofs.Links.{links_or_not}
use Rattle.segment_promises.proofs.Chains.{chains_are_links}
use Rattle.alloc_core.proofs.Owners.{set_at}
use Rattle.segment_invariant.proofs.Counting.Looks.{knows_of}
use Rattle.look_promises.proofs.Moments.Listed.{ends_at, same_place, word_kept}
use Rattle.std.proofs.lemmas.List.Elements.{Contains-get_or}

-- ---- a record among those of a list

module _ (shape : Dimensions) (opened : Anatomy) (state : State) (kept : Invariant shape opened state) (h : ℕ) where
  -- a record that was given is not one of those to which nothing was
  pub not_passed : (r : Record) → HasRecord kept.anatomy.pieces h r → Contains opened.records (record { reference = h; made = None }) → ⊥
  not_passed r has among =
      let l : Listed = record { reference = h; made = None } in
      let (front, is, permuted) = kept.list.once in
      let there = subst (λ (records : List Listed). Contains records l) (sym is) (Contains-append_left opened.records front l among) in
      let (size, tag, next, payload, stands, kind, long) = All-contains (λ l. StandsAs kept.anatomy.pieces l l.made) kept.anatomy.records l kept.list.standing there in
      cc (one_stands shape state.words kept.anatomy kept.shown h none none (histogram r) (other size tag next payload) has stands).1

  -- so one of its type is a histogram's
  pub record_there : Contains (order_of kept.anatomy) h → word_at state.words (h + 2) ≡ 1 → (Contains opened.records (record { reference = h; made = None }) → ⊥)
      → (q : Record) × HasRecord kept.anatomy.pieces h q
  record_there there one given = elim (record_on_list shape opened state.words (laid_out shape opened state kept) h there one) [
    | inl (l, name, kind, q, among, place, made, (has, named, specified)) ↦ (q, has)
    | inr (l, front, q, among, nothing, (over, n, passed)) ↦ absurd (given passed.0)
  ]

-- two chains of the same words are one
one_chain : (words chain beside : List ℕ) → IsChain words (head_of words) chain → IsChain words (head_of words) beside → chain ≡ beside
one_chain words chain beside first second =
    listed_agree words (head_of words) chain beside (IsListed-from_end words (head_of words) chain first.walk (eq-eqb _ 12 first.ended))
    (IsListed-from_end words (head_of words) beside second.walk (eq-eqb _ 12 second.ended))

-- ---- a run of four states

abbrev four_states : State → State → State → State → ℕ → State
four_states first old new last zero = first
four_states first old new last (suc zero) = old
four_states first old new last (suc (suc zero)) = new
four_states first old new last (suc (suc (suc n))) = last

four_run : (shape : Dimensions) (opened : Anatomy) (first old new last : State) → opened.version ≡ VERSION_FROZEN → Invariant shape opened first
    → IsReached opened.version first old → IsReached opened.version old new → IsReached opened.version new last
    → RunsThrough shape opened (four_states first old new last)
four_run shape opened first old new last version kept one two three = record {
  version = version;
  kept = kept;
  goes_on = goes;
}
  where
    as_two : (a b : State) → IsReached opened.version a b → IsReached VERSION_FROZEN a b
    as_two a b = subst (λ (v : ℕ). IsReached v a b) version

    goes : (n : ℕ) → IsReached VERSION_FROZEN (four_states first old new last n) (four_states first old new last (suc n))
    goes zero = as_two first old one
    goes (suc zero) = as_two old new two
    goes (suc (suc zero)) = as_two new last three
    goes (suc (suc (suc n))) = started

module _ (run : Run) (m last k : ℕ) (le : m ≤ last) (below : k < length (chain_at run last))
    (r : Record) (has : HasRecord (kept_at run last).anatomy.pieces (slice_index (chain_at run last) k) r) where
  open run use {shape, opened, at}

  abbrev h : ℕ
  h = slice_index (chain_at run last) k

  abbrev late : Invariant shape opened (at last)
  late = kept_at run last

  -- a word of the record at the end
  word_last : (i : ℕ) → i < 15 → word_at (at last).words (h + i) ≡ slice_index (words_of (histogram r)) i
  word_last i lt = piece_word shape (at last).words late.anatomy late.shown has.0 (record { at = h; owner = none; body = histogram r }) i has.1 (omega (arith, lt))

  module _ (not : word_at (at m).words (h + 8) ≢ r.counts) (some_counts : r.counts ≢ 0) where
    became : Became opened.version (at m) (h + 8) r.counts (at last)
    became = becoming opened.version (at m) (h + 8) r.counts (at last) (reached run m last le) not (word_last 8 (omega arith))

    abbrev old : State
    old = became.old

    abbrev new : State
    new = became.new

    abbrev states : ℕ → State
    states = four_states (at m) old new (at last)

    one_step : IsReached opened.version old new
    one_step = stepped old new became.id became.event started became.step

    runs : RunsThrough shape opened states
    runs = four_run shape opened (at m) old new (at last) run.version (kept_at run m) became.before one_step became.behind

    abbrev four : Run
    four = run_of shape opened states runs

    -- the list at the end is the same
    same_chain : chain_at four 3 ≡ chain_at run last
    same_chain = one_chain (at last).words (chain_at four 3) (chain_at run last)
        (chain_is four 3) (chain_is run last)

    h_is : slice_index (chain_at four 3) k ≡ h
    h_is = ap (λ (l : List ℕ). slice_index l k) same_chain

    below_end : k < length (chain_at four 3)
    below_end = let long = ap length same_chain in omega (arith, below, long)

    -- and has the record
    there_end : (q : Record) × HasRecord (kept_at four 3).anatomy.pieces h q
    there_end = record_there shape opened (at last) (kept_at four 3) h
        (subst (λ (l : List ℕ). Contains l h) (sym same_chain) (Contains-get_or (chain_at run last) k 0 below))
        (word_last 2 (omega arith)) (not_passed shape opened (at last) late h r has)

    abbrev r_end : Record
    r_end = there_end.0

    has_end : HasRecord (kept_at four 3).anatomy.pieces (slice_index (chain_at four 3) k) r_end
    has_end = subst (λ (n : ℕ). HasRecord (kept_at four 3).anatomy.pieces n r_end) (sym h_is) there_end.1

    counts_end : r_end.counts ≡ r.counts
    counts_end =
        let kept = kept_at four 3 in
        sym (piece_word shape (at last).words kept.anatomy kept.shown there_end.1.0 (record { at = h; owner = none; body = histogram r_end }) 8 there_end.1.1 (omega arith))
        ∙ word_last 8 (omega arith)

    -- ---- before the step

    was_none : word_at old.words (h + 8) ≡ 0
    was_none = elim (counts_word four 1 3 k (omega arith) below_end r_end has_end) [
      | inl nothing ↦ ap (λ (n : ℕ). word_at old.words (n + 8)) (sym h_is) ∙ nothing
      | inr its ↦ absurd (became.was (ap (λ (n : ℕ). word_at old.words (n + 8)) (sym h_is) ∙ (its ∙ counts_end)))
    ]

    on_new : k < length (chain_at four 2)
    on_new = elim (dec_lt k (length (chain_at four 2))) [
      | yes lt ↦ lt
      | no far ↦ absurd (some_counts (sym became.now ∙ (ap (λ (n : ℕ). word_at new.words (n + 8)) (sym h_is)
          ∙ not_yet four 2 3 k 8 (omega arith) (histogram r_end) below_end (omega (arith, far)) has_end (omega arith, omega arith))))
    ]

    -- ---- the step

    spot_is : spot (length old.words) became.event ≡ h + 8
    spot_is = dite (ℕ_discrete (spot (length old.words) became.event) (h + 8))
        (λ same. same)
        (λ apart. absurd (became.was (sym (unchanged (λ same. apart (sym same))) ∙ became.now)))
      where
        within : h + 8 < length old.words
        within =
            let kept = kept_at four 1 in
            let long = length_shown shape old.words (layout_of kept.anatomy) kept.shown in
            let ends = ends_at run last h (histogram r) has in
            omega (arith, long, ends)

        unchanged : h + 8 ≢ spot (length old.words) became.event → word_at new.words (h + 8) ≡ word_at old.words (h + 8)
        unchanged apart =
            let size = became.step.size in
            let inside = within in
            sym (get_or_append_left new.words new.cursors 0 (h + 8) (omega (arith, size, inside)))
            ∙ (ap (λ (m : List ℕ). word_at m (h + 8)) became.step.memory_is
            ∙ (get_or-set_other (memory old) (spot (length old.words) became.event) (h + 8) _ 0 apart
            ∙ get_or_append_left old.words old.cursors 0 (h + 8) inside))

    abbrev event : Event
    event = became.event

    inside_old : h + 8 < length old.words
    inside_old =
        let kept = kept_at four 1 in
        let long = length_shown shape old.words (layout_of kept.anatomy) kept.shown in
        let ends = ends_at run last h (histogram r) has in
        omega (arith, long, ends)

    found_none : found_at old event ≡ 0
    found_none = ap (word_at (memory old)) spot_is ∙ (get_or_append_left old.words old.cursors 0 (h + 8) inside_old ∙ was_none)

    -- what it puts there
    puts : change 2 event 0 ≡ r.counts
    puts =
        let size = became.step.size in
        let inside = inside_old in
        let long = length-append old.words old.cursors in
        let at_spot = spot_is in
        let v : ℕ = change opened.version event (found_at old event) in
        (λ i. change (sym run.version i) event (sym found_none i))
        ∙ (sym (get_or-set_same (memory old) (spot (length old.words) event) v 0 (omega (arith, at_spot, inside, long)))
        ∙ (ap (word_at (set (memory old) (spot (length old.words) event) v)) at_spot
        ∙ (ap (λ (ws : List ℕ). word_at ws (h + 8)) (sym became.step.memory_is)
        ∙ (get_or_append_left new.words new.cursors 0 (h + 8) (omega (arith, size, inside)) ∙ became.now))))

    -- the record was on the list
    no_links : links_of opened.version old new one_step ≡ []
    unfolding one_step
    no_links = ⊎_elim
        (λ linked. let none = found_none in absurd (omega (arith, linked.3, none)))
        (λ same. same [])
        (links_or_not event (found_at old event))

    on_old : k < length (chain_at four 1)
    on_old =
        let is = one_chain new.words (chain_at four 2) (chain_at four 1 ++ links_of opened.version old new one_step)
        (chain_is four 2)
        (chains_are_links shape opened old new (chain_at four 1) (kept_at four 1) one_step (chain_is four 1)) in
        let all = ap length is in
        let long = length-append (chain_at four 1) (links_of opened.version old new one_step) in
        let none = ap length no_links in
        let there = on_new in
        omega (arith, there, all, long, none)

    place_old : slice_index (chain_at four 1) k ≡ h
    place_old = sym (same_place four 1 3 k (omega arith) on_old).1 ∙ h_is

    word_old : (i : ℕ) → IsUnchanging (histogram r_end) i → i < 15 → word_at old.words (h + i) ≡ slice_index (words_of (histogram r_end)) i
    word_old i stays lt = subst (λ (n : ℕ). word_at old.words (n + i) ≡ slice_index (words_of (histogram r_end)) i) place_old
        (word_kept four 1 3 k i (histogram r_end) (omega arith) on_old
        (subst (λ (n : ℕ). HasRecord (kept_at four 3).anatomy.pieces n r_end) (sym place_old) there_end.1) stays (omega (arith, lt)))

    -- ---- at its event

    abbrev a : Actor
    a = became.step.at

    abbrev mid : State
    mid = with_actor old became.id a

    follows : KeptOn shape opened (kept_at four 1) mid × (is_opener a.role ≡ false)
    follows = notes_follow shape opened became.step.before old became.id became.step.actor a (kept_at four 1) became.step.there became.step.is_recorder
        became.step.notes_before

    kept_mid : Invariant shape opened mid
    kept_mid = follows.0.0

    mine : get_elem? mid.actors became.id ≡ some a
    mine = set_at old.actors became.id became.step.actor a became.step.there

    here_mid : (q : Record) × HasRecord kept_mid.anatomy.pieces h q
    here_mid =
        let same = one_chain old.words (order_of kept_mid.anatomy) (chain_at four 1) (is_chain shape opened mid kept_mid) (chain_is four 1) in
        record_there shape opened mid kept_mid h
        (subst (λ (l : List ℕ). Contains l h) (sym same) (subst (Contains (chain_at four 1)) place_old
        (Contains-get_or (chain_at four 1) k 0 on_old)))
        (word_old 2 (inl (omega arith)) (omega arith)) (not_passed shape opened (at last) late h r has)

    is_mount : event ≡ packing_event (mount_counts h r.counts)
    is_mount =
        let (c, stands, it) = late.records.mounted h r has some_counts in
        let from = claimed_from run last r.counts (counts c) refl stands in
        let ends = ends_at run last r.counts (counts c) stands in
        let many = run.kept.shown.sound.lawful.many in
        mounts shape opened mid kept_mid became.id a mine follows.1 h here_mid.0 here_mid.1 (kept_mid.same.0 ∙ run.version) r.counts from (omega (arith, ends, many))
        (lies run last k below).0 inside_old event became.step.ready spot_is puts

    -- so its block was blank
    blank : (p v : ℕ) (some_word : v ≢ 0) → word_at (at m).words (r.counts + (4 + p)) ≡ v → p < buckets_of r.spec + buckets_of r.spec → ⊥
    blank p v some_word is few =
        let (own, known, unbound, among, place_is, (knows, is_known, bucketed), counts_in, (tag, unended, bare, room)) = subst (Ready a) is_mount became.step.ready in
        let hand = hand_at shape opened (at m) (kept_at run m) r.counts p v some_word is old new became.id event became.before became.step in
        let lives = turns shape opened mid kept_mid became.id a mine follows.1 h here_mid.0 here_mid.1 unbound in
        let (q, first, there, named, many, keys) = knows_of shape opened mid kept_mid became.id a mine follows.1 lives known knows in
        let stands = subst (λ (n : ℕ). HasRecord kept_mid.anatomy.pieces n q) is_known there in
        let said : word_at old.words (h + 7) ≡ buckets_of q.spec =
        piece_word shape old.words kept_mid.anatomy kept_mid.shown stands.0 (record { at = h; owner = none; body = histogram q }) 7 stands.1 (omega arith) ∙ buckets_said q.spec in
        let later : word_at old.words (h + 7) ≡ buckets_of r_end.spec = word_old 7 (inr (inl (omega arith))) (omega arith) ∙ buckets_said r_end.spec in
        let kept = kept_at four 3 in
        let end : word_at (at last).words (h + 7) ≡ buckets_of r_end.spec =
        piece_word shape (at last).words kept.anatomy kept.shown there_end.1.0 (record { at = h; owner = none; body = histogram r_end }) 7 there_end.1.1 (omega arith) ∙ buckets_said r_end.spec in
        let mine_is : word_at (at last).words (h + 7) ≡ buckets_of r.spec = word_last 7 (omega arith) ∙ buckets_said r.spec in
        ⊎_elim
        (λ short. omega (arith, short, room, many, said, later, end, mine_is, few))
        (λ stored. some_word (sym stored ∙ ap (λ (payload : List ℕ). slice_index payload p) bare))
        (All-contains (HasStored r.counts p v some_word) a.hand.own own hand.1 among place_is)

    -- and its counts and marks were 0
    pub none_before : (p : ℕ) → p < buckets_of r.spec + buckets_of r.spec → word_at (at m).words (r.counts + (4 + p)) ≡ 0
    none_before p few = dite (ℕ_discrete (word_at (at m).words (r.counts + (4 + p))) 0)
        (λ is. is)
        (λ some_word. absurd (blank p (word_at (at m).words (r.counts + (4 + p))) some_word refl few))
