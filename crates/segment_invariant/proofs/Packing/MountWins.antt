-- A counts block is mounted, and no other was first: the invariant is kept, with what is learned.
use Rattle.segment_invariant.proofs.Prelude.Std.{◌≡◌, ◌≢◌, Bool, true, false, ◌==◌, if◌then◌else◌, ℕ, ◌+◌, ◌*◌, ◌<◌, ◌≤◌, List, [], ◌∷◌, ◌++◌, length, set, All, Contains, None, inr, refl, sym, ap, ◌∙◌, subst, arith, eqb-true, ne_eqb, set-set, get_or-set_same, All-contains, All-weaker, Contains-push, some, get_elem?, row_in}
use Rattle.segment_invariant.proofs.Prelude.Machine.{Behind, Dimensions, word_at, Spec, Sparse, buckets_of, spec_fields, Actor, Known, Own, Look, Spent, Idle, Looking, Sighting, is_bound, has_buckets, Buckets, counted_of, taken_of, is_opener, sight_counts, packing_event, Ready, mount_counts, after_mount, State}
use Rattle.segment_invariant.proofs.Prelude.Invariant.{Record, Counts, histogram, counts, held, Piece, Anatomy, HasRecord, IsFirst, IsRightlyKnown, WasFixed, HoldsOwn, Invariant, KeptOn, EventKeeps}
use Rattle.alloc_core.proofs.Owners.{set_at}
use Rattle.segment_machine.specs.Calls.{without}
use Rattle.segment_invariant.specs.Seen.{HasOwn}
use Rattle.segment_invariant.specs.Invariant.{IsOnList}
use Rattle.segment_invariant.proofs.Blocks.Published.{Publishes, Only}
use Rattle.segment_invariant.proofs.Consistency.Books.{one_first}
use Rattle.segment_invariant.proofs.Frames.Ahead.{unbound_unbeaten}
use Rattle.segment_invariant.proofs.Frames.Anatomies.{balanced_same}
use Rattle.segment_invariant.proofs.Frames.GoesOn.{happens, not_opener}
use Rattle.segment_invariant.proofs.Frames.OneActor.{Doing, doing_of, SameDeeds, turns_unbound, same_deeds, same_sums}
use Rattle.segment_invariant.proofs.Frames.Onward.{sees_on}
use Rattle.segment_invariant.proofs.Frames.Shown.{Goes}
use Rattle.segment_invariant.proofs.Frames.Together.{balanced, finals}
use Rattle.segment_invariant.proofs.Frames.Rises.{kept_again}
use Rattle.segment_invariant.proofs.Lists.Ends.{all_without, distinct_filter}
use Rattle.segment_invariant.proofs.Counting.Learned.{counts_stay}
use Rattle.segment_invariant.proofs.Counting.Loaded.{counts_found, counts_within, counts_fixed}
use Rattle.segment_invariant.proofs.Counting.Looks.{knows_of}
use Rattle.segment_invariant.proofs.Counting.References.{words_seen}
use Rattle.segment_invariant.proofs.Counting.Seen.{known_stands}
use Rattle.segment_invariant.proofs.Counting.Sights.{word_within}
use Rattle.segment_invariant.proofs.Publishing.Linkable.{sparse_same}
use Rattle.segment_invariant.proofs.Changes.Changes.{changes_on}
use Rattle.segment_invariant.proofs.Changes.Others.{Deed, deed_of, changed, alone_was, is_later, looks_on}
use Rattle.segment_invariant.proofs.Changes.Sums.{sums_on}
use Rattle.segment_invariant.proofs.Changes.Words.{Turns, stands_still, turned_shown, turned_still, turned_right, turned_linked, turned_claims}
use Rattle.segment_invariant.proofs.Packing.Mounted as mounted
use Rattle.segment_invariant.proofs.Packing.MountRecords.{own_some, sums_same, records_now}
use Rattle.segment_invariant.proofs.Packing.Mounts.{mount_beaten}

-- a spec with buckets is not sparse
not_sparse : (kind : Spec) → has_buckets kind ≡ true → kind ≢ Sparse
not_sparse kind bucketed sparse = cc (bucketed, ap has_buckets sparse)

module _ (shape : Dimensions) (opened : Anatomy) (state : State) (kept : Invariant shape opened state) (id : ℕ) (a : Actor)
    (mine : get_elem? state.actors id ≡ some a) (recorder : is_opener a.role ≡ false) (unbound : is_bound a.hand.place ≡ false)
    (h : ℕ) (known : Known) (buckets : Buckets a h known) (r : Record) (own : Own) (stands : HasRecord kept.anatomy.pieces h r)
    (unmounted : r.counts ≡ 0) (holds : HasOwn kept.anatomy.pieces id own) (tag : own.tag ≡ 2) (bare : own.payload ≡ [])
    (room : 4 + 2 * buckets_of r.spec ≤ own.size) (bucketed : r.spec ≢ Sparse)
    (first_is : (kind : Spec) (place : ℕ) → IsFirst kept.anatomy.records r.name kind place → place ≡ h) where
  abbrev s : Record
  s = mounted.s shape opened state kept id h r own stands unmounted holds tag bare room

  abbrev c : Counts
  c = mounted.c shape opened state kept id h r own stands unmounted holds tag bare room

  abbrev turns : Turns kept.anatomy.version (histogram r) (histogram s) 8 own.at
  turns = mounted.turns shape opened state kept id h r own stands unmounted holds tag bare room

  abbrev half : Anatomy
  half = mounted.half shape opened state kept id h r own stands unmounted holds tag bare room

  abbrev pieces : List Piece
  pieces = mounted.pieces shape opened state kept id h r own stands unmounted holds tag bare room

  abbrev new : Anatomy
  new = record kept.anatomy { pieces = pieces }

  abbrev published : Publishes shape id half pieces (Only own.at (counts c))
  published = mounted.published shape opened state kept id h r own stands unmounted holds tag bare room

  lives : a.hand.place ≢ Spent
  lives spent = cc (unbound, ap is_bound spent)

  -- ---- the block is mounted, and its actor has not seen it yet

  abbrev deed : Deed
  deed = record (deed_of a) { place = Idle; own = without own.at a.hand.own }

  abbrev b : Actor
  b = changed a deed

  abbrev actors : List Actor
  actors = set state.actors id b

  abbrev does : Doing
  does = record (doing_of a) { place = Idle; own = without own.at a.hand.own }

  same : SameDeeds state.actors actors
  same = same_deeds state.actors id a mine does (turns_unbound a Idle unbound refl) (not_opener shape opened state kept id a mine recorder)

  own_now : All (HoldsOwn shape pieces id) (without own.at a.hand.own)
  own_now = All-weaker (λ (x : Own). HoldsOwn shape kept.anatomy.pieces id x × (x.at ≢ own.at)) (HoldsOwn shape pieces id)
      (λ x t. record {
        stands = published.mine x.at (held x) (λ body is. t.1 is.0)
            (stands_still shape opened state kept h (histogram r) (histogram s) 8 own.at stands turns x.at (some id) (held x) t.0.stands (inr (λ e. cc e)));
        placed = t.0.placed;
        room = t.0.room;
        tagged = t.0.tagged;
        ends = t.0.ends;
      })
      (without own.at a.hand.own) (all_without (HoldsOwn shape kept.anatomy.pieces id) own.at a.hand.own (kept.each id a mine lives).own)

  abbrev between : State
  between = record { words = set state.words (h + 8) own.at; cursors = state.cursors; actors = actors }

  first_step : KeptOn shape opened kept between
  first_step =
      let fits = kept.each id a mine lives in
      let calls = fits.calls in
      let onward = mounted.onward shape opened state kept id h r own stands unmounted holds tag bare room in
      let free = mounted.free_same shape opened state kept id h r own stands unmounted holds tag bare room in
      let records = records_now shape opened state kept id h r own stands unmounted holds tag bare room bucketed first_is in
      changes_on shape opened state kept id a mine recorder lives deed pieces (set state.words (h + 8) own.at) (Only own.at (counts c)) (record {
        shown = published.shown (set state.words (h + 8) own.at) (turned_shown shape opened state kept h (histogram r) (histogram s) 8 own.at stands turns);
        onward = onward;
        bare = λ at z is. cc is.1;
        listed = λ at body is. subst (IsOnList kept.anatomy.records at) (sym is.1) tt;
        others = mounted.others_stay shape opened state kept id h r own stands unmounted holds tag bare room;
        still = λ k p here.
            let (q, now, turned_at) = turned_still shape opened state kept h (histogram r) (histogram s) 8 own.at stands turns k p here in
            let (x, last, still_at) = published.still k q now in
            (x, last, still_at ∙ turned_at);
        blocks = published.blocks (turned_right shape opened state kept h (histogram r) (histogram s) 8 own.at stands turns);
        linked = turned_linked shape opened state kept h (histogram r) (histogram s) 8 own.at stands turns;
        claims = published.claims ∙ turned_claims shape opened state kept h (histogram r) (histogram s) 8 own.at stands turns;
        free = free;
        records = records;
        balanced = balanced kept.anatomy.version opened.pieces pieces state.actors actors (same_sums state.actors actors same)
            (balanced_same kept.anatomy.version opened.pieces kept.anatomy.pieces pieces state.actors
            (mounted.holdings shape opened state kept id h r own stands unmounted holds tag bare room) kept.balanced);
        counted = λ name key. omega arith;
        keys = λ entry there. kept.keys entry (row_in counted_of state.actors id a entry mine there);
        taken_keys = λ t count there. kept.taken_keys t count (row_in taken_of state.actors id a t mine there);
        sums = sums_on shape state.words kept.anatomy kept.shown pieces state.actors actors (sums_same shape opened state kept id h r own stands unmounted holds tag bare room) same.loaded
            (λ name. let costs = same.costs name in omega (arith, costs)) kept.sums;
        lives = λ spent. cc spent;
        stands = tt;
        sees = sees_on kept.anatomy new (Only own.at (counts c)) onward state.cursors a.seen (subst (Behind a.seen.free) (sym free) fits.sees.free)
            fits.sees.walked fits.sees.tails fits.sees.shared fits.sees;
        noticed = λ saw. saw;
        up = λ no. unbound_unbeaten a.hand.place unbound;
        own = own_now;
        apart = distinct_filter _ a.hand.own fits.apart;
        calls = calls;
        looks = looks_on shape state.words kept.anatomy new kept.shown (Only own.at (counts c)) onward refl shape.page kept.records records a
            fits.sees.counters fits.sees.in_use state.actors actors kept.roles.opener deed
            (λ name key. let counted = (same_sums state.actors actors same).counted name key in omega (arith, counted))
            (alone_was state.actors actors kept.roles same.roles a a refl refl)
            (λ named there. let (q, here, its, bounds, many) = known_stands shape opened state kept id a mine lives named there in (q, here, many))
            (fits.looks recorder) (λ reference sum z loaded. absurd (cc loaded)) (λ at z is. cc is.1);
        finals = finals state.actors actors kept.roles.opener kept.roles.opener id b (same_sums state.actors actors same)
            (is_later state.actors actors kept.roles same.roles) (λ taking. alone_was state.actors actors kept.roles same.roles b b refl refl)
            fits.finals;
      })

  abbrev kept_between : Invariant shape opened between
  kept_between = first_step.0

  -- ---- it sees the reference

  mine_between : get_elem? between.actors id ≡ some b
  mine_between = set_at state.actors id a b mine

  there : h + 8 < length state.words
  there = word_within shape opened state kept h 8 (histogram r) stands refl (omega arith)

  word_between : word_at between.words (h + 8) ≡ own.at
  word_between = get_or-set_same state.words (h + 8) own.at 0 there

  abbrev look : Look
  look = record { histogram = h; single = None; counts = own.at }

  sighted : sight_counts h own.at ≡ record { at = h + 8; word = own.at } ∷ []
  sighted = ap (λ (t : Bool). if t then [] else record { at = h + 8; word = own.at } ∷ [])
      (ne_eqb own.at 0 (own_some shape opened state kept id h r own stands unmounted holds tag bare room))

  saw : Contains (a.seen.words ++ sight_counts h own.at) (record { at = h + 8; word = own.at })
  saw = subst (λ (more : List Sighting). Contains (a.seen.words ++ more) (record { at = h + 8; word = own.at })) (sym sighted)
      (Contains-push a.seen.words (record { at = h + 8; word = own.at }))

  fixed : All (WasFixed kept_between.anatomy.pieces) (b.seen.words ++ sight_counts h own.at)
  fixed = subst (λ (n : ℕ). All (WasFixed kept_between.anatomy.pieces) (b.seen.words ++ sight_counts h n)) word_between
      (counts_fixed shape opened between kept_between id b mine_between (λ spent. cc spent) h known buckets)

  -- the state that is left is kept
  pub mount_left : (found : ℕ) → KeptOn shape opened kept (record {
    words = set state.words (h + 8) own.at;
    cursors = state.cursors;
    actors = set state.actors id (after_mount true a h own.at found);
  })
  mount_left found =
      subst (λ (list : List Actor). KeptOn shape opened kept (record { words = between.words; cursors = state.cursors; actors = list }))
      (set-set state.actors id b (after_mount true a h own.at found))
      (kept_again shape opened state kept first_step
      (words_seen shape opened between kept_between id b mine_between recorder refl (Looking look) (λ is. cc is) (λ reference sum is. cc is)
      (λ name key. refl) (sight_counts h own.at) a.seen.ends fixed
      (record { known = known; knows = buckets; single = λ w is. absurd (cc is); counts = λ some_there. saw })))

module _ (shape : Dimensions) (opened : Anatomy) (state : State) (kept : Invariant shape opened state) (id : ℕ) (a : Actor)
    (mine : get_elem? state.actors id ≡ some a) (recorder : is_opener a.role ≡ false) where
  -- no other was first
  mount_first : (h at : ℕ) → Ready a (packing_event (mount_counts h at)) → (word_at state.words (h + 8) == 0) ≡ true
      → Goes shape opened state kept id a mine recorder (packing_event (mount_counts h at))
  mount_first h at (own, known, unbound, has, place_is, buckets, counts_in, (tag, unended, bare, room)) won =
      let found : ℕ = word_at state.words (h + 8) in
      let lives : a.hand.place ≢ Spent = λ spent. cc (unbound, ap is_bound spent) in
      let (r, first, there, named, many, keys) = knows_of shape opened state kept id a mine recorder lives known buckets.0 in
      let stands : HasRecord kept.anatomy.pieces h r = subst (λ (n : ℕ). HasRecord kept.anatomy.pieces n r) buckets.1 there in
      let unmounted : r.counts ≡ 0 = sym (counts_found shape opened state kept id a mine lives h r stands) ∙ eqb-true found 0 won in
      let holds = All-contains (HoldsOwn shape kept.anatomy.pieces id) a.hand.own own (kept.each id a mine lives).own has in
      let knows = All-contains (IsRightlyKnown kept.anatomy) a.answers.names known (kept.each id a mine lives).names buckets.0 in
      let one = one_first shape opened state kept known.name in
      let bucketed : r.spec ≢ Sparse = λ sparse.
      let kind : knows.first_spec ≡ Sparse = sym (one r.spec knows.first_spec known.reference known.reference first knows.first).1 ∙ sparse in
      not_sparse known.spec buckets.2 (sparse_same known.spec (sym knows.same.0 ∙ ap spec_fields kind)) in
      happens opened.version state id a (packing_event (mount_counts h at)) (word_within shape opened state kept h 8 (histogram r) stands refl (omega arith)) shape opened kept (
        subst (λ (p : Bool × ℕ). KeptOn shape opened kept (record {
          words = set state.words (h + 8) (if p.0 then p.1 else found);
          cursors = state.cursors;
          actors = set state.actors id (after_mount p.0 a h p.1 found);
        })) (λ i. (sym won i, place_is i))
            (mount_left shape opened state kept id a mine recorder unbound h known buckets r own stands unmounted holds.stands tag bare (omega (arith, room, many)) bucketed
            (λ kind place is. (one kind r.spec place known.reference (subst (λ (name : List ℕ). IsFirst kept.anatomy.records name kind place) named is) first).0 ∙ buckets.1) found),
        (counts_within shape opened state kept id a mine lives h, counts_stay shape opened state kept id a mine lives h known buckets),
      )

  -- in either case
  pub mounted_goes : (h at : ℕ) → Ready a (packing_event (mount_counts h at)) → Goes shape opened state kept id a mine recorder (packing_event (mount_counts h at))
  mounted_goes h at ready = by (word_at state.words (h + 8) == 0) refl
    where
      by : (t : Bool) → (word_at state.words (h + 8) == 0) ≡ t → Goes shape opened state kept id a mine recorder (packing_event (mount_counts h at))
      by true won = mount_first h at ready won
      by false late = mount_beaten shape opened state kept id a mine recorder h at ready late

-- mounting a counts block keeps what holds
pub mount_kept : (h at : ℕ) → EventKeeps (packing_event (mount_counts h at))
mount_kept h at shape opened state id a kept mine records ready = mounted_goes shape opened state kept id a mine records h at ready
