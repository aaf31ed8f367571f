-- Each event that allocates a block or sets a flag keeps what holds, and its actor learns of the free pointer.
use Rattle.segment_invariant.proofs.Prelude.Std.{◌≡◌, ◌≢◌, ℕ, ◌+◌, ◌-◌, ◌==◌, Bool, true, false, List, [], ◌∷◌, ◌++◌, map, length, set, inl, refl, sym, ap, ◌∙◌, subst, eq-eqb, ne_eqb, le-leb, arith, bit_and, not, nat_le, ◌&&◌, ◌||◌, fold, if◌then◌else◌, and_from, dite, some, ℕ_discrete, get_elem?, set-get_or, at_map, column}
use Rattle.segment_invariant.proofs.Prelude.Machine.{Dimensions, word_at, Behind, Actor, Seen, Spent, Idle, is_bound, is_opener, State, Event, allocating_event, spot, Ready, Learned, load_flags, load_free, exchange_free, set_corrupt, set_full}
use Rattle.segment_invariant.proofs.Prelude.Invariant.{Anatomy, layout_of, order_of, free_of, StandsRight, IsSetBy, Invariant, KeptOn, is_beaten}
use Rattle.std.proofs.Math.Bool.{or-true}
use Rattle.std.specs.Prelude.{bit_or}
use Rattle.alloc_core.specs.Alloc.{IsRise}
use Rattle.alloc_core.specs.Planned.{room_at, is_pointer}
use Rattle.alloc_core.proofs.Layouts.{free_word, shown_corrupt, shown_full, length_shown, flags_word}
use Rattle.alloc_core.proofs.Owners.{set_at}
use Rattle.segment_machine.specs.declared.place.Place.TheVariants.{FlagsLoaded, FreeLoaded, Raised}
use Rattle.segment_machine.specs.Allocating.{MayRise, after_free, free_at}
use Rattle.alloc_core.proofs.Flags.{corrupt_bit, corrupt_read}
use Rattle.segment_invariant.proofs.Frames.Ahead.{ahead_at, unbound_unbeaten}
use Rattle.segment_invariant.proofs.Frames.Anew.{looks_anew_at}
use Rattle.segment_invariant.proofs.Frames.SeesMore.{later_itself, near_on, given_on, calls_more, sees_more}
use Rattle.list_lemmas.proofs.Elements.{any_there}
use Rattle.segment_invariant.proofs.Blocks.Pieces.{raw_piece, stands_last, free_least, free_within}
use Rattle.segment_invariant.proofs.Frames.OneActor.{is_plain, turns_plain, turns_unbound}
use Rattle.segment_invariant.proofs.Frames.GoesOn.{after_word}
use Rattle.segment_invariant.proofs.Allocating.Rises.{rise_of}
use Rattle.segment_invariant.proofs.Allocating.Blocks.{waits, takes, flags_set}

-- a flag that an actor has set is set
set_there : (opened : Bool) (actors : List Actor) (id : ℕ) (a : Actor) (flag : Actor → Bool) → get_elem? actors id ≡ some a → flag a ≡ true
    → IsSetBy true opened (map flag actors)
set_there opened actors id a flag there is =
    sym (or-true opened)
    ∙ ap (λ now. opened || now) (sym (any_there (map flag actors) id false (at_map flag actors id a there ∙ ap some is)))

-- so is one that it sets
set_now : (opened : Bool) (actors : List Actor) (id : ℕ) (a b : Actor) (flag : Actor → Bool) → get_elem? actors id ≡ some a → flag b ≡ true
    → IsSetBy true opened (map flag (set actors id b))
set_now opened actors id a b flag there is = set_there opened (set actors id b) id b flag (set_at actors id a b there) is

module _ (shape : Dimensions) (opened : Anatomy) (state : State) (kept : Invariant shape opened state) (id : ℕ) (a : Actor)
    (mine : get_elem? state.actors id ≡ some a) (records : is_opener a.role ≡ false) where
  abbrev anatomy : Anatomy
  anatomy = kept.anatomy

  -- what an event leaves, and what its actor learns
  abbrev pub Keeps : Event → Type 0
  Keeps event =
      KeptOn shape opened kept (after_word opened.version state id a event) × Learned a event (word_at state.words (spot (length state.words) event))

  -- the words are those of the shape
  pub words_long : length state.words ≡ shape.size
  words_long = length_shown shape state.words (layout_of anatomy) kept.shown

  -- an event that leaves its word as it is
  leaves : (at v : ℕ) (b : Actor) → v ≡ word_at state.words at
      → KeptOn shape opened kept (record { words = state.words; cursors = state.cursors; actors = set state.actors id b })
      → KeptOn shape opened kept (record { words = set state.words at v; cursors = state.cursors; actors = set state.actors id b })
  leaves at v b same =
      subst (λ (words : List ℕ). KeptOn shape opened kept (record { words = words; cursors = state.cursors; actors = set state.actors id b }))
      (sym (ap (set state.words at) same ∙ set-get_or state.words at 0))

  -- flags with the corrupt one are those of a segment in which it is set
  found_corrupt : (bit_and (word_at state.words 6) 1 == 0) ≡ false → anatomy.corrupt ≡ true
  found_corrupt clear =
      sym (corrupt_read anatomy.corrupt anatomy.full anatomy.other_flags)
      ∙ (ap (λ (n : ℕ). not (bit_and n 1 == 0)) (sym (flags_word shape state.words (layout_of anatomy) kept.shown)) ∙ ap not clear)

  -- the flags are loaded, and the corrupt one is seen if it is set
  flags_at : (clear : Bool) → (clear ≡ false → anatomy.corrupt ≡ true) → is_bound a.hand.place ≡ false
      → KeptOn shape opened kept (record {
        words = state.words;
        cursors = state.cursors;
        actors = set state.actors id (record a {
          hand = record a.hand { place = if clear then FlagsLoaded else Idle };
          seen = record a.seen { corrupt = if clear then a.seen.corrupt else true; warned = if clear then a.seen.warned else a.seen.warned + 1 };
        });
      })
  flags_at true found turn =
      let turns = turns_unbound a FlagsLoaded turn refl in
      waits shape opened state kept id a mine records FlagsLoaded a.seen.free turns (λ no. unbound_unbeaten a.hand.place turn) (kept.each id a mine turns.lived).sees.free tt
  flags_at false found turn =
      let turns = turns_unbound a Idle turn refl in
      let fits = kept.each id a mine turns.lived in
      let seen : Seen = record a.seen { corrupt = true; warned = a.seen.warned + 1 } in
      sees_more shape opened state kept id a mine records Idle seen a.done.given a.done.lost turns.lived turns.lives turns.moves state.cursors
      (later_itself (order_of anatomy) state.cursors)
      (near_on shape opened state kept id a mine records Idle seen a.done.given a.done.lost turns.lived turns.lives turns.moves turns.sums)
      (given_on shape opened state kept id a mine records Idle seen a.done.given a.done.lost turns.lived turns.lives turns.moves refl)
      fits.sees
      (ahead_at (order_of anatomy) anatomy.tail state.cursors a.hand.place a.done.beaten a.done.lost fits.ahead Idle (λ no. unbound_unbeaten a.hand.place turn))
      tt (λ is. found refl)
      (calls_more anatomy a Idle seen a.done.given a.done.lost (λ at has. has) (λ at word has. has) fits.calls)
      (looks_anew_at anatomy state.actors kept.roles.opener a Idle (fits.looks records) (λ reference sum r loaded. cc loaded))

  -- an actor that has set the corrupt flag finds it
  corrupt_learned : a.done.spoiled ≡ true → bit_and (word_at state.words 6) 1 ≡ 1
  corrupt_learned is = subst (λ (n : ℕ). bit_and n 1 ≡ 1) (sym (flags_word shape state.words (layout_of anatomy) kept.shown))
      ((corrupt_bit anatomy.corrupt anatomy.full anatomy.other_flags).1
      (kept.corrupt ∙ sym (set_there opened.corrupt state.actors id a (λ (x : Actor). x.done.spoiled) mine is)))

  pub flags_loaded : Ready a (allocating_event load_flags) → Keeps (allocating_event load_flags)
  flags_loaded ready = (leaves 6 (word_at state.words 6) _ refl (flags_at (bit_and (word_at state.words 6) 1 == 0) found_corrupt ready), corrupt_learned)

  -- the free pointer
  free_is : word_at state.words 7 ≡ free_of anatomy
  free_is = free_word shape state.words (layout_of anatomy) kept.shown

  lawful_pointer : is_pointer shape (free_of anatomy) ≡ true
  lawful_pointer =
      let free : ℕ = free_of anatomy in
      let from = free_least shape state.words anatomy kept.shown in
      let within = free_within shape state.words anatomy kept.shown in
      let room = kept.shown.sound.leaves in
      and_from (nat_le 16 free && nat_le free shape.size) (nat_le 5 (room_at shape free))
      (and_from (nat_le 16 free) (nat_le free shape.size) (le-leb 16 free from) (le-leb free shape.size within))
      (le-leb 5 (room_at shape free) (omega (arith, room)))

  -- what an actor that lives learns of it
  pointer_learned : a.hand.place ≢ Spent → Behind a.seen.free (word_at state.words 7) × (is_pointer a.segment.shape (word_at state.words 7) ≡ true)
  pointer_learned lives =
      let fits = kept.each id a mine lives in (
        subst (Behind a.seen.free) (sym free_is) fits.sees.free,
        subst (λ (p : Dimensions × ℕ). is_pointer p.0 p.1 ≡ true) (λ i. (sym fits.shaped i, sym free_is i)) lawful_pointer,
      )

  pub free_loaded : Ready a (allocating_event load_free) → Keeps (allocating_event load_free)
  free_loaded ready =
      let found : ℕ = word_at state.words 7 in
      let turns = turns_plain a (FreeLoaded found) (ap is_plain ready) refl in (
        leaves 7 found _ refl (waits shape opened state kept id a mine records (FreeLoaded found) found turns (λ no. ap is_beaten ready) (inl free_is) refl),
        pointer_learned turns.lived,
      )

  -- an exchange of the free pointer
  abbrev Exchanged : (old new wanted : ℕ) → Bool → Type 0
  Exchanged old new wanted through =
      let found = word_at state.words 7 in
      KeptOn shape opened kept (record {
        words = set state.words 7 (if through then new else found);
        cursors = state.cursors;
        actors = set state.actors id (after_free through a old new wanted found);
      })

  exchanged : (new wanted : ℕ) → a.hand.place ≡ FreeLoaded (free_of anatomy) → IsRise shape (free_of anatomy) new → Exchanged (free_of anatomy) new wanted true
  exchanged new wanted ready rise =
      let old : ℕ = free_of anatomy in
      let size : ℕ = new - old in
      let from = free_least shape state.words anatomy kept.shown in
      let five = rise.five in
      let within = rise.within in
      takes shape opened state kept id a mine records new (Raised old size wanted) (a.done.raised ++ record { from = old; to = new; wanted = wanted } ∷ [])
      (turns_plain a (Raised old size wanted) (ap is_plain ready) refl) (λ no. ap is_beaten ready) rise (
        record { from = from; five = omega (arith, five); within = omega (arith, five, within); one_page = rise.one_page },
        stands_last anatomy.pieces (raw_piece old id size),
      )

  pub free_exchanged : (old new wanted : ℕ) → Ready a (allocating_event (exchange_free old new wanted)) → Keeps (allocating_event (exchange_free old new wanted))
  free_exchanged old new wanted (ready, lawful, may) =
      let found : ℕ = word_at state.words 7 in
      let turns = turns_plain a Idle (ap is_plain ready) refl in
      let fits = kept.each id a mine turns.lived in
      let seen : a.seen.free ≡ old = subst (StandsRight shape anatomy id a) ready (kept.standing id a mine) in
      let learned = pointer_learned turns.lived in (
        dite (ℕ_discrete found old)
            (λ same.
            let is : free_of anatomy ≡ old = sym free_is ∙ same in
            let rise : IsRise shape old new = rise_of shape old new wanted kept.shown.sound.lawful
            (subst (λ (s : Dimensions). is_pointer s old ≡ true) fits.shaped lawful) (subst (λ (s : Dimensions). MayRise s old new wanted) fits.shaped may) in
            subst (Exchanged old new wanted) (sym (eq-eqb found old same))
            (subst (λ n. Exchanged n new wanted true) is
            (exchanged new wanted (ready ∙ ap FreeLoaded (sym is)) (subst (λ n. IsRise shape n new) (sym is) rise))))
            (λ other. subst (Exchanged old new wanted) (sym (ne_eqb found old other))
            (leaves 7 found _ refl (waits shape opened state kept id a mine records Idle found turns (λ no. ap is_beaten ready) (inl free_is) tt))),
        (subst (λ n. Behind n found) seen learned.0, learned.1),
      )

  -- a flag is set: the corrupt one, and the full one
  pub corrupt_set : is_bound a.hand.place ≡ false → Keeps (allocating_event set_corrupt)
  corrupt_set turn =
      let b : Actor = record a { hand = record a.hand { place = Idle }; done = record a.done { spoiled = true } } in (
        flags_set shape opened state kept id a mine records true anatomy.full (bit_or (word_at state.words 6) 1) Idle true a.done.filled a.done.lacked
            (turns_unbound a Idle turn refl) (λ no. unbound_unbeaten a.hand.place turn) (shown_corrupt shape state.words (layout_of anatomy) kept.shown)
            (set_now opened.corrupt state.actors id a b (λ (x : Actor). x.done.spoiled) mine refl)
            (kept.full ∙ ap (λ set. opened.full || fold ◌||◌ false set) (sym (column (λ (x : Actor). x.done.filled) state.actors id a b mine refl)))
            (λ set. refl) (λ set. set) tt,
        tt,
      )

  pub full_set : (wanted : ℕ) → Ready a (allocating_event (set_full wanted)) → Keeps (allocating_event (set_full wanted))
  full_set wanted (free, stands, fits, beyond) =
      let turn : is_bound a.hand.place ≡ false = ap is_bound stands in
      let lacked : List ℕ = a.done.lacked ++ free_at a.hand.place ∷ [] in
      let b : Actor = record a { hand = record a.hand { place = Idle }; done = record a.done { filled = true; lacked = lacked } } in (
        flags_set shape opened state kept id a mine records anatomy.corrupt true (bit_or (word_at state.words 6) 2) Idle a.done.spoiled true lacked
            (turns_unbound a Idle turn refl) (λ no. unbound_unbeaten a.hand.place turn) (shown_full shape state.words (layout_of anatomy) kept.shown)
            (kept.corrupt ∙ ap (λ set. opened.corrupt || fold ◌||◌ false set) (sym (column (λ (x : Actor). x.done.spoiled) state.actors id a b mine refl)))
            (set_now opened.full state.actors id a b (λ (x : Actor). x.done.filled) mine refl) (λ set. set) (λ set. refl) tt,
        tt,
      )
