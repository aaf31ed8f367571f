-- A counts block is mounted: if another was first, its actor sees the counts that are there.
use Rattle.segment_invariant.proofs.Prelude.Std.{◌≡◌, ◌≢◌, Bool, false, ◌==◌, if◌then◌else◌, ℕ, ◌+◌, List, [], ◌∷◌, ◌++◌, set, Contains, None, refl, sym, ap, ◌∙◌, subst, arith, eq-eqb, true≢false, All-contains, Contains-push, some, none, get_elem?}
use Rattle.segment_invariant.proofs.Prelude.Machine.{Dimensions, word_at, Actor, Own, Look, Spent, Sighting, is_bound, is_opener, sight_counts, packing_event, Ready, mount_counts, after_mount, State}
use Rattle.segment_invariant.proofs.Prelude.Invariant.{Record, histogram, counts, held, Anatomy, HasRecord, HasCounts, HoldsOwn, Invariant, KeptOn}
use Rattle.segment_machine.specs.declared.place.Place.TheVariants.{Losing}
use Rattle.segment_invariant.proofs.Blocks.Pieces.{one_stands}
use Rattle.segment_invariant.proofs.Frames.GoesOn.{happens}
use Rattle.segment_invariant.proofs.Frames.OneActor.{rests_at}
use Rattle.segment_invariant.proofs.Frames.Shown.{Goes, loaded}
use Rattle.segment_invariant.proofs.Counting.Learned.{counts_stay}
use Rattle.segment_invariant.proofs.Counting.Loaded.{counts_found, counts_within, counts_fixed}
use Rattle.segment_invariant.proofs.Counting.Looks.{knows_of}
use Rattle.segment_invariant.proofs.Counting.References.{words_seen}
use Rattle.segment_invariant.proofs.Counting.Sights.{word_within}

module _ (shape : Dimensions) (opened : Anatomy) (state : State) (kept : Invariant shape opened state) (id : ℕ) (a : Actor)
    (mine : get_elem? state.actors id ≡ some a) (recorder : is_opener a.role ≡ false) where
  -- the counts of a record are no block of an actor's own
  not_own : (h : ℕ) (r : Record) (own : Own) → HasRecord kept.anatomy.pieces h r → r.counts ≢ 0 → HoldsOwn shape kept.anatomy.pieces id own → r.counts ≢ own.at
  not_own h r own stands some_counts holds same =
      let (c, mounted, of_it) = kept.records.mounted h r stands some_counts in
      let one = one_stands shape state.words kept.anatomy kept.shown own.at none (some id) (counts c) (held own)
      (subst (λ (n : ℕ). HasCounts kept.anatomy.pieces n c) same mounted) holds.stands in
      cc one.1

  -- another was first
  pub mount_beaten : (h at : ℕ) → Ready a (packing_event (mount_counts h at)) → (word_at state.words (h + 8) == 0) ≡ false
      → Goes shape opened state kept id a mine recorder (packing_event (mount_counts h at))
  mount_beaten h at (own, known, unbound, has, place_is, buckets, counts_in, (tag, unended, bare, room)) late =
      let found : ℕ = word_at state.words (h + 8) in
      let lives : a.hand.place ≢ Spent = λ spent. cc (unbound, ap is_bound spent) in
      let (r, first, there, named, many, keys) = knows_of shape opened state kept id a mine recorder lives known buckets.0 in
      let stands : HasRecord kept.anatomy.pieces h r = subst (λ (n : ℕ). HasRecord kept.anatomy.pieces n r) buckets.1 there in
      let found_is : found ≡ r.counts = counts_found shape opened state kept id a mine lives h r stands in
      let some_found : found ≢ 0 = λ none_there. true≢false (sym (eq-eqb found 0 none_there) ∙ late) in
      let holds = All-contains (HoldsOwn shape kept.anatomy.pieces id) a.hand.own own (kept.each id a mine lives).own has in
      let apart : found ≢ at = λ same. not_own h r own stands (λ none_there. some_found (found_is ∙ none_there)) holds (sym found_is ∙ (same ∙ sym place_is)) in
      let look : Look = record { histogram = h; single = None; counts = found } in
      let sighted : sight_counts h found ≡ record { at = h + 8; word = found } ∷ [] =
      ap (λ (b : Bool). if b then [] else record { at = h + 8; word = found } ∷ []) late in
      let saw : Contains (a.seen.words ++ sight_counts h found) (record { at = h + 8; word = found }) =
      subst (λ (more : List Sighting). Contains (a.seen.words ++ more) (record { at = h + 8; word = found })) (sym sighted)
      (Contains-push a.seen.words (record { at = h + 8; word = found })) in
      happens opened.version state id a (packing_event (mount_counts h at)) (word_within shape opened state kept h 8 (histogram r) stands refl (omega arith)) shape opened kept (
        subst (λ (b : Bool). KeptOn shape opened kept (record {
          words = set state.words (h + 8) (if b then at else found);
          cursors = state.cursors;
          actors = set state.actors id (after_mount b a h at found);
        })) (sym late)
            (loaded shape opened state kept id a mine recorder (h + 8) (after_mount false a h at found)
            (words_seen shape opened state kept id a mine recorder unbound (Losing look at) (λ is. cc is) (λ reference sum is. cc is)
            (λ name key. sym (rests_at a name key a.hand.place (λ look bucket units moving. cc (unbound, ap is_bound moving)))) (sight_counts h found) a.seen.ends
            (counts_fixed shape opened state kept id a mine lives h known buckets) (
              record {
                known = known;
                knows = buckets;
                single = λ w is. absurd (cc is);
                counts = λ there. saw;
              },
              some_found,
              apart,
              (own, has, place_is, tag),
            ))),
        (counts_within shape opened state kept id a mine lives h, counts_stay shape opened state kept id a mine lives h known buckets),
      )
