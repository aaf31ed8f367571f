-- A recorder's index: what it has stays right, it grows by a record that was looked at, and what it returns.
use Rattle.std.proofs.Common.{◌≡◌, ◌≢◌, ℕ, ◌+◌, ◌*◌, ◌≤◌, true, false, List, [], ◌∷◌, ◌++◌, length, map, slice_index, Option, Some, None, refl, sym, ap, subst, ◌∙◌, arith, length-append}
use Rattle.std.specs.Prelude.{take, drop, get_or}
use Rattle.std.specs.List.{All, Contains}
use Rattle.std.proofs.lemmas.List.{append_assoc, get_or_push, length_push, length-take-le, map-append, take-append-drop, take-append-le}
use Rattle.std.proofs.lemmas.List.Elements.{All-nil, All-cons, All-head, All-tail, All-push, All-contains, Contains-append_right}
use lib.Seq.{take-append_seam}
use Rattle.segment_image.specs.Shape.{Dimensions}
use Rattle.list_core.specs.Chain.{is_reference, stops}
use Rattle.list_core.specs.Walk.{stands_behind}
use Rattle.list_core.proofs.Walks.{place_of}
use Rattle.segment_machine.specs.declared.actor.Actor.{Actor}
use Rattle.segment_machine.specs.declared.seen.Seen.{Seen}
use Rattle.segment_machine.specs.Calls.{MayTurn}
use Rattle.segment_machine.specs.Event.{walking_event}
use Rattle.segment_machine.specs.Walking.{load_next}
use Rattle.segment_invariant.proofs.Lists.Elements.{split_map}
use Rattle.segment_promises.specs.Onward.{Grows}
use Rattle.segment_promises.specs.Values.{NoRepeats}
use Rattle.segment_promises.proofs.Growing.{reference_behind}
use Rattle.list_index.specs.Firsts.{Met, Holds, first_of}
use Rattle.list_index.proofs.Meeting.{none_met, one_met}
use Rattle.live_segment.specs.declared.list.index.KeyKind.{KeyKind}
use Rattle.live_segment.specs.declared.list.index.RecordIndex.{RecordIndex}
use Rattle.live_segment.specs.declared.list.walk.WalkPlace.{WalkPlace}
use Rattle.live_segment.specs.declared.segment.Segment.{Segment}
use Rattle.live_segment.specs.Hist.ListSearch.{SeesWords}
use Rattle.live_segment.specs.Hist.Search.{HasSearched}
use Rattle.live_segment.specs.List.Index.{Enters, IsIndexed, passed}
use Rattle.live_segment.specs.List.Keys.{HasLookedForKey, seen_key}
use Rattle.live_segment.specs.List.Walk.{HasCome, IsWalkProgress}
use Rattle.live_segment.specs.Seated.{IsSeated}
use Rattle.live_segment.specs.Steps.{Pass, Stepped}
use Rattle.live_segment.proofs.lemmas.Hist.NameSearch.{searched_on, sees_searched}
use Rattle.live_segment.proofs.lemmas.List.Keyed.{key_still, looked_still}
use Rattle.live_segment.proofs.lemmas.List.WalkProgress.{chain_still, searched, way_on, whole}
use Rattle.live_segment.proofs.lemmas.List.Walked.{come_still, stands_within}

module _ (of_kind : KeyKind) where
  abbrev pub keyed : Seen → ℕ → Met
  keyed seen at = (at, seen_key of_kind seen at)

  -- ---- more was seen

  module _ (a b : Seen) (grows : Grows a.words b.words) where
    keys_still : (list : List ℕ) → All (HasLookedForKey of_kind a) list → map (keyed b) list ≡ map (keyed a) list
    keys_still [] looked = refl
    keys_still (x ∷ xs) looked =
        let first = key_still a b grows of_kind x (All-head (HasLookedForKey of_kind a) x xs looked) in
        let rest = keys_still xs (All-tail (HasLookedForKey of_kind a) x xs looked) in
        λ i. (x, first i) ∷ rest i

    all_looked : (list : List ℕ) → All (HasLookedForKey of_kind a) list → All (HasLookedForKey of_kind b) list
    all_looked list looked k d low = looked_still a b grows of_kind (get_or list k d) (looked k d low)

    module _ (size : ℕ) (index : RecordIndex) (chain : Grows a.chain b.chain) (indexed : IsIndexed of_kind size a index) where
      abbrev given : List ℕ
      given = take index.place.given a.chain

      front_still : take index.place.given b.chain ≡ given
      front_still = let (more, is) = chain in ap (take index.place.given) is ∙ take-append-le index.place.given a.chain more indexed.come.few

      -- what it has is still right
      pub indexed_still : IsIndexed of_kind size b index
      indexed_still = record {
        of_kind = indexed.of_kind;
        come = come_still size a.chain b.chain index.place chain indexed.come;
        looked = subst (All (HasLookedForKey of_kind b)) (sym front_still) (all_looked given indexed.looked);
        grouping = indexed.grouping;
        holds = subst (λ (met : List Met). Holds met index.firsts)
            (sym (ap (map (keyed b)) front_still ∙ keys_still given indexed.looked)) indexed.holds;
      }

      -- if it could not grow
      pub indexed_as : (at : ℕ) (key : Option ℕ) (new : RecordIndex) → Enters at key index false new → IsIndexed of_kind size b new
      indexed_as at key new (place, same_kind, same_groups, holds) = record {
        of_kind = same_kind ∙ indexed.of_kind;
        come = subst (HasCome size b.chain) (sym place) indexed_still.come;
        looked = subst (λ (p : WalkPlace). All (HasLookedForKey of_kind b) (take p.given b.chain)) (sym place) indexed_still.looked;
        grouping = λ is. same_groups ∙ indexed.grouping is;
        holds = subst (λ (p : WalkPlace). Holds (passed of_kind b p.given) new.firsts) (sym place)
            (holds (passed of_kind b index.place.given) indexed_still.holds);
      }

      -- one more record
      pub indexed_more : (at : ℕ) (key : Option ℕ) (new : RecordIndex) (rest : List ℕ) → b.chain ≡ (given ++ at ∷ []) ++ rest → 16 ≤ at → at + 5 ≤ size
          → HasLookedForKey of_kind b at → seen_key of_kind b at ≡ key → Enters at key index true new → IsIndexed of_kind size b new
      indexed_more at key new rest front from to looked key_is (place, same_kind, same_groups, holds) =
          let long : length given ≡ index.place.given = length-take-le index.place.given a.chain indexed.come.few in
          let one = length_push given at in
          let count : length (given ++ at ∷ []) ≡ index.place.given + 1 = omega (arith, long, one) in
          let all = ap length front ∙ length-append (given ++ at ∷ []) rest in
          let taken : take (index.place.given + 1) b.chain ≡ given ++ at ∷ [] =
          ap (λ (n : ℕ). take n b.chain) (sym count) ∙ (ap (take (length (given ++ at ∷ []))) front ∙ take-append_seam (given ++ at ∷ []) rest) in
          let met : passed of_kind b (index.place.given + 1) ≡ passed of_kind a index.place.given ++ (at, key) ∷ [] =
          ap (map (keyed b)) taken
          ∙ (map-append (keyed b) given (at ∷ [])
          ∙ (λ i. keys_still given indexed.looked i ++ (at, key_is i) ∷ [])) in
          let come : HasCome size b.chain (record { given = index.place.given + 1; at = at }) =
          record {
            few = omega (arith, all, count);
            stands =
                sym (get_or_push (stops given) at 0 (length (given ++ at ∷ [])) (omega (arith, one)))
                ∙ (sym (place_of (given ++ at ∷ []) rest b.chain front) ∙ ap (slice_index (stops b.chain)) count);
            within = subst (All (λ r. (16 ≤ r) × (r + 5 ≤ size))) (sym taken)
                (All-push (λ r. (16 ≤ r) × (r + 5 ≤ size)) given at indexed.come.within (from, to));
          } in record {
            of_kind = same_kind ∙ indexed.of_kind;
            come = subst (HasCome size b.chain) (sym place) come;
            looked = subst (λ (p : WalkPlace). All (HasLookedForKey of_kind b) (take p.given b.chain)) (sym place)
                (subst (All (HasLookedForKey of_kind b)) (sym taken) (All-push (HasLookedForKey of_kind b) given at (all_looked given indexed.looked) looked));
            grouping = λ is. same_groups ∙ indexed.grouping is;
            holds = subst (λ (p : WalkPlace). Holds (passed of_kind b p.given) new.firsts) (sym place)
                (subst (λ (l : List Met). Holds l new.firsts) (sym met) (holds (passed of_kind a index.place.given) indexed.holds));
          }

  -- ---- what it returns

  -- For a property of all records with another key: no record that it has passed has the key, or the first with the key comes after records
  -- with that property.
  module _ (seen : Seen) (key : ℕ) (IsOther : ℕ → Type 0)
      (other : (at : ℕ) → HasLookedForKey of_kind seen at → seen_key of_kind seen at ≢ Some key → IsOther at) where
    others_by_key : (list : List ℕ) → All (HasLookedForKey of_kind seen) list → All (λ (m : Met). m.1 ≢ Some key) (map (keyed seen) list) → All IsOther list
    others_by_key [] looked apart = All-nil IsOther
    others_by_key (x ∷ xs) looked apart =
        All-cons IsOther x xs
        (other x (All-head (HasLookedForKey of_kind seen) x xs looked)
        (All-head (λ (m : Met). m.1 ≢ Some key) (x, seen_key of_kind seen x) (map (keyed seen) xs) apart))
        (others_by_key xs (All-tail (HasLookedForKey of_kind seen) x xs looked)
        (All-tail (λ (m : Met). m.1 ≢ Some key) (x, seen_key of_kind seen x) (map (keyed seen) xs) apart))

    module _ (size : ℕ) (index : RecordIndex) (indexed : IsIndexed of_kind size seen index) where
      abbrev front : List ℕ
      front = take index.place.given seen.chain

      abbrev behind : List ℕ
      behind = drop index.place.given seen.chain

      pub none_met_here : first_of index.firsts key ≡ None → All IsOther front
      none_met_here none =
          others_by_key front indexed.looked (none_met (passed of_kind seen index.place.given) key (sym (indexed.holds.first key) ∙ none))

      pub first_met_here : (at : ℕ) → first_of index.firsts key ≡ Some at
          → (before after : List ℕ) × (seen.chain ≡ before ++ at ∷ after) × All IsOther before × (at + 5 ≤ size) × HasLookedForKey of_kind seen at
      first_met_here at one =
          let (keys_before, keys_after, is_met, apart) = one_met (passed of_kind seen index.place.given) key at (sym (indexed.holds.first key) ∙ one) in
          let (before, after, x, is_list, is_before, is_one) =
          split_map (keyed seen) front keys_before keys_after (at, Some key) is_met in
          let here : x ≡ at = ap (λ (m : Met). m.0) is_one in
          let there : front ≡ before ++ at ∷ after = is_list ∙ ap (λ (r : ℕ). before ++ r ∷ after) here in
          let met : Contains front at =
          subst (λ (l : List ℕ). Contains l at) (sym there) (Contains-append_right before (at ∷ after) at (0, omega arith, refl)) in (
            before,
            after ++ behind,
            sym (take-append-drop index.place.given seen.chain)
                ∙ (ap (λ (l : List ℕ). l ++ behind) there ∙ append_assoc before (at ∷ after) behind),
            others_by_key before (all_before before (at ∷ after) (subst (All (HasLookedForKey of_kind seen)) there indexed.looked))
                (subst (All (λ (m : Met). m.1 ≢ Some key)) (sym is_before) apart),
            (All-contains (λ r. (16 ≤ r) × (r + 5 ≤ size)) front at indexed.come.within met).1,
            All-contains (HasLookedForKey of_kind seen) front at indexed.looked met,
          )
        where
          all_before : (xs ys : List ℕ) → All (HasLookedForKey of_kind seen) (xs ++ ys) → All (HasLookedForKey of_kind seen) xs
          all_before [] ys all = All-nil (HasLookedForKey of_kind seen)
          all_before (x ∷ xs) ys all =
              All-cons (HasLookedForKey of_kind seen) x xs (All-head (HasLookedForKey of_kind seen) x (xs ++ ys) all)
              (all_before xs ys (All-tail (HasLookedForKey of_kind seen) x (xs ++ ys) all))

  -- ---- the walk of the index

  -- a walk continues at the place of the index
  pub progress : (size : ℕ) (a : Actor) (index : RecordIndex) → a.segment.shape.size ≡ size → 17 ≤ size → MayTurn a
      → IsIndexed of_kind size a.seen index → IsWalkProgress (take index.place.given a.seen.chain) index.place.at a
  progress size a index sized wide free indexed =
      let come = indexed.come in
      let chain = a.seen.chain in
      let n = index.place.given in
      let front : chain ≡ take n chain ++ drop n chain = sym (take-append-drop n chain) in
      let long : length (take n chain) ≡ n = length-take-le n chain come.few in
      let stands : index.place.at ≡ stands_behind (take n chain) =
      come.stands ∙ (ap (slice_index (stops chain)) (sym long) ∙ place_of (take n chain) (drop n chain) chain front) in
      let inside = stands_within size (take n chain) wide come.within in record {
        free = free;
        front = (drop n chain, front);
        stands = stands;
        within = omega (arith, inside, stands, sized);
      }

  module _ {segment : Segment} {old : Pass} {index : RecordIndex} (seated : IsSeated segment old) (free : MayTurn old.me.0)
      (indexed : IsIndexed of_kind segment.setting.shape.size old.me.0.seen index) where
    abbrev so_far : List ℕ
    so_far = take index.place.given old.me.0.seen.chain

    pub way : IsWalkProgress so_far index.place.at old.me.0
    way =
        let from = segment.shaped.wide in
        let to = segment.shaped.one in
        progress segment.setting.shape.size old.me.0 index (ap (λ (d : Dimensions). d.size) seated.of.shape) (omega (arith, from, to)) free indexed

    module _ (found : ℕ) (next : Pass) (load : Stepped old (walking_event (load_next index.place.at)) found next) where
      -- more was seen
      pub indexed_on : (b : Actor) → HasSearched next.me.0 b → IsIndexed of_kind segment.setting.shape.size b.seen index
      indexed_on b more =
          let all = searched_on old.me.0 next.me.0 b (searched seated way found next load) more in
          indexed_still old.me.0.seen b.seen all.words segment.setting.shape.size index all.chain indexed

      -- where the list ends, all that was seen is passed
      pub passed_all : NoRepeats old.me.0.seen.chain → found ≡ 12 → index.place.given ≡ length next.me.0.seen.chain
      passed_all once end =
          let long = length-take-le index.place.given old.me.0.seen.chain indexed.come.few in
          let all = ap length (whole seated way found next load once end) in
          let same = ap length (chain_still seated way found next load once end) in omega (arith, long, all, same)

      -- the records that were seen fit in the segment
      pub few_seen : 5 * length next.me.0.seen.chain + 16 ≤ segment.setting.shape.size
      few_seen =
          let size = ap (λ (d : Dimensions). d.size) seated.of.shape in
          let few = load.learned.few in
          let chain = ap (λ (a : Actor). length a.seen.chain) load.view in omega (arith, size, few, chain)

      module _ (miss : found ≢ 12) (b : Actor) (sees : SeesWords next.me.0 b) (looked : HasLookedForKey of_kind b.seen found) (key : Option ℕ)
          (key_is : seen_key of_kind b.seen found ≡ key) (new : RecordIndex) where
        both : HasSearched old.me.0 b
        both = searched_on old.me.0 next.me.0 b (searched seated way found next load) (sees_searched next.me.0 b sees)

        pub not_entered : Enters found key index false new → IsIndexed of_kind segment.setting.shape.size b.seen new
        not_entered enters = indexed_as old.me.0.seen b.seen both.words segment.setting.shape.size index both.chain indexed found key new enters

        pub entered : Enters found key index true new → IsIndexed of_kind segment.setting.shape.size b.seen new
        entered enters =
            let (rest, front) = (way_on seated way found next load miss b sees).front in
            let from = (reference_behind segment.setting.shape.size found
            (subst (λ (d : Dimensions). is_reference d.size found ≡ true) seated.of.shape load.learned.reference) miss) in
            indexed_more old.me.0.seen b.seen both.words segment.setting.shape.size index both.chain indexed found key new rest front from.0 from.1 looked key_is
            enters

-- ---- its kind

-- the index of a kind is one of its own
pub of_own : (of_kind : KeyKind) (size : ℕ) (seen : Seen) (index : RecordIndex) → IsIndexed of_kind size seen index → IsIndexed index.kind size seen index
of_own of_kind size seen index indexed = subst (λ (k : KeyKind). IsIndexed k size seen index) (sym indexed.of_kind) indexed
