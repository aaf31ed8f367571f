-- A walk along the list: what a recorder knows between two of its steps, and at its end.
use Rattle.std.proofs.Common.{◌≡◌, ◌≢◌, ℕ, suc, ◌+◌, ◌*◌, ◌<◌, ◌≤◌, Bool, true, false, true≢false, List, [], ◌∷◌, ◌++◌, length, slice_index, refl, sym, ap, subst, ◌∙◌, eq-eqb, ne_eqb, length-append, arith}
use Rattle.std.specs.Prelude.{◌==◌, ◌||◌, if◌then◌else◌, take, drop, Option, Some}
use Rattle.std.specs.List.{All, Contains, list_any}
use Rattle.std.proofs.lemmas.List.Folds.{list_any-append}
use Rattle.std.proofs.lemmas.List.{append-nil, get_or_append_left, get_or_push, length_push, length-take-le, take-append-drop, take-append-le}
use Rattle.std.proofs.Math.Seq.{drop-append_seam, take-length}
use Rattle.std.proofs.lemmas.List.Elements.{All-push}
use mathlib.Core.Option.{some}
use lib.ListN.{get_elem?}
use Rattle.atomic_table.specs.Table.{Allows}
use Rattle.atomic_table.proofs.Lists.{set_here}
use Rattle.alloc_core.proofs.Layouts.{length_shown}
use Rattle.segment_invariant.specs.Body.{layout_of}
use Rattle.segment_invariant.proofs.Lists.Elements.{below_length}
use Rattle.segment_image.specs.Shape.{Dimensions}
use Rattle.list_core.specs.declared.walk.WalkStep.TheVariants.{Record, End, Stray}
use Rattle.list_core.specs.Chain.{is_reference, stops}
use Rattle.list_core.specs.Walk.{given_after, said_of, stands_behind}
use Rattle.list_core.proofs.Walks.{place_of}
use Rattle.segment_machine.specs.declared.actor.Actor.{Actor}
use Rattle.segment_machine.specs.declared.place.Place.{Place}
use Rattle.segment_machine.specs.declared.place.Place.TheVariants.{Spent}
use Rattle.segment_machine.specs.declared.actor.Known.{Known}
use Rattle.segment_machine.specs.Actor.{is_bound, is_opener, known_at}
use Rattle.segment_machine.specs.Calls.{ended as with_end}
use Rattle.segment_machine.specs.Event.{walking_event, change, next, Ready}
use Rattle.segment_machine.specs.Stages.{Walks}
use Rattle.segment_machine.specs.Walking.{load_next, extended, records_met}
use Rattle.segment_machine.proofs.Stages.Walks.{walks_agree}
use Rattle.live_segment.specs.declared.rule.Opening.{Opening}
use Rattle.live_segment.specs.declared.rule.Setting.{Setting}
use Rattle.live_segment.specs.declared.segment.Segment.{Segment}
use Rattle.live_segment.specs.Rule.{Runs}
use Rattle.live_segment.specs.Steps.{Pass, Sat, IsSame, Stepped}
use Rattle.live_segment.specs.Holders.{MayStep}
use Rattle.live_segment.specs.Seated.{IsSeated}
use Rattle.segment_promises.specs.Onward.{Grows, StaysApart, is_holding}
use Rattle.live_segment.specs.declared.recorder.KnownHistogram.{KnownHistogram}
use Rattle.live_segment.specs.declared.list.walk.WalkPlace.{WalkPlace}
use Rattle.live_segment.specs.Known.{KnowsRight}
use Rattle.segment_promises.specs.Values.{NoRepeats}
use Rattle.live_segment.specs.List.Records.{LoadsNext, HasWalked}
use Rattle.live_segment.specs.Standing.{SeesNext}
use Rattle.live_segment.specs.List.Walk.{HasCome, WalksOn}
use Rattle.live_segment.proofs.lemmas.Steps.Allowed.{does_at}
use Rattle.live_segment.proofs.Seating.Standing.{as_known, found_there, sees_next}
use Rattle.segment_promises.proofs.Calls.Orders.{once_in}
use Rattle.live_segment.proofs.lemmas.Hist.OwnNames.{knows_own_names}
use Rattle.live_segment.proofs.lemmas.Add.OwnSamples.{knows_own_samples}
use Rattle.segment_promises.proofs.Growing.{extended_end, extended_grows, grows_on, reference_behind}
use Rattle.segment_promises.proofs.Calls.Places.{behind_apart}

-- ---- its step

module _ (given : Opening) (slots id : ℕ) (me : Sat) (word : ℕ) (records : is_opener me.0.role ≡ false) where
  -- a next is loaded by a recorder that has visited no block twice
  pub loads_next : (place : Option Opening) (number at : ℕ) → place ≡ Some given → number ≡ id → word ≡ at + 3 + 1 → at + 5 ≤ given.setting.shape.size
      → Ready me.0 (walking_event (load_next at))
      → Allows (Runs given) slots id me word (change given.setting.version (walking_event (load_next at))) (LoadsNext place number word me)
  loads_next place number at seated same is room ready s run wide mine small =
      let (view, act, valid, holds, told) =
      does_at given slots id me word records (λ (x : ℕ). walking_event (load_next x)) at (omega (arith, is)) (λ y e. omega (arith, is, e)) ready s run wide mine small in
      let live : me.0.hand.place ≢ Spent = λ e. true≢false (sym (ap is_bound e) ∙ ready.0) in
      let there : get_elem? run.running.segment.actors id ≡ some me.0 = ap (λ list. get_elem? list id) (sym run.running.views) ∙ mine in
      let fits = run.running.kept.each id me.0 there live in
      let later = holds.running.segment in
      let long = length_shown given.setting.shape later.words (layout_of holds.running.kept.anatomy) holds.running.kept.shown in
      let sees : SeesNext given id at (slice_index s.words word) view =
      sees_next given _ holds id view (set_here s.views id view (below_length s.views id me.0 mine)) at _
      (found_there later.words later.cursors s.words holds.running.anchor word (at + 3) holds.running.words is (omega (arith, long, room))) in (
        view,
        act,
        valid,
        holds,
        (
          told,
          once_in run.running.segment.words me.0.seen.chain _ fits.sees.walked run.running.kept.list.linked,
          knows_own_names given.setting.shape run.opened run.running.segment run.running.kept id me.0 there live,
          knows_own_samples given.setting.shape run.opened run.running.segment run.running.kept id me.0 there live,
          λ opening other at_it also.
              let one : at ≡ other = omega (arith, is, also) in
              as_known (λ given n. SeesNext given n other (slice_index s.words word) view) given place number id seated same
              (subst (λ (at : ℕ). SeesNext given id at (slice_index s.words word) view) one sees) opening at_it,
        ),
      )

-- ---- between two steps

-- it has seen this much of the list, and found that these words lead to no block; otherwise only its place may have changed
abbrev saw_list : Actor → Place → List ℕ → List ℕ → Actor
saw_list a place chain ends = record a { hand = record a.hand { place = place }; seen = record a.seen { chain = chain; ends = ends } }

-- a walk has given these records, and is at their end
pub record IsWalking (first now : Pass) (given : List ℕ) (at : ℕ) : Type 0 where
  pub same : IsSame first now
  pub view : now.me.0 ≡ saw_list first.me.0 now.me.0.hand.place now.me.0.seen.chain first.me.0.seen.ends
  pub apart : StaysApart first.me.0 now.me.0
  pub chain : Grows first.me.0.seen.chain now.me.0.seen.chain
  pub walks : Walks now.me.0 given
  pub stands : at ≡ stands_behind given
  pub within : All (λ r. (16 ≤ r) × (r + 5 ≤ first.me.0.segment.shape.size)) given

-- it begins with the records that it gave before
pub begins : (size : ℕ) (first : Pass) (place : WalkPlace) → is_bound first.me.0.hand.place ≡ false → first.me.0.segment.shape.size ≡ size
    → HasCome size first.me.0.seen.chain place → IsWalking first first (take place.given first.me.0.seen.chain) place.at
begins size first place free sized come =
    let chain = first.me.0.seen.chain in
    let front : chain ≡ take place.given chain ++ drop place.given chain = sym (take-append-drop place.given chain) in
    let long : length (take place.given chain) ≡ place.given = length-take-le place.given chain come.few in record {
      same = (refl, refl, refl);
      view = refl;
      apart = λ was. was;
      chain = ([], sym (append-nil chain));
      walks = (free, (drop place.given chain, front));
      stands = come.stands ∙ (ap (slice_index (stops chain)) (sym long) ∙ place_of (take place.given chain) (drop place.given chain) chain front);
      within = subst (λ (n : ℕ). All (λ r. (16 ≤ r) × (r + 5 ≤ n)) (take place.given chain)) (sym sized) come.within;
    }

-- a block where a walk is lies within the segment
pub stands_within : (size : ℕ) (given : List ℕ) → 17 ≤ size → All (λ r. (16 ≤ r) × (r + 5 ≤ size)) given → stands_behind given + 5 ≤ size
stands_within size [] wide all = omega arith
stands_within size (x ∷ xs) wide all = (all (length xs) 0 (omega arith)).1

-- a walk that finds the end has given all that was seen
pub all_given : (given rest chain : List ℕ) (found : ℕ) → chain ≡ given ++ rest → NoRepeats chain
    → (length given < length chain → found ≡ slice_index chain (length given)) → found ≡ 12 → given ≡ chain
all_given given [] chain found is once again end = sym (is ∙ append-nil given)
all_given given (r ∷ rs) chain found is once again end =
    let long : length chain ≡ length given + length (r ∷ rs) = ap length is ∙ length-append given (r ∷ rs) in
    let passed : length given < length chain = omega (arith, long) in
    absurd (once 0 (suc (length given)) (omega arith) (omega (arith, passed)) (sym end ∙ again passed))

module _ {segment : Segment} {first old : Pass} {given : List ℕ} {at : ℕ} (seated : IsSeated segment first) (is : IsWalking first old given at) where
  pub may_load : MayStep segment old (walking_event (load_next at))
  may_load = record {
    table = is.same.0 ∙ seated.table;
    recorder = ap (λ (a : Actor). is_opener a.role) is.view ∙ seated.recorder;
    ready = subst (λ (n : ℕ). Ready old.me.0 (walking_event (load_next n))) (sym is.stands) (walks_agree 0 1 old.me.0 given is.walks).1;
  }

  pub room : at + 5 ≤ segment.setting.shape.size
  room =
      let from = segment.shaped.wide in
      let to = segment.shaped.one in
      let inside : stands_behind given + 5 ≤ segment.setting.shape.size =
      stands_within segment.setting.shape.size given (omega (arith, from, to))
      (subst (λ (s : Dimensions). All (λ r. (16 ≤ r) × (r + 5 ≤ s.size)) given) seated.of.shape is.within) in
      let here = is.stands in omega (arith, inside, here)

  module _ (found : ℕ) (new : Pass) (load : Stepped old (walking_event (load_next at)) found new) where
    pub same_still : IsSame first new
    same_still = (load.same.0 ∙ is.same.0, load.same.1 ∙ is.same.1, load.same.2 ∙ is.same.2)

    view_still : new.me.0 ≡ saw_list first.me.0 new.me.0.hand.place new.me.0.seen.chain (with_end first.me.0.seen.ends (at + 3) (found == 12))
    view_still =
        load.view ∙ (ap (λ (a : Actor). next a (walking_event (load_next at)) found) is.view
        ∙ (λ i. saw_list first.me.0 (sym (ap (λ (a : Actor). a.hand.place) load.view) i) (sym (ap (λ (a : Actor). a.seen.chain) load.view) i)
        (with_end first.me.0.seen.ends (at + 3) (found == 12))))

    apart_still : StaysApart first.me.0 new.me.0
    apart_still was = ap (λ (a : Actor). is_holding a.hand.place) load.view ∙ behind_apart old.me.0.hand.place at found (is.apart was)

    chain_is : new.me.0.seen.chain ≡ extended old.me.0.seen.chain at found
    chain_is = ap (λ (a : Actor). a.seen.chain) load.view

    walks_on : Walks new.me.0 (given_after given (said_of old.me.0.segment.shape.size found))
    walks_on =
        let at_there : Stepped old (walking_event (load_next (stands_behind given))) found new =
        subst (λ (n : ℕ). Stepped old (walking_event (load_next n)) found new) is.stands load in
        subst (λ (a : Actor). Walks a (given_after given (said_of old.me.0.segment.shape.size found))) (sym at_there.view)
        ((walks_agree 0 1 old.me.0 given is.walks).2 found at_there.learned)

    pub ended : NoRepeats old.me.0.seen.chain → found ≡ 12 → HasWalked first.me.0 given new.me.0
    ended once end =
        let (rest, front) = is.walks.1 in
        let whole : given ≡ old.me.0.seen.chain =
        all_given given rest old.me.0.seen.chain found front once
        (λ passed. load.learned.again (length given) passed (place_of given rest old.me.0.seen.chain front ∙ sym is.stands)) end in
        let seen : new.me.0.seen.chain ≡ given = chain_is ∙ (extended_end old.me.0.seen.chain at found end ∙ sym whole) in
        let met : All (Contains old.me.0.seen.chain) (records_met old.me.0) = load.learned.all (ap stands_behind (sym whole) ∙ sym is.stands) end in record {
          view = view_still
              ∙ ((λ i. saw_list first.me.0 new.me.0.hand.place (seen i) (with_end first.me.0.seen.ends (at + 3) (eq-eqb found 12 end i)))
              ∙ ap (λ (n : ℕ). saw_list first.me.0 new.me.0.hand.place given (first.me.0.seen.ends ++ (n + 3) ∷ [])) is.stands);
          free = walks_on.0;
          apart = apart_still;
          chain = subst (Grows first.me.0.seen.chain) (sym whole) is.chain;
          once = subst NoRepeats (sym whole) once;
          within = is.within;
          met = subst (λ (l : List ℕ). All (Contains given) l) (ap records_met is.view)
              (subst (λ (l : List ℕ). All (Contains l) (records_met old.me.0)) (sym whole) met);
        }

    module _ (miss : found ≢ 12) where
      gave : given_after given (said_of old.me.0.segment.shape.size found) ≡ given ++ found ∷ []
      gave =
          ap (λ (b : Bool × Bool). given_after given (if b.0 then End else if b.1 then Record found else Stray))
          (λ i. (ne_eqb found 12 miss i, load.learned.reference i))

      longer : Walks new.me.0 (given ++ found ∷ [])
      longer = subst (Walks new.me.0) gave walks_on

      pub walking : IsWalking first new (given ++ found ∷ []) found
      walking =
          let shape : old.me.0.segment.shape ≡ first.me.0.segment.shape = ap (λ (a : Actor). a.segment.shape) is.view in
          let long = length_push given found in record {
            same = same_still;
            view = view_still
                ∙ ap (λ (b : Bool). saw_list first.me.0 new.me.0.hand.place new.me.0.seen.chain (with_end first.me.0.seen.ends (at + 3) b)) (ne_eqb found 12 miss);
            apart = apart_still;
            chain = grows_on first.me.0.seen.chain old.me.0.seen.chain new.me.0.seen.chain is.chain
                (subst (Grows old.me.0.seen.chain) (sym chain_is) (extended_grows old.me.0.seen.chain at found));
            walks = longer;
            stands = sym (get_or_push (stops given) found 0 (length (given ++ found ∷ [])) (omega (arith, long)));
            within = All-push (λ r. (16 ≤ r) × (r + 5 ≤ first.me.0.segment.shape.size)) given found is.within
                (reference_behind first.me.0.segment.shape.size found
                (subst (λ (s : Dimensions). is_reference s.size found ≡ true) shape load.learned.reference) miss);
          }

      -- these records and one more fit in a segment
      pub few : 5 * (length given + 1) + 16 ≤ segment.setting.shape.size
      few =
          let (rest, front) = longer.1 in
          let long : length new.me.0.seen.chain ≡ length (given ++ found ∷ []) + length rest = ap length front ∙ length-append (given ++ found ∷ []) rest in
          let one = length_push given found in
          let all = ap length chain_is in
          let shape : old.me.0.segment.shape ≡ segment.setting.shape = ap (λ (a : Actor). a.segment.shape) is.view ∙ seated.of.shape in
          let fits : 5 * length (extended old.me.0.seen.chain at found) + 16 ≤ segment.setting.shape.size =
          subst (λ (s : Dimensions). 5 * length (extended old.me.0.seen.chain at found) + 16 ≤ s.size) shape load.learned.few in
          omega (arith, long, one, all, fits)

-- ---- at the end

-- where a walk is that has given all of a list
come_to : (size at given : ℕ) (list : List ℕ) → given ≡ length list → at ≡ stands_behind list
    → All (λ r. (16 ≤ r) × (r + 5 ≤ size)) list → HasCome size list (record { given = given; at = at })
come_to size at given list all stands within = record {
  few = omega (arith, all);
  stands = stands ∙ (sym (place_of list [] list (sym (append-nil list))) ∙ ap (slice_index (stops list)) (sym all));
  within = subst (All (λ r. (16 ≤ r) × (r + 5 ≤ size))) (sym (ap (λ (n : ℕ). take n list) all ∙ take-length list)) within;
}

-- it has continued from a place to the end of the list
pub walked_on : (size : ℕ) (first : Pass) (from to : WalkPlace) (records : List ℕ) (old new : Pass) → first.me.0.segment.shape.size ≡ size
    → HasCome size first.me.0.seen.chain from → IsWalking first old (take from.given first.me.0.seen.chain ++ records) to.at
    → to.given ≡ length (take from.given first.me.0.seen.chain ++ records)
    → HasWalked first.me.0 (take from.given first.me.0.seen.chain ++ records) new.me.0 → WalksOn size first.me.0 from records new.me.0 to
walked_on size first from to records old new sized come is given walked =
    let front = take from.given first.me.0.seen.chain in
    let long : length front ≡ from.given = length-take-le from.given first.me.0.seen.chain come.few in record {
      list = front ++ records;
      walked = walked;
      behind = sym (ap (λ (n : ℕ). drop n (front ++ records)) (sym long) ∙ drop-append_seam front records);
      come = come_to size to.at to.given (front ++ records) given is.stands
          (subst (λ (n : ℕ). All (λ r. (16 ≤ r) × (r + 5 ≤ n)) (front ++ records)) sized is.within);
      given = given;
    }

-- a walk is still at its place once more of the list was seen
pub come_still : (size : ℕ) (old new : List ℕ) (place : WalkPlace) → Grows old new → HasCome size old place → HasCome size new place
come_still size old new place (more, is) come =
    let few = come.few in
    let longer : length new ≡ length old + length more = ap length is ∙ length-append old more in record {
      few = omega (arith, few, longer);
      stands =
          come.stands
          ∙ sym (ap (λ (l : List ℕ). slice_index (stops l) place.given) is ∙ get_or_append_left (stops old) more 0 place.given (omega (arith, few)));
      within = subst (All (λ r. (16 ≤ r) × (r + 5 ≤ size))) (sym (ap (take place.given) is ∙ take-append-le place.given old more few)) come.within;
    }

-- a walk has seen no less of the list
pub walk_grows : (old : Actor) (list : List ℕ) (new : Actor) → HasWalked old list new → Grows old.seen.chain new.seen.chain
walk_grows old list new walked = subst (Grows old.seen.chain) (sym (ap (λ (a : Actor). a.seen.chain) walked.view)) walked.chain

-- a recorder still knows a histogram that it knew
pub right_still : (setting : Setting) (old new : Actor) (known : KnownHistogram) → new.answers.names ≡ old.answers.names
    → Grows old.seen.chain new.seen.chain → KnowsRight setting old known → KnowsRight setting new known
right_still setting old new known names (more, is) right = record {
  named = right.named;
  lawful = right.lawful;
  small = right.small;
  ranges = right.ranges;
  room = right.room;
  fits = right.fits;
  alone = ap (λ (list : List Known). known_at list known.reference) names ∙ right.alone;
  met =
      ap (list_any (λ at. at == known.reference)) is
      ∙ (list_any-append (λ at. at == known.reference) old.seen.chain more
      ∙ ap (λ (b : Bool). b || list_any (λ at. at == known.reference) more) right.met);
}

-- and all of them
pub all_right : (setting : Setting) (old new : Actor) (known : List KnownHistogram) → new.answers.names ≡ old.answers.names
    → Grows old.seen.chain new.seen.chain → All (KnowsRight setting old) known → All (KnowsRight setting new) known
all_right setting old new known names grows all k d low = right_still setting old new _ names grows (all k d low)
