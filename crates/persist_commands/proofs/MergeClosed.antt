-- What one recorder saw that alone recorded into a new segment, which is closed.
use Rattle.std.proofs.Common.{◌≡◌, ℕ, Bool, true, false, ◌||◌, if◌then◌else◌, List, [], ◌∷◌, map, length, fold, refl, sym, ap, ◌∙◌, subst, arith}
use Rattle.std.proofs.lemmas.Bool.{lt-ltb}
use mathlib.Core.Option.{some, some-injective}
use lib.ListN.{get_elem?}
use Rattle.segment_machine.specs.declared.actor.Actor.{Actor}
use Rattle.segment_machine.specs.Actor.{outstanding_of}
use Rattle.segment_machine.specs.Made.{IsFirstNamed}
use Rattle.segment_machine.specs.Seats.{joined, longer, offering, parent}
use Rattle.segment_invariant.proofs.Lists.Elements.{at_from}
use Rattle.segment_promises.proofs.Names.{others_differ}
use Rattle.segment_calls.specs.declared.asked.Asked.{Asked}
use Rattle.live_segment.specs.declared.rule.Opening.{Opening}
use Rattle.live_segment.specs.declared.rule.Setting.{Setting}
use Rattle.live_segment.specs.declared.segment.Segment.{Segment}
use Rattle.live_segment.specs.Closing.{IsImageOf, ReadsJoined, ReadsStopped}
use Rattle.live_segment.specs.Holders.{opened_with}
use Rattle.live_segment.specs.Hist.Answer.{KnowsNone}
use Rattle.live_segment.specs.Rule.{first_view}
use Rattle.live_segment.specs.Hist.Search.{FirstHasOtherSpec}

-- the opener that gave all units to a recorder and has joined it
abbrev pub closing : Setting → Actor → Actor
closing setting last = joined (parent (offering (first_view setting) 4294967295)) last

-- what its image is then
pub record IsClosed (setting : Setting) (last : Actor) (words : List ℕ) : Type 0 where
  pub image : IsImageOf setting words
  pub reads : ReadsJoined setting (closing setting last) words
  pub opening : Opening
  pub stopped : ReadsStopped (record opening { setting = setting }) (closing setting last) words

pub closed_so : (setting : Setting) (segment : Segment) (opener mid new last : Actor) (words : List ℕ) → segment.setting ≡ setting → opener ≡ first_view setting
    → mid ≡ parent (offering opener 4294967295) → new ≡ joined mid last
    → IsImageOf segment.setting words → (outstanding_of new.role ≡ 0 → ReadsJoined segment.setting new words) → ReadsStopped (opened_with segment) new words
    → IsClosed setting last words
closed_so setting segment opener mid new last words is first handed joins image reads stopped =
    let given : Opening = opened_with segment in
    let whole : new ≡ closing setting last =
    joins ∙ ap (λ (o : Actor). joined o last) (handed ∙ ap (λ (o : Actor). parent (offering o 4294967295)) first) in record {
      image = subst (λ (s : Setting). IsImageOf s words) is image;
      reads = subst (λ (s : Setting). ReadsJoined s (closing setting last) words) is
          (subst (λ (o : Actor). ReadsJoined segment.setting o words) whole (reads (ap (λ (o : Actor). outstanding_of o.role) whole)));
      opening = given;
      stopped = subst (λ (s : Setting). ReadsStopped (record given { setting = s }) (closing setting last) words) (segment.keyed ∙ is)
          (subst (λ (o : Actor). ReadsStopped given o words) whole stopped);
    }

-- what the longer of nothing and a chain is
longer_than_none : (chain : List ℕ) → longer [] chain ≡ chain
longer_than_none [] = refl
longer_than_none (x ∷ xs) = ap (λ (b : Bool). if b then x ∷ xs else []) (lt-ltb 0 (length (x ∷ xs)) (omega arith))

still_set : (list : List Bool) → fold ◌||◌ true list ≡ true
still_set [] = refl
still_set (b ∷ list) = still_set list

-- a flag that the first actor has is one that an actor has
first_set : (test : Actor → Bool) (actors : List Actor) (a : Actor) → get_elem? actors 0 ≡ some a → test a ≡ true → fold ◌||◌ false (map test actors) ≡ true
first_set test [] a first is = absurd (cc first)
first_set test (b ∷ actors) a first is =
    let set : test b ≡ true = ap test (some-injective b a first) ∙ is in
    ap (λ (x : Bool). fold ◌||◌ x (map test actors)) set ∙ still_set (map test actors)

module _ (setting : Setting) (last : Actor) (words : List ℕ) (closed : IsClosed setting last words) where
  -- a record of a name on the list is that of a histogram that is read, so the recorder knows one of the name
  pub saw_no_other : (asked : Asked) → FirstHasOtherSpec asked last → KnowsNone asked.name.items last → ⊥
  saw_no_other asked (at, letters, named, are, unlike) none =
      let chain : last.seen.chain ≡ (closing setting last).seen.chain = sym (longer_than_none last.seen.chain) in
      let its : IsFirstNamed (closing setting last).seen asked.name.items at =
      subst (λ (l : List ℕ). IsFirstNamed (record last.seen { chain = l }) asked.name.items at) chain named in
      let (kind, first, _) = others_differ setting.shape closed.stopped.closed.opened closed.stopped.closed.state closed.stopped.closed.kept 0 (closing setting last) closed.stopped.closed.stands
      (λ spent. cc spent) asked.name.items letters asked.spec at are its unlike in
      let (h, has, called) = (closed.stopped.reads closed.image.reading.0 closed.image.reading.1).names.read asked.name.items kind at first in
      let (known, among, is) = ((closed.reads closed.image.reading.0 closed.image.reading.1).answers.names asked.name.items).0 (h, has, called) in
      let (index, stands) = at_from last.answers.names known among in none index known (stands, is)

  -- nobody has set the corrupt flag, so it saw none
  pub saw_no_flag : last.done.spoiled ≡ false → last.seen.corrupt ≡ true → ⊥
  saw_no_flag unspoiled saw =
      let set : closed.image.reading.0.corrupt ≡ true = (closed.stopped.reads closed.image.reading.0 closed.image.reading.1).head.noticed
      (first_set (λ (a : Actor). a.seen.corrupt) closed.stopped.closed.state.actors (closing setting last) closed.stopped.closed.stands saw) in
      let unset : closed.image.reading.0.corrupt ≡ false = (closed.reads closed.image.reading.0 closed.image.reading.1).corrupt ∙ unspoiled in
      cc (set, unset)
