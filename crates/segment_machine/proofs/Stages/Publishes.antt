-- An actor follows a publish.
use Rattle.std.proofs.Common.{◌≡◌, ℕ, ◌==◌, Bool, true, false, List, [], ◌∷◌, ◌++◌, inl, inr, refl, sym, ap, ◌∙◌, subst, true≢false, eqb-true, arith, Contains, Option, Some}
use Rattle.std.specs.Prelude.{if◌then◌else◌}
use Rattle.std.proofs.lemmas.List.Elements.{Contains-push, Contains-append_right}
use Rattle.list_core.specs.declared.publish.PubStage.{PubStage}
use Rattle.list_core.specs.declared.publish.PubStage.TheVariants.{StoreOwnNext, LoadTail, Link, MoveTail, Published, Strayed}
use Rattle.list_core.specs.Chain.{is_reference}
use Rattle.list_core.specs.Publish.{event_at, stage_after}
use Rattle.alloc_core.specs.Event as atomic
use Rattle.segment_machine.specs.declared.actor.Actor.{Actor}
use Rattle.segment_machine.specs.declared.actor.Made.{Made}
use Rattle.segment_machine.specs.declared.actor.Made.TheVariants.{Histogram, Sample}
use Rattle.segment_machine.specs.declared.actor.Own.{Own}
use Rattle.segment_machine.specs.Operation.{single}
use Rattle.segment_machine.specs.Calls.{change_own}
use Rattle.segment_machine.specs.Publishing.{PublishingEvent, store_own_next, load_tail, link, move_tail, own_at, published_as, after_link, MayPublish, operation, Ready, next, Learned}
use Rattle.segment_machine.specs.Stages.{publishes, OffersBlock, PublishesAt, PublishesAgree}

-- ---- the first block at a word

module _ (at : ℕ) where
  there_by : (own x : Own) (rest : List Own) (here : Bool) → (x.at == at) ≡ here
      → (own_at rest at ≡ Some own → Contains rest own × (own.at ≡ at))
      → (if here then Some x else own_at rest at) ≡ Some own → Contains (x ∷ rest) own × (own.at ≡ at)
  there_by own x rest true e behind is =
      let same : x ≡ own = cc is in
      (subst (λ (y : Own). Contains (x ∷ rest) y) same (0, omega arith, refl), ap (λ (y : Own). y.at) (sym same) ∙ eqb-true x.at at e)
  there_by own x rest false e behind is = let there = behind is in (Contains-append_right (x ∷ []) rest own there.0, there.1)

  -- it is there
  there : (own : Own) (list : List Own) → own_at list at ≡ Some own → Contains list own × (own.at ≡ at)
  there own [] is = cc is
  there own (x ∷ rest) is = there_by own x rest (x.at == at) refl (there own rest) is

  changed_by : (change : Own → Own) (own x : Own) (rest : List Own) (here : Bool) → (x.at == at) ≡ here → (change x).at ≡ x.at
      → (own_at rest at ≡ Some own → own_at (change_own at change rest) at ≡ Some (change own))
      → (if here then Some x else own_at rest at) ≡ Some own
      → own_at (if here then change x ∷ rest else x ∷ change_own at change rest) at ≡ Some (change own)
  changed_by change own x rest true e stays behind is =
      ap (λ (here : Bool). if here then Some (change x) else own_at rest at) (ap (λ (n : ℕ). n == at) stays ∙ e)
      ∙ ap (λ (y : Own). Some (change y)) (cc is)
  changed_by change own x rest false e stays behind is =
      ap (λ (here : Bool). if here then Some x else own_at (change_own at change rest) at) e ∙ behind is

  -- and after a change it is there, changed
  changed : (change : Own → Own) (own : Own) (list : List Own) → ((x : Own) → (change x).at ≡ x.at) → own_at list at ≡ Some own
      → own_at (change_own at change list) at ≡ Some (change own)
  changed change own [] stays is = cc is
  changed change own (x ∷ rest) stays is = changed_by change own x rest (x.at == at) refl (stays x) (changed change own rest stays) is

-- ---- what the actor offers

-- what may be published depends on the shape and on the histograms that are known
may_still : (a b : Actor) (own : Own) (made : Made) (next : ℕ) → b.segment.shape ≡ a.segment.shape → b.answers.names ≡ a.answers.names → MayPublish a own made
    → MayPublish b (record own { next = next }) made
may_still a b own (Histogram name spec) next shape names (tag, named, lawful, fits) =
    (tag, named, lawful, rw shape fits)
may_still a b own (Sample histogram value) next shape names (tag, least, small, known) = (tag, least, small, rw names known)

offers_still : (a b : Actor) (reference : ℕ) (made : Made) (next : ℕ) → b.segment.shape ≡ a.segment.shape → b.answers.names ≡ a.answers.names → b.hand.own ≡ a.hand.own
    → OffersBlock a reference made next → OffersBlock b reference made next
offers_still a b reference made next shape names same (own, is, nexts, makes, payload, may) = (
  own,
  ap (λ (list : List Own). own_at list reference) same ∙ is,
  nexts,
  makes,
  payload,
  may_still a b own made own.next shape names may,
)

-- its next is stored
offers_queued : (a : Actor) (reference found : ℕ) (made : Made) → OffersBlock a reference made 0
    → OffersBlock (next a (store_own_next reference) found) reference made 12
offers_queued a reference found made (own, is, nexts, makes, payload, may) = (
  record own { next = 12 },
  changed reference (λ own. record own { next = 12 }) own a.hand.own (λ x. refl) is,
  refl,
  makes,
  payload,
  may_still a (next a (store_own_next reference) found) own made 12 refl refl may,
)

-- ---- a link

module _ (a : Actor) (reference : ℕ) (made : Made) (offers : OffersBlock a reference made 12) where
  linked_as : published_as (own_at a.hand.own reference) reference ≡ record { reference = reference; made = made } ∷ []
  linked_as =
      let own = offers.0 in
      ap (λ (block : Option Own). published_as block reference) offers.1
      ∙ ap (λ (what : Option Made). published_as (Some (record own { made = what })) reference) offers.3

  linked : (found tail n : ℕ) (hit good : Bool) → (found == 12) ≡ hit → good ≡ true
      → PublishesAt (after_link hit a tail reference found) reference made
      (if hit then MoveTail tail reference true else if good then MoveTail tail found false else Strayed)
  linked found tail n true good e lawful = (
    refl,
    subst
        (λ list. Contains (a.done.published ++ list) (record { reference = reference; made = made }))
        (sym linked_as)
        (Contains-push a.done.published (record { reference = reference; made = made })),
  )
  linked found tail n false true e lawful = (refl, offers_still a (after_link false a tail reference found) reference made 12 refl refl refl offers)
  linked found tail n false false e lawful = absurd (true≢false (sym lawful))

-- ---- stage by stage

tail_loaded : (a : Actor) (reference found : ℕ) (made : Made) (good : Bool) → good ≡ true → OffersBlock a reference made 12
    → PublishesAt (next a load_tail found) reference made (if good then Link found else Strayed)
tail_loaded a reference found made true lawful offers = (refl, offers_still a (next a load_tail found) reference made 12 refl refl refl offers)
tail_loaded a reference found made false lawful offers = absurd (true≢false (sym lawful))

goes : (size version : ℕ) (a : Actor) (made : Made) (reference : ℕ) (stage : PubStage) (event : atomic.Access)
    → PublishesAt a reference made stage → event_at reference stage ≡ Some event
    → (act : PublishingEvent) × (publishes reference stage ≡ Some act) × (operation size version act ≡ single event) × Ready a act
    × ((found : ℕ) → Learned a act found → PublishesAt (next a act found) reference made (stage_after a.segment.shape.size reference found stage))
goes size version a made reference StoreOwnNext event (turns, offers) is =
    let block = there reference offers.0 a.hand.own offers.1 in (
      store_own_next reference,
      refl,
      cc is,
      (offers.0, (block.0, offers.2), block.1),
      λ found learned. (turns, offers_queued a reference found made offers),
    )
goes size version a made reference LoadTail event (turns, offers) is =
    let block = there reference offers.0 a.hand.own offers.1 in (
      load_tail,
      refl,
      cc is,
      (turns, (offers.0, (block.0, offers.2))),
      λ found learned. tail_loaded a reference found made (is_reference a.segment.shape.size found) learned offers,
    )
goes size version a made reference (Link tail) event (stands, offers) is =
    let block = there reference offers.0 a.hand.own offers.1 in (
      link tail reference,
      refl,
      cc is,
      (offers.0, made, stands, (block.0, offers.2), block.1, offers.3, offers.4, offers.5),
      λ found learned. linked a reference made offers found tail a.segment.shape.size (found == 12) (is_reference a.segment.shape.size found) refl learned.0,
    )
goes size version a made reference (MoveTail old new true) event (stands, done) is =
    (move_tail old new, refl, cc is, inl stands, λ found learned. (refl, done))
goes size version a made reference (MoveTail old new false) event (stands, offers) is = (
  move_tail old new,
  refl,
  cc is,
  inr stands,
  λ found learned. (refl, offers_still a (next a (move_tail old new) found) reference made 12 refl refl refl offers),
)
goes size version a made reference Published event stands is = cc is
goes size version a made reference Strayed event stands is = absurd stands

pub publishes_agree : PublishesAgree
publishes_agree size version a made p event stands is = goes size version a made p.reference p.stage event stands is
