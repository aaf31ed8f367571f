-- An `add` loads the counts reference.
use Rattle.segment_invariant.proofs.Prelude.Std.{◌≡◌, ◌<◌, ◌≤◌, ℕ, ◌+◌, ◌*◌, ◌%◌, ◌^◌, Bool, List, refl, sym, ap, subst, ◌∙◌, arith, inl, ◌≢◌, Some, if◌then◌else◌, eq-eqb, set-get_or}
use Rattle.segment_invariant.proofs.Prelude.Machine.{buckets_of, Dimensions, word_at, Actor, Known, Look, Place, Looking, is_bound, Buckets, MayTurn, look_of, load_counts, Event, next, counting_event}
use Rattle.segment_machine.specs.Calls.{nothing_of, AreCountsOf, CountsStay}
use Rattle.hist_core.proofs.AddCall.Going.{aside_counts, acts_on}
use Rattle.hist_core.specs.declared.add.Add.{Add}
use Rattle.hist_core.specs.declared.add.AddStep.TheVariants.{More}
use Rattle.hist_core.specs.declared.add.AddStage.TheVariants.{LoadingCounts, Counting}
use Rattle.hist_core.specs.StepsBy.{StepsBy}
use Rattle.hist_core.specs.Add.{Amid, StandsAtStage, IsAdd, AddGives}

module _ (shape : Dimensions) (known : Known) (amid : Amid) (add : Add) (a : Actor) (words : List ℕ) (is : IsAdd shape known amid add a) (loads : add.stage ≡ LoadingCounts) where
  stands : StandsAtStage shape known amid add a LoadingCounts
  stands = subst (StandsAtStage shape known amid add a) loads is.stands

  abbrev found : ℕ
  found = word_at words (known.reference + 8)

  abbrev event : Event
  event = counting_event (load_counts known.reference)

  abbrev acted : Actor
  acted = next a event found

  abbrev looked : Look
  looked = record { histogram = known.reference; single = Some stands.2.0; counts = stands.2.1 }

  abbrev looking : Look
  looking = record { histogram = known.reference; single = Some stands.2.0; counts = found }

  may_turn : MayTurn a
  may_turn = ap is_bound stands.2.2

  has_them : Buckets a known.reference known
  has_them = (is.knows, refl, stands.0)

  looks_on : acted.hand.place ≡ Looking looking
  looks_on = ap (λ (p : Place). Looking (record (look_of p known.reference) { counts = found })) stands.2.2
      ∙ ap (λ (b : Bool). Looking (record (if b then looked else nothing_of known.reference) { counts = found })) (eq-eqb known.reference known.reference refl)

  -- the bucket is one of the histogram's
  pub bucket_inside : (add.bucket < add.buckets) × (4 + 2 * add.buckets ≤ 1048576)
  bucket_inside =
      let inside : add.bucket < add.buckets = subst (λ (n : ℕ). add.bucket < n) (sym is.counting.buckets) (is.counting.bucket stands.0).0 in
      let fits = is.counting.fits in let whole = is.lawful_shape.one in let many = is.lawful_shape.many in (inside, omega (arith, fits, whole, many))

  module _ (learned : AreCountsOf a known.reference found × CountsStay a.seen known.reference found) where
    counts_are : found ≢ 0
    counts_are = learned.1.1 stands.2.0 stands.2.3 stands.2.4

    counts_inside : found + (4 + 2 * add.buckets) ≤ shape.size
    counts_inside = subst (λ (n : ℕ). found + (4 + 2 * n) ≤ shape.size) (sym is.counting.buckets)
        (subst (λ (d : Dimensions). found + (4 + 2 * buckets_of known.spec) ≤ d.size) is.segment (learned.0 known has_them counts_are))

    count_at : (at : ℕ) → at ≡ (found + (4 + add.bucket)) % 2 ^ 64 → at ≡ found + 4 + add.bucket
    count_at at is_sum = let inside = counts_inside in let bucket = bucket_inside.0 in let many = is.lawful_shape.many in omega (arith, is_sum, inside, bucket, many)

    then_stands : (at : ℕ) → at ≡ (found + (4 + add.bucket)) % 2 ^ 64 → StandsAtStage shape known amid (record add { stage = Counting at }) acted (Counting at)
    then_stands at is_sum = (
      stands.1,
      inl (looking, (looks_on, counts_are, (stands.2.0, refl, stands.2.4), has_them), count_at at is_sum),
      let here = count_at at is_sum in let inside = counts_inside in let bucket = bucket_inside.0 in omega (arith, here, inside, bucket),
    )

  pub loads_so : (at : ℕ) → at ≡ (word_at words (add.histogram + 8) + (4 + add.bucket)) % 2 ^ 64
      → StepsBy shape.size add.version a words words (AddGives shape known amid (record add { stage = Counting at }) More a)
  loads_so at is_sum = acts_on shape known amid add a is (Counting at) words words event (may_turn, (known, has_them)) (sym (set-get_or words (known.reference + 8) 0))
      (aside_counts a acted known.reference found refl refl refl refl refl refl, (refl, refl), refl)
      (λ learned. then_stands learned at (is_sum ∙ ap (λ (r : ℕ). (word_at words (r + 8) + (4 + add.bucket)) % 2 ^ 64) (sym is.counting.reference)))
