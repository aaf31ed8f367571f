-- A world whose actors have done nothing stands for a state of the machine: an opener that has made a recorder for each actor, one after the
-- other. It starts with a new segment, or with an image.
use Rattle.segment_invariant.proofs.Prelude.Std.{◌≡◌, ◌⊎◌, ℕ, zero, suc, ◌+◌, ◌-◌, ◌<◌, ◌≤◌, ◌^◌, List, [], ◌∷◌, ◌++◌, map, take, drop, length, All, inl, inr, refl, sym, ap, ◌∙◌, subst, arith, length-append, vec_len, vec_capacity, some, some-ne-none, get_elem?}
use Rattle.segment_invariant.proofs.Prelude.Machine.{head_of, Dimensions, Reading, reading_along, IsShape, Actor, Idle, State}
use Rattle.std.proofs.Math.Numerals.{add-one}
use Rattle.std.proofs.Math.Seq.{take-nil, drop-nil}
use Rattle.atomic_table.proofs.Lists.{at_snoc}
use Rattle.segment_machine.specs.declared.actor.Role.TheVariants.{Opener}
use Rattle.segment_machine.specs.Seats.{newcomer}
use Rattle.segment_machine.specs.Reached.{IsReached, started, offered, split}
use Rattle.segment_invariant.proofs.Lists.Elements.{all_at, all_from}
use Rattle.segment_promises.specs.Adoption.{adopter}
use Rattle.segment_promises.proofs.Adopting.Opened.Opens.{adoption_opens}
use Rattle.hist_core.specs.declared.actor_run.ActorRun.{ActorRun}
use Rattle.hist_core.specs.declared.world_state.WorldState.{WorldState}
use Rattle.hist_core.specs.ActorRun.{entry_of, known_of, AreDeltasShown, HasDraft, IsFreshRun, IsKnown, HaveOwnNames, StandsIn, HasRoomForHist, IsActorRunOf, pending_by}
use Rattle.hist_core.specs.Start.{IsImageStart, MayStart, Start, new_start, start_state}
use Rattle.hist_core.specs.WorldState.{AreRun, IsAdoptedWorldState, IsNewWorldState, IsReachedFrom, IsReachedFromImage, IsReachedFromNew}
use Rattle.hist_core.proofs.Worlds.Starts.{start_role}

module _ (shape : Dimensions) (version : ℕ) (start : Start) (role : start.opener.role ≡ Opener 0 0 0) (idle : start.opener.hand.place ≡ Idle)
    (segment : start.opener.segment ≡ record { shape = shape; version = version; cursors = 0 }) where
  -- the opener that has made this many recorders, and the recorder that it makes next
  abbrev opener : ℕ → Actor
  opener n = record start.opener { role = Opener n n 0 }

  abbrev recorders : ℕ → List Actor
  recorders zero = []
  recorders (suc n) = recorders n ++ newcomer (opener n) ∷ []

  abbrev made : ℕ → State
  made n = record (start_state start) { actors = opener n ∷ recorders n }

  -- the machine reaches it
  reaches : (n : ℕ) → n ≤ 64 → IsReached version (start_state start) (made n)
  reaches zero few = subst (λ (a : Actor). IsReached version (start_state start) (record (start_state start) { actors = a ∷ [] }))
      (λ i. record start.opener { role = role i }) started
  reaches (suc n) few =
      let before : n ≤ 64 = omega (arith, few) in
      let may : n < 256 = omega (arith, few) in
      let none : 0 ≤ start.opener.units.share = omega arith in
      let same : start.opener.units.share ≡ start.opener.units.share - 0 = omega arith in
      subst (λ (k : ℕ). IsReached version (start_state start) (record (start_state start) { actors = opener k ∷ recorders (suc n) })) (add-one n)
      (split (made n) (record (start_state start) { actors = opener (n + 1) ∷ recorders (suc n) }) 0
      (offered (made n) (made n) 0 0 (reaches n before) (opener n, refl, (idle, refl, none), refl)) (
        opener n,
        refl,
        (idle, refl, none, may),
        (λ i. record (start_state start) { actors = record (opener (n + 1)) { units = record start.opener.units { share = same i } } ∷ recorders (suc n) }),
      ))

  -- an actor that has done nothing stands for a recorder that has just been made
  one_runs : (n : ℕ) (actor_run : ActorRun) → IsFreshRun actor_run → IsActorRunOf shape version actor_run (newcomer (opener n))
  one_runs n actor_run fresh =
      let nothing : (k : ℕ) → k ≡ 0 → map entry_of (take k actor_run.entries.items) ≡ [] = λ k none. ap (λ l. map entry_of (take k l)) fresh.entries ∙ ap (map entry_of) (take-nil k) in
      record {
        records = refl;
        segment = segment;
        first = refl;
        within = (subst (λ (k : ℕ). k ≤ actor_run.begun) (sym fresh.ended) (omega arith), subst (λ (k : ℕ). k ≤ length actor_run.entries.items) (sym fresh.begun) (omega arith));
        ended = nothing actor_run.ended fresh.ended;
        begun = nothing actor_run.begun fresh.begun;
        taken = subst (λ l. AreDeltasShown l []) (sym fresh.taken) tt;
        names = ap (map known_of) fresh.known;
        lawful = subst (All (IsKnown shape)) (sym fresh.known) (λ k d inside. absurd (omega (arith, inside)));
        once = subst HaveOwnNames (sym fresh.known) tt;
        met = λ known (k, low, is). absurd (omega (arith, low));
        stands = subst (λ running. StandsIn shape actor_run.known.items (pending_by actor_run) running (newcomer (opener n))) (sym fresh.rests) (
          refl,
          record { none = ap (drop actor_run.ended) fresh.entries ∙ drop-nil actor_run.ended; runs = refl; holds = refl; share = refl; takes = refl },
        );
        room = subst (λ running. HasRoomForHist running (vec_len actor_run.known) (vec_capacity actor_run.known)) (sym fresh.rests) tt;
        draft = subst (λ running. HasDraft running actor_run.taken) (sym fresh.rests) tt;
      }

  -- so do all of them
  all_run : (actor_runs : List ActorRun) (list : List Actor) → length actor_runs ≡ length list → All IsFreshRun actor_runs
      → ((i : ℕ) (a : Actor) → get_elem? list i ≡ some a → (n : ℕ) × (a ≡ newcomer (opener n))) → AreRun shape version actor_runs list
  all_run [] [] same fresh are = tt
  all_run [] (a ∷ list) same fresh are = absurd (omega (arith, same))
  all_run (r ∷ actor_runs) [] same fresh are = absurd (omega (arith, same))
  all_run (r ∷ actor_runs) (a ∷ list) same fresh are =
      let first = are 0 a refl in (
        subst (IsActorRunOf shape version r) (sym first.1) (one_runs first.0 r (all_at IsFreshRun (r ∷ actor_runs) 0 r fresh refl)),
        all_run actor_runs list (omega (arith, same)) (all_from IsFreshRun actor_runs (λ i x at. all_at IsFreshRun (r ∷ actor_runs) (suc i) x fresh at)) (λ i x at. are (suc i) x at),
      )

  counted : (n : ℕ) → length (recorders n) ≡ n
  counted zero = refl
  counted (suc n) = length-append (recorders n) (newcomer (opener n) ∷ []) ∙ ap (λ k. k + 1) (counted n) ∙ add-one n

  each_new : (n i : ℕ) (a : Actor) → get_elem? (recorders n) i ≡ some a → (k : ℕ) × (a ≡ newcomer (opener k))
  each_new zero i a at = absurd (some-ne-none a (sym at))
  each_new (suc n) i a at = elim (at_snoc (recorders n) (newcomer (opener n)) a i at) [ inl before ↦ each_new n i a before | inr last ↦ (n, sym last) ]

-- a world of this many actors that have done nothing is one that the machine reaches from its start
fresh_is_reached : (start : Start) (actors : ℕ) (new : WorldState) → MayStart new.shape new.version start → start.opener.hand.place ≡ Idle
    → start.opener.segment ≡ record { shape = new.shape; version = new.version; cursors = 0 } → new.words.items ≡ start.words → vec_len new.actor_runs ≡ actors
    → All IsFreshRun new.actor_runs.items → start.opener.units.share ≡ new.units → actors ≤ 64 → IsReachedFrom start new
fresh_is_reached start actors new starts idle segment worded many fresh pooled few =
    let role = start_role new.shape new.version start starts in
    let made_there = made new.shape new.version start role idle segment actors in (
      made_there,
      record {
        starts = starts;
        reached = reaches new.shape new.version start role idle segment actors few;
        shows = record {
          words = sym worded;
          cursors = refl;
          opener = opener new.shape new.version start role idle segment actors;
          recorders = recorders new.shape new.version start role idle segment actors;
          actors = refl;
          opens = refl;
          waits = idle;
          offers = refl;
          pool = pooled;
          runs = all_run new.shape new.version start role idle segment new.actor_runs.items (recorders new.shape new.version start role idle segment actors)
              (sym new.actor_runs.ok.0 ∙ many ∙ sym (counted new.shape new.version start role idle segment actors)) fresh (each_new new.shape new.version start role idle segment actors);
        };
        entries = refl;
        deltas = refl;
        answers = refl;
      },
    )

-- a new one from a new segment
pub new_is_reached : (shape : Dimensions) (version id actors : ℕ) (new : WorldState) → IsNewWorldState shape version id actors new → IsShape shape
    → (version ≡ 1) ⊎ (version ≡ 2) → actors ≤ 64 → IsReachedFromNew shape version id new
new_is_reached shape version id actors new made_so lawful versions few = fresh_is_reached (new_start shape version id) actors new
    (subst (λ (p : Dimensions × ℕ). MayStart p.0 p.1 (new_start shape version id)) (λ i. (sym made_so.shaped i, sym made_so.versioned i)) (inl (id, lawful, versions, refl)))
    refl (λ i. record { shape = sym made_so.shaped i; version = sym made_so.versioned i; cursors = 0 }) made_so.words made_so.count made_so.rest (sym made_so.units) few

-- and one that continues from an image is reached from that
pub image_is_reached : (words : List ℕ) (actors : ℕ) (new : WorldState) → IsAdoptedWorldState words actors new → All (λ word. word < 2 ^ 64) words → actors ≤ 64
    → IsReachedFromImage words new
image_is_reached words actors new goes_on narrow few =
    let references : List ℕ = goes_on.references in
    let reading : Reading = reading_along words (head_of words) references in
    let opens = adoption_opens words references reading 0 narrow goes_on.listed refl goes_on.adoptable in
    let start : Start = record { opened = opens.0; words = words; opener = adopter words references reading 0 } in
    let image : IsImageStart words references start = record {
      listed = goes_on.listed;
      adoptable = goes_on.adoptable;
      words_are = refl;
      opener_is = refl;
      shown = opens.1;
      order = opens.2;
      kept = opens.3;
      opens = opens.4;
    } in
    let units = goes_on.units in (
      references,
      start,
      image,
      fresh_is_reached start actors new (inr (words, references, image, goes_on.shaped, goes_on.versioned)) refl
          (λ i. record { shape = sym goes_on.shaped i; version = sym goes_on.versioned i; cursors = 0 }) goes_on.words_are goes_on.count goes_on.rest
          (omega (arith, units)) few,
    )
