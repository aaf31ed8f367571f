-- What holds of actors when one recorder that lives counts, packs or takes: what holds of the others stays, for none of them is alone; and
-- so does what was seen before it, for words of published blocks only continue.
use Rattle.segment_invariant.proofs.Prelude.Std.{◌≡◌, ◌≢◌, ℕ, ◌+◌, ◌<◌, ◌≤◌, ℤ, true, false, List, Option, Some, length, set, All, Contains, inl, inr, ⊎_elim, refl, sym, ap, ◌∙◌, subst, arith, w64, cast_signed, drop, All-contains, dite, some, none, ℕ_discrete, get_elem?}
use Rattle.segment_invariant.proofs.Prelude.Machine.{Dimensions, IsShown, SingleWord, buckets_of, packed_bucket, units_packed, single_of, EntryProgress, Place, Spent, SumLoaded, Actor, Known, Moment, Own, Taken, Seen, Sighting, is_off, Leads, tally_units, accepted_by, all_counted, bucket_key, SawCount, is_opener, made_of, outstanding_of, State}
use Rattle.segment_invariant.proofs.Prelude.Invariant.{Record, Counts, Body, histogram, counts, Listed, Anatomy, layout_of, form_at, HasRecord, HasCounts, IsFirstOf, WasCounter, WasInUse, is_living, RolesAreKept, RecordsAreKept, IsAlone, LooksBack, FinalsAreExact, Invariant}
use Rattle.std.proofs.lemmas.List.Elements.{All-contains_itself, All-drop}
use Rattle.segment_invariant.specs.Invariant.{IsMoment, NoneInTransit}
use Rattle.list_lemmas.proofs.Maps.{one_at, contains_take}
use Rattle.segment_invariant.proofs.Blocks.Pieces.{one_stands, piece_from}
use Rattle.segment_invariant.proofs.Blocks.Places.{counter_within}
use Rattle.segment_invariant.proofs.Frames.GoesOn.{not_opener}
use Rattle.segment_invariant.proofs.Frames.Leads.{off_leads}
use Rattle.segment_invariant.proofs.Frames.OneActor.{lives_on}
use Rattle.segment_invariant.specs.Rises.{RecordGoes}
use Rattle.segment_invariant.proofs.Frames.Onward.{Onward, record_from, counts_from}
use Rattle.segment_invariant.proofs.Frames.Roles.{SameRole, SameRoles, role_kept, same_roles}
use Rattle.segment_invariant.proofs.Frames.Together.{IsLater, moment, ended_began, each_began}

-- ---- what changes of an actor that counts, packs or takes

pub record Deed : Type 0 where
  pub place : Place
  pub running : List EntryProgress
  pub own : List Own
  pub taken : List Taken
  pub seen : Seen

-- the actor with that
abbrev pub changed : Actor → Deed → Actor
changed a d = record a { hand = record { place = d.place; own = d.own }; entries = record a.entries { running = d.running }; deltas = record a.deltas { taken = d.taken }; seen = d.seen }

-- what it has of that
abbrev pub deed_of : Actor → Deed
deed_of a = record { place = a.hand.place; running = a.entries.running; own = a.hand.own; taken = a.deltas.taken; seen = a.seen }

module _ (shape : Dimensions) (opened : Anatomy) (state : State) (kept : Invariant shape opened state) (id : ℕ) (a : Actor)
    (mine : get_elem? state.actors id ≡ some a) (records : is_opener a.role ≡ false) (lived : a.hand.place ≢ Spent) (d : Deed) (lives : d.place ≢ Spent) where
  -- it has the role that it had
  pub changed_role : SameRole (changed a d) a
  changed_role = role_kept a (changed a d) (lives_on (changed a d) records lives ∙ sym (lives_on a records lived)) refl refl refl refl refl

  -- and so have all
  pub changed_roles : SameRoles state.actors (set state.actors id (changed a d))
  changed_roles = same_roles state.actors id a (changed a d) mine changed_role (not_opener shape opened state kept id a mine records)

-- ---- who is alone

-- Others become others, which live if they lived; the first stays.
module _ (old new : List Actor) (roles : RolesAreKept old) (beside : SameRoles old new) where
  abbrev opener : Actor
  opener = roles.opener

  -- an actor that is alone was alone
  pub alone_was : (b c : Actor) → outstanding_of b.role ≡ outstanding_of c.role → made_of b.role ≡ made_of c.role → IsAlone new b → IsAlone old c
  alone_was b c outstanding made (one, at, eldest, youngest) =
      (one, sym beside.opener ∙ at, sym outstanding ∙ eldest, ap (λ (n : ℕ). n + 1) (sym made) ∙ youngest)

  pub is_later : IsLater old new opener opener
  is_later = record {
    first = (refl, refl);
    more = omega arith;
    last = λ n below e. e;
    lives = λ k c at lives. let s = beside.stood k c at lives in inl (s.was, s.at, s.lives, s.made);
  }

  -- In the presence of a recorder that lives
  module _ (id : ℕ) (a : Actor) (mine : get_elem? old id ≡ some a) (lives : is_living a ≡ true) where
    -- no other is alone
    pub none_alone : (other : ℕ) (b : Actor) → other ≢ id → get_elem? old other ≡ some b → is_living b ≡ true → IsAlone old b → ⊥
    none_alone other b ne there live (one, at, eldest, youngest) =
        let same = ap (λ (c : Actor). made_of c.role) (one_at old 0 roles.opener one roles.stands at) in
        let below = roles.eldest other id b a there mine live lives ne eldest in
        let young = roles.younger id a mine lives in
        omega (arith, below, young, youngest, same)

    -- and no moment of another is final
    not_final : (other : ℕ) (b : Actor) (m : Moment) → other ≢ id → IsMoment old opener other b m → m.outstanding ≡ 0 → m.before + 1 ≡ made_of opener.role → ⊥
    not_final other b m ne is eldest youngest =
        let later = is.eldest eldest id a mine lives (λ e. ne (sym e)) in
        let young = roles.younger id a mine lives in
        omega (arith, later, young, youngest)

    -- so what it took and returned stays
    pub finals_else : (other : ℕ) (b : Actor) → other ≢ id → get_elem? old other ≡ some b → b.hand.place ≢ Spent → FinalsAreExact old opener other b
        → FinalsAreExact new opener other b
    finals_else other b ne there live exact = record {
      deltas = λ t has eldest youngest quiet. absurd (not_final other b t.moment ne (exact.moments t.moment (ended_began b t has)) eldest youngest);
      snapshots = λ s has eldest youngest quiet. absurd (not_final other b s.moment ne (exact.moments s.moment (inr (s, has, refl))) eldest youngest);
      each = λ n t has eldest youngest. absurd (not_final other b t.moment ne (exact.moments t.moment (each_began b n t has)) eldest youngest);
      moments = λ m of. moment old new opener opener other b m is_later (exact.moments m of);
      swapped = λ before last taking is swapped alone. absurd (dite (ℕ_discrete other 0)
          (λ zero_is.
          let same = one_at old 0 roles.opener b roles.stands (sym (ap (get_elem? old) zero_is) ∙ there) in
          cc (taking, ap (λ (c : Actor). c.deltas.taking) same, roles.rests.2))
          (λ some_other. none_alone other b ne there (lives_on b (roles.only other b there some_other).0 live)
          (alone_was b b refl refl alone)));
    }

-- ---- what an actor looks back at

-- with the seen that it has
abbrev pub sees_no_more : Actor → Deed → Deed
sees_no_more a d = record d { seen = a.seen }

module _ (shape : Dimensions) (words : List ℕ) (old new : Anatomy) (shown : IsShown shape words (layout_of old)) (added : ℕ → Body → Type 0)
    (onward : Onward old new added) (same : new.records ≡ old.records) (page : ℕ) (records : RecordsAreKept page old) (records' : RecordsAreKept page new)
    (x : Actor) (counters : All (WasCounter old.pieces) x.seen.counts) (in_use : All (WasInUse old.pieces) x.seen.counts) where
  -- counts that a record names, of which it saw a word, the record named before
  pub named_was : (at i : ℕ) (r s : Record) (d : Counts) (sighting : Sighting) → HasRecord old.pieces at r → HasRecord new.pieces at s
      → RecordGoes old.version r s → HasCounts new.pieces s.counts d → 4 ≤ i → i < 4 + (length d.units + length d.marks)
      → Contains x.seen.counts sighting → sighting.at ≡ s.counts + i → (r.counts ≢ 0) × (s.counts ≡ r.counts)
  named_was at i r s d sighting before there goes stands from below saw spot =
      dite (ℕ_discrete r.counts 0) (λ none_there. absurd (no_mount none_there)) (λ some_there. (some_there, goes.counts some_there))
    where
      no_mount : r.counts ≡ 0 → ⊥
      no_mount none_there = ⊎_elim
          (λ t.
          let (c, stood, rose) = t in
          let behind = piece_from shape words old shown stood.0 _ stood.1 in
          let mounts : s.counts ≢ 0 = λ e. ⊎_elim (λ twelve. omega (arith, twelve, e)) (λ more. omega (arith, more, e)) behind in
          let (e, mounted, of_it) = records'.mounted at s there mounts in
          ⊎_elim
          (λ u.
          let (b, held_then, grew) = u in
          let (q, was, led) = records.named s.counts b held_then in
          let owner : b.of ≡ at = sym (ap (λ (z : Counts). z.of) grew.is) ∙ of_it.mine in
          let same_body = (one_stands shape words old shown at none none (histogram q) (histogram r) (subst (λ (n : ℕ). HasRecord old.pieces n q) owner was) before).1 in
          let one : q ≡ r = cc same_body in
          mounts (sym led ∙ (ap (λ (z : Record). z.counts) one ∙ none_there)))
          (λ new_one. onward.apart s.counts s.counts 0 0 (counts e) (counts c) new_one stood (omega arith) (omega arith) refl)
          (counts_from old new added onward s.counts e mounted))
          (λ new_one. not_seen new_one)
          (counts_from old new added onward s.counts d stands)
        where
          not_seen : added s.counts (counts d) → ⊥
          not_seen new_one =
              let (place, k, body, stood, found, counter, least) = All-contains (WasCounter old.pieces) x.seen.counts sighting counters saw in
              onward.apart s.counts place i k (counts d) body new_one stood (counter_within (counts d) i (from, below)) (counter_within body k counter) (sym spot ∙ found)

  -- so what it looks back at stays, if no less was counted
  module _ (before after : List Actor) (opener : Actor) (d : Deed)
      (more : (name : List ℕ) (key : ℤ) → tally_units (all_counted before) name key ≤ tally_units (all_counted after) name key)
      (alone : IsAlone after x → IsAlone before x)
      (knows : (known : Known) → Contains x.answers.names known → (r : Record) × HasRecord old.pieces known.reference r × (buckets_of r.spec ≡ buckets_of known.spec))
      (looks : LooksBack old before opener x) where
    -- what it saw, also since it began to look
    seen_since : (sighting : Sighting) → Contains (drop x.since.counts x.seen.counts) sighting → Contains x.seen.counts sighting
    seen_since sighting saw = All-contains (Contains x.seen.counts) (drop x.since.counts x.seen.counts) sighting
        (All-drop (Contains x.seen.counts) x.since.counts x.seen.counts (All-contains_itself x.seen.counts)) saw

    counted_on : (known : Known) (bucket count : ℕ) (s : Record) → Contains x.answers.names known → bucket < buckets_of known.spec
        → HasRecord new.pieces known.reference s → s.counts ≢ 0 → SawCount x (s.counts + 4 + bucket) count
        → NoneInTransit new after x known bucket
        → ((r : Record) × HasRecord old.pieces known.reference r × RecordGoes old.version r s)
        → tally_units (accepted_by x) known.name (bucket_key (Some known) bucket) ≤ count + units_packed (form_at new.version s) bucket
    counted_on known bucket count s has below there mounts saw settled (r, was, goes) =
        let sighting : Sighting = record { at = s.counts + 4 + bucket; word = count } in
        let (q, stood, many) = knows known has in
        let one : (z : Record) → HasRecord old.pieces known.reference z → z ≡ r = λ z here.
        cc (one_stands shape words old shown known.reference none none (histogram z) (histogram r) here was).1 in
        let kind = ap (λ (z : Record). buckets_of z.spec) goes.is in
        let wide = ap (λ (z : Record). buckets_of z.spec) (one q stood) in
        let (d, stands, of_it) = records'.mounted known.reference s there mounts in
        let units = of_it.units in
        let seen = seen_since sighting saw in
        let (named, refers) = named_was known.reference (4 + bucket) r s d sighting was there goes stands (omega arith) (omega (arith, below, many, kind, wide, units)) seen (omega arith) in
        let (c, held_then, its) = records.mounted known.reference r was named in
        let room = its.units in
        let (z, who, off) = All-contains (WasInUse old.pieces) x.seen.counts sighting in_use seen r.counts (4 + bucket) c held_then
        (omega (arith, refers)) (omega arith) (omega (arith, below, many, wide, room)) in
        let was_off : is_off r.single ≡ true =
        ap (λ (z : Record). is_off z.single) (sym (one z (subst (λ (n : ℕ). HasRecord old.pieces n z) its.mine who))) ∙ off in
        let single = off_leads old.version (buckets_of r.spec) r.single s.single was_off goes.single in
        let form : form_at new.version s ≡ form_at old.version r = λ i. single_of (onward.version i) (kind i) (sym single i) in
        subst (λ (f : Option SingleWord). tally_units (accepted_by x) known.name (bucket_key (Some known) bucket) ≤ count + units_packed f bucket) (sym form)
        (looks.counted known bucket count r has below was named (subst (λ (n : ℕ). SawCount x (n + 4 + bucket) count) refers saw) (settled_was settled r one form))
      where
        settled_was : NoneInTransit new after x known bucket → (r : Record) → ((z : Record) → HasRecord old.pieces known.reference z → z ≡ r)
            → form_at new.version s ≡ form_at old.version r → NoneInTransit old before x known bucket
        settled_was (inl two) r one form = inl (sym onward.version ∙ two)
        settled_was (inr (inl only)) r one form = inr (inl (alone only))
        settled_was (inr (inr apart)) r one form = inr (inr (λ z here packs.
            apart s there (ap packed_bucket (form ∙ ap (form_at old.version) (sym (one z here))) ∙ packs)))

    pub looks_on : ((reference : ℕ) (sum : ℤ) (s : Record) → d.place ≡ SumLoaded reference sum → IsAlone after x → HasRecord new.pieces reference s
        → sum ≡ cast_signed w64 s.sum)
        → ((at : ℕ) (s : Record) → added at (histogram s) → ⊥)
        → LooksBack new after opener (changed x (sees_no_more x d))
    looks_on sum bare = record {
      most = λ known bucket total has below saw.
          let was = looks.most known bucket total has below saw in
          let up = more known.name (bucket_key (Some known) bucket) in
          omega (arith, was, up);
      packed = λ known bucket word has below saw on.
          subst (λ (version : ℕ). tally_units (accepted_by x) known.name (bucket_key (Some known) bucket)
          ≤ units_packed (single_of version (buckets_of known.spec) word) bucket) (sym onward.version) (looks.packed known bucket word has below saw on);
      counted = λ known bucket count s has below there mounts saw settled. ⊎_elim
          (counted_on known bucket count s has below there mounts saw settled)
          (λ new_one. absurd (bare known.reference s new_one))
          (record_from old new added onward known.reference s there);
      samples = λ known value at count has first saw.
          looks.samples known value at count has (subst (λ (records : List Listed). IsFirstOf records known.reference value at) same first) saw;
      rising = looks.rising;
      leading = λ s t r at before now alike spot there. ⊎_elim
          (λ z.
          let (q, was, goes) = z in
          subst (λ (p : ℕ × ℕ). Leads p.0 p.1 s.word t.word)
          (λ i. (sym onward.version i, sym (ap (λ (w : Record). buckets_of w.spec) goes.is) i)) (looks.leading s t q at before now alike spot was))
          (λ new_one. absurd (bare at r new_one))
          (record_from old new added onward at r there);
      closed = λ s t r c at i before now spot there mounted place from below. ⊎_elim
          (λ z.
          let (q, was, goes) = z in
          let seen = contains_take x.since.counts x.seen.counts s before in
          let (named, refers) = named_was at i q r c s was there goes mounted from below seen place in
          ⊎_elim
          (λ u.
          let (b, stood, rose) = u in
          let long = rose.long in
          looks.closed s t q b at i before now spot was (subst (λ (n : ℕ). HasCounts old.pieces n b) refers stood) (place ∙ ap (λ (n : ℕ). n + i) refers) from
          (omega (arith, below, long)))
          (λ new_one.
          let (where_it, k, body, stood, found, counter, least) = All-contains (WasCounter old.pieces) x.seen.counts s counters seen in
          absurd (onward.apart r.counts where_it i k (counts c) body new_one stood (counter_within (counts c) i (from, below)) (counter_within body k counter)
          (sym place ∙ found)))
          (counts_from old new added onward r.counts c mounted))
          (λ new_one. absurd (bare at r new_one))
          (record_from old new added onward at r there);
      begun = looks.begun;
      noted = looks.noted;
      sum = sum;
    }
