-- What a call that counts has claimed: nothing before it needs a block and nothing after, and one block then.
use Rattle.std.proofs.Common.{◌≡◌, ◌==◌, ◌⊎◌, ℕ, ◌+◌, ℤ, List, [], ◌∷◌, ◌++◌, true, true≢false, inl, inr, refl, sym, ap, ◌∙◌, subst}
use Rattle.std.specs.List.{Contains}
use Rattle.list_core.specs.Walk.{stands_behind}
use Rattle.segment_machine.specs.declared.actor.Actor.{Actor}
use Rattle.segment_machine.specs.declared.actor.Done.{Done}
use Rattle.segment_machine.specs.declared.actor.Known.{Known}
use Rattle.segment_machine.specs.declared.actor.Own.{Own}
use Rattle.segment_machine.specs.declared.actor.Segment.{Segment}
use Rattle.segment_machine.specs.declared.entry.Entry.{Entry}
use Rattle.segment_machine.specs.declared.seen.Sighting.{Sighting}
use Rattle.segment_machine.specs.Actor.{has_buckets, word_seen}
use Rattle.segment_machine.specs.Calls.{sight, sight_counts}
use Rattle.segment_machine.specs.Counting.{add_count, load_counts}
use Rattle.segment_machine.specs.Event.{counting_event}
use Rattle.segment_promises.specs.Follows.{noted_by}
use Rattle.segment_promises.specs.Onward.{Grows}
use Rattle.segment_promises.proofs.Growing.{ended_grows, grows_by, grows_not, grows_on, grows_same, others_still}
use Rattle.live_segment.specs.Alloc.Claims.{ClaimsFor, IsPurged, KeepsBlocks, MakesOne, MakesSample, MountsOne}
use Rattle.live_segment.specs.Add.Sample.{block_words}
use Rattle.live_segment.specs.Add.Finish.{HasEnded}
use Rattle.live_segment.specs.Steps.GhostNotes.{Noted, entry_notes}
use Rattle.live_segment.specs.Add.Counts.{MountsAtMostOne}
use Rattle.live_segment.specs.Alloc.Rises.{RaisesFor}
use Rattle.live_segment.specs.Steps.{Pass, Stepped}
use Rattle.live_segment.specs.Add.Progress.{CountsAlone}
use Rattle.live_segment.proofs.lemmas.Add.Beginning.{only_begun}
use Rattle.live_segment.proofs.lemmas.List.Ends.{found_on}

-- ---- nothing

pub keeps_none : (a : Actor) → KeepsBlocks a a
keeps_none a = record { segment = refl; done = refl; own = refl; chain = refl; words = refl; ends = grows_not a.seen.ends }

pub keeps_on : (a b c : Actor) → KeepsBlocks a b → KeepsBlocks b c → KeepsBlocks a c
keeps_on a b c one two =
    record {
      segment = two.segment ∙ one.segment;
      done = two.done ∙ one.done;
      own = two.own ∙ one.own;
      chain = two.chain ∙ one.chain;
      words = two.words ∙ one.words;
      ends = grows_on a.seen.ends b.seen.ends c.seen.ends one.ends two.ends;
    }

-- an entry begins
pub keeps_begun : (a : Actor) (known : Known) (entry : Entry) → CountsAlone a known entry → KeepsBlocks a (noted_by a (entry_notes a entry))
keeps_begun a known entry may =
    subst (KeepsBlocks a) (sym (only_begun a known entry may)) (record { segment = refl; done = refl; own = refl; chain = refl; words = refl; ends = grows_not a.seen.ends })

-- units are added to a count
pub keeps_counted : (known : Known) (entry : Entry) (at found : ℕ) (seat after : Pass) → CountsAlone seat.me.0 known entry
    → Noted seat (entry_notes seat.me.0 entry) (counting_event (add_count at entry.units)) [] found after → KeepsBlocks seat.me.0 after.me.0
keeps_counted known entry at found seat after may told =
    let x = noted_by seat.me.0 (entry_notes seat.me.0 entry) in
    keeps_on seat.me.0 x after.me.0 (keeps_begun seat.me.0 known entry may)
    (subst (KeepsBlocks x) (sym told.view) (record { segment = refl; done = refl; own = refl; chain = refl; words = refl; ends = grows_not x.seen.ends }))

-- its call ends
pub keeps_ended : (entries : List Entry) (a b : Actor) → HasEnded entries a b → KeepsBlocks a b
keeps_ended entries a b ended = subst (KeepsBlocks a) (sym ended.same) (record { segment = refl; done = refl; own = refl; chain = refl; words = refl; ends = grows_not a.seen.ends })

-- ---- one for counts

-- it was purged then, and still is
purged_on : (a b : Actor) (at : ℕ) → KeepsBlocks a b → IsPurged at a → IsPurged at b
purged_on a b at keeps (own, has, stands, tag) = (own, subst (λ (l : List Own). Contains l own) (sym keeps.own) has, stands, tag)

-- it did nothing before and after
pub mounts_between : (known : Known) (a b c d : Actor) → KeepsBlocks a b → MountsAtMostOne known b c → KeepsBlocks c d → MountsAtMostOne known a d
mounts_between known a b c d before (claims, grows, more, same) behind = (
  by claims,
  subst (λ (l : List Sighting). Grows l d.seen.words) before.words (subst (Grows b.seen.words) (sym behind.words) grows),
  grows_on a.seen.ends c.seen.ends d.seen.ends (grows_on a.seen.ends b.seen.ends c.seen.ends before.ends more) behind.ends,
  behind.segment ∙ (same ∙ before.segment),
)
  where
    by : (c.done ≡ b.done) ⊎ MountsOne known b c → (d.done ≡ a.done) ⊎ MountsOne known a d
    by (inl same) = inl (behind.done ∙ (same ∙ before.done))
    by (inr one) = inr (record {
      claim = one.claim;
      block = one.block;
      raises = subst (λ (d : Done). RaisesFor a.segment.shape (block_words known) one.claim a.done.raised d.raised) (sym behind.done)
          (subst (λ (d : Done). RaisesFor a.segment.shape (block_words known) one.claim d.raised c.done.raised) before.done
          (subst (λ (s : Segment). RaisesFor s.shape (block_words known) one.claim b.done.raised c.done.raised) before.segment one.raises));
      done = behind.done
          ∙ (one.done
          ∙ (λ i. record (before.done i) { claimed = (before.done i).claimed ++ one.claim ∷ []; raised = sym (ap (λ (x : Done). x.raised) behind.done) i }));
      none = ap (λ (l : List Sighting). word_seen l (known.reference + 8)) (sym before.words) ∙ one.none;
      loaded = found_on a.seen b.seen c.seen d.seen before.ends more behind.ends (known.reference + 8) one.loaded;
      counts = one.counts;
      saw = behind.words ∙ (one.saw ∙ ap (λ (l : List Sighting). l ++ sight (known.reference + 8) one.counts) before.words);
      kept = still one.kept;
    })
      where
        still : (one.counts ≡ one.claim.at) ⊎ IsPurged one.claim.at c → (one.counts ≡ one.claim.at) ⊎ IsPurged one.claim.at d
        still (inl mine) = inl mine
        still (inr lost) = inr (purged_on c d one.claim.at behind lost)

-- it packed the units, and has claimed nothing
pub packs_none : (known : Known) (a b : Actor) → KeepsBlocks a b → MountsAtMostOne known a b
packs_none known a b keeps = (inl keeps.done, grows_same a.seen.words b.seen.words keeps.words, keeps.ends, keeps.segment)

-- it loaded a counts reference, and has claimed nothing
pub loads_none : (known : Known) (old mid seat : Pass) (found : ℕ) (after : Actor) → KeepsBlocks old.me.0 mid.me.0
    → Stepped mid (counting_event (load_counts known.reference)) found seat → KeepsBlocks seat.me.0 after → MountsAtMostOne known old.me.0 after
loads_none known old mid seat found after before step behind = mounts_between known old.me.0 mid.me.0 seat.me.0 after before (
  inl (ap (λ (b : Actor). b.done) step.view),
  subst (λ (b : Actor). Grows mid.me.0.seen.words b.seen.words) (sym step.view) (grows_by mid.me.0.seen.words (sight_counts known.reference found)),
  subst (λ (b : Actor). Grows mid.me.0.seen.ends b.seen.ends) (sym step.view) (ended_grows mid.me.0.seen.ends (known.reference + 8) (found == 0)),
  ap (λ (b : Actor). b.segment) step.view,
) behind

-- ---- for units of a value

-- a sample was made, and nothing is claimed after that
pub makes_kept : (histogram : ℕ) (value : ℤ) (a b c : Actor) → Grows a.seen.ends b.seen.ends → (b.done ≡ a.done) ⊎ MakesSample histogram value a b → KeepsBlocks b c
    → (c.done ≡ a.done) ⊎ MakesSample histogram value a c
makes_kept histogram value a b c grows (inl same) behind = inl (behind.done ∙ same)
makes_kept histogram value a b c grows (inr one) behind = inr (record {
  makes = subst (MakesOne a.segment.shape _ 8 a.done) (sym behind.done) one.makes;
  front = one.front;
  behind = one.behind;
  more = (one.more.0, subst (Grows (one.front ++ histogram ∷ one.behind)) (sym behind.chain) one.more.1);
  all = found_on a.seen a.seen b.seen c.seen (grows_not a.seen.ends) grows behind.ends (stands_behind (one.front ++ histogram ∷ one.behind) + 3) one.all;
  others = others_still b.seen c.seen (grows_same b.seen.words c.seen.words behind.words) histogram value one.behind one.others;
})

-- counts were mounted for them, or no block was claimed
pub claims_mounted : (known : Known) (value : ℤ) (a b : Actor) → has_buckets known.spec ≡ true → MountsAtMostOne known a b → ClaimsFor known value a b
claims_mounted known value a b bucketed (claims, grows, more, same) = record {
  segment = same;
  buckets = λ _. claims;
  values = λ sparse. absurd (true≢false (sym bucketed ∙ ap has_buckets sparse));
  words = grows;
  ends = more;
}

pub claims_kept : (known : Known) (value : ℤ) (a b c : Actor) → ClaimsFor known value a b → KeepsBlocks b c → ClaimsFor known value a c
claims_kept known value a b c claims behind = record {
  segment = behind.segment ∙ claims.segment;
  buckets = λ bucketed. (mounts_between known a a b c (keeps_none a) (claims.buckets bucketed, claims.words, claims.ends, claims.segment) behind).0;
  values = λ sparse. makes_kept known.reference value a b c claims.ends (claims.values sparse) behind;
  words = subst (Grows a.seen.words) (sym behind.words) claims.words;
  ends = grows_on a.seen.ends b.seen.ends c.seen.ends claims.ends behind.ends;
}
