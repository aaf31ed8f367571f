-- An image that may be adopted opens a kept segment.
use Rattle.segment_invariant.proofs.Prelude.Std.{◌≡◌, ◌≢◌, inr, ℕ, ◌^◌, ◌<◌, List, All, replicate, refl, sym, subst, true≢false, IsPermutation, append-nil, IsPermutation-refl}
use Rattle.segment_invariant.proofs.Prelude.Machine.{head_of, IsListed, Reading, reading_along, Spent}
use Rattle.segment_invariant.proofs.Prelude.Invariant.{Anatomy, claims_of, order_of, Invariant, StandsRight, Fits}
use Rattle.segment_invariant.specs.Keeps.{IsOpening}
use Rattle.list_lemmas.proofs.Elements.{each_of_one}
use Rattle.segment_promises.specs.Adoption.{IsAdoptable, adopted, AdoptionOpens}
use Rattle.segment_promises.proofs.Adopting.Openers.{opener, actors, all_units, opener_roles, cursors_stand, flags_stand}
use Rattle.segment_promises.proofs.Adopting.Opened.Anatomy.{opened, shown, order_is}
use Rattle.segment_promises.proofs.Adopting.Opened.Entries.{keys_kept, taken_keys_kept, fits}
use Rattle.segment_promises.proofs.Adopting.Opened.KeptRecords.{records_kept}
use Rattle.segment_promises.proofs.Adopting.Opened.Ledgers.{balanced, first_noted}
use Rattle.segment_promises.proofs.Adopting.Opened.Lists.{list_kept, blocks_kept}
use Rattle.segment_promises.proofs.Adopting.Opened.Names.{answered}
use Rattle.segment_promises.proofs.Adopting.Opened.NearSums.{sums_near}
use Rattle.segment_promises.proofs.Adopting.Opened.PassedOver.{passed_over}

module _ (words references : List ℕ) (reading : Reading) (narrow : All (λ word. word < 2 ^ 64) words) (listed : IsListed words (head_of words) references)
    (reads : reading ≡ reading_along words (head_of words) references) (adoptable : IsAdoptable words references reading) where
  abbrev its : Anatomy
  its = opened words references reading narrow listed reads adoptable

  pub kept : (cursors : ℕ) → Invariant (head_of words).shape its (adopted words references reading cursors)
  kept cursors = record {
    anatomy = its;
    shown = shown words references reading narrow listed reads adoptable;
    same = (refl, refl, refl, refl);
    versions = inr refl;
    still = λ k p there. (p, there, refl);
    blocks = blocks_kept words references reading narrow listed reads adoptable;
    list = list_kept words references reading narrow listed reads adoptable cursors;
    claims = subst (IsPermutation (claims_of its.pieces)) (sym (append-nil (claims_of its.pieces))) (IsPermutation-refl (claims_of its.pieces));
    records = records_kept words references reading narrow listed reads adoptable;
    passed_over = passed_over words references reading narrow listed reads adoptable;
    balanced = balanced words references reading narrow listed reads adoptable cursors;
    keys = keys_kept words references reading narrow listed reads adoptable cursors;
    taken_keys = taken_keys_kept words references reading narrow listed reads adoptable cursors;
    sums = sums_near words references reading narrow listed reads adoptable cursors;
    pool = all_units words references reading cursors adoptable.units;
    corrupt = (flags_stand words references reading cursors its.corrupt its.full).0;
    full = (flags_stand words references reading cursors its.corrupt its.full).1;
    noticed = λ seen. absurd (true≢false (sym seen));
    roles = opener_roles words references reading cursors;
    first_noted = first_noted words references reading narrow listed reads adoptable cursors;
    answered = answered words references reading narrow listed reads adoptable cursors;
    cursors = cursors_stand words references reading cursors (order_of its);
    standing = each_of_one (opener words references reading cursors) (λ k a. StandsRight (head_of words).shape its k a a.hand.place) tt;
    each = each_of_one (opener words references reading cursors)
        (λ k a. a.hand.place ≢ Spent → Fits (head_of words).shape its (replicate cursors 12) (actors words references reading cursors) (opener words references reading cursors) k a)
        (λ lives. fits words references reading narrow listed reads adoptable cursors);
  }

  -- so the blocks of the image open segments
  pub image_opens : IsOpening (head_of words).shape its
  unfolding kept
  image_opens = (adopted words references reading 0, kept 0, refl)

pub adoption_opens : AdoptionOpens
adoption_opens words references reading cursors narrow listed reads adoptable = (
  opened words references reading narrow listed reads adoptable,
  shown words references reading narrow listed reads adoptable,
  order_is words references reading narrow listed reads adoptable,
  kept words references reading narrow listed reads adoptable cursors,
  image_opens words references reading narrow listed reads adoptable,
  sym (shown words references reading narrow listed reads adoptable).shows,
)
