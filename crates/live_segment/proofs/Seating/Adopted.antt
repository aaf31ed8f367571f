-- The words of an image that may be adopted open a segment that continues from them.
use Rattle.std.proofs.Common.{◌≡◌, Bool, true, false, ◌||◌, ℕ, ◌^◌, ◌<◌, ◌≤◌, List, [], ◌∷◌, ◌++◌, take, drop, replicate, All, Result, Ok, Err, IfOk, refl, sym, ap, subst, ◌∙◌}
use Rattle.std.specs.declared.alloc.AllocError.{AllocError}
use lib.Seq.{take-append_seam}
use Rattle.segment_image.specs.Head.{head_of, header_of}
use Rattle.segment_image.specs.declared.head.SegmentHead.{SegmentHead}
use Rattle.bucket_ranges.specs.Reading.{IsListed, Reading, reading_along}
use Rattle.segment_machine.specs.declared.actor.Actor.{Actor}
use Rattle.segment_machine.specs.State.{State, memory}
use Rattle.segment_invariant.specs.Body.{Anatomy}
use Rattle.segment_invariant.specs.Invariant.{Invariant}
use Rattle.segment_promises.specs.Adoption.{IsAdoptable, adopted, adopter}
use Rattle.segment_promises.specs.Reads.{ReadsHead}
use Rattle.segment_promises.proofs.Adopting.Images.{size_word}
use Rattle.segment_promises.proofs.Adopting.Opened.Anatomy.{opened, shown}
use Rattle.segment_promises.proofs.Adopting.Opened.Opens.{kept, image_opens}
use Rattle.segment_promises.proofs.Readings.Heads.{reads_head, version_is}
use Rattle.live_segment.specs.declared.rule.Opening.{Opening}
use Rattle.live_segment.specs.declared.rule.Setting.{Setting}
use Rattle.live_segment.specs.declared.opener.Opener.{Opener}
use Rattle.live_segment.specs.declared.segment.Segment.{Segment}
use Rattle.live_segment.specs.Adopted.{IsAdopted, setting_of}
use Rattle.live_segment.specs.Holders.{IsOpened}
use Rattle.live_segment.specs.Rule.{IsKeptOpening, IsOpenedAs, opener_for, opener_of_words, opening_state, words_of}

-- a flag that nobody has set since is the opening's
no_more : (now opened : Bool) → now ≡ (opened || false) → opened ≡ now
no_more now true same = sym same
no_more now false same = sym same

-- what a header says is what the words of the image say
pub said_by : (words : List ℕ) (cursors : ℕ) (head : SegmentHead) (setting : Setting) → Ok head ≡ header_of words → header_of words ≡ Ok (head_of words)
    → setting ≡ setting_of head cursors → setting ≡ setting_of (head_of words) cursors
said_by words cursors head setting read lawful said =
    let both : Ok head ≡ Ok (head_of words) = read ∙ lawful in
    let same : head ≡ head_of words = cc in
    said ∙ ap (λ (h : SegmentHead). setting_of h cursors) same

module _ (given : Opening) (words references : List ℕ) (cursors : ℕ) (narrow : All (λ word. word < 2 ^ 64) words)
    (listed : IsListed words (head_of words) references)
    (adoptable : IsAdoptable words references (reading_along words (head_of words) references))
    (said : given.setting ≡ setting_of (head_of words) cursors) (list : given.references.items ≡ references)
    (same : given.words.items ≡ 0 ∷ words ++ replicate cursors 12) where
  abbrev reading : Reading
  reading = reading_along words (head_of words) references

  abbrev its : Anatomy
  its = opened words references reading narrow listed refl adoptable

  abbrev image : State
  image = adopted words references reading cursors

  kept_image : Invariant (head_of words).shape its image
  kept_image = kept words references reading narrow listed refl adoptable cursors

  sized_words : take (head_of words).shape.size (drop 1 given.words.items) ≡ words
  sized_words =
      (λ i. take (head_of words).shape.size (drop 1 (same i)))
      ∙ (ap (λ (n : ℕ). take n (words ++ replicate cursors 12)) (size_word words references reading listed refl adoptable)
      ∙ take-append_seam words (replicate cursors 12))

  image_words : words_of given ≡ words
  image_words = (λ i. take (said i).shape.size (drop 1 given.words.items)) ∙ sized_words

  pub opener_is_adopter : opener_for given ≡ adopter words references reading cursors
  opener_is_adopter =
      (λ i. opener_of_words (said i) (image_words i) (list i))
      ∙ (λ i. record (adopter words references reading cursors) { segment = record { shape = (head_of words).shape; version = adoptable.version i; cursors = cursors } })

  state_is_image : opening_state given ≡ image
  state_is_image i = record { words = image_words i; cursors = replicate (said i).cursors 12; actors = opener_is_adopter i ∷ [] }

  heads : ReadsHead its image reading
  heads = reads_head (head_of words).shape its image kept_image reading (references, listed, refl)

  said_so : IsOpenedAs (record given { setting = setting_of (head_of words) cursors }) its
  said_so = record {
    opens = image_opens words references reading narrow listed refl adoptable;
    words = sym (shown words references reading narrow listed refl adoptable).shows ∙ sym sized_words;
    version = sym (version_is (head_of words).shape its image kept_image ∙ kept_image.same.0);
    id = sym heads.id;
    intact = no_more reading.corrupt its.corrupt heads.corrupt ∙ adoptable.intact;
    full = no_more reading.full its.full heads.full;
  }

  pub opens_image : IsKeptOpening given
  opens_image = record {
    opened = its;
    as_said = subst (λ (setting : Setting). IsOpenedAs (record given { setting = setting }) its) (sym said) said_so;
    kept = subst (λ (p : Setting × State). Invariant p.0.shape its p.1) (λ i. (sym said i, sym state_is_image i)) kept_image;
    words = same ∙ ap (λ (state : State). 0 ∷ memory state) (sym state_is_image);
  }

  -- so a segment that is opened with them continues from the image
  pub goes_on : (r : Result (Segment × Opener) AllocError) → cursors ≤ 8 → IfOk r (λ made. IsOpened given.setting (words_of given) (opener_for given) made.0 made.1)
      → IfOk r (λ made. IsAdopted words cursors made.0 made.1)
  goes_on (Err why) few is = tt
  goes_on (Ok made) few is = record {
    references = references;
    listed = listed;
    adoptable = adoptable;
    few = few;
    opened = subst (λ (p : Setting × List ℕ × Actor). IsOpened p.0 p.1 p.2 made.0 made.1) (λ i. (said i, image_words i, opener_is_adopter i)) is;
  }
