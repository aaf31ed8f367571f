-- What holds of an anatomy, when blocks in the making change and what was published stays.
use Rattle.segment_invariant.proofs.Prelude.Std.{◌≡◌, ℕ, ◌+◌, ℤ, Bool, List, inl, inr, ⊎_elim, refl, sym, subst, ap, ◌∙◌, All, All-weaker, some}
use Rattle.segment_invariant.proofs.Prelude.Machine.{Dimensions, Behind, IsStop, IsLinked, Actor, Known, Seen}
use Rattle.segment_invariant.proofs.Prelude.Invariant.{Body, held, Piece, Listed, Anatomy, order_of, free_of, units_held, marks_held, noted_held, all_held, Stands, IsFirst, IsFirstOf, IsRightlyKnown, Sees, StandsAs, RecordsAreKept, SumsAreNear, Fits, CallsRight, LooksBack, IsAhead}
use Rattle.bucket_ranges.specs.declared.spec.Spec.TheVariants as spec
use Rattle.segment_invariant.specs.Ledger.{sum_held, sum_mark_held, all_amounts, all_moving, IsBalanced}
use Rattle.segment_invariant.specs.Seen.{HasPlain, AreNoLater}
use Rattle.segment_invariant.specs.Invariant.{ListIsKept}
use Rattle.segment_invariant.proofs.Frames.Standing.{Grounds, own_stays}
use Rattle.segment_invariant.proofs.Frames.Growth.{reshaped, Stays, Grows, grows_not, stands_as_grows, names_grow, sees_grow, grounds_grow}
use Rattle.segment_invariant.proofs.Frames.OneActor.{Doing, doing, TurnsTo}
use Rattle.segment_invariant.proofs.Frames.Anew.{calls_anew, looks_anew_at, sees_anew}

-- what blocks hold together is the same
pub record SameHoldings (version : ℕ) (old new : List Piece) : Type 0 where
  pub units : (name : List ℕ) (key : ℤ) → all_held (units_held version name key) new ≡ all_held (units_held version name key) old
  pub marks : (name : List ℕ) (key : ℤ) → all_held (marks_held version name key) new ≡ all_held (marks_held version name key) old
  pub sums : (name : List ℕ) → all_amounts (sum_held name) new ≡ all_amounts (sum_held name) old
  pub sum_marks : (name : List ℕ) → all_amounts (sum_mark_held name) new ≡ all_amounts (sum_mark_held name) old
  pub noted : (name : List ℕ) → all_held (noted_held name) new ≡ all_held (noted_held name) old

-- so the ledger is
pub balanced_same : (version : ℕ) (opened old new : List Piece) (actors : List Actor) → SameHoldings version old new
    → IsBalanced version opened old actors → IsBalanced version opened new actors
balanced_same version opened old new actors same is = record {
  units = λ name key. ap (λ n. n + all_moving name key actors) (same.units name key) ∙ is.units name key;
  marks = λ name key. same.marks name key ∙ is.marks name key;
  sums = λ name. same.sums name ∙ is.sums name;
  sum_marks = λ name. same.sum_marks name ∙ is.sum_marks name;
  noted = λ name. same.noted name ∙ is.noted name;
  taken = is.taken;
}

-- running calls rest on the records of the list alone
pub calls_same : (old new : Anatomy) (a : Actor) → new.records ≡ old.records → CallsRight old a → CallsRight new a
calls_same old new a same calls = calls_anew old new a a.seen calls
    (λ entry of there units first.
    let (at, first_of, walked, saw) = calls.met entry of there units (subst (λ (records : List Listed). IsFirst records entry.name spec.Sparse of) same first) in
    (at, subst (λ (records : List Listed). IsFirstOf records of entry.key at) (sym same) first_of, walked, saw))

module _ (anatomy : Anatomy) (pieces : List Piece) (spare : ℕ) (corrupt full : Bool) (tail : ℕ) (stays : Stays anatomy.pieces pieces) where
  abbrev later : Anatomy
  later = reshaped anatomy pieces spare corrupt full tail

  grows : Grows anatomy later (λ at body. ⊥)
  grows = grows_not anatomy pieces spare corrupt full tail stays

  -- the ledger
  pub balanced_along : (opened : List Piece) (actors : List Actor) → IsBalanced anatomy.version opened anatomy.pieces actors
      → IsBalanced anatomy.version opened pieces actors
  balanced_along opened actors = balanced_same anatomy.version opened anatomy.pieces pieces actors (record {
    units = λ name key. stays.held (units_held anatomy.version name key) (λ words. refl, λ block. refl, λ next. refl);
    marks = λ name key. stays.held (marks_held anatomy.version name key) (λ words. refl, λ block. refl, λ next. refl);
    sums = λ name. stays.amounts (sum_held name) (λ words. refl, λ block. refl, λ next. refl);
    sum_marks = λ name. stays.amounts (sum_mark_held name) (λ words. refl, λ block. refl, λ next. refl);
    noted = λ name. stays.held (noted_held name) (λ words. refl, λ block. refl, λ next. refl);
  })

  -- the list
  pub list_along : (words words' : List ℕ) (opened : Anatomy) (actors : List Actor) → IsLinked words' (order_of anatomy) → IsStop (order_of anatomy) tail
      → ListIsKept words opened anatomy actors → ListIsKept words' opened later actors
  list_along words words' opened actors linked stop list = record {
    linked = linked;
    once = list.once;
    standing = All-weaker (λ l. StandsAs anatomy.pieces l l.made) (λ l. StandsAs pieces l l.made) (λ l. stands_as_grows anatomy later (λ at body. ⊥) grows l l.made)
        anatomy.records list.standing;
    alone = λ at body has. list.alone at body (stays.back at body has);
    tail = stop;
  }

  -- the records
  pub records_along : (page : ℕ) → RecordsAreKept page anatomy → RecordsAreKept page later
  records_along page records = record {
    lawful = λ at r has. records.lawful at r (stays.back at _ has);
    mounted = λ at r has mounts.
        let (c, counts, is) = records.mounted at r (stays.back at _ has) mounts in (c, stays.there _ _ counts, is);
    named = λ at c has. let (r, record_of, is) = records.named at c (stays.back at _ has) in (r, stays.there _ _ record_of, is);
    packed = λ at r has. records.packed at r (stays.back at _ has);
    valued = λ at s has. records.valued at s (stays.back at _ has);
    sampled = λ front behind at of value is.
        let (name, first, named) = records.sampled front behind at of value is in
        (name, first, λ s has. named s (stays.back at _ has));
    later = λ at other r first has. records.later at other r first (stays.back at _ has);
    later_samples = λ at other s has. records.later_samples at other s (stays.back at _ has);
  }

  -- sums
  pub sums_along : (actors : List Actor) → SumsAreNear anatomy.pieces actors → SumsAreNear pieces actors
  sums_along actors near at r x y has = near at r x y (stays.back at _ has)

  -- what an actor has seen
  pub sees_along : (cursors : List ℕ) (seen : Seen) → Behind seen.free (free_of later) → AreNoLater (order_of anatomy) seen.tails tail
      → Sees anatomy cursors seen → Sees later cursors seen
  sees_along = sees_grow anatomy later (λ at body. ⊥) grows

  -- and knows
  pub names_along : (names : List Known) → All (IsRightlyKnown anatomy) names → All (IsRightlyKnown later) names
  names_along = names_grow anatomy later (λ at body. ⊥) grows

  -- running calls
  pub calls_along : (a : Actor) → CallsRight anatomy a → CallsRight later a
  calls_along a calls = calls

  -- what was seen since a delta or a snapshot began
  pub looks_along : (actors : List Actor) (opener a : Actor) → LooksBack anatomy actors opener a → LooksBack later actors opener a
  looks_along actors opener a looks = record {
    most = looks.most;
    packed = looks.packed;
    counted = λ known bucket count r there below has mounts saw settled.
        looks.counted known bucket count r there below (stays.back _ _ has) mounts saw
        (⊎_elim (λ second. inl second) (λ rest. inr (⊎_elim (λ alone. inl alone) (λ apart. inr (λ r has. apart r (stays.there _ _ has))) rest)) settled);
    samples = looks.samples;
    rising = looks.rising;
    leading = λ s t r at before now same there has. looks.leading s t r at before now same there (stays.back _ _ has);
    closed = λ s t r c at i before now there has mounts. looks.closed s t r c at i before now there (stays.back _ _ has) (stays.back _ _ mounts);
    begun = looks.begun;
    noted = looks.noted;
    sum = λ reference sum r loaded alone has. looks.sum reference sum r loaded alone (stays.back _ _ has);
  }

  -- all that holds of an actor that stores nothing now
  pub fits_along : (shape : Dimensions) (cursors : List ℕ) (actors : List Actor) (opener : Actor) (id : ℕ) (a : Actor)
      → ((at : ℕ) (body : Body) → Stands anatomy.pieces at (some id) body → Stands pieces at (some id) body)
      → Behind a.seen.free (free_of later) → AreNoLater (order_of anatomy) a.seen.tails tail
      → IsAhead (order_of anatomy) tail cursors a.hand.place a.done.beaten a.done.lost
      → Fits shape anatomy cursors actors opener id a → Fits shape later cursors actors opener id a
  fits_along shape cursors actors opener id a others free no_later ahead fits = record {
    shaped = fits.shaped;
    versioned = fits.versioned;
    numbered = fits.numbered;
    ahead = ahead;
    sees = sees_along cursors a.seen free no_later fits.sees;
    names = names_along a.answers.names fits.names;
    own = own_stays shape anatomy later id (λ own. others own.at (held own)) a.hand.own fits.own;
    apart = fits.apart;
    owes = fits.owes;
    calls = calls_along a fits.calls;
    looks = λ recorder. looks_along actors opener a (fits.looks recorder);
    finals = fits.finals;
    snapshots = fits.snapshots;
  }

  -- what an actor rests on stays, if its words in the making do
  pub grounds_along : (id : ℕ) → ((at : ℕ) (words : List ℕ) → HasPlain anatomy.pieces id at words → HasPlain pieces id at words) → Grounds anatomy later id
  grounds_along = grounds_grow anatomy later (λ at body. ⊥) grows

-- ---- the actor that moves on

-- what it saw and looks back at, if it sees nothing but the free pointer
abbrev pub sees_no_more : Actor → Doing → Doing
sees_no_more a d = record d { seen_chain = a.seen.chain; seen_tails = a.seen.tails; seen_words = a.seen.words }

module _ (anatomy : Anatomy) (a : Actor) (d : Doing) where
  pub sees_doing : (cursors : List ℕ) → Behind d.seen_free (free_of anatomy) → Sees anatomy cursors a.seen → Sees anatomy cursors (doing a (sees_no_more a d)).seen
  sees_doing cursors free sees = sees_anew anatomy cursors cursors a.seen d.seen_free d.seen_ends a.seen.cursors sees free sees.shared

  pub looks_doing : (actors : List Actor) (opener : Actor) → TurnsTo a d.place → LooksBack anatomy actors opener a
      → LooksBack anatomy actors opener (doing a (sees_no_more a d))
  looks_doing actors opener turns looks =
      looks_anew_at anatomy actors opener a d.place looks (λ reference sum r loaded. looks.sum reference sum r (turns.sums reference sum loaded))
