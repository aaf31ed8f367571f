-- What a delta takes of: the first record of its name, whose buckets, keys and forms are those that its recorder knows.
use Rattle.segment_invariant.proofs.Prelude.Std.{◌≡◌, ◌≢◌, ℕ, Option, Some, sym, ap, ◌∙◌, subst, false, some, get_elem?, at_from}
use Rattle.segment_invariant.proofs.Prelude.Machine.{Dimensions, buckets_of, single_of, Actor, Known, Spent, bucket_key, known_at, is_opener, State}
use Rattle.segment_invariant.proofs.Prelude.Invariant.{Record, Anatomy, key_of_bucket, HasRecord, IsFirst, Invariant}
use Rattle.segment_machine.specs.Actor.{known_buckets}
use Rattle.segment_machine.specs.Calls.{form_seen}
use Rattle.segment_machine.specs.Taking.{Takes}
use Rattle.segment_invariant.proofs.Consistency.Totals.{find_known}
use Rattle.segment_invariant.proofs.Counting.Looks.{knows_of, one_record}

module _ (shape : Dimensions) (opened : Anatomy) (state : State) (kept : Invariant shape opened state) (id : ℕ) (a : Actor)
    (mine : get_elem? state.actors id ≡ some a) (recorder : is_opener a.role ≡ false) (lives : a.hand.place ≢ Spent) (h : ℕ) (known : Known) (takes : Takes a h known)
    (r : Record) (has : HasRecord kept.anatomy.pieces h r) where
  -- the record is the first of the name, with the keys that are known, and the forms that its recorder sees
  abbrev pub TakesOf : Type 0
  TakesOf = IsFirst kept.anatomy.records known.name r.spec h × (r.name ≡ known.name) × (buckets_of r.spec ≡ buckets_of known.spec)
      × ((i : ℕ) → bucket_key (Some known) i ≡ key_of_bucket r.spec i) × ((i : ℕ) → bucket_key (known_at a.answers.names h) i ≡ key_of_bucket r.spec i)
      × ((word : ℕ) → form_seen a h word ≡ single_of kept.anatomy.version (buckets_of r.spec) word)

  pub takes_of : TakesOf
  takes_of =
      let fits = kept.each id a mine lives in
      let (q, first, stands, named, many, keys) = knows_of shape opened state kept id a mine recorder lives known takes.1 in
      let same = one_record shape opened state kept h q r (subst (λ (n : ℕ). HasRecord kept.anatomy.pieces n q) takes.2 stands) has in
      let among = at_from a.answers.names known takes.1 in
      let (found, is, there, refers) = find_known a.answers.names h among.0 known among.1 takes.2 in
      let (p, its_first, its_stands, its_named, its_many, its_keys) = knows_of shape opened state kept id a mine recorder lives found there in
      let same_found = one_record shape opened state kept h p r (subst (λ (n : ℕ). HasRecord kept.anatomy.pieces n p) refers its_stands) has in
      let count : known_buckets (known_at a.answers.names h) ≡ buckets_of r.spec =
      ap known_buckets is ∙ (sym its_many ∙ ap (λ (z : Record). buckets_of z.spec) same_found) in (
        subst (λ (p : ℕ × Record). IsFirst kept.anatomy.records known.name p.1.spec p.0) (λ j. (takes.2 j, same j)) first,
        sym (ap (λ (z : Record). z.name) same) ∙ named,
        sym (ap (λ (z : Record). buckets_of z.spec) same) ∙ many,
        λ i. sym (keys i) ∙ ap (λ (z : Record). key_of_bucket z.spec i) same,
        λ i. ap (λ (x : Option Known). bucket_key x i) is ∙ (sym (its_keys i) ∙ ap (λ (z : Record). key_of_bucket z.spec i) same_found),
        λ word. λ j. single_of (fits.versioned j) (count j) word,
      )
