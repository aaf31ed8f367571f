-- What is published continues from one state to the next, and so from one to any that is reached from it.
use Rattle.segment_invariant.proofs.Prelude.Std.{◌≡◌, ◌≢◌, ℕ, ◌+◌, ◌≤◌, Bool, true, List, [], ◌++◌, length, inl, inr, ⊎_elim, refl, sym, ap, ◌∙◌, subst, arith, append-nil, append_assoc, length-append, None, none}
use Rattle.segment_invariant.proofs.Prelude.Machine.{Spec, Dimensions, State, buckets_of, Leads, Behind}
use Rattle.segment_invariant.proofs.Prelude.Invariant.{Record, Counts, Sample, Body, queue, plain, held, histogram, counts, sample, other, words_of, is_claimed, Piece, Listed, Anatomy, order_of, free_of, form_at, Stands, IsNoLater, Invariant, KeptOn}
use Rattle.segment_invariant.specs.Rises.{RecordGoes, CountsGo, SampleGoes, GoesAs, Rises}
use Rattle.segment_invariant.proofs.Frames.Growth.{reshaped, Stays}
use Rattle.segment_invariant.proofs.Frames.Leads.{leads_on}
use Rattle.segment_invariant.proofs.Frames.Onward.{goes_itself, Onward}
use Rattle.segment_invariant.proofs.Frames.SumsRise.{sums_rest, sums_again}

-- ---- from one state to the next

-- if published blocks continue as `Onward` says
pub rises_onward : (old new : Anatomy) (added : ℕ → Body → Type 0) → Onward old new added → new.id ≡ old.id → (more : List Listed)
    → new.records ≡ old.records ++ more → free_of old ≤ free_of new → ((seen : ℕ) → IsNoLater (order_of old) seen old.tail → IsNoLater (order_of new) seen new.tail)
    → (old.corrupt ≡ true → new.corrupt ≡ true) → (old.full ≡ true → new.full ≡ true) → Rises old new
rises_onward old new added onward id more records free tail corrupt full = record {
  version = onward.version;
  id = id;
  goes = onward.goes;
  came = λ at body claimed there. ⊎_elim
      (λ before. inl before)
      (λ new_one. inr (λ other i j before is stands. onward.apart at other i j body before new_one stands))
      (onward.came at body claimed there);
  records = (more, records);
  free = free;
  tail = tail;
  corrupt = corrupt;
  full = full;
}

-- what was seen of the free pointer, it is no less than
behind_at_most : (seen free : ℕ) → Behind seen free → seen ≤ free
behind_at_most seen free (inl same) = omega (arith, same)
behind_at_most seen free (inr less) = omega (arith, less)

-- if they stay, and the list too
pub rises_reshaped : (anatomy : Anatomy) (pieces : List Piece) (spare : ℕ) (corrupt full : Bool) (tail : ℕ) → Stays anatomy.pieces pieces
    → Behind (free_of anatomy) (free_of (reshaped anatomy pieces spare corrupt full tail))
    → ((seen : ℕ) → IsNoLater (order_of anatomy) seen anatomy.tail → IsNoLater (order_of anatomy) seen tail)
    → (anatomy.corrupt ≡ true → corrupt ≡ true) → (anatomy.full ≡ true → full ≡ true) → Rises anatomy (reshaped anatomy pieces spare corrupt full tail)
rises_reshaped anatomy pieces spare corrupt full tail stays free later corrupts fills = record {
  version = refl;
  id = refl;
  goes = λ at body claimed there. (body, stays.there at body there, goes_itself anatomy.version body);
  came = λ at body claimed there. inl (body, stays.back at body there, goes_itself anatomy.version body);
  records = ([], sym (append-nil anatomy.records));
  free = behind_at_most (free_of anatomy) (free_of (reshaped anatomy pieces spare corrupt full tail)) free;
  tail = later;
  corrupt = corrupts;
  full = fills;
}

-- if nothing changes
pub rises_itself : (anatomy : Anatomy) → Rises anatomy anatomy
rises_itself anatomy = record {
  version = refl;
  id = refl;
  goes = λ at body claimed there. (body, there, goes_itself anatomy.version body);
  came = λ at body claimed there. inl (body, there, goes_itself anatomy.version body);
  records = ([], sym (append-nil anatomy.records));
  free = omega arith;
  tail = λ seen no_later. no_later;
  corrupt = λ set. set;
  full = λ set. set;
}

-- ---- one after the other

-- a record that has continued continues again, if its single word has a form
record_again : (version : ℕ) (r s t : Record) → form_at version r ≢ None → RecordGoes version r s → RecordGoes version s t → RecordGoes version r t
record_again version r s t formed first then =
    let kind : s.spec ≡ r.spec = ap (λ (z : Record). z.spec) first.is in
    let marks = first.mark in
    let more_marks = then.mark in
    let notes = first.noted in
    let more_notes = then.noted in record {
      is = then.is ∙ ap (λ (z : Record). record z {
        next = t.next;
        counts = t.counts;
        single = t.single;
        mark = t.mark;
        sum = t.sum;
        sum_mark = t.sum_mark;
        noted = t.noted;
      }) first.is;
      counts = λ there. then.counts (λ none_there. there (sym (first.counts there) ∙ none_there)) ∙ first.counts there;
      single = leads_on version (buckets_of r.spec) r.single s.single t.single formed first.single
          (subst (λ (spec : Spec). Leads version (buckets_of spec) s.single t.single) kind then.single);
      mark = omega (arith, marks, more_marks);
      noted = omega (arith, notes, more_notes);
    }

counts_again : (c d e : Counts) → CountsGo c d → CountsGo d e → CountsGo c e
counts_again c d e first then = record {
  is = then.is ∙ ap (λ (z : Counts). record z { units = e.units; marks = e.marks }) first.is;
  long = (then.long.0 ∙ first.long.0, then.long.1 ∙ first.long.1);
  rise = λ i. let risen = first.rise i in let again = then.rise i in omega (arith, risen, again);
}

sample_again : (s t u : Sample) → SampleGoes s t → SampleGoes t u → SampleGoes s u
sample_again s t u first then =
    let units = first.units in
    let more_units = then.units in
    let marks = first.mark in
    let more_marks = then.mark in record {
      is = then.is ∙ ap (λ (z : Sample). record z { next = u.next; units = u.units; mark = u.mark }) first.is;
      units = omega (arith, units, more_units);
      mark = omega (arith, marks, more_marks);
    }

-- so does a block
goes_again : (version : ℕ) (x y z : Body) → ((r : Record) → x ≡ histogram r → form_at version r ≢ None) → GoesAs version x y → GoesAs version y z → GoesAs version x z
goes_again version (histogram r) y z formed (s, is, first) then =
    let (t, same, second) = subst (λ (body : Body). GoesAs version body z) is then in
    (t, same, record_again version r s t (formed r refl) first second)
goes_again version (counts c) y z formed (d, is, first) then =
    let (e, same, second) = subst (λ (body : Body). GoesAs version body z) is then in
    (e, same, counts_again c d e first second)
goes_again version (sample s) y z formed (t, is, first) then =
    let (u, same, second) = subst (λ (body : Body). GoesAs version body z) is then in
    (u, same, sample_again s t u first second)
goes_again version (other size tag next payload) y z formed (n, is) then = subst (λ (body : Body). GoesAs version body z) is then
goes_again version (queue next) y z formed is then = subst (λ (body : Body). GoesAs version body z) is then
goes_again version (plain words) y z formed is then = subst (λ (body : Body). GoesAs version body z) is then
goes_again version (held block) y z formed is then = subst (λ (body : Body). GoesAs version body z) is then

-- a block has as many words as the one that it continues as
goes_long : (version : ℕ) (x y : Body) → GoesAs version x y → length (words_of y) ≡ length (words_of x)
goes_long version (histogram r) y (s, is, goes) =
    ap (λ (body : Body). length (words_of body)) is ∙ ap (λ (z : Record). length (words_of (histogram z))) goes.is
goes_long version (counts c) y (d, is, goes) =
    let of_counts : (c : Counts) → length (words_of (counts c)) ≡ 4 + (length c.units + (length c.marks + length c.rest)) = λ c.
    let all = length-append (c.units ++ c.marks) c.rest in
    let front = length-append c.units c.marks in
    omega (arith, all, front) in
    let now = of_counts d in
    let was = of_counts c in
    let units = goes.long.0 in
    let marks = goes.long.1 in
    let rest = ap (λ (z : Counts). length z.rest) goes.is in
    ap (λ (body : Body). length (words_of body)) is ∙ omega (arith, now, was, units, marks, rest)
goes_long version (sample s) y (t, is, goes) =
    ap (λ (body : Body). length (words_of body)) is ∙ ap (λ (z : Sample). length (words_of (sample z))) goes.is
goes_long version (other size tag next payload) y (n, is) = ap (λ (body : Body). length (words_of body)) is
goes_long version (queue next) y is = ap (λ (body : Body). length (words_of body)) is
goes_long version (plain words) y is = ap (λ (body : Body). length (words_of body)) is
goes_long version (held block) y is = ap (λ (body : Body). length (words_of body)) is

-- and is claimed as it was
goes_claimed : (version : ℕ) (x y : Body) → GoesAs version x y → is_claimed y ≡ is_claimed x
goes_claimed version (histogram r) y (s, is, goes) = ap is_claimed is
goes_claimed version (counts c) y (d, is, goes) = ap is_claimed is
goes_claimed version (sample s) y (t, is, goes) = ap is_claimed is
goes_claimed version (other size tag next payload) y (n, is) = ap is_claimed is
goes_claimed version (queue next) y is = ap is_claimed is
goes_claimed version (plain words) y is = ap is_claimed is
goes_claimed version (held block) y is = ap is_claimed is

module _ (shape : Dimensions) (opened : Anatomy) (state : State) (kept : Invariant shape opened state) where
  -- a single word of a kept state has a form
  formed_at : (at : ℕ) (body : Body) → Stands kept.anatomy.pieces at none body → (r : Record) → body ≡ histogram r → form_at kept.anatomy.version r ≢ None
  formed_at at body there r is = (kept.records.lawful at r (subst (Stands kept.anatomy.pieces at none) is there)).formed

  module _ (mid new : Anatomy) (first : Rises kept.anatomy mid) (then : Rises mid new) where
    abbrev old : Anatomy
    old = kept.anatomy

    goes_then : (at : ℕ) (before between body : Body) → Stands old.pieces at none before → GoesAs old.version before between → GoesAs mid.version between body
        → GoesAs old.version before body
    goes_then at before between body there one two = goes_again old.version before between body (formed_at at before there) one
        (subst (λ (version : ℕ). GoesAs version between body) first.version two)

    -- what continues from a kept state continues again
    pub rises_again : Rises old new
    rises_again = record {
      version = then.version ∙ first.version;
      id = then.id ∙ first.id;
      goes = λ at body claimed there.
          let (between, stands, goes) = first.goes at body claimed there in
          let (now, still, on) = then.goes at between (goes_claimed old.version body between goes ∙ claimed) stands in
          (now, still, goes_then at body between now there goes on);
      came = λ at body claimed there. ⊎_elim
          (λ t.
          let (between, stands, goes) = t in
          ⊎_elim
          (λ u. let (before, stood, was) = u in inl (before, stood, goes_then at before between body stood was goes))
          (λ apart.
          let long = goes_long mid.version between body goes in
          inr (λ other i j before is stood within.
          apart other i j before is stood (omega (arith, within, long))))
          (first.came at between (sym (goes_claimed mid.version between body goes) ∙ claimed) stands))
          (λ apart. inr (λ other i j before is stood within inside.
          let (between, stands, goes) = first.goes other before is stood in
          let long = goes_long old.version before between goes in
          apart other i j between (goes_claimed old.version before between goes ∙ is) stands within (omega (arith, inside, long))))
          (then.came at body claimed there);
      records = (
        first.records.0 ++ then.records.0,
        then.records.1 ∙ (ap (λ (rs : List Listed). rs ++ then.records.0) first.records.1 ∙ append_assoc old.records first.records.0 then.records.0),
      );
      free = (let one = first.free in let two = then.free in omega (arith, one, two));
      tail = λ seen no_later. then.tail seen (first.tail seen no_later);
      corrupt = λ set. then.corrupt (first.corrupt set);
      full = λ set. then.full (first.full set);
    }

  -- and if a state is kept after a first one, and another after that, the other is kept after the first
  pub kept_again : {between after : State} (first : KeptOn shape opened kept between) → KeptOn shape opened first.0 after
      → KeptOn shape opened kept after
  kept_again {between} {after} first then = (
    then.0,
    rises_again first.0.anatomy then.0.anatomy first.1 then.1,
    sums_again kept.anatomy first.0.anatomy then.0.anatomy state.actors between.actors after.actors first.1 first.2 then.2,
  )

  -- a kept state is kept on as it is
  pub kept_itself : KeptOn shape opened kept state
  kept_itself = (kept, rises_itself kept.anatomy, sums_rest shape state.words kept.anatomy kept.shown state.actors state.actors (λ name. omega arith))
