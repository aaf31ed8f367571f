-- Histograms with what is noted of them as their marks, one after the other.
use Rattle.std.proofs.Common.{◌≡◌, ◌∙◌, ℕ, ◌+◌, ◌<◌, ◌≤◌, ℤ, pos, ◌+ℤ◌, Bool, true, false, if◌then◌else◌, List, [], ◌∷◌, ◌++◌, map, length, take, drop, get_or, zero, suc, replicate, refl, sym, ap, subst, arith}
use Rattle.std.specs.Prelude.{fold}
use Rattle.std.specs.List.{All, zip}
use Rattle.std.specs.Str.{bytes_eq}
use Rattle.std.proofs.Math.IntN.{+ℤ_assoc, +ℤ_idl, +ℤ_idr}
use Rattle.std.proofs.lemmas.List.{at_drop_more, drop_all, drop_more, get_or-map, length-map, take_all, take_more}
use Rattle.std.proofs.lemmas.List.Elements.{All-append, All-cons, All-nil, All-weaker, Contains-append_left, Contains-append_right}
use Rattle.std.proofs.lemmas.List.Sums.{sum_by-cons, sum_by_push}
use Rattle.bucket_ranges.specs.Reading.{Histogram}
use Rattle.bucket_ranges.specs.Spec.{SameSpec}
use Rattle.image_reader.specs.Views.{histogram_view}
use Rattle.image_reader.specs.declared.reading.HistReading.{HistReading}
use Rattle.segment_machine.specs.Actor.{units_listed}
use Rattle.segment_promises.specs.Reads.{mark_read, units_read}
use Rattle.list_lemmas.proofs.Sums.{amounts_total}
use Rattle.segment_merge.specs.Noted.{AreMarkedBy, HasNoNote, HasRisen, IsMarkedAt, IsMarkedBy, IsNoteOf, marks_among, sum_among, sum_mark_among, units_among, unmarked}
use Rattle.segment_merge.specs.Marks.{AreMarksOf, ReachesItsMark}

-- the first notes are the marks of these histograms
pub record AreMarkedSoFar (noted all : List Histogram) (next : ℕ) : Type 0 where
  pub within : next ≤ length noted
  pub each : All (IsNoteOf all) (take next noted)
  pub risen : All HasRisen all
  pub units : (name : List ℕ) (key : ℤ) → marks_among all name key + units_among (drop next noted) name key ≡ units_among noted name key
  pub sums : (name : List ℕ) → (sum_mark_among all name +ℤ sum_among (drop next noted) name) ≡ sum_among noted name

pub marked_none : (noted : List Histogram) → AreMarkedSoFar noted [] 0
marked_none noted = record {
  within = omega arith;
  each = All-nil (IsNoteOf []);
  risen = All-nil HasRisen;
  units = λ name key. omega arith;
  sums = λ name. +ℤ_idl (sum_among noted name);
}

-- an amount, if a test passes
either_zero : (b : Bool) (n : ℕ) → n ≡ 0 → (if b then n else 0) ≡ 0
either_zero true n none = none
either_zero false n none = refl

either_nothing : (b : Bool) (z : ℤ) → z ≡ pos 0 → (if b then z else pos 0) ≡ pos 0
either_nothing true z none = none
either_nothing false z none = refl

module _ (noted all : List Histogram) (next : ℕ) (h : Histogram) (so_far : AreMarkedSoFar noted all next) (risen : HasRisen h) where
  note_still : (note : Histogram) → IsNoteOf all note → IsNoteOf (all ++ h ∷ []) note
  note_still note (other, among, is) = (other, Contains-append_left all (h ∷ []) other among, is)

  notes_still : All (IsNoteOf (all ++ h ∷ [])) (take next noted)
  notes_still = All-weaker (IsNoteOf all) (IsNoteOf (all ++ h ∷ [])) note_still (take next noted) so_far.each

  all_risen : All HasRisen (all ++ h ∷ [])
  all_risen = All-append HasRisen all (h ∷ []) so_far.risen (All-cons HasRisen h [] risen (All-nil HasRisen))

  marks_pushed : (name : List ℕ) (key : ℤ) → marks_among (all ++ h ∷ []) name key ≡ marks_among all name key + (if bytes_eq h.name name then mark_read h key else 0)
  marks_pushed name key = sum_by_push (λ (one : Histogram). if bytes_eq one.name name then mark_read one key else 0) all h

  sums_pushed : (name : List ℕ) → sum_mark_among (all ++ h ∷ []) name ≡ (sum_mark_among all name +ℤ sum_mark_among (h ∷ []) name)
  sums_pushed name = amounts_total (λ (one : Histogram). if bytes_eq one.name name then one.sum_mark else pos 0) all (h ∷ [])

  -- of which nothing is noted
  fresh_more : HasNoNote h → AreMarkedSoFar noted (all ++ h ∷ []) next
  fresh_more none = record {
    within = so_far.within;
    each = notes_still;
    risen = all_risen;
    units = λ name key.
        let pushed = marks_pushed name key in
        let zero = either_zero (bytes_eq h.name name) (mark_read h key) (none.units key) in
        let before = so_far.units name key in
        omega (arith, pushed, zero, before);
    sums = λ name.
        let nothing : sum_mark_among (h ∷ []) name ≡ pos 0 =
        ap (λ (z : ℤ). fold ◌+ℤ◌ (pos 0) (z ∷ [])) (either_nothing (bytes_eq h.name name) h.sum_mark none.sum) in
        let same : sum_mark_among (all ++ h ∷ []) name ≡ sum_mark_among all name =
        sums_pushed name ∙ (ap (λ (z : ℤ). sum_mark_among all name +ℤ z) nothing ∙ +ℤ_idr (sum_mark_among all name)) in
        ap (λ (z : ℤ). z +ℤ sum_among (drop next noted) name) same ∙ so_far.sums name;
  }

  module _ (below : next < length noted) (is : IsMarkedBy (get_or noted next h) h) where
    note_first : (name : List ℕ) (key : ℤ) → units_among (drop next noted) name key
        ≡ (if bytes_eq (get_or noted next h).name name then units_read (get_or noted next h) key else 0) + units_among (drop (next + 1) noted) name key
    note_first name key =
        at_drop_more (λ (rest : List Histogram). units_among rest name key) noted next h below
        ∙ sum_by-cons (λ (one : Histogram). if bytes_eq one.name name then units_read one key else 0) (get_or noted next h) (drop (next + 1) noted)

    sum_first : (name : List ℕ) → sum_among (drop next noted) name ≡ (sum_among (get_or noted next h ∷ []) name +ℤ sum_among (drop (next + 1) noted) name)
    sum_first name =
        ap (λ (rest : List Histogram). sum_among rest name) (drop_more noted next h below)
        ∙ amounts_total (λ (one : Histogram). if bytes_eq one.name name then one.sum else pos 0) (get_or noted next h ∷ []) (drop (next + 1) noted)

    -- whose note comes next
    noted_more : AreMarkedSoFar noted (all ++ h ∷ []) (next + 1)
    noted_more = record {
      within = omega (arith, below);
      each = subst (All (IsNoteOf (all ++ h ∷ []))) (sym (take_more noted next h below))
          (All-append (IsNoteOf (all ++ h ∷ [])) (take next noted) (get_or noted next h ∷ []) notes_still
          (All-cons (IsNoteOf (all ++ h ∷ [])) (get_or noted next h) [] (h, Contains-append_right all (h ∷ []) h (0, omega arith, refl), is)
          (All-nil (IsNoteOf (all ++ h ∷ [])))));
      risen = all_risen;
      units = λ name key.
          let pushed = marks_pushed name key in
          let first = note_first name key in
          let same : (if bytes_eq h.name name then mark_read h key else 0)
          ≡ (if bytes_eq (get_or noted next h).name name then units_read (get_or noted next h) key else 0) =
          (λ i. if bytes_eq (is.name i) name then is.units key i else 0) in
          let before = so_far.units name key in
          omega (arith, pushed, first, same, before);
      sums = λ name.
          let same : sum_mark_among (h ∷ []) name ≡ sum_among (get_or noted next h ∷ []) name =
          (λ i. fold ◌+ℤ◌ (pos 0) ((if bytes_eq (is.name i) name then is.sum i else pos 0) ∷ [])) in
          ap (λ (z : ℤ). z +ℤ sum_among (drop (next + 1) noted) name)
          (sums_pushed name ∙ ap (λ (z : ℤ). sum_mark_among all name +ℤ z) same)
          ∙ (+ℤ_assoc (sum_mark_among all name) (sum_among (get_or noted next h ∷ []) name) (sum_among (drop (next + 1) noted) name)
          ∙ (ap (λ (z : ℤ). sum_mark_among all name +ℤ z) (sym (sum_first name)) ∙ so_far.sums name));
    }

-- one histogram more
pub marked_more : (noted all : List Histogram) (next then_next : ℕ) (h : Histogram) (is_noted : Bool) → AreMarkedSoFar noted all next → HasRisen h
    → IsMarkedAt noted next h is_noted → then_next ≡ (if is_noted then next + 1 else next) → AreMarkedSoFar noted (all ++ h ∷ []) then_next
marked_more noted all next then_next h true so_far risen (below, is) same =
    subst (AreMarkedSoFar noted (all ++ h ∷ [])) (sym same) (noted_more noted all next h so_far risen below is)
marked_more noted all next then_next h false so_far risen (none, before) same =
    subst (AreMarkedSoFar noted (all ++ h ∷ [])) (sym same) (fresh_more noted all next h so_far risen none)

-- all notes are marks
pub marked_all : (noted all : List Histogram) (next : ℕ) → AreMarkedSoFar noted all next → length noted ≤ next → AreMarkedBy noted all
marked_all noted all next so_far past =
    let none : drop next noted ≡ [] = drop_all next noted past in record {
      each = subst (All (IsNoteOf all)) (take_all next noted past) so_far.each;
      risen = so_far.risen;
      units = λ name key.
          let before = so_far.units name key in
          let empty : units_among (drop next noted) name key ≡ units_among [] name key = ap (λ (rest : List Histogram). units_among rest name key) none in
          omega (arith, before, empty);
      sums = λ name.
          sym (+ℤ_idr (sum_mark_among all name))
          ∙ (ap (λ (rest : List Histogram). sum_mark_among all name +ℤ sum_among rest name) (sym none) ∙ so_far.sums name);
    }

-- ---- one of them

-- no key has a mark
none_beside : (counts : List (ℤ × ℕ)) (key : ℤ) → units_listed (zip (map (λ (count : ℤ × ℕ). count.0) counts) []) key ≡ 0
none_beside [] key = refl
none_beside (count ∷ counts) key = refl

-- a mark of 0 has room
zeros_room : (counts : List (ℤ × ℕ)) (more : ℕ) → All ReachesItsMark (zip counts (replicate more 0))
zeros_room [] more = All-nil ReachesItsMark
zeros_room (count ∷ counts) zero = All-nil ReachesItsMark
zeros_room (count ∷ counts) (suc more) = All-cons ReachesItsMark (count, 0) (zip counts (replicate more 0)) (omega arith) (zeros_room counts more)

-- further marks stand beside nothing
zip_longer : (ks : List (ℤ × ℕ)) (vs more : List ℕ) → length vs ≡ length ks → zip ks (vs ++ more) ≡ zip ks vs
zip_longer [] [] more same = none more
  where
    none : (more : List ℕ) → zip {K = ℤ × ℕ} [] more ≡ []
    none [] = refl
    none (v ∷ more) = refl
zip_longer [] (v ∷ vs) more same = absurd (omega (arith, same))
zip_longer (k ∷ ks) [] more same = absurd (omega (arith, same))
zip_longer (k ∷ ks) (v ∷ vs) more same = ap (λ (rest : List ((ℤ × ℕ) × ℕ)). (k, v) ∷ rest) (zip_longer ks vs more (omega (arith, same)))

-- a histogram without marks
pub no_note : (h hist : Histogram) (marks : List ℕ) → h ≡ record hist { marks = marks; sum_mark = pos 0 } → marks ≡ [] → HasNoNote h × HasRisen h
no_note h hist marks is none =
    subst (λ (one : Histogram). HasNoNote one × HasRisen one) (sym (is ∙ (λ i. record hist { marks = none i; sum_mark = pos 0 })))
    (record { units = λ key. none_beside hist.counts key; sum = refl }, zeros_room hist.counts (length hist.counts))

-- one whose marks are those of a note
pub has_note : (note hist h : Histogram) (marks : List ℕ) → h ≡ record hist { marks = marks; sum_mark = note.sum } → AreMarksOf note.counts hist.counts marks
    → hist.name ≡ note.name → SameSpec note.spec hist.spec → (unmarked h ≡ unmarked hist) × HasRisen h × IsMarkedBy note h
has_note note hist h marks is are name spec =
    subst (λ (one : Histogram). (unmarked one ≡ unmarked hist) × HasRisen one × IsMarkedBy note one) (sym is) (
      refl,
      subst (All ReachesItsMark) (sym (zip_longer hist.counts marks (replicate (length hist.counts) 0) are.many)) are.risen,
      record { name = name; spec = spec; units = are.units; sum = refl },
    )

-- it is marked by the note at its place
pub marked_here : (noted : List HistReading) (next : ℕ) (note : HistReading) (h : Histogram) → next < length noted → note ≡ get_or noted next note
    → IsMarkedBy (histogram_view note) h → IsMarkedAt (map histogram_view noted) next h true
marked_here noted next note h below here is =
    let long = length-map noted histogram_view in (
      omega (arith, below, long),
      subst (λ (one : Histogram). IsMarkedBy one h) (sym (get_or-map histogram_view noted next note h below ∙ ap histogram_view (sym here))) is,
    )
