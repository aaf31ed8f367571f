-- The first histograms of a list with what is noted of them as their marks, up to the next that is noted.
use Rattle.std.proofs.Common.{◌≡◌, ◌∙◌, ℕ, ◌+◌, Bool, true, false, if◌then◌else◌, List, [], ◌∷◌, ◌++◌, map, length, take, refl, sym, ap, subst, arith}
use Rattle.std.specs.Int.{from_bool}
use Rattle.std.proofs.lemmas.List.{map_push}
use Rattle.bucket_ranges.specs.Reading.{Histogram}
use Rattle.image_reader.specs.Views.{histogram_view}
use Rattle.image_reader.specs.declared.reading.HistReading.{HistReading}
use Rattle.segment_merge.specs.Noted.{AreNotesInOrder, HasRisen, IsMarkedAt, unmarked}
use Rattle.segment_merge.proofs.Fallen.{AreBefore, before_more, before_none, current}
use Rattle.segment_merge.proofs.MarkedSteps.{AreMarkedSoFar, marked_more, marked_none}
use Rattle.segment_merge.proofs.Taken.{IsTaken}

-- But for their marks, these are the first histograms of a list. The notes before a place are their marks, and their names are before the one
-- that is noted there.
pub record AreMarkedTo (noted : List Histogram) (list all : List HistReading) (next : ℕ) : Type 0 where
  pub same : map unmarked (map histogram_view all) ≡ map unmarked (map histogram_view (take (length all) list))
  pub marks : AreMarkedSoFar noted (map histogram_view all) next
  pub before : AreNotesInOrder noted → AreBefore noted (map histogram_view list) next (length all)

pub marked_to_none : (noted : List Histogram) (list all : List HistReading) → all ≡ [] → AreMarkedTo noted list all 0
marked_to_none noted list all none =
    subst (λ (l : List HistReading). AreMarkedTo noted list l 0) (sym none) (record {
      same = refl;
      marks = marked_none noted;
      before = λ order. before_none noted (map histogram_view list) 0;
    })

-- one histogram more
pub marked_to_more : (noted : List Histogram) (list rest all more : List HistReading) (hist : HistReading) (came : HistReading × Bool) (next then_next : ℕ)
    → IsTaken list rest all more hist → more ≡ all ++ came.0 ∷ []
    → (unmarked (histogram_view came.0) ≡ unmarked (histogram_view hist)) × HasRisen (histogram_view came.0) × IsMarkedAt noted next (histogram_view came.0) came.1
    → then_next ≡ (if came.1 then next + 1 else next) → AreMarkedTo noted list all next → AreMarkedTo noted list more then_next
marked_to_more noted list rest all more hist came next then_next one put is onward so_far =
    let h : Histogram = histogram_view came.0 in
    let front : List HistReading = take (length all) list in
    let pushed : map histogram_view more ≡ map histogram_view all ++ h ∷ [] = ap (map histogram_view) put ∙ map_push histogram_view all came.0 in
    let taken : map histogram_view (take (length more) list) ≡ map histogram_view front ++ histogram_view hist ∷ [] =
    ap (map histogram_view) one.taken ∙ map_push histogram_view front hist in record {
      same = ap (map unmarked) pushed
          ∙ (map_push unmarked (map histogram_view all) h
          ∙ ((λ i. so_far.same i ++ is.0 i ∷ [])
          ∙ (sym (map_push unmarked (map histogram_view front) (histogram_view hist)) ∙ sym (ap (map unmarked) taken))));
      marks = subst (λ (l : List Histogram). AreMarkedSoFar noted l then_next) (sym pushed)
          (marked_more noted (map histogram_view all) next then_next h came.1 so_far.marks is.1 is.2 onward);
      before = λ order. subst (AreBefore noted (map histogram_view list) then_next) (sym one.long)
          (before_more noted (map histogram_view list) next (length all) (histogram_view hist) (current list rest (length all) hist one.here)
          h came.1 then_next order (ap (λ (one : Histogram). one.name) is.0) is.2 onward (so_far.before order));
    }

-- the place behind one that is noted is the next
pub place_behind : (is_noted : Bool) (next step : ℕ) → step ≡ from_bool is_noted → next + step ≡ (if is_noted then next + 1 else next)
place_behind true next step is = ap (λ (n : ℕ). next + n) is
place_behind false next step is = omega (arith, is)
