-- What recorders and openers have done, step by step.
use Rattle.std.proofs.Common.{◌≡◌, ℕ, suc, ◌+◌, ◌-◌, ◌<◌, Bool, true, false, ◌||◌, ℤ, List, [], ◌∷◌, ◌++◌, map, length, slice_index_or, All, Contains, Some, ◌⊎◌, ⊎_elim, inl, inr, refl, sym, ap, ◌∙◌, subst, arith, append_assoc, append-nil}
use Rattle.std.specs.List.{flat_map, range_with_len}
use Rattle.std.proofs.lemmas.List.{length-append, map-append}
use Rattle.std.proofs.lemmas.List.Elements.{All-append, All-cons, Contains-append_left, Contains-append_right, filter_map-append}
use Rattle.bucket_ranges.specs.Spec.{SameSpec}
use Rattle.bucket_ranges.specs.declared.spec.Spec.{Spec}
use Rattle.segment_machine.specs.declared.actor.Actor.{Actor}
use Rattle.segment_machine.specs.declared.actor.Known.{Known}
use Rattle.segment_machine.specs.declared.actor.Taken.{Taken}
use Rattle.segment_machine.specs.declared.entry.EntryProgress.{EntryProgress}
use Rattle.segment_machine.specs.declared.entry.Entry.{Entry}
use Rattle.segment_machine.specs.declared.actor.Role.{Role}
use Rattle.segment_machine.specs.Actor.{log_of, made_of, outstanding_of}
use Rattle.segment_machine.specs.Entry.{sample_entry}
use Rattle.segment_machine.specs.Seats.{joined, shifted, shifted_taken}
use Rattle.segment_invariant.proofs.Consistency.Keys.{same_boundaries}
use Rattle.live_segment.specs.declared.recorder.Hist.{Hist}
use Rattle.live_segment.specs.Add.Sample.{IsAdded}
use Rattle.live_segment.specs.Delta.Outcome.{HasTaken, taken_as}
use Rattle.live_segment.specs.Hist.Answer.{IsAnsweredWith}
use Rattle.persist_report_core.specs.declared.script.CallKind.TheVariants as kind
use Rattle.persist_report_core.specs.Script.{HistRecord}
use Rattle.bucket_ranges.specs.Ranges.{boundaries_of}
use Rattle.persist_commands.specs.Entries.{ScriptAction, Records, Takes, deeds_in, delta_in, deltas_among, entries_among, entry_in}
use Rattle.persist_commands.specs.Recording.{BeganAtRole, HandsOut, HasRecorded, IsAskedIn, IsFresh, KnowsOf, WentOn, all_joined}

-- ---- deeds among deeds

-- no deeds have none
none_among : (front behind : List ScriptAction) (deed : ScriptAction) → [] ≡ front ++ deed ∷ behind → ⊥
none_among [] behind deed is = cc is
none_among (x ∷ front) behind deed is = cc is

-- one deed is the only one
one_among : (front behind : List ScriptAction) (one deed : ScriptAction) → one ∷ [] ≡ front ++ deed ∷ behind → (front ≡ []) × (one ≡ deed) × (behind ≡ [])
one_among [] behind one deed is = (refl, cc is, sym (cc is))
one_among (x ∷ front) behind one deed is = absurd (none_among front behind deed (cc is))

-- one of two lists of deeds is in the first or in the second
in_either : (xs ys front behind : List ScriptAction) (deed : ScriptAction) → xs ++ ys ≡ front ++ deed ∷ behind
    → ((more : List ScriptAction) × (xs ≡ front ++ deed ∷ more) × (behind ≡ more ++ ys)) ⊎ ((back : List ScriptAction) × (front ≡ xs ++ back) × (ys ≡ back ++ deed ∷ behind))
in_either [] ys front behind deed is = inr (front, refl, is)
in_either (x ∷ xs) ys [] behind deed is = let same : x ≡ deed = cc is in inl (xs, ap (λ (d : ScriptAction). d ∷ xs) same, sym (cc is))
in_either (x ∷ xs) ys (y ∷ front) behind deed is =
    let same : x ≡ y = cc is in
    let rest : xs ++ ys ≡ front ++ deed ∷ behind = cc is in
    ⊎_elim
    (λ first. inl (first.0, (λ i. same i ∷ first.1 i), first.2))
    (λ second. inr (second.0, (λ i. sym same i ∷ second.1 i), second.2))
    (in_either xs ys front behind deed rest)

-- ---- one after the other

-- no delta more
took_nothing : (old new : Actor) → new.deltas.taken ≡ old.deltas.taken
    → (more : List Taken) × (new.deltas.taken ≡ old.deltas.taken ++ more) × (map (λ (t : Taken). t.name) more ≡ [])
took_nothing old new same = ([], same ∙ sym (append-nil old.deltas.taken), refl)

-- no histogram more
knows_no_more : (hists : List HistRecord) (old new : Actor) → new.answers.names ≡ old.answers.names
    → (more : List Known) × (new.answers.names ≡ old.answers.names ++ more) × All (IsAskedIn hists) more
knows_no_more hists old new same = ([], same ∙ sym (append-nil old.answers.names), λ k d below. absurd (omega (arith, below)))

pub went_nowhere : (hists : List HistRecord) (old new : Actor) → new ≡ old → WentOn hists [] old new
went_nowhere hists old new still = record {
  first = ap (λ (a : Actor). a.entries.first) still;
  first_noted = ap (λ (a : Actor). a.entries.first_noted) still;
  logged = ap log_of still ∙ sym (append-nil (log_of old));
  first_taken = ap (λ (a : Actor). a.deltas.first_taken) still;
  took = took_nothing old new (ap (λ (a : Actor). a.deltas.taken) still);
  deltas = λ front behind name is. absurd (none_among front behind (Takes name) is);
  names = knows_no_more hists old new (ap (λ (a : Actor). a.answers.names) still);
  spoiled = ap (λ (a : Actor). a.done.spoiled) still;
  filled = ap (λ (a : Actor). a.done.filled) still;
}

-- the names of what was taken for two lists of deeds
names_joined : (first second : List Taken) (xs ys : List ScriptAction) → map (λ (t : Taken). t.name) first ≡ deltas_among xs → map (λ (t : Taken). t.name) second ≡ deltas_among ys
    → map (λ (t : Taken). t.name) (first ++ second) ≡ deltas_among (xs ++ ys)
names_joined first second xs ys one two =
    map-append (λ (t : Taken). t.name) first second ∙ ((λ i. one i ++ two i) ∙ sym (filter_map-append delta_in xs ys))

pub went_twice : (hists : List HistRecord) (xs ys : List ScriptAction) (a b c : Actor) → WentOn hists xs a b → WentOn hists ys b c → WentOn hists (xs ++ ys) a c
went_twice hists xs ys a b c one two = record {
  first = two.first ∙ one.first;
  first_noted = two.first_noted ∙ one.first_noted;
  logged = two.logged
      ∙ (ap (λ (l : List Entry). l ++ entries_among ys) one.logged
      ∙ (append_assoc (log_of a) (entries_among xs) (entries_among ys)
      ∙ ap (λ (l : List Entry). log_of a ++ l) (sym (filter_map-append entry_in xs ys))));
  first_taken = two.first_taken ∙ one.first_taken;
  took =
      let (first, first_is, first_names) = one.took in
      let (second, second_is, second_names) = two.took in (
        first ++ second,
        second_is ∙ (ap (λ (l : List Taken). l ++ second) first_is ∙ append_assoc a.deltas.taken first second),
        names_joined first second xs ys first_names second_names,
      );
  deltas = λ front behind name is. ⊎_elim
      (λ first.
      let did = one.deltas front first.0 name first.1 in
      let (more, is, names) = two.took in record {
        front = did.front;
        delta = did.delta;
        behind = did.behind ++ more;
        split = is ∙ (ap (λ (l : List Taken). l ++ more) did.split ∙ append_assoc did.front (did.delta ∷ did.behind) more);
        named = did.named;
        begun = did.begun;
        rest = names_joined did.behind more first.0 ys did.rest names ∙ ap deltas_among (sym first.2);
      })
      (λ second.
      let did = two.deltas second.0 behind name second.2 in
      let log = did.begun in
      let before = ap length one.logged ∙ length-append (log_of a) (entries_among xs) in
      let all = ap (λ (deeds : List ScriptAction). length (entries_among deeds)) second.1 ∙ ap length (filter_map-append entry_in xs second.0) in
      let both = length-append (entries_among xs) (entries_among second.0) in
      record {
        front = did.front;
        delta = did.delta;
        behind = did.behind;
        split = did.split;
        named = did.named;
        begun = omega (arith, log, before, all, both);
        rest = did.rest;
      })
      (in_either xs ys front behind (Takes name) is);
  names =
      let (first, first_is, first_asked) = one.names in
      let (second, second_is, second_asked) = two.names in (
        first ++ second,
        second_is ∙ (ap (λ (l : List Known). l ++ second) first_is ∙ append_assoc a.answers.names first second),
        All-append (IsAskedIn hists) first second first_asked second_asked,
      );
  spoiled = two.spoiled ∙ one.spoiled;
  filled = two.filled ∙ one.filled;
}

-- an opener that hands out recorders records nothing
pub went_handing : (hists : List HistRecord) (n : ℕ) (old new : Actor) → HandsOut n old new → WentOn hists [] old new
went_handing hists n old new hands = record {
  first = ap (λ e. e.first) hands.entries;
  first_noted = ap (λ e. e.first_noted) hands.entries;
  logged = ap (λ e. e.first ++ map (λ (c : EntryProgress). c.entry) e.log) hands.entries ∙ sym (append-nil (log_of old));
  first_taken = ap (λ d. d.first_taken) hands.deltas;
  took = took_nothing old new (ap (λ d. d.taken) hands.deltas);
  deltas = λ front behind name is. absurd (none_among front behind (Takes name) is);
  names = knows_no_more hists old new (ap (λ a. a.names) hands.answers);
  spoiled = ap (λ d. d.spoiled) hands.done;
  filled = ap (λ d. d.filled) hands.done;
}

-- ---- the calls of a recorder

-- a call returned the histogram of a `hist` record
pub went_asking : (hists : List HistRecord) (hist : HistRecord) (histogram : Hist) (old new : Actor) → Contains hists hist
    → IsAnsweredWith hist.name hist.spec histogram old new → WentOn hists [] old new
went_asking hists hist histogram old new has (inl knew) = let (known, named, same, may, still) = knew in went_nowhere hists old new still
went_asking hists hist histogram old new has (inr comes_to) =
    let (none, at, rest) = comes_to in
    let (asked, reference, is_asked, comes) = rest in
    let looks = comes.looks in
    let entries : new.entries ≡ old.entries = ap (λ (a : Actor). a.entries) comes.view ∙ ap (λ (a : Actor). a.entries) looks.same in
    let deltas : new.deltas ≡ old.deltas = ap (λ (a : Actor). a.deltas) comes.view ∙ ap (λ (a : Actor). a.deltas) looks.same in
    let names : new.answers.names ≡ old.answers.names ++ record { name = asked.name.items; spec = asked.spec; reference = reference } ∷ [] =
    ap (λ (a : Actor). a.answers.names) comes.view in
    let mine : IsAskedIn hists (record { name = asked.name.items; spec = asked.spec; reference = reference }) =
    (hist, has, is_asked.named, subst (λ (s : Spec). SameSpec s hist.spec) (sym is_asked.specified) (refl, refl)) in record {
      first = ap (λ e. e.first) entries;
      first_noted = ap (λ e. e.first_noted) entries;
      logged = ap (λ e. e.first ++ map (λ (c : EntryProgress). c.entry) e.log) entries ∙ sym (append-nil (log_of old));
      first_taken = ap (λ d. d.first_taken) deltas;
      took = took_nothing old new (ap (λ d. d.taken) deltas);
      deltas = λ front behind name is. absurd (none_among front behind (Takes name) is);
      names = (
        record { name = asked.name.items; spec = asked.spec; reference = reference } ∷ [],
        names,
        All-cons (IsAskedIn hists) (record { name = asked.name.items; spec = asked.spec; reference = reference }) [] mine (λ k d below. absurd (omega (arith, below))),
      );
      spoiled = ap (λ (a : Actor). a.done.spoiled) comes.view ∙ ap (λ d. d.spoiled) looks.done.same;
      filled = comes.filled;
    }

-- it added a sample
pub went_adding : (hists : List HistRecord) (hist : HistRecord) (known : Known) (value : ℤ) (count : ℕ) (old new : Actor) → known.name ≡ hist.name
    → SameSpec known.spec hist.spec → IsAdded known value count old new → WentOn hists (deeds_in (Some hist) (kind.Add value count)) old new
went_adding hists hist known value count old new named same added =
    let on = added.onward in record {
      first = ap (λ (a : Actor). a.entries.first) on.same;
      first_noted = ap (λ (a : Actor). a.entries.first_noted) on.same;
      logged = added.logged
          ∙ (λ i. log_of old ++ sample_entry (named i) (same_boundaries known.spec hist.spec same i) (value, count) ∷ []);
      first_taken = ap (λ (a : Actor). a.deltas.first_taken) on.same;
      took = took_nothing old new (ap (λ (a : Actor). a.deltas.taken) on.same);
      deltas = λ front behind name is.
          let apart : Records (sample_entry hist.name (boundaries_of hist.spec) (value, count)) ≡ Takes name =
          (one_among front behind (Records (sample_entry hist.name (boundaries_of hist.spec) (value, count))) (Takes name) is).1 in absurd (cc apart);
      names = knows_no_more hists old new (ap (λ (a : Actor). a.answers.names) on.same);
      spoiled = ap (λ d. d.spoiled) on.done.same;
      filled = added.filled;
    }

-- it took a delta
pub went_taking : (hists : List HistRecord) (hist : HistRecord) (known : Known) (counts : List (ℤ × ℕ)) (sum : ℤ) (old new : Actor) → known.name ≡ hist.name
    → HasTaken known counts sum old new → WentOn hists (deeds_in (Some hist) kind.Delta) old new
went_taking hists hist known counts sum old new named taken = record {
  first = ap (λ (a : Actor). a.entries.first) taken.same;
  first_noted = ap (λ (a : Actor). a.entries.first_noted) taken.same;
  logged = ap log_of taken.same ∙ sym (append-nil (log_of old));
  first_taken = ap (λ (a : Actor). a.deltas.first_taken) taken.same;
  took = (taken_as old known taken.counts sum ∷ [], ap (λ (a : Actor). a.deltas.taken) taken.same, ap (λ (name : List ℕ). name ∷ []) named);
  deltas = λ front behind name is.
      let (none, same, last) = one_among front behind (Takes hist.name) (Takes name) is in
      let called : hist.name ≡ name = cc same in
      let nothing : length (entries_among front) ≡ 0 = ap (λ (deeds : List ScriptAction). length (entries_among deeds)) none in record {
        front = old.deltas.taken;
        delta = taken_as old known taken.counts sum;
        behind = [];
        split = ap (λ (a : Actor). a.deltas.taken) taken.same;
        named = named ∙ called;
        begun = omega (arith, nothing);
        rest = sym (ap deltas_among last);
      };
  names = knows_no_more hists old new (ap (λ (a : Actor). a.answers.names) taken.same);
  spoiled = ap (λ (a : Actor). a.done.spoiled) taken.same;
  filled = ap (λ (a : Actor). a.done.filled) taken.same;
}

-- ---- a recorder is who it was

pub recorded_nowhere : (hists : List HistRecord) (a : Actor) → HasRecorded hists [] a a
recorded_nowhere hists a = record { went = went_nowhere hists a a refl; role = refl; own = λ all. all }

pub recorded_twice : (hists : List HistRecord) (xs ys : List ScriptAction) (a b c : Actor) → HasRecorded hists xs a b → HasRecorded hists ys b c → HasRecorded hists (xs ++ ys) a c
recorded_twice hists xs ys a b c one two = record {
  went = went_twice hists xs ys a b c one.went two.went;
  role = two.role ∙ one.role;
  own = λ all.
      subst (λ (r : Role). BeganAtRole r c.deltas.taken) one.role
      (two.own (subst (λ (r : Role). BeganAtRole r b.deltas.taken) (sym one.role) (one.own all)));
}

-- if it took no delta
recorded_still : (hists : List HistRecord) (deeds : List ScriptAction) (old new : Actor) → WentOn hists deeds old new → new.role ≡ old.role → new.deltas.taken ≡ old.deltas.taken
    → HasRecorded hists deeds old new
recorded_still hists deeds old new went role taken = record { went = went; role = role; own = subst (λ (l : List Taken). BeganAtRole old.role old.deltas.taken → BeganAtRole old.role l) (sym taken) (λ all. all) }

pub recorded_asking : (hists : List HistRecord) (hist : HistRecord) (histogram : Hist) (old new : Actor) → Contains hists hist
    → IsAnsweredWith hist.name hist.spec histogram old new → HasRecorded hists [] old new
recorded_asking hists hist histogram old new has answer =
    let (role, taken) = same_by answer in recorded_still hists [] old new (went_asking hists hist histogram old new has answer) role taken
  where
    same_by : IsAnsweredWith hist.name hist.spec histogram old new → (new.role ≡ old.role) × (new.deltas.taken ≡ old.deltas.taken)
    same_by (inl (known, named, same, may, still)) = (ap (λ (a : Actor). a.role) still, ap (λ (a : Actor). a.deltas.taken) still)
    same_by (inr (none, at, (asked, reference, is_asked, comes))) =
        let looks = comes.looks in (
          ap (λ (a : Actor). a.role) comes.view ∙ ap (λ (a : Actor). a.role) looks.same,
          ap (λ (a : Actor). a.deltas.taken) comes.view ∙ ap (λ (a : Actor). a.deltas.taken) looks.same,
        )

pub recorded_adding : (hists : List HistRecord) (hist : HistRecord) (known : Known) (value : ℤ) (count : ℕ) (old new : Actor) → known.name ≡ hist.name
    → SameSpec known.spec hist.spec → IsAdded known value count old new → HasRecorded hists (deeds_in (Some hist) (kind.Add value count)) old new
recorded_adding hists hist known value count old new named same added =
    let on = added.onward in
    recorded_still hists (deeds_in (Some hist) (kind.Add value count)) old new (went_adding hists hist known value count old new named same added)
    (ap (λ (a : Actor). a.role) on.same) (ap (λ (a : Actor). a.deltas.taken) on.same)

pub recorded_taking : (hists : List HistRecord) (hist : HistRecord) (known : Known) (counts : List (ℤ × ℕ)) (sum : ℤ) (old new : Actor) → known.name ≡ hist.name
    → HasTaken known counts sum old new → HasRecorded hists (deeds_in (Some hist) kind.Delta) old new
recorded_taking hists hist known counts sum old new named taken = record {
  went = went_taking hists hist known counts sum old new named taken;
  role = ap (λ (a : Actor). a.role) taken.same;
  own = λ all.
      let mine : Taken = taken_as old known taken.counts sum in
      let own : Taken → Type 0 = λ t. (t.moment.before ≡ made_of old.role) × (t.moment.outstanding ≡ outstanding_of old.role) in
      subst (BeganAtRole old.role) (sym (ap (λ (a : Actor). a.deltas.taken) taken.same))
      (All-append own old.deltas.taken (mine ∷ []) all (All-cons own mine [] (refl, refl) (λ k d below. absurd (omega (arith, below)))));
}

-- ---- joins

pub unset : (b c : Bool) → c ≡ false → (b || c) ≡ b
unset true c none = refl
unset false c none = none

-- the names of deltas whose moments are shifted are the same
names_shifted : (n : ℕ) (taken : List Taken) → map (λ (t : Taken). t.name) (shifted_taken n taken) ≡ map (λ (t : Taken). t.name) taken
names_shifted n [] = refl
names_shifted n (t ∷ taken) = ap (λ (l : List (List ℕ)). t.name ∷ l) (names_shifted n taken)

-- an opener joins a recorder: it has then done what that recorder did
pub went_joining : (hists : List HistRecord) (deeds : List ScriptAction) (opener fresh recorder : Actor) → IsFresh fresh → WentOn hists deeds fresh recorder
    → WentOn hists deeds opener (joined opener recorder)
went_joining hists deeds opener fresh recorder is went =
    let entries_of : List EntryProgress → List Entry = map (λ (c : EntryProgress). c.entry) in
    let none : recorder.entries.first ≡ [] = went.first ∙ is.first in
    let begun : log_of fresh ≡ [] = λ i. is.first i ++ entries_of (is.log i) in
    let its : entries_of recorder.entries.log ≡ entries_among deeds =
    sym (ap (λ (l : List Entry). l ++ entries_of recorder.entries.log) none) ∙ (went.logged ∙ ap (λ (l : List Entry). l ++ entries_among deeds) begun) in
    let n : ℕ = length (log_of opener) in
    let (more, taken_is, names) = went.took in
    let taken : recorder.deltas.taken ≡ more = taken_is ∙ ap (λ (l : List Taken). l ++ more) is.taken in record {
      first = refl;
      first_noted = refl;
      logged = ap (λ (l : List Entry). opener.entries.first ++ l) (map-append (λ (c : EntryProgress). c.entry) opener.entries.log recorder.entries.log)
          ∙ (sym (append_assoc opener.entries.first (entries_of opener.entries.log) (entries_of recorder.entries.log))
          ∙ ap (λ (l : List Entry). (opener.entries.first ++ entries_of opener.entries.log) ++ l) its);
      first_taken = refl;
      took = (shifted_taken n recorder.deltas.taken, refl, names_shifted n recorder.deltas.taken ∙ (ap (map (λ (t : Taken). t.name)) taken ∙ names));
      deltas = λ front behind name split.
          let did = went.deltas front behind name split in
          let log = did.begun in
          let empty = ap length begun in record {
            front = opener.deltas.taken ++ shifted_taken n did.front;
            delta = record did.delta { moment = shifted n did.delta.moment };
            behind = shifted_taken n did.behind;
            split = ap (λ (l : List Taken). opener.deltas.taken ++ shifted_taken n l) did.split
                ∙ (ap (λ (l : List Taken). opener.deltas.taken ++ l) (map-append (λ (t : Taken). record t { moment = shifted n t.moment }) did.front (did.delta ∷ did.behind))
                ∙ sym (append_assoc opener.deltas.taken (shifted_taken n did.front) (shifted_taken n (did.delta ∷ did.behind))));
            named = did.named;
            begun = omega (arith, log, empty);
            rest = names_shifted n did.behind ∙ did.rest;
          };
      names =
          let (more, names_are, asked) = went.names in
          (recorder.answers.names, refl, subst (All (IsAskedIn hists)) (sym (names_are ∙ ap (λ (l : List Known). l ++ more) is.names)) asked);
      spoiled = unset opener.done.spoiled recorder.done.spoiled (went.spoiled ∙ is.spoiled);
      filled = unset opener.done.filled recorder.done.filled (went.filled ∙ is.filled);
    }

-- what it knew it knows still, and what the recorder knew it knows too
pub knows_joining : (opener recorder : Actor) (hist : HistRecord) → KnowsOf opener hist → KnowsOf (joined opener recorder) hist
knows_joining opener recorder hist knows =
    let (known, has, named, same) = knows in (known, Contains-append_left opener.answers.names recorder.answers.names known has, named, same)

pub knows_of_recorder : (opener recorder : Actor) (hist : HistRecord) → KnowsOf recorder hist → KnowsOf (joined opener recorder) hist
knows_of_recorder opener recorder hist knows =
    let (known, has, named, same) = knows in (known, Contains-append_right opener.answers.names recorder.answers.names known has, named, same)

-- a recorder that had done nothing has done the deeds of a number
abbrev pub Worked : List HistRecord → (ℕ → List ScriptAction) → ℕ → Actor → Type 0
Worked hists deeds number a = (fresh : Actor) × IsFresh fresh × WentOn hists (deeds number) fresh a

-- recorders are joined, one after the other
pub went_joining_all : (hists : List HistRecord) (deeds : ℕ → List ScriptAction) (first : ℕ) (opener : Actor) (recorders : List Actor)
    → ((k : ℕ) (d : Actor) → k < length recorders → Worked hists deeds (first + k) (slice_index_or recorders k d))
    → WentOn hists (flat_map deeds (range_with_len first (length recorders))) opener (all_joined opener recorders)
went_joining_all hists deeds first opener [] each = went_nowhere hists opener opener refl
went_joining_all hists deeds first opener (recorder ∷ rest) each =
    let (fresh, is, went) = each 0 recorder (omega arith) in
    let mine : WentOn hists (deeds first) fresh recorder = subst (λ n. WentOn hists (deeds n) fresh recorder) (omega arith) went in
    let others : (k : ℕ) (d : Actor) → k < length rest → Worked hists deeds (first + 1 + k) (slice_index_or rest k d) =
    λ k d below. subst (λ n. Worked hists deeds n (slice_index_or rest k d)) (omega arith) (each (suc k) d (omega (arith, below))) in
    went_twice hists (deeds first) (flat_map deeds (range_with_len (first + 1) (length rest))) opener (joined opener recorder) (all_joined (joined opener recorder) rest)
    (went_joining hists (deeds first) opener fresh recorder is mine) (went_joining_all hists deeds (first + 1) (joined opener recorder) rest others)

pub knows_joining_all : (opener : Actor) (recorders : List Actor) (hist : HistRecord) → KnowsOf opener hist → KnowsOf (all_joined opener recorders) hist
knows_joining_all opener [] hist knows = knows
knows_joining_all opener (recorder ∷ rest) hist knows = knows_joining_all (joined opener recorder) rest hist (knows_joining opener recorder hist knows)

pub outstanding_joining : (opener : Actor) (recorders : List Actor)
    → outstanding_of (all_joined opener recorders).role ≡ outstanding_of opener.role - length recorders
outstanding_joining opener [] = omega arith
outstanding_joining opener (recorder ∷ rest) = let others = outstanding_joining (joined opener recorder) rest in omega (arith, others)
