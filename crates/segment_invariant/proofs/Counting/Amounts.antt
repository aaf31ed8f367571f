-- An amount is added to the sum of a record, or units to its redundant count, for the entry that is next: the state that is left is kept.
use Rattle.segment_invariant.proofs.Prelude.Std.{◌≡◌, ◌≢◌, ℕ, ◌+◌, ◌<◌, ◌^◌, ℤ, pos, ◌+ℤ◌, true, false, List, ◌++◌, set, Contains, refl, sym, ap, ◌∙◌, subst, arith, w64, cast_signed, +ℤ_idr, All-contains, some, get_elem?, rows, row_in}
use Rattle.segment_invariant.proofs.Prelude.Machine.{Dimensions, EntryProgress, Entry, Spent, Idle, Actor, Known, Sighting, counted_among, is_counted, is_summed, is_of, tally_units, tally_sum, tally_noted, is_untouched, is_bound, counted_of, summed_of, noted_of, all_counted, taken_units, taken_of, is_opener, State}
use Rattle.segment_invariant.proofs.Prelude.Invariant.{Record, histogram, Anatomy, of_name, moving_at, HasRecord, IsFirst, IsRightlyKnown, Sees, IsLawfulRecord, LooksBack, Invariant, KeptOn}
use Rattle.segment_invariant.specs.Ledger.{amount_of_name}
use Rattle.segment_invariant.proofs.Lists.Countings.{sum_total, noted_total}
use Rattle.list_lemmas.proofs.Elements.{rows_total}
use Rattle.segment_invariant.proofs.Frames.Ahead.{unbound_unbeaten}
use Rattle.segment_invariant.proofs.Frames.Answers.{first_one}
use Rattle.segment_invariant.proofs.Frames.OneActor.{rests_at}
use Rattle.segment_invariant.proofs.Frames.Roles.{SameRoles}
use Rattle.segment_invariant.proofs.Changes.Sums.{SumsGoOn}
use Rattle.segment_invariant.proofs.Counting.Seen.{known_stands}
use Rattle.segment_invariant.proofs.Counting.Running.{Next, passes_same}
use Rattle.segment_invariant.proofs.Counting.Entries.{going, calls_next, finals_next}
use Rattle.segment_invariant.proofs.Changes.Others.{Deed, deed_of, changed, changed_roles, sees_no_more}
use Rattle.segment_invariant.proofs.Changes.Records.{record_kept}
use Rattle.segment_invariant.proofs.Changes.Words.{Turns, behind, sees_turned, turned_on, looks_turned}
use Rattle.segment_invariant.proofs.Frames.Anew.{lawful_anew}

-- ---- the record with that

abbrev pub with_amount : Record → ℕ → ℕ → Record
with_amount r sum noted = record r { sum = sum; noted = noted }

lawful_amount : (version page : ℕ) (r : Record) (sum noted : ℕ) → sum < 2 ^ 64 → IsLawfulRecord version page r → IsLawfulRecord version page (with_amount r sum noted)
lawful_amount version page r sum noted narrow is = lawful_anew version page r r.counts r.single r.mark sum r.sum_mark noted is
    is.formed is.unpacked is.off is.sparse (narrow, is.narrow.1)

-- ---- the state

module _ (shape : Dimensions) (opened : Anatomy) (state : State) (kept : Invariant shape opened state) (id : ℕ) (a : Actor)
    (mine : get_elem? state.actors id ≡ some a) (recorder : is_opener a.role ≡ false) (unbound : is_bound a.hand.place ≡ false)
    (c d : EntryProgress) (next : Next a.entries.running c) (entry : d.entry ≡ c.entry) (known : Known) (has : Contains a.answers.names known) where
  -- an actor that may turn lives, and has nothing on its way
  pub turner_lives : a.hand.place ≢ Spent
  turner_lives spent = cc (unbound, ap is_bound spent)

  turner_rests : (name : List ℕ) (key : ℤ) → moving_at a name key a.hand.place ≡ 0
  turner_rests name key = rests_at a name key a.hand.place (λ look bucket units moving. cc (unbound, ap is_bound moving))

  -- the record of the histogram that it knows
  pub the_record : (r : Record) × HasRecord kept.anatomy.pieces known.reference r × (r.name ≡ known.name)
  the_record =
      let (r, stands, named, bounds, many) = known_stands shape opened state kept id a mine turner_lives known has in
      (r, stands, named)

  abbrev pub r : Record
  r = the_record.0

  abbrev pub stands : HasRecord kept.anatomy.pieces known.reference r
  stands = the_record.1

  -- is the first of its name
  pub knows : IsRightlyKnown kept.anatomy known
  knows = All-contains (IsRightlyKnown kept.anatomy) a.answers.names known (kept.each id a mine turner_lives).names has

  module _ (sum noted j v : ℕ) (turns : Turns kept.anatomy.version (histogram r) (histogram (with_amount r sum noted)) j v) (narrow : sum < 2 ^ 64) (counts : List Sighting)
      (counted : is_counted d ≡ is_counted c) where
    abbrev pub deed : Deed
    deed = going a c d next entry (record (deed_of a) { place = Idle; seen = record a.seen { counts = counts } })

    abbrev pub later : Actor
    later = changed a deed

    abbrev b : Actor
    b = later

    abbrev pub actors : List Actor
    actors = set state.actors id b

    abbrev pub new : Anatomy
    new = behind shape opened state kept known.reference (histogram r) (histogram (with_amount r sum noted)) j v stands turns

    pub counted_same : counted_of b ≡ counted_of a
    counted_same =
        passes_same is_counted next.behind c d entry counted a.entries.first a.entries.log next.front
        ∙ ap (λ (l : List EntryProgress). a.entries.first ++ counted_among (a.entries.log ++ l)) (sym next.is)

    beside : SameRoles state.actors actors
    beside = changed_roles shape opened state kept id a mine recorder turner_lives deed (λ e. cc e)

    all_counted_same : all_counted actors ≡ all_counted state.actors
    all_counted_same = rows counted_of state.actors id a b mine counted_same

    module _ (untouched : is_untouched d ≡ false) (counted_first : d.summed ≡ true → is_counted d ≡ true) (summed_next : d.noted ≡ true → is_summed d ≡ true)
        (amounted : d.summed ≡ true → d.entry.amount ≢ pos 0)
        (more_sum : (name : List ℕ) → (z : ℤ) × (amount_of_name r.name name (cast_signed w64 sum) ≡ amount_of_name r.name name (cast_signed w64 r.sum) +ℤ z)
        × (tally_sum (summed_of b) name ≡ tally_sum (summed_of a) name +ℤ z))
        (more_noted : (name : List ℕ) → of_name r.name name noted + tally_noted (noted_of a) name ≡ of_name r.name name r.noted + tally_noted (noted_of b) name)
        (sum_apart : (name : List ℕ) → is_of name c.entry ≡ false → tally_sum (summed_of b) name ≡ tally_sum (summed_of a) name)
        (noted_apart : (name : List ℕ) → is_of name c.entry ≡ false → tally_noted (noted_of b) name ≡ tally_noted (noted_of a) name)
        (near : SumsGoOn kept.anatomy.pieces new.pieces state.actors actors)
        (sees : Sees new state.cursors a.seen → Sees new state.cursors deed.seen)
        (looks : LooksBack new actors kept.roles.opener (changed a (sees_no_more a deed)) → LooksBack new actors kept.roles.opener b) where
      pub amount_added : KeptOn shape opened kept (record { words = set state.words (known.reference + j) v; cursors = state.cursors; actors = actors })
      amount_added =
          let fits = kept.each id a mine turner_lives in
          let records = record_kept shape opened state kept known.reference r (with_amount r sum noted) j v stands turns refl
          (lawful_amount kept.anatomy.version shape.page r sum noted narrow (kept.records.lawful known.reference r stands))
          (λ c there is. is)
          (kept.records.packed known.reference r stands)
          (λ kind place is. first_one kept.anatomy.records known.name kind knows.first_spec place known.reference
          (subst (λ (name : List ℕ). IsFirst kept.anatomy.records name kind place) the_record.2 is) knows.first) in
          turned_on shape opened state kept known.reference (histogram r) (histogram (with_amount r sum noted)) j v stands turns id a mine recorder turner_lives deed (record {
            records = records;
            balances = record {
              units = λ name key.
                  let rests = turner_rests name key in
                  let same = ap (λ entries. tally_units entries name key) counted_same in
                  omega (arith, rests, same);
              marks = λ name key. refl;
              sums = more_sum;
              sum_marks = λ name. (pos 0, sym (+ℤ_idr _), sym (+ℤ_idr _));
              noted = more_noted;
            };
            taken = λ name key.
                let was = kept.balanced.taken name key in
                let took = ap (λ list. taken_units list name key) (rows taken_of state.actors id a b mine refl) in
                let same = ap (λ entries. tally_units entries name key) all_counted_same in
                omega (arith, was, took, same);
            counted = λ name key. let same = ap (λ entries. tally_units entries name key) counted_same in omega (arith, same);
            keys = λ entry there units. kept.keys entry
                (row_in counted_of state.actors id a entry mine (subst (λ (entries : List Entry). Contains entries entry) counted_same there)) units;
            taken_keys = λ t count there. kept.taken_keys t count (row_in taken_of state.actors id a t mine there);
            sums = near;
            lives = λ e. cc e;
            stood = tt;
            noticed = λ saw. saw;
            up = λ free. unbound_unbeaten a.hand.place unbound;
            sees = sees (sees_turned shape opened state kept known.reference (histogram r) (histogram (with_amount r sum noted)) j v stands turns a.seen fits.sees);
            own = refl;
            calls = calls_next a c d next entry kept.anatomy new deed counted_first summed_next amounted
                (λ entry of there. fits.calls.met entry of (subst (λ (entries : List Entry). Contains (a.entries.inherited ++ entries) entry) counted_same there)) fits.calls;
            looks = looks (looks_turned shape opened state kept known.reference (histogram r) (histogram (with_amount r sum noted)) j v stands turns id a mine recorder
                turner_lives deed (λ e. cc e) (λ reference sum loaded. cc loaded) records
                (λ name key. let same = ap (λ entries. tally_units entries name key) all_counted_same in omega (arith, same)));
            finals = finals_next a c d next entry state.actors actors kept.roles beside id deed untouched
                (rows taken_of state.actors id a b mine refl)
                (λ name key apart. ap (λ entries. tally_units entries name key) all_counted_same)
                (λ name apart. rows_total ◌+ℤ◌ (λ entries. tally_sum entries name) (sum_total name) summed_of state.actors id a b mine (sum_apart name apart))
                (λ name apart. rows_total ◌+◌ (λ entries. tally_noted entries name) (noted_total name) noted_of state.actors id a b mine (noted_apart name apart))
                (λ taking. (fits.calls.taking taking).0) fits.finals;
          })
