-- A word of a published record that never changes is loaded: its type, its spec, its name, or what a sample is of.
pub use Rattle.segment_calls.proofs.Letters.{letters_long}
use Rattle.segment_invariant.proofs.Prelude.Std.{◌≡◌, ◌≢◌, ℕ, suc, ◌+◌, ◌-◌, ◌<◌, ◌==◌, Bool, true, false, List, [], ◌∷◌, ◌++◌, length, Contains, inl, inr, refl, sym, ap, ◌∙◌, subst, arith, length-append, eq-eqb, ne_eqb, slice_index, if◌then◌else◌, Some, None, All-contains, All-push, Contains-append_left, some, none, some-injective, dite, ℕ_discrete, get_elem?, at_longer, at_from, all_at, from_map, split_at}
use Rattle.segment_invariant.proofs.Prelude.Machine.{Dimensions, word_at, spec_ranges, Spec, Linear, Boolean, Custom, Sparse, name_words, Actor, Made, Sighting, Spent, is_bound, word_seen, is_opener, State, load_published, walking_event, next, sight}
use Rattle.segment_invariant.proofs.Prelude.Invariant.{Record, Sample, Body, histogram, sample, other, record_words, words_of, is_claimed, Piece, Listed, Anatomy, layout_of, order_of, Stands, HasRecord, HasSample, WasFixed, StandsAs, Invariant, IsLawfulRecord, IsPassedOver}
use Rattle.std.specs.Prelude as std
use Rattle.alloc_core.proofs.Layouts.{length_shown}
use Rattle.segment_machine.specs.declared.actor.Made.TheVariants as made
use Rattle.segment_machine.specs.Walking.{IsFixed, EndsWithin}
use Rattle.segment_invariant.specs.Body.{spec_field}
use Rattle.segment_invariant.specs.Seen.{IsFixedIn}
use Rattle.segment_invariant.proofs.Frames.LaidOut.{laid_out}
use Rattle.segment_invariant.proofs.Blocks.Places.{fixed_within}
use Rattle.segment_invariant.proofs.Blocks.Pieces.{piece_word, one_index, one_stands}
use Rattle.segment_invariant.proofs.Frames.OneActor.{Doing, turns_not, doing}
use Rattle.segment_invariant.proofs.Frames.GoesOn.{happens}
use Rattle.segment_invariant.proofs.Frames.GrowthOfActors.{SawMore}
use Rattle.segment_invariant.proofs.Frames.Standing.{grounds_itself, Follows, stands_on}
use Rattle.segment_invariant.proofs.Frames.GrowthOfStates.{known_record}
use Rattle.segment_invariant.proofs.Walking.Walks.{block_within, walking, looks_on}
use Rattle.segment_invariant.proofs.Frames.Shown.{Goes, loaded}
use Rattle.segment_invariant.proofs.Frames.PassedOver.{none_given}

-- ---- the words of a record

-- a record has its header and its fields, its name, its ranges and what follows them
pub record_long : (r : Record) → length (record_words r) ≡ 15 + (length r.letters + (length (spec_ranges r.spec) + length r.rest))
record_long r =
    let e = length-append (r.letters ++ spec_ranges r.spec) r.rest in
    let f = length-append r.letters (spec_ranges r.spec) in
    omega (arith, e, f)

-- of a custom spec the last number is one more than its ranges are
pub ranges_long : (s : Spec) → spec_field s 0 ≡ 3 → length (spec_ranges s) ≡ spec_field s 3 - 1
ranges_long (Linear min max n) kind = absurd (omega (arith, kind))
ranges_long Boolean kind = absurd (omega (arith, kind))
ranges_long (Custom values) kind = omega arith
ranges_long Sparse kind = absurd (omega (arith, kind))

-- ---- words that were seen

-- a word that was seen is among the sightings
pub word_contains : (list : List Sighting) (at word : ℕ) → word_seen list at ≡ Some word → Contains list (record { at = at; word = word })
word_contains [] at word is = absurd (cc is)
word_contains (s ∷ rest) at word is = dite (ℕ_discrete s.at at)
    (λ here.
    let now : Some s.word ≡ Some word = sym (ap (λ (b : Bool). if b then Some s.word else word_seen rest at) (eq-eqb s.at at here)) ∙ is in
    let same : s.word ≡ word = cc now in
    (0, omega arith, λ i. record { at = here i; word = same i }))
    (λ apart.
    let (k, lt, found) = word_contains rest at word (sym (ap (λ (b : Bool). if b then Some s.word else word_seen rest at) (ne_eqb s.at at apart)) ∙ is) in
    (suc k, omega (arith, lt), found))

-- one more sighting changes none of the words that were seen, and no other
pub word_still : (list : List Sighting) (at word : ℕ) (more : List Sighting) → word_seen list at ≡ Some word → word_seen (list ++ more) at ≡ Some word
word_still [] at word more is = absurd (cc is)
word_still (s ∷ rest) at word more is = dite (ℕ_discrete s.at at)
    (λ here.
    ap (λ (b : Bool). if b then Some s.word else word_seen (rest ++ more) at) (eq-eqb s.at at here)
    ∙ (sym (ap (λ (b : Bool). if b then Some s.word else word_seen rest at) (eq-eqb s.at at here)) ∙ is))
    (λ apart.
    ap (λ (b : Bool). if b then Some s.word else word_seen (rest ++ more) at) (ne_eqb s.at at apart)
    ∙ word_still rest at word more (sym (ap (λ (b : Bool). if b then Some s.word else word_seen rest at) (ne_eqb s.at at apart)) ∙ is))

word_else : (list : List Sighting) (at where_at found : ℕ) → where_at ≢ at → word_seen (list ++ sight where_at found) at ≡ word_seen list at
word_else [] at where_at found ne = ap (λ (b : Bool). if b then Some found else None) (ne_eqb where_at at ne)
word_else (s ∷ rest) at where_at found ne = ap (λ (o : std.Option ℕ). if s.at == at then Some s.word else o) (word_else rest at where_at found ne)

-- a counts reference is not among the words that are fixed for an actor
no_counts : (a : Actor) (at : ℕ) → IsFixed a at 8 → ⊥
no_counts a at (inl two) = omega (arith, two)
no_counts a at (inr (inl (tag, inl field))) = let below = field.1 in omega (arith, below)
no_counts a at (inr (inl (tag, inr (inl len)))) = omega (arith, len)
no_counts a at (inr (inl (tag, inr (inr (len, seen, from, within))))) = omega (arith, from)
no_counts a at (inr (inr (tag, least, most))) = omega (arith, most)

-- a word that was seen of a block is that of the block
module _ (shape : Dimensions) (opened : Anatomy) (state : State) (kept : Invariant shape opened state) where
  abbrev blocks : List Piece
  blocks = kept.anatomy.pieces

  pub seen_stays : (at j word : ℕ) (body : Body) → Stands blocks at none body → j < length (words_of body)
      → WasFixed blocks (record { at = at + j; word = word }) → slice_index (words_of body) j ≡ word
  seen_stays at j word body (k, there) lt (at', i, body', (k', there'), is, fixed, value) =
      let index = one_index shape state.words kept.anatomy kept.shown k k' _ _ j i there there' lt (fixed_within body' i fixed) is in
      let same = some-injective _ _ (sym there ∙ (ap (get_elem? blocks) index ∙ there')) in
      let place : at ≡ at' = ap (λ (p : Piece). p.at) same in
      let word_is : j ≡ i = omega (arith, place, is) in
      ap (λ (p : ℕ × Body). slice_index (words_of p.1) p.0) (λ i. (word_is i, (ap (λ (p : Piece). p.body) same) i)) ∙ value

  -- so of a word that an actor saw
  pub sighted : (id : ℕ) (a : Actor) → get_elem? state.actors id ≡ some a → a.hand.place ≢ Spent
      → (at j word : ℕ) (body : Body) → Stands blocks at none body → j < length (words_of body)
      → word_seen a.seen.words (at + j) ≡ Some word → slice_index (words_of body) j ≡ word
  sighted id a mine lives at j word body stands lt seen =
      seen_stays at j word body stands lt
      (All-contains (WasFixed blocks) a.seen.words _ (kept.each id a mine lives).sees.fixed (word_contains a.seen.words (at + j) word seen))

module _ (shape : Dimensions) (opened : Anatomy) (state : State) (kept : Invariant shape opened state) (id : ℕ) (a : Actor)
    (mine : get_elem? state.actors id ≡ some a) (records : is_opener a.role ≡ false) (unbound : is_bound a.hand.place ≡ false) where
  abbrev anatomy : Anatomy
  anatomy = kept.anatomy

  lives : a.hand.place ≢ Spent
  lives spent = cc (unbound, ap is_bound spent)

  seen_is : (at j word : ℕ) (body : Body) → Stands anatomy.pieces at none body → j < length (words_of body)
      → word_seen a.seen.words (at + j) ≡ Some word → slice_index (words_of body) j ≡ word
  seen_is = sighted shape opened state kept id a mine lives

  module _ (at index : ℕ) (body : Body) (stands : Stands anatomy.pieces at none body) (fixed : IsFixedIn body index) where
    found_is : word_at state.words (at + index) ≡ slice_index (words_of body) index
    found_is = piece_word shape state.words anatomy kept.shown stands.0 _ index stands.1 (fixed_within body index fixed)

    -- it is loaded
    reads : IsFixed a at index → is_claimed body ≡ true → EndsWithin a at index (slice_index (words_of body) index) → Goes shape opened state kept id a mine records (walking_event (load_published at index))
    reads known_fixed claimed ends =
        let found : ℕ = word_at state.words (at + index) in
        let s : Sighting = record { at = at + index; word = found } in
        let words : List Sighting = a.seen.words ++ sight (at + index) found in
        let fits = kept.each id a mine lives in
        let turns = turns_not a lives in
        let lt = fixed_within body index fixed in
        let size = length_shown shape state.words (layout_of anatomy) kept.shown in
        let (from, five, within) = block_within shape opened state kept at body stands claimed in
        let d : Doing = walking shape opened state kept id a mine records a.hand.place a.done.beaten a.hand.own a.seen.tails a.seen.chain a.seen.ends words in
        let follows : Follows a (doing a d) = record {
          saw = (refl, refl, refl, refl, refl);
          late = (refl, refl);
          names = λ known has. has;
          words = λ t has. Contains-append_left a.seen.words (sight (at + index) found) t has;
          seen = λ x word seen. word_still a.seen.words x word (sight (at + index) found) seen;
          chain = λ x has. has;
          own = λ block has. (block, has, refl, refl);
          spent = λ spent. absurd (lives (ap (λ (b : Actor). b.hand.place) spent));
        } in
        let more : SawMore a d = record {
          chain = λ x has. has;
          words = λ x word seen. word_still a.seen.words x word (sight (at + index) found) seen;
          counts = λ known word named seen.
              let (r, (k, there)) = known_record shape opened state kept id a mine lives known named in
              sym (word_else a.seen.words (known.reference + 8) (at + index) found (λ same.
              let one = one_index shape state.words anatomy kept.shown stands.0 k _ _ index 8 stands.1 there lt (omega arith) same in
              let place = ap (λ (p : Piece). p.at) (some-injective _ _ (sym stands.1 ∙ (ap (get_elem? anatomy.pieces) one ∙ there))) in
              let eight : index ≡ 8 = omega (arith, same, place) in
              no_counts a at (subst (IsFixed a at) eight known_fixed))) ∙ seen;
          loaded = turns.sums;
        } in
        happens opened.version state id a (walking_event (load_published at index)) (omega (arith, lt, size, within)) shape opened kept (
          loaded shape opened state kept id a mine records (at + index) (next a (walking_event (load_published at index)) found)
              (looks_on shape opened state kept id a mine records a.hand.place a.done.beaten a.seen.tails a.seen.chain a.seen.ends words turns more anatomy.tail state.words
              kept.shown kept.list.linked kept.list.tail (λ seen before. before) fits.ahead
              (stands_on shape anatomy anatomy id a (doing a d) (grounds_itself anatomy id) follows a.hand.place (kept.standing id a mine))
              fits.sees.walked fits.sees.tails
              (All-push (WasFixed anatomy.pieces) a.seen.words s fits.sees.fixed (at, index, body, stands, refl, fixed, sym found_is))),
          (
            subst (EndsWithin a at index) (sym found_is) ends,
            λ word seen. found_is ∙ seen_is at index word body stands lt seen,
          ),
        )

  -- of a histogram's record, or of a block that holds what one would
  module _ (at index : ℕ) (r : Record) (body : Body) (stands : Stands anatomy.pieces at none body) (claimed : is_claimed body ≡ true)
      (holds : record_words r ≡ words_of body) (lawful : IsLawfulRecord anatomy.version shape.page r) where
    -- what was seen of it
    says : (j word : ℕ) → j < length (record_words r) → word_seen a.seen.words (at + j) ≡ Some word → slice_index (record_words r) j ≡ word
    says j word below seen =
        let many = ap length holds in
        ap (λ (words : List ℕ). slice_index words j) holds ∙ seen_is at j word body stands (omega (arith, below, many)) seen

    letters : name_words (length r.name) ≡ length r.letters
    letters = letters_long r.name r.letters lawful.lettered

    name_is : (len : ℕ) → word_seen a.seen.words (at + 14) ≡ Some len → length r.name ≡ len
    name_is len seen = says 14 len (omega arith) seen

    -- its fixed words
    fixed_in : IsFixed a at index → IsFixedIn (histogram r) index
    fixed_in (inl two) = inl two
    fixed_in (inr (inl (tag, inl field))) = inr (inl field)
    fixed_in (inr (inl (tag, inr (inl fourteen)))) = inr (inr (inr (omega (arith, fourteen), omega (arith, fourteen))))
    fixed_in (inr (inl (tag, inr (inr (len, named, from, inl letter))))) =
        let long = record_long r in
        let many : name_words len ≡ length r.letters = ap name_words (sym (name_is len named)) ∙ letters in
        inr (inr (inr (omega (arith, from), omega (arith, letter, long, many))))
    fixed_in (inr (inl (tag, inr (inr (len, named, from, inr (n, kind, number, range)))))) =
        let long = record_long r in
        let many : name_words len ≡ length r.letters = ap name_words (sym (name_is len named)) ∙ letters in
        let n_is : spec_field r.spec 3 ≡ n = says 7 n (omega arith) number in
        let ranges = ranges_long r.spec (says 4 3 (omega arith) kind) in
        inr (inr (inr (omega (arith, from), omega (arith, range, long, many, n_is, ranges))))
    fixed_in (inr (inr (tag, least, most))) = let one : 1 ≡ 3 = says 2 3 (omega arith) tag in absurd (omega (arith, one))

    -- if they are fixed in the block they are read, all but the counts reference
    record_read : ((i : ℕ) → i ≢ 8 → IsFixedIn (histogram r) i → IsFixedIn body i) → IsFixed a at index
        → Goes shape opened state kept id a mine records (walking_event (load_published at index))
    record_read to fixed =
        let (from, five, within) = block_within shape opened state kept at body stands claimed in
        let whole = ap length holds in
        let long = record_long r in
        let sized = ap (λ (s : Dimensions). s.size) (kept.each id a mine lives).shaped in
        let in_words : IsFixedIn body index = to index (λ eight. no_counts a at (subst (IsFixed a at) eight fixed)) (fixed_in fixed) in
        reads at index body stands in_words fixed claimed (subst (λ (words : List ℕ). EndsWithin a at index (slice_index words index)) holds (
          λ two tag. omega (arith, within, long, sized, whole),
          λ two tag. let one : 1 ≡ 3 = ap (slice_index (record_words r)) (sym two) ∙ tag in omega (arith, one),
          λ fourteen.
              let len : slice_index (record_words r) index ≡ length r.name = ap (slice_index (record_words r)) fourteen in
              let many : name_words (slice_index (record_words r) index) ≡ length r.letters = ap name_words len ∙ letters in
              omega (arith, within, long, sized, many, whole),
          λ len seven custom named.
              let number : slice_index (record_words r) index ≡ spec_field r.spec 3 = ap (slice_index (record_words r)) seven in
              let many : name_words len ≡ length r.letters = ap name_words (sym (name_is len named)) ∙ letters in
              let ranges = ranges_long r.spec (says 4 3 (omega arith) custom) in
              omega (arith, within, long, sized, many, number, ranges, whole),
        ))

  -- of a record that is passed over
  passed_read : (front : List Listed) (at index : ℕ) (r : Record) → IsPassedOver anatomy.version shape.page anatomy.pieces front at r → IsFixed a at index
      → Goes shape opened state kept id a mine records (walking_event (load_published at index))
  passed_read front at index r over fixed =
      let (size, tag, next, payload, stands, holds) = over.stands in
      record_read at index r (other size tag next payload) stands refl holds over.lawful (fixed_still r size tag next payload holds) fixed
    where
      fixed_still : (r : Record) (size tag next : ℕ) (payload : List ℕ) → record_words r ≡ words_of (other size tag next payload)
          → (i : ℕ) → i ≢ 8 → IsFixedIn (histogram r) i → IsFixedIn (other size tag next payload) i
      fixed_still r size tag next payload holds i ne (inl two) = inl two
      fixed_still r size tag next payload holds i ne (inr (inl field)) =
          let many = ap length holds in let high = field.1 in inr (field.0, omega (arith, high, many))
      fixed_still r size tag next payload holds i ne (inr (inr (inl mounted))) = absurd (ne mounted.0)
      fixed_still r size tag next payload holds i ne (inr (inr (inr behind))) =
          let many = ap length holds in let low = behind.0 in let high = behind.1 in inr (omega (arith, low), omega (arith, high, many))

  -- of a sample
  sample_read : (at index : ℕ) (s : Sample) → HasSample anatomy.pieces at s → IsFixed a at index → Goes shape opened state kept id a mine records (walking_event (load_published at index))
  sample_read at index s stands fixed =
      let (from, five, within) = block_within shape opened state kept at (sample s) stands refl in
      let sized = ap (λ (s : Dimensions). s.size) (kept.each id a mine lives).shaped in
      let (in_words, few) = fixed_in fixed in
      reads at index (sample s) stands in_words fixed refl (
        λ two tag. let three : 3 ≡ 1 = ap (slice_index (words_of (sample s))) (sym two) ∙ tag in omega (arith, three),
        λ two tag. omega (arith, within, sized),
        λ fourteen. absurd (omega (arith, fourteen, few)),
        λ len seven. absurd (omega (arith, seven, few)),
      )
    where
      fixed_in : IsFixed a at index → IsFixedIn (sample s) index × (index < 6)
      fixed_in (inl two) = (inl two, omega (arith, two))
      fixed_in (inr (inl (tag, behind))) =
          let three : 3 ≡ 1 = seen_is at 2 1 (sample s) stands (omega arith) tag in absurd (omega (arith, three))
      fixed_in (inr (inr (tag, least, most))) = dite (ℕ_discrete index 4)
          (λ four. (inr (inl four), most))
          (λ ne. (inr (inr (inl (omega (arith, ne, least, most)))), most))

  -- of a record of another type
  other_read : (at index size tag behind : ℕ) (payload : List ℕ) → Stands anatomy.pieces at none (other size tag behind payload)
      → tag ≢ 1 → tag ≢ 3 → IsFixed a at index → Goes shape opened state kept id a mine records (walking_event (load_published at index))
  other_read at index size tag behind payload stands first third fixed =
      let two = fixed_in fixed in
      reads at index (other size tag behind payload) stands (inl two) fixed refl (
        λ is found. absurd (first (ap (slice_index (words_of (other size tag behind payload))) (sym two) ∙ found)),
        λ is found. absurd (third (ap (slice_index (words_of (other size tag behind payload))) (sym two) ∙ found)),
        λ fourteen. absurd (omega (arith, fourteen, two)),
        λ len seven. absurd (omega (arith, seven, two)),
      )
    where
      fixed_in : IsFixed a at index → index ≡ 2
      fixed_in (inl two) = two
      fixed_in (inr (inl (seen, more))) = absurd (first (seen_is at 2 1 (other size tag behind payload) stands (omega arith) seen))
      fixed_in (inr (inr (seen, least, most))) = absurd (third (seen_is at 2 3 (other size tag behind payload) stands (omega arith) seen))

  listed_read : (at index : ℕ) (front behind : List Listed) (l : Listed) (given : std.Option Made) → anatomy.records ≡ front ++ l ∷ behind → l.made ≡ given
      → l.reference ≡ at → StandsAs anatomy.pieces l given → IsFixed a at index → Goes shape opened state kept id a mine records (walking_event (load_published at index))
  listed_read at index front behind l (Some (made.Histogram name spec)) split given is (r, stands, named, same) fixed =
      let here : HasRecord anatomy.pieces at r = subst (λ (n : ℕ). HasRecord anatomy.pieces n r) is stands in
      record_read at index r (histogram r) here refl refl (kept.records.lawful at r here) (λ i ne in_words. in_words) fixed
  listed_read at index front behind l (Some (made.Sample of value)) split given is (s, stands, named, same) fixed =
      sample_read at index s (subst (λ (n : ℕ). HasSample anatomy.pieces n s) is stands) fixed
  listed_read at index front behind l None split given is (size, tag, next, payload, stands, third, long) fixed =
      let whole : anatomy.records ≡ front ++ record { reference = at; made = None } ∷ behind =
      split ∙ (λ i. front ++ record { reference = is i; made = given i } ∷ behind) in
      elim (none_given shape opened state.words (laid_out shape opened state kept) front behind at whole) [
        | inl (long_size, type, link, words, others, first) ↦
            let here : Stands anatomy.pieces at none (other size tag next payload) = subst (λ (n : ℕ). Stands anatomy.pieces n none (other size tag next payload)) is stands in
            let one : other size tag next payload ≡ other long_size type link words =
            (one_stands shape state.words anatomy kept.shown at none none (other size tag next payload) (other long_size type link words) here others).1 in
            let same : tag ≡ type = cc one in
            other_read at index size tag next payload here (λ histogram_type. first (sym same ∙ histogram_type)) third fixed
        | inr (r, over) ↦ passed_read front at index r over.0 fixed
      ]

  pub published_loaded : (at index : ℕ) → Contains a.seen.chain at → IsFixed a at index → Goes shape opened state kept id a mine records (walking_event (load_published at index))
  published_loaded at index has fixed =
      let (i, here) = at_from a.seen.chain at has in
      let (rest, is) = (kept.each id a mine lives).sees.walked in
      let there : get_elem? (order_of anatomy) i ≡ some at = subst (λ (l : List ℕ). get_elem? l i ≡ some at) (sym is) (at_longer a.seen.chain rest i at here) in
      let (l, listed, named) = from_map (λ (l : Listed). l.reference) anatomy.records i at there in
      let (front, behind, split, others) = split_at anatomy.records i l listed in
      listed_read at index front behind l l.made split refl named (all_at (λ l. StandsAs anatomy.pieces l l.made) anatomy.records i l kept.list.standing listed) fixed
