-- What a `hist` leaves of its recorder: what it knew is still right, and what it has come to know is right.
use Rattle.std.proofs.Common.{◌≡◌, ◌≢◌, ℕ, zero, suc, ◌+◌, ◌<◌, ◌≤◌, Bool, true, false, List, [], ◌∷◌, ◌++◌, length, map, ◌==◌, if◌then◌else◌, eq-eqb, ne_eqb, All, ⊎_elim, refl, sym, ap, subst, ◌∙◌, arith, length-append}
use Rattle.std.specs.Prelude.{Some, None, ◌||◌, slice_index_or}
use Rattle.std.specs.List.{list_any}
use Rattle.std.proofs.lemmas.List.{length-map, map-append}
use Rattle.std.proofs.lemmas.List.Elements.{All-push}
use Rattle.std.proofs.lemmas.List.Folds.{list_any-append}
use mathlib.Core.Option.{some, some-injective, some-ne-none}
use lib.ListN.{get_elem?}
use Rattle.bucket_ranges.specs.declared.spec.Spec.{Spec}
use Rattle.bucket_ranges.specs.declared.spec.Spec.TheVariants as spec
use Rattle.bucket_ranges.specs.Ranges.{boundaries_of}
use Rattle.bucket_ranges.specs.Reading.{is_name}
use Rattle.bucket_ranges.specs.Spec.{SameSpec, spec_fault, spec_fields, spec_ranges}
use Rattle.segment_image.specs.Shape.{Dimensions}
use Rattle.segment_machine.specs.declared.actor.Actor.{Actor}
use Rattle.segment_machine.specs.declared.actor.Known.{Known}
use Rattle.segment_machine.specs.Actor.{is_bound, is_opener, known_at}
use Rattle.segment_invariant.proofs.Lists.Elements.{below_length, index_at, from_map}
use Rattle.segment_invariant.proofs.Walking.Words.{letters_long}
use Rattle.segment_promises.proofs.Adopting.Opened.Blocks.{test_there}
use Rattle.segment_calls.specs.declared.asked.Asked.{Asked}
use Rattle.segment_calls.specs.Asked.{IsAskedFor, IsTooLarge}
use Rattle.live_segment.specs.declared.recorder.KnownHistogram.{KnownHistogram}
use Rattle.live_segment.specs.declared.rule.Setting.{Setting}
use Rattle.live_segment.specs.Add.Sample.{block_words}
use Rattle.live_segment.specs.Hist.Answer.{IsKnownAt, KnowsNone, MayBeAsked, NoneHasName}
use Rattle.live_segment.specs.Known.{known_view, KnowsRight}
use Rattle.segment_promises.specs.Onward.{Grows, SeesOn, is_holding}
use Rattle.live_segment.specs.Rule.{IsOf}
use Rattle.live_segment.specs.Hist.Search.{asked_at}
use Rattle.live_segment.specs.Hist.Outcome.{ComesToKnow, IsKnownAs, LooksAround}
use Rattle.live_segment.specs.Steps.{IsAtRest}
use Rattle.live_segment.proofs.lemmas.Hist.KnownNames.{is_there}
use Rattle.live_segment.proofs.lemmas.Hist.SameLawful.{same_small}

-- ---- which it knows

-- what is in a list is in the mapped one
map_there : {A B : Type 0} (f : A → B) (l : List A) (i : ℕ) (x : A) → get_elem? l i ≡ some x → get_elem? (map f l) i ≡ some (f x)
map_there f [] i x e = absurd (some-ne-none x (sym e))
map_there f (y ∷ ys) zero x e = ap (λ z. some (f z)) (some-injective y x e)
map_there f (y ∷ ys) (suc i) x e = map_there f ys i x e

-- the view of a known histogram is among the views
pub view_there : (list : List KnownHistogram) (names : List Known) (i : ℕ) (known : KnownHistogram) → map known_view list ≡ names → get_elem? list i ≡ some known
    → get_elem? names i ≡ some (known_view known)
view_there list names i known listed at = subst (λ (l : List Known). get_elem? l i ≡ some (known_view known)) listed (map_there known_view list i known at)

-- the one that is read at a place where one of the name is
pub read_known : (list : List KnownHistogram) (names : List Known) (name : List ℕ) (n i : ℕ) (read : KnownHistogram) → map known_view list ≡ names → n ≡ length list
    → IsKnownAt list name i → read ≡ slice_index_or list i read → (get_elem? names i ≡ some (known_view read)) × (read.name.items ≡ name)
read_known list names name n i read listed count (known, at, named) is =
    let below = below_length list i known at in
    let there = is_there list n i read count (omega (arith, below, count)) is in
    (view_there list names i read listed there, ap (λ (k : KnownHistogram). k.name.items) (some-injective read known (sym there ∙ at)) ∙ named)

-- none of the name is known
pub none_known : (list : List KnownHistogram) (a : Actor) (name : List ℕ) → map known_view list ≡ a.answers.names → NoneHasName list name → KnowsNone name a
none_known list a name listed none index known (at, named) =
    let (x, there, is) = from_map known_view list index known (subst (λ (l : List Known). get_elem? l index ≡ some known) (sym listed) at) in
    none index x there (ap (λ (k : Known). k.name) is ∙ named)

-- there are as many views as known histograms
pub count_of : (list : List KnownHistogram) (names : List Known) (n : ℕ) → map known_view list ≡ names → n ≡ length list → n ≡ length names
count_of list names n listed count = count ∙ (sym (length-map list known_view) ∙ ap length listed)

-- what is asked for in the segment
pub asked_here : (setting : Setting) (a : Actor) {name : List ℕ} {kind : Spec} {asked : Asked} → IsOf setting a → IsAskedFor setting.shape name kind asked
    → IsAskedFor a.segment.shape name kind asked
asked_here setting a {name} {kind} {asked} of asks = subst (λ (d : Dimensions). IsAskedFor d name kind asked) (sym of.shape) asks

-- the words after the header of a record: eleven, and those of the name and of the ranges
pub payload_long : (s : Spec) (n : ℕ) (rest : List ℕ) → length (spec_fields s ++ 0 ∷ 0 ∷ 0 ∷ 0 ∷ 0 ∷ 0 ∷ n ∷ rest) ≡ 11 + length rest
payload_long (spec.Linear low high m) n rest = omega arith
payload_long spec.Boolean n rest = omega arith
payload_long (spec.Custom values) n rest = omega arith
payload_long spec.Sparse n rest = omega arith

-- what is asked for may be asked for
pub may_be_asked : (shape : Dimensions) (name : List ℕ) (kind : Spec) (asked : Asked) → IsAskedFor shape name kind asked → MayBeAsked shape name kind
may_be_asked shape name kind asked is =
    let letters = is.payload.letters in
    let all = ap length is.payload.words ∙ payload_long kind (length name) (letters ++ spec_ranges kind) in
    let both = length-append letters (spec_ranges kind) in
    let named = letters_long name letters is.payload.spells in
    let page = is.one_page in
    let fits = is.fits in (
      is.lawful_name,
      is.lawful_spec,
      λ large. ⊎_elim (λ more. omega (arith, more, all, both, named, page)) (λ more. omega (arith, more, fits)) large,
    )

-- what holds for the one that is read
pub right_read : (setting : Setting) (a : Actor) (list : List KnownHistogram) (name : List ℕ) (i : ℕ) (read : KnownHistogram) → All (KnowsRight setting a) list
    → IsKnownAt list name i → read ≡ slice_index_or list i read → KnowsRight setting a read
right_read setting a list name i read all (known, at, named) is = subst (KnowsRight setting a) (sym is) (all i read (below_length list i known at))

-- one that is known may be asked for by a valid spec that is the same
pub may_be_known : (setting : Setting) (a : Actor) (known : KnownHistogram) (name : List ℕ) (kind : Spec) → IsOf setting a → KnowsRight setting a known
    → known.name.items ≡ name → SameSpec known.spec kind → spec_fault kind ≡ None → MayBeAsked a.segment.shape name kind
may_be_known setting a known name kind of right named same lawful =
    subst (λ (d : Dimensions). MayBeAsked d name kind) (sym of.shape)
    (subst (λ (n : List ℕ). MayBeAsked setting.shape n kind) named
    (right.named, lawful, same_small setting.shape.page known.name.items known.spec kind same right.small))

-- ---- after a look around

module _ (a b : Actor) (looks : LooksAround a b) where
  pub names_still : b.answers.names ≡ a.answers.names
  names_still = ap (λ (x : Actor). x.answers.names) looks.same

  pub share_still : b.units.share ≡ a.units.share
  share_still = ap (λ (x : Actor). x.units.share) looks.same

  pub of_still : (setting : Setting) → IsOf setting a → IsOf setting b
  of_still setting of = record {
    shape = ap (λ (x : Actor). x.segment.shape) looks.same ∙ of.shape;
    version = ap (λ (x : Actor). x.segment.version) looks.same ∙ of.version;
    cursors = ap (λ (x : Actor). x.segment.cursors) looks.same ∙ of.cursors;
  }

  pub rests_still : IsAtRest a → b.answers.owed ≡ [] → IsAtRest b
  rests_still rests owes = record {
    recorder = ap (λ (x : Actor). is_opener x.role) looks.same ∙ rests.recorder;
    free = looks.free;
    holds = ap (λ (x : Actor). x.units.held) looks.same ∙ rests.holds;
    runs = ap (λ (x : Actor). x.entries.running) looks.same ∙ rests.runs;
    takes = ap (λ (x : Actor). x.deltas.taking) looks.same ∙ rests.takes;
    owes = owes;
    apart = looks.apart rests.apart;
  }

-- ---- what is known under a reference

-- what is found is found in a longer list, too
known_longer : (list more : List Known) (reference : ℕ) (k : Known) → known_at list reference ≡ Some k → known_at (list ++ more) reference ≡ Some k
known_longer [] more reference k is = absurd (cc is)
known_longer (x ∷ xs) more reference k is = either (x.reference == reference) refl (known_longer xs more reference k)
  where
    either : (b : Bool) → (x.reference == reference) ≡ b → (known_at xs reference ≡ Some k → known_at (xs ++ more) reference ≡ Some k)
        → known_at (x ∷ (xs ++ more)) reference ≡ Some k
    either true here later =
        ap (λ (b : Bool). if b then Some x else known_at (xs ++ more) reference) here
        ∙ (sym (ap (λ (b : Bool). if b then Some x else known_at xs reference) here) ∙ is)
    either false other later =
        ap (λ (b : Bool). if b then Some x else known_at (xs ++ more) reference) other
        ∙ later (sym (ap (λ (b : Bool). if b then Some x else known_at xs reference) other) ∙ is)

-- one whose reference no other has is found
known_last : (list : List Known) (k : Known) → ((i : ℕ) (x : Known) → get_elem? list i ≡ some x → x.reference ≢ k.reference)
    → known_at (list ++ k ∷ []) k.reference ≡ Some k
known_last [] k none = ap (λ (b : Bool). if b then Some k else None) (eq-eqb k.reference k.reference refl)
known_last (x ∷ xs) k none =
    ap (λ (b : Bool). if b then Some x else known_at (xs ++ k ∷ []) k.reference) (ne_eqb x.reference k.reference (none 0 x refl))
    ∙ known_last xs k (λ i. none (suc i))

-- ---- a block for its counts, or for a sample

-- fits in a page
fits_page : (shape : Dimensions) (name : List ℕ) (kind : Spec) (asked : Asked) → IsAskedFor shape name kind asked → (k : Known) → k.spec ≡ kind → block_words k ≤ shape.page
fits_page shape name (spec.Linear min max n) asked asks k is = subst (λ (s : Spec). block_words (record k { spec = s }) ≤ shape.page) (sym is) asks.fits
fits_page shape name spec.Boolean asked asks k is = subst (λ (s : Spec). block_words (record k { spec = s }) ≤ shape.page) (sym is) asks.fits
fits_page shape name (spec.Custom values) asked asks k is = subst (λ (s : Spec). block_words (record k { spec = s }) ≤ shape.page) (sym is) asks.fits
fits_page shape name spec.Sparse asked asks k is =
    let long = ap length asks.payload.words in
    let page = asks.one_page in
    subst (λ (s : Spec). block_words (record k { spec = s }) ≤ shape.page) (sym is) (omega (arith, long, page))

-- ---- once it has come to know one

pub last_there : (front : List Known) (x : Known) → get_elem? (front ++ x ∷ []) (length front) ≡ some x
last_there [] x = refl
last_there (y ∷ ys) x = last_there ys x

module _ (asked : Asked) (reference : ℕ) (a b : Actor) (comes : ComesToKnow asked reference a b) where
  pub names_grew : b.answers.names ≡ a.answers.names ++ asked_at asked reference ∷ []
  names_grew = ap (λ (x : Actor). x.answers.names) comes.view

  pub share_same : b.units.share ≡ a.units.share
  share_same = ap (λ (x : Actor). x.units.share) comes.view ∙ share_still a comes.last comes.looks

  pub seen_grew : SeesOn a.seen b.seen
  seen_grew = subst (SeesOn a.seen) (sym (ap (λ (x : Actor). x.seen) comes.view)) comes.looks.seen

  pub chain_grew : Grows a.seen.chain b.seen.chain
  chain_grew = subst (Grows a.seen.chain) (sym (ap (λ (x : Actor). x.seen.chain) comes.view)) comes.looks.seen.chain

  pub of_then : (setting : Setting) → IsOf setting a → IsOf setting b
  of_then setting of =
      let last = of_still a comes.last comes.looks setting of in record {
        shape = ap (λ (x : Actor). x.segment.shape) comes.view ∙ last.shape;
        version = ap (λ (x : Actor). x.segment.version) comes.view ∙ last.version;
        cursors = ap (λ (x : Actor). x.segment.cursors) comes.view ∙ last.cursors;
      }

  pub rests_then : IsAtRest a → IsAtRest b
  rests_then rests =
      let same = comes.looks.same in record {
        recorder = ap (λ (x : Actor). is_opener x.role) comes.view ∙ (ap (λ (x : Actor). is_opener x.role) same ∙ rests.recorder);
        free = ap (λ (x : Actor). is_bound x.hand.place) comes.view ∙ comes.looks.free;
        holds = ap (λ (x : Actor). x.units.held) comes.view ∙ (ap (λ (x : Actor). x.units.held) same ∙ rests.holds);
        runs = ap (λ (x : Actor). x.entries.running) comes.view ∙ (ap (λ (x : Actor). x.entries.running) same ∙ rests.runs);
        takes = ap (λ (x : Actor). x.deltas.taking) comes.view ∙ (ap (λ (x : Actor). x.deltas.taking) same ∙ rests.takes);
        owes = ap (λ (x : Actor). x.answers.owed) comes.view;
        apart = ap (λ (x : Actor). is_holding x.hand.place) comes.view ∙ comes.looks.apart rests.apart;
      }

  -- what it knew
  pub right_longer : (setting : Setting) (list : List KnownHistogram) → All (KnowsRight setting a) list → All (KnowsRight setting b) list
  right_longer setting list all k d low =
      let right = all k d low in
      let known = slice_index_or list k d in
      let (more, is) = chain_grew in record {
        named = right.named;
        lawful = right.lawful;
        small = right.small;
        ranges = right.ranges;
        alone =
            ap (λ (l : List Known). known_at l known.reference) names_grew
            ∙ known_longer a.answers.names (asked_at asked reference ∷ []) known.reference (known_view known) right.alone;
        met =
            ap (list_any (λ at. at == known.reference)) is
            ∙ (list_any-append (λ at. at == known.reference) a.seen.chain more
            ∙ ap (λ (t : Bool). t || list_any (λ at. at == known.reference) more) right.met);
        room = right.room;
        fits = right.fits;
      }

module _ (setting : Setting) (name : List ℕ) (kind : Spec) (asked : Asked) (known : KnownHistogram) (a b : Actor) (of : IsOf setting a)
    (asks : IsAskedFor setting.shape name kind asked) (none : KnowsNone name a) (is : IsKnownAs asked known) (comes : ComesToKnow asked known.reference a b) where
  specified : known.spec ≡ kind
  specified = ap (λ (k : Known). k.spec) is.view ∙ asks.specified

  called : known.name.items ≡ name
  called = ap (λ (k : Known). k.name) is.view ∙ asks.named

  -- no other has its reference
  other_place : (i : ℕ) (x : Known) → get_elem? a.answers.names i ≡ some x → x.reference ≢ known.reference
  other_place i x at same =
      let here : slice_index_or a.answers.names i x ≡ x = index_at a.answers.names i x x at in
      none i x (
        at,
        sym (ap (λ (k : Known). k.name) here)
            ∙ (comes.alone i x (below_length a.answers.names i x at) (ap (λ (k : Known). k.reference) here ∙ same) ∙ asks.named),
      )

  -- the one that it has come to know
  right_last : KnowsRight setting b known
  right_last = record {
    named = ap is_name called ∙ asks.lawful_name;
    lawful = ap spec_fault specified ∙ asks.lawful_spec;
    small = λ large. (may_be_asked setting.shape name kind asked asks).2
        (subst (λ (s : Spec). IsTooLarge setting.shape.page name s) specified (subst (λ (n : List ℕ). IsTooLarge setting.shape.page n known.spec) called large));
    ranges = is.ranges ∙ (asks.ranges ∙ ap boundaries_of (sym specified));
    alone =
        ap (λ (l : List Known). known_at l known.reference) (names_grew asked known.reference a b comes)
        ∙ (known_last a.answers.names (asked_at asked known.reference) other_place ∙ ap Some (sym is.view));
    met =
        ap (list_any (λ at. at == known.reference)) (ap (λ (x : Actor). x.seen.chain) comes.view)
        ∙ test_there comes.last.seen.chain known.reference comes.found.1;
    room = subst (λ (d : Dimensions). known.reference + 15 ≤ d.size) (of_still a comes.last comes.looks setting of).shape comes.found.2;
    fits = fits_page setting.shape name kind asked asks (known_view known) specified;
  }

  -- and all that it knows then
  pub right_then : (old new : List KnownHistogram) → new ≡ old ++ known ∷ [] → All (KnowsRight setting a) old → All (KnowsRight setting b) new
  right_then old new grew all =
      subst (All (KnowsRight setting b)) (sym grew)
      (All-push (KnowsRight setting b) old known (right_longer asked known.reference a b comes setting old all) right_last)

  -- as its view has it
  pub listed_then : (old new : List KnownHistogram) → new ≡ old ++ known ∷ [] → map known_view old ≡ a.answers.names → map known_view new ≡ b.answers.names
  listed_then old new grew listed =
      ap (map known_view) grew
      ∙ (map-append known_view old (known ∷ [])
      ∙ ((λ i. listed i ++ is.view i ∷ []) ∙ sym (names_grew asked known.reference a b comes)))

  -- it is at the end of them
  pub named_then : (n : ℕ) → n ≡ length a.answers.names
      → (n < length b.answers.names) × ((x : Known) × (get_elem? b.answers.names n ≡ some x) × (x.name ≡ name) × SameSpec x.spec kind)
  named_then n last =
      let grew = names_grew asked known.reference a b comes in
      let long = ap length grew ∙ length-append a.answers.names (asked_at asked known.reference ∷ []) in (
        omega (arith, last, long),
        (
          asked_at asked known.reference,
          subst (λ (l : List Known). get_elem? l n ≡ some (asked_at asked known.reference)) (sym grew)
              (subst (λ (m : ℕ). get_elem? (a.answers.names ++ asked_at asked known.reference ∷ []) m ≡ some (asked_at asked known.reference)) (sym last)
              (last_there a.answers.names (asked_at asked known.reference))),
          asks.named,
          (ap spec_fields asks.specified, ap spec_ranges asks.specified),
        ),
      )
