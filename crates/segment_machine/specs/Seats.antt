-- How recorders are made and joined, and how units are offered, lent and given back. This changes no word of a segment, and at most two
-- actors' records. In the running segment it loads a word outside the segment that never changes.
use Rattle.std.specs.Prelude.{◌≡◌, ◌≢◌, ℕ, ◌+◌, ◌-◌, ◌<◌, ◌≤◌, max, false, ◌||◌, nat_lt, if◌then◌else◌, List, [], ◌++◌, map, length, replicate, true}
use Rattle.segment_image.specs.declared.layout.TheConstants.{HEADER_WORDS}
use Rattle.segment_image.specs.Shape.{Dimensions}
use Rattle.segment_machine.specs.declared.place.Place.TheVariants.{Spent, Idle}
use Rattle.segment_machine.specs.declared.actor.Actor.{Actor}
use Rattle.segment_machine.specs.declared.seen.Seen.{Seen}
use Rattle.segment_machine.specs.declared.actor.Answered.{Answered}
use Rattle.segment_machine.specs.declared.actor.Moment.{Moment}
use Rattle.segment_machine.specs.declared.actor.Taken.{Taken}
use Rattle.segment_machine.specs.Actor.{log_of, is_bound, looking, is_opener, made_of, offered_of, outstanding_of}
use Rattle.segment_machine.specs.declared.actor.Role.TheVariants.{Opener, Recorder}

-- nothing that was seen
abbrev pub nothing_seen : Seen
nothing_seen = record { free = 0; corrupt = false; warned = 0; chain = []; ends = []; tails = []; singles = []; counts = []; words = []; cursors = [] }

-- an actor that has done nothing, and has seen this free pointer
abbrev pub idle : Dimensions → ℕ → ℕ → ℕ → ℕ → Actor
idle shape version cursors free share = record {
  segment = record { shape = shape; version = version; cursors = cursors };
  units = record { share = share; costs = []; held = [] };
  entries = record { first = []; first_noted = []; inherited = []; log = []; running = [] };
  hand = record { place = Idle; own = [] };
  done = record {
    claimed = [];
    raised = [];
    published = [];
    spoiled = false;
    filled = false;
    lacked = [];
    beaten = 0;
    lost = replicate cursors 0;
    given = [];
  };
  seen = record nothing_seen { free = free };
  since = record { singles = 0; counts = 0 };
  answers = record { names = []; owed = [] };
  deltas = record { first_taken = []; taken = []; taking = false; snapshots = [] };
  role = Recorder 0 0;
}

-- the opener of a new segment with `cursors` shared cursors, which has all units
abbrev pub opener_of : Dimensions → ℕ → ℕ → Actor
opener_of shape version cursors = record (idle shape version cursors HEADER_WORDS 4294967295) { role = Opener 0 0 0 }

-- ---- units are offered

-- an opener may say how many of its units it hands out next: to a recorder that it makes, or in a purse
abbrev pub MayOffer : Actor → ℕ → Type 0
MayOffer a units = (a.hand.place ≡ Idle) × (is_opener a.role ≡ true) × (units ≤ a.units.share)

-- the opener once it has said so
abbrev pub offering : Actor → ℕ → Actor
offering a units = record a { role = Opener (made_of a.role) (outstanding_of a.role) units }

-- ---- a recorder is made

-- an opener may make the recorder whose units it offered
abbrev pub MaySplit : Actor → Type 0
MaySplit a = (a.hand.place ≡ Idle) × (is_opener a.role ≡ true) × (offered_of a.role ≤ a.units.share) × (outstanding_of a.role < 256)

-- the opener after it made a recorder: it has handed out the units
abbrev pub parent : Actor → Actor
parent a = record a { units = record a.units { share = a.units.share - offered_of a.role }; role = Opener (made_of a.role + 1) (outstanding_of a.role + 1) 0 }

-- the recorder that was made: it has seen what its opener has seen, has done nothing, and knows no histogram
abbrev pub newcomer : Actor → Actor
newcomer a = looking (record (idle a.segment.shape a.segment.version a.segment.cursors a.seen.free (offered_of a.role)) {
  entries = record { first = []; first_noted = []; inherited = log_of a; log = []; running = [] };
  seen = a.seen;
  role = Recorder (made_of a.role) (outstanding_of a.role);
})

-- ---- units are lent and given back

-- An opener may lend a recorder more of its units, but none that it offers. In the stepped world, in which all actors draw on one pool, it
-- lends what a call costs, when the call begins.
abbrev pub MayLend : Actor → Actor → ℕ → Type 0
MayLend a b units = (is_opener a.role ≡ true) × (is_opener b.role ≡ false) × (b.hand.place ≢ Spent) × (units + offered_of a.role ≤ a.units.share)

-- An opener may take back units that a recorder still has, such as those that a call did not spend.
abbrev pub MayReturn : Actor → Actor → ℕ → Type 0
MayReturn a b units = (is_opener a.role ≡ true) × (is_opener b.role ≡ false) × (b.hand.place ≢ Spent) × (units ≤ b.units.share)

-- an opener that has lent units
abbrev pub giver : Actor → ℕ → Actor
giver a units = record a { units = record a.units { share = a.units.share - units } }

-- a recorder that was lent units
abbrev pub getter : Actor → ℕ → Actor
getter a units = record a { units = record a.units { share = a.units.share + units } }

-- ---- units go from an opener to a recorder in a purse

-- A purse is no recorder: it has units and nothing else. In the running segment no step acts for both an opener and a recorder, so units
-- are lent in two steps: the opener fills a purse, and the purse is poured out to the recorder.
abbrev pub purse : ℕ → Actor
purse units = record (idle (record { size = 0; page = 0 }) 0 0 0 units) { hand = record { place = Spent; own = [] } }

-- an opener may put the units that it offered into a purse, however many recorders are outstanding
abbrev pub MayFill : Actor → Type 0
MayFill a = (a.hand.place ≡ Idle) × (is_opener a.role ≡ true) × (offered_of a.role ≤ a.units.share)

-- the opener after it filled a purse: it no longer has the units, and offers none
abbrev pub lender : Actor → Actor
lender a = record a { units = record a.units { share = a.units.share - offered_of a.role }; role = Opener (made_of a.role) (outstanding_of a.role) 0 }

-- A purse may be poured out to a recorder that was not joined, wherever its call is. The recorder gets the units, and the purse is spent.
abbrev pub MayPour : Actor → Actor → Type 0
MayPour b c = (is_opener b.role ≡ false) × (b.hand.place ≢ Spent) × (c ≡ purse c.units.share)

-- ---- a recorder is joined

-- an opener may join a recorder, whose calls have all ended
abbrev pub MayJoin : Actor → Actor → Type 0
MayJoin a b = (a.hand.place ≡ Idle) × (is_opener a.role ≡ true) × (1 ≤ outstanding_of a.role) × (is_bound b.hand.place ≡ false)
    × (is_opener b.role ≡ false) × (b.units.held ≡ []) × (b.entries.running ≡ []) × (b.deltas.taking ≡ false) × (b.answers.owed ≡ [])

-- a moment of a recorder whose log is appended to one of `entries` entries
abbrev pub shifted : ℕ → Moment → Moment
shifted entries moment = record moment { log = entries + moment.log }

-- the same of what deltas took
abbrev pub shifted_taken : ℕ → List Taken → List Taken
shifted_taken entries list = map (λ (t : Taken). record t { moment = shifted entries t.moment }) list

-- the same of snapshots
abbrev pub shifted_answers : ℕ → List Answered → List Answered
shifted_answers entries list = map (λ (s : Answered). record s { moment = shifted entries s.moment }) list

-- the longer of two prefixes of one chain
abbrev pub longer : List ℕ → List ℕ → List ℕ
longer a b = if nat_lt (length a) (length b) then b else a

-- what both saw
abbrev pub both_seen : Seen → Seen → Seen
both_seen a b = record {
  free = max a.free b.free;
  corrupt = a.corrupt || b.corrupt;
  warned = a.warned + b.warned;
  chain = longer a.chain b.chain;
  ends = a.ends ++ b.ends;
  tails = a.tails ++ b.tails;
  singles = a.singles ++ b.singles;
  counts = a.counts ++ b.counts;
  words = a.words ++ b.words;
  cursors = a.cursors ++ b.cursors;
}

-- The opener after a join: it has what both had, with the recorder's log, deltas, snapshots and answers after its own, and the rest of the
-- recorder's share.
abbrev pub joined : Actor → Actor → Actor
joined a b = record a {
  units = record a.units { share = a.units.share + b.units.share; costs = a.units.costs ++ b.units.costs };
  entries = record a.entries { log = a.entries.log ++ b.entries.log };
  hand = record a.hand { own = a.hand.own ++ b.hand.own };
  done = record a.done {
    claimed = a.done.claimed ++ b.done.claimed;
    raised = a.done.raised ++ b.done.raised;
    published = a.done.published ++ b.done.published;
    spoiled = a.done.spoiled || b.done.spoiled;
    filled = a.done.filled || b.done.filled;
    lacked = a.done.lacked ++ b.done.lacked;
    given = a.done.given ++ b.done.given;
  };
  seen = both_seen a.seen b.seen;
  answers = record a.answers { names = a.answers.names ++ b.answers.names };
  deltas = record a.deltas {
    taken = a.deltas.taken ++ shifted_taken (length (log_of a)) b.deltas.taken;
    snapshots = a.deltas.snapshots ++ shifted_answers (length (log_of a)) b.deltas.snapshots;
  };
  role = Opener (made_of a.role) (outstanding_of a.role - 1) (offered_of a.role);
}

-- a recorder that was joined, or a purse that was poured out: it has no units either
abbrev pub spent : Actor
spent = purse 0
