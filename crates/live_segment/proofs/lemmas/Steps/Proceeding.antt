-- A call of a recorder continues, step by step.
use Rattle.std.proofs.Common.{ℕ, ◌+◌, ◌==◌, List, ◌++◌, refl, ap, ◌∙◌, arith}
use Rattle.segment_machine.specs.declared.actor.Actor.{Actor}
use Rattle.segment_machine.specs.declared.actor.Done.{Done}
use Rattle.segment_machine.specs.declared.seen.Seen.{Seen}
use Rattle.segment_machine.specs.declared.seen.Sighting.{Sighting}
use Rattle.segment_machine.specs.Calls.{ended}
use Rattle.segment_machine.specs.Walking.{extended}
use Rattle.segment_promises.specs.Onward.{DoesOn, Grows, SeesOn}
use Rattle.segment_promises.proofs.Growing.{ended_grows, extended_grows, grows_by, grows_not, grows_on}
use Rattle.live_segment.specs.Add.Progress.{FrameOfCall, LooksOn}

-- ---- what is done and seen

pub does_not : (a : Done) → DoesOn a a
does_not a = record { same = refl; claimed = grows_not a.claimed; raised = grows_not a.raised; published = grows_not a.published; filled = λ e. e; lacked = grows_not a.lacked; spoiled = λ e. refl }

-- what it has seen has grown
pub sees_lists : (a : Seen) {chain ends tails : List ℕ} {singles counts words cursors : List Sighting} → Grows a.chain chain → Grows a.ends ends
    → Grows a.tails tails → Grows a.singles singles → Grows a.counts counts → Grows a.words words → Grows a.cursors cursors
    → SeesOn a (record a { chain = chain; ends = ends; tails = tails; singles = singles; counts = counts; words = words; cursors = cursors })
sees_lists a chain ends tails singles counts words cursors = record {
  free = omega arith;
  corrupt = λ saw. saw;
  warned = omega arith;
  chain = chain;
  ends = ends;
  tails = tails;
  singles = singles;
  counts = counts;
  words = words;
  cursors = cursors;
}

module _ (a : Seen) where
  pub sees_not : SeesOn a a
  sees_not = sees_lists a (grows_not a.chain) (grows_not a.ends) (grows_not a.tails) (grows_not a.singles) (grows_not a.counts) (grows_not a.words) (grows_not a.cursors)

  pub sees_single : (more : List Sighting) → SeesOn a (record a { singles = a.singles ++ more })
  sees_single more =
      sees_lists a (grows_not a.chain) (grows_not a.ends) (grows_not a.tails) (grows_by a.singles more) (grows_not a.counts) (grows_not a.words) (grows_not a.cursors)

  pub sees_count : (more : List Sighting) → SeesOn a (record a { counts = a.counts ++ more })
  sees_count more =
      sees_lists a (grows_not a.chain) (grows_not a.ends) (grows_not a.tails) (grows_not a.singles) (grows_by a.counts more) (grows_not a.words) (grows_not a.cursors)

  pub sees_words : (more : List Sighting) → SeesOn a (record a { words = a.words ++ more })
  sees_words more =
      sees_lists a (grows_not a.chain) (grows_not a.ends) (grows_not a.tails) (grows_not a.singles) (grows_not a.counts) (grows_by a.words more) (grows_not a.cursors)

  -- the next of a record
  pub sees_next : (at found : ℕ) → SeesOn a (record a { chain = extended a.chain at found; ends = ended a.ends (at + 3) (found == 12) })
  sees_next at found =
      sees_lists a (extended_grows a.chain at found) (ended_grows a.ends (at + 3) (found == 12)) (grows_not a.tails) (grows_not a.singles) (grows_not a.counts)
      (grows_not a.words) (grows_not a.cursors)

  -- a search, and a publish
  pub sees_list : {chain ends : List ℕ} {words : List Sighting} → Grows a.chain chain → Grows a.ends ends → Grows a.words words
      → SeesOn a (record a { chain = chain; ends = ends; words = words })
  sees_list chain ends words = sees_lists a chain ends (grows_not a.tails) (grows_not a.singles) (grows_not a.counts) words (grows_not a.cursors)

  pub sees_tails : {tails : List ℕ} → Grows a.tails tails → SeesOn a (record a { tails = tails })
  sees_tails tails = sees_lists a (grows_not a.chain) (grows_not a.ends) tails (grows_not a.singles) (grows_not a.counts) (grows_not a.words) (grows_not a.cursors)

pub does_on : (a b c : Done) → DoesOn a b → DoesOn b c → DoesOn a c
does_on a b c first second = record {
  same = second.same ∙ ap (λ (d : Done). record d { claimed = c.claimed; raised = c.raised; published = c.published; filled = c.filled; lacked = c.lacked; beaten = c.beaten }) first.same;
  claimed = grows_on a.claimed b.claimed c.claimed first.claimed second.claimed;
  raised = grows_on a.raised b.raised c.raised first.raised second.raised;
  published = grows_on a.published b.published c.published first.published second.published;
  filled = λ e. second.filled (first.filled e);
  lacked = grows_on a.lacked b.lacked c.lacked first.lacked second.lacked;
  spoiled = λ e. second.spoiled (ap (λ (d : Done). d.spoiled) first.same ∙ e) ∙ first.spoiled e;
}

pub sees_on : (a b c : Seen) → SeesOn a b → SeesOn b c → SeesOn a c
sees_on a b c first second = record {
  free = let x = first.free in let y = second.free in omega (arith, x, y);
  corrupt = λ saw. second.corrupt (first.corrupt saw);
  warned = let x = first.warned in let y = second.warned in omega (arith, x, y);
  chain = grows_on a.chain b.chain c.chain first.chain second.chain;
  ends = grows_on a.ends b.ends c.ends first.ends second.ends;
  tails = grows_on a.tails b.tails c.tails first.tails second.tails;
  singles = grows_on a.singles b.singles c.singles first.singles second.singles;
  counts = grows_on a.counts b.counts c.counts first.counts second.counts;
  words = grows_on a.words b.words c.words first.words second.words;
  cursors = grows_on a.cursors b.cursors c.cursors first.cursors second.cursors;
}

-- ---- a call that continues

pub proceeds_on : (a b c : Actor) → FrameOfCall a b → FrameOfCall b c → FrameOfCall a c
proceeds_on a b c first second = record {
  same = second.same ∙ ap (λ (d : Actor). record d { units = c.units; entries = c.entries; hand = c.hand; done = c.done; seen = c.seen }) first.same;
  free = second.free;
  done = does_on a.done b.done c.done first.done second.done;
  seen = sees_on a.seen b.seen c.seen first.seen second.seen;
}

pub looks_on : (a b c : Actor) → LooksOn a b → LooksOn b c → LooksOn a c
looks_on a b c first second = record {
  proceeds = proceeds_on a b c first.proceeds second.proceeds;
  units = second.units ∙ first.units;
  entries = second.entries ∙ first.entries;
}
