-- The histograms that a recorder knows.
use Rattle.std.specs.Prelude.{◌≡◌, true, ◌+◌, ◌≤◌, ◌==◌, Some, None}
use Rattle.std.specs.List.{list_any}
use Rattle.segment_image.specs.declared.layout.TheConstants.{HISTOGRAM_NAME}
use Rattle.bucket_ranges.specs.Reading.{is_name}
use Rattle.bucket_ranges.specs.Spec.{spec_fault}
use Rattle.bucket_ranges.specs.Ranges.{boundaries_of}
use Rattle.segment_machine.specs.declared.actor.Actor.{Actor}
use Rattle.segment_machine.specs.declared.actor.Known.{Known}
use Rattle.segment_machine.specs.Actor.{known_at}
use Rattle.segment_calls.specs.Asked.{IsTooLarge}
use Rattle.live_segment.specs.declared.recorder.KnownHistogram.{KnownHistogram}
use Rattle.live_segment.specs.declared.rule.Setting.{Setting}
use Rattle.live_segment.specs.Add.Sample.{block_words}

-- a known histogram, as the recorder's view has it
abbrev pub known_view : KnownHistogram → Known
known_view known = record { name = known.name.items; spec = known.spec; reference = known.reference }

-- What holds for a histogram that a recorder knows: its name is valid, its spec has no fault, its record and its counts fit in a page, its
-- ranges are those of the spec, it alone has its reference among those that are known, its record was visited on the list and lies within
-- the segment, and a block for its units fits in a page.
pub record KnowsRight (setting : Setting) (a : Actor) (known : KnownHistogram) : Type 0 where
  pub named : is_name known.name.items ≡ true
  pub lawful : spec_fault known.spec ≡ None
  pub small : ¬ (IsTooLarge setting.shape.page known.name.items known.spec)
  pub ranges : known.ranges ≡ boundaries_of known.spec
  pub alone : known_at a.answers.names known.reference ≡ Some (known_view known)
  pub met : list_any (λ at. at == known.reference) a.seen.chain ≡ true
  pub room : known.reference + HISTOGRAM_NAME ≤ setting.shape.size
  pub fits : block_words (known_view known) ≤ setting.shape.page
