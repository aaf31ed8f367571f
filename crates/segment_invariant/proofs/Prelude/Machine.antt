-- The words of the machine that most proofs about it take: images, specs, actors, places, events.
pub use Rattle.segment_image.specs.Blocks.{field_at, is_block}
pub use Rattle.segment_image.specs.Checks.{first_fault}
pub use Rattle.segment_image.specs.Head.{head_of}
pub use Rattle.segment_image.specs.Shape.{Dimensions}
pub use Rattle.segment_image.specs.Words.{word_at}
pub use Rattle.bucket_ranges.specs.Ranges.{boundaries_of}
pub use Rattle.bucket_ranges.specs.Reading.{Histogram, IsListed, Reading, is_of_type, is_sparse, mark_of, name_of, name_words, reading_along, record_buckets, record_fault, record_single, sample_value, spec_of, total_of}
pub use Rattle.bucket_ranges.specs.Single.{is_packed_bucket, is_packed_word, packed_bucket, single_of, units_packed}
pub use Rattle.bucket_ranges.specs.Spec.{SameSpec, buckets_of, spec_fault, spec_fields, spec_ranges}
pub use Rattle.bucket_ranges.specs.declared.single.SingleWord.{SingleWord}
pub use Rattle.bucket_ranges.specs.declared.single.SingleWord.TheVariants.{Disabled, Empty, Frozen, FrozenEmpty, Packed}
pub use Rattle.bucket_ranges.specs.declared.spec.Spec.{Spec}
pub use Rattle.bucket_ranges.specs.declared.spec.Spec.TheVariants.{Boolean, Custom, Linear, Sparse}
pub use Rattle.alloc_core.specs.Laws.{Behind}
pub use Rattle.alloc_core.specs.Layout.{IsShape, IsShown}
pub use Rattle.list_core.specs.Chain.{IsChain, IsLinked, IsStop, is_reference, stops}
pub use Rattle.list_core.specs.Walk.{IsPrefix}
pub use Rattle.segment_calls.specs.Form.{Leads, is_off, units_in}
pub use Rattle.segment_calls.specs.declared.refusal.Refusal.{Refusal}
pub use Rattle.segment_machine.specs.Actor.{Buckets, SawCount, accepted_by, all_counted, all_noted, all_published, all_summed, all_taken, bucket_key, cost_of, cost_total, counted_of, has_buckets, is_bound, is_opener, known_at, log_of, made_of, noted_of, offered_of, outstanding_of, portion_of, summed_of, taken_of, taken_sum, taken_units, units_listed, units_of, word_seen}
pub use Rattle.segment_machine.specs.Allocating.{exchange_free, load_flags, load_free, set_corrupt, set_full, store_cookie, store_payload, store_size, store_type}
pub use Rattle.segment_machine.specs.Calls.{MayTurn, back, change_last, look_of, sight, sight_counts}
pub use Rattle.segment_machine.specs.Counting.{add_count, add_sum, load_counts}
pub use Rattle.segment_machine.specs.Entry.{counted_among, fresh, has_ended, is_counted, is_noted, is_of, is_summed, key_of, noted_among, tally_noted, tally_sum, tally_units}
pub use Rattle.segment_machine.specs.Event.{Event, Learned, Ready, allocating_event, counting_event, next, packing_event, publishing_event, spot, taking_event, walking_event}
pub use Rattle.segment_machine.specs.Made.{AreNameWords, IsFirstSample, SawOther, SawSample}
pub use Rattle.segment_machine.specs.Note.{Note, Notes, SawBucket, begins, is_untouched, noted}
pub use Rattle.segment_machine.specs.Packing.{add_moved, after_disable, after_mount, after_pack, disable, load_single, mount_counts, pack, purge_block}
pub use Rattle.segment_machine.specs.Publishing.{after_link, link, load_tail, move_tail, store_own_next}
pub use Rattle.segment_machine.specs.Seats.{purse}
pub use Rattle.segment_machine.specs.State.{State}
pub use Rattle.segment_machine.specs.Taking.{load_count, load_redundant, load_sum, raise_mark, raise_single_mark, swap_sum_mark}
pub use Rattle.segment_machine.specs.Walking.{load_next, load_published}
pub use Rattle.segment_machine.specs.declared.actor.Actor.{Actor}
pub use Rattle.segment_machine.specs.declared.actor.Answered.{Answered}
pub use Rattle.segment_machine.specs.declared.actor.Claim.{Claim}
pub use Rattle.segment_machine.specs.declared.actor.Cost.{Cost}
pub use Rattle.segment_machine.specs.declared.actor.Given.{Given}
pub use Rattle.segment_machine.specs.declared.actor.Known.{Known}
pub use Rattle.segment_machine.specs.declared.actor.Made.{Made}
pub use Rattle.segment_machine.specs.declared.actor.Moment.{Moment}
pub use Rattle.segment_machine.specs.declared.actor.Own.{Own}
pub use Rattle.segment_machine.specs.declared.actor.Portion.{Portion}
pub use Rattle.segment_machine.specs.declared.actor.Published.{Published}
pub use Rattle.segment_machine.specs.declared.actor.Taken.{Taken}
pub use Rattle.segment_machine.specs.declared.entry.Entry.{Entry}
pub use Rattle.segment_machine.specs.declared.entry.EntryProgress.{EntryProgress}
pub use Rattle.segment_machine.specs.declared.place.Look.{Look}
pub use Rattle.segment_machine.specs.declared.place.Place.{Place}
pub use Rattle.segment_machine.specs.declared.place.Place.TheVariants.{CountLoaded, Idle, Looking, Moving, Spent, SumLoaded}
pub use Rattle.segment_machine.specs.declared.seen.Seen.{Seen}
pub use Rattle.segment_machine.specs.declared.seen.Sighting.{Sighting}
