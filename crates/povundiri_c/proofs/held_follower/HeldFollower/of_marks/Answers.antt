use Rattle.std.proofs.Common.{◌≡◌, Some, ap, refl}
use Rattle.segment_image.specs.declared.head.SegmentHead.{SegmentHead}
use Rattle.povundiri_c.specs.Merging.{IsReadWithin}
use Rattle.povundiri_c.proofs.held_follower.HeldFollower.of_marks.Goals as goal

pub returns-in-Ok-of_marks : goal.returns-in-Ok-of_marks
returns-in-Ok-of_marks c =
    let read : IsReadWithin c.args.words.now c.args.most_keys c.in_ok-reading.reading = c.in_ok-reading.ensures in
    let same : c.in-Ok.head ≡ read.head = cc (c.header.ensures, c.in-Ok.is, read.head_is) in record {
      reading = c.in_ok-reading.reading;
      read = read;
      follows = ap (λ (head : SegmentHead). Some head) same;
      most_keys_are = refl;
      id = c.in-Ok-of_marks.ensures.segment;
      noted = c.in-Ok-of_marks.ensures.taken;
      order = c.in-Ok-of_marks.ensures.order;
    }
