use Rattle.std.proofs.Common.{◌≡◌, ◌+◌, ℕ, length, take, refl, sym, ap, subst, ◌∙◌, arith}
use Rattle.std.specs.Prelude.{Some}
use Rattle.std.proofs.lemmas.List.{length-take-le}
use Rattle.segment_image.specs.Shape.{Dimensions}
use Rattle.segment_image.specs.Words.{bytes_of_words}
use Rattle.segment_image.proofs.ReadWords.{length-bytes_of_words}
use Rattle.segment_machine.specs.Actor.{word_seen}
use Rattle.bucket_ranges.specs.Reading.{name_words}
use Rattle.segment_promises.proofs.Growing.{still}
use Rattle.live_segment.proofs.lemmas.List.Keyed.{letter_fixed, words_of_bytes}
use Rattle.live_segment.proofs.lemmas.List.Showing.{sees_one, seen_one}
use Rattle.live_segment.proofs.segment.Segment.read_name.Goals as goal

pub returns-then-len-gt-MAX_NAME-clause-outcome : goal.returns-then-len-gt-MAX_NAME-clause-outcome
returns-then-len-gt-MAX_NAME-clause-outcome c = (
  c.load_published-len.result,
  seen_one _ _ c.args.at 14 c.load_published-len.result c.load_published-len.ensures,
  c.if-len-gt-MAX_NAME.true,
)

pub load_words-requires-clause-fixed : goal.load_words-requires-clause-fixed
load_words-requires-clause-fixed c = λ i below.
    let step = c.load_published-len.ensures in
    let words = c.div_ceil.ensures ∙ words_of_bytes c.load_published-len.result in
    letter_fixed c.load_published-len.new.seat.me.0 c.args.at c.load_published-len.result i
    (still _ _ (sees_one _ _ c.args.at 14 c.load_published-len.result step).words (c.args.at + 2) 1 c.requires.tag)
    (seen_one _ _ c.args.at 14 c.load_published-len.result step) (omega (arith, below, words))

pub returns-clause-outcome : goal.returns-clause-outcome
returns-clause-outcome c =
    let step = c.load_published-len.ensures in
    let len = c.load_published-len.result in
    let letters = c.in_ok-letters.letters.items in
    let words = c.load_words.new.seat.me.0.seen.words in
    let many : length letters ≡ name_words len = c.in_ok-letters.ensures.words.0 ∙ (c.div_ceil.ensures ∙ words_of_bytes len) in
    let name = c.truncate.ensures.items ∙ ap (take len) (c.in_ok-name.ensures ∙ ap bytes_of_words c.deref.ensures.value) in
    let bytes = length-bytes_of_words letters in
    let long : length c.truncate.new.self.items ≡ len = ap length name ∙ length-take-le len (bytes_of_words letters) (omega (arith, bytes, many)) in record {
      long = subst (λ (n : ℕ). word_seen words (c.args.at + 14) ≡ Some n) (sym long)
          (still _ _ c.in_ok-letters.ensures.read.view.words (c.args.at + 14) len (seen_one _ _ c.args.at 14 len step));
      letters = letters;
      whole = many ∙ ap name_words (sym long);
      words = c.in_ok-letters.ensures.words.1;
      bytes = name ∙ ap (λ (n : ℕ). take n (bytes_of_words letters)) (sym long);
    }

pub returns-clause-room : goal.returns-clause-room
returns-clause-room c =
    let len = c.load_published-len.result in
    let letters = c.in_ok-letters.letters.items in
    let many : length letters ≡ name_words len = c.in_ok-letters.ensures.words.0 ∙ (c.div_ceil.ensures ∙ words_of_bytes len) in
    let name = c.truncate.ensures.items ∙ ap (take len) (c.in_ok-name.ensures ∙ ap bytes_of_words c.deref.ensures.value) in
    let bytes = length-bytes_of_words letters in
    let long : length c.truncate.new.self.items ≡ len = ap length name ∙ length-take-le len (bytes_of_words letters) (omega (arith, bytes, many)) in
    let within = c.load_published-len.ensures.learned.0.2 refl in
    let size = ap (λ (d : Dimensions). d.size) c.requires.meets.seated.of.shape in
    omega (arith, within, size, long)
