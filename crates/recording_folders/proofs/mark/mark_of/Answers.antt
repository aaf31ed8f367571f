use Rattle.std.proofs.Common.{◌≡◌, ◌∙◌, ◌++◌, ap, arith}
use Rattle.segment_image.specs.Words.{words_in}
use Rattle.recording_folders.proofs.MarkBytes.{of_words}
use Rattle.recording_folders.proofs.mark.mark_of.Goals as goal

pub returns : goal.returns
returns c =
    record {
      mark = of_words c.args.bytes.now c.deref.result.now c.mark_in.result (omega (arith, c.if-bytes-ne-MARK_BYTES.false))
          (c.deref.ensures.value ∙ c.in_ok-push_words.ensures.words ∙ ap (λ s. s ++ words_in c.args.bytes.now) c.new-words.ensures.items) c.mark_in.ensures;
    }
