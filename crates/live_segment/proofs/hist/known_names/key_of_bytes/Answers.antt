use Rattle.std.proofs.Common.{◌<◌, ℕ, length, arith, ap, sym, slice_index, ◌∙◌}
use Rattle.std.proofs.lemmas.List.{take_more}
use Rattle.std.specs.Prelude.{take}
use Rattle.list_index.specs.Keys.{byte_key_of, next_byte_key}
use Rattle.list_index.proofs.KeyOrder.{key_more}
use Rattle.live_segment.proofs.hist.known_names.key_of_bytes.Goals as goal

pub loop-byte-preserved : goal.loop-byte-preserved
loop-byte-preserved c =
    let bytes = c.args.name.now in
    let i = c.loop-byte.byte-index in
    let below : i < length bytes = omega (arith, c.loop-byte-test.true, c.loop-byte.auto.byte-index-end) in
    c.next_byte_key-key.ensures
    ∙ (ap (λ (k : ℕ). next_byte_key k (slice_index bytes i)) c.loop-byte.invariant
    ∙ (sym (key_more next_byte_key 0 (take i bytes) (slice_index bytes i)) ∙ ap byte_key_of (sym (take_more bytes i 0 below))))
