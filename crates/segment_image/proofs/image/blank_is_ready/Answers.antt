use Rattle.std.proofs.Common.{◌≡◌, true, false, ◌&&◌, ◌==◌, ℕ, ◌-◌, ◌%◌, ◌≤◌, length, refl, sym, arith}
use Rattle.std.specs.Prelude.{nat_le, nat_lt}
use Rattle.std.proofs.lemmas.List.{length-replicate}
use Rattle.std.proofs.lemmas.Bool.{and_parts, leb-true, eq-eqb, le-ltb}
use Rattle.segment_image.specs.Image.{blank_words}
use Rattle.segment_image.proofs.image.blank_is_ready.Goals as goal

pub returns : goal.returns
returns c size page id paged sized =
    let parts = and_parts (nat_le page size && nat_le size 1048576) (size % page == 0) sized in
    let whole : page ≤ size = leb-true page size (and_parts (nat_le page size) (nat_le size 1048576) parts.0).0 in
    let few : 64 ≤ page = leb-true 64 page (and_parts (nat_le 64 page) (nat_le page 65536) (and_parts (nat_le 64 page && nat_le page 65536) (page % 16 == 0) paged).0).0 in
    let len : length (blank_words size page id) ≡ size = omega (arith, length-replicate {A = ℕ} (size - 16) 0) in
    let short : nat_lt (length (blank_words size page id)) 16 ≡ false = le-ltb (length (blank_words size page id)) 16 (omega (arith, len)) in
    let same : (size == length (blank_words size page id)) ≡ true = eq-eqb size (length (blank_words size page id)) (sym len) in
    let above : nat_lt size 16 ≡ false = le-ltb size 16 (omega arith) in
    rw (short, paged, same, sized, above) refl
