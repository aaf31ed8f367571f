-- A name, from its key.
use Rattle.std.proofs.Common.{◌≡◌, true, ◌&&◌, not, ◌==◌, ◌<◌, ◌≤◌, ℕ, zero, suc, ◌+◌, ◌*◌, ◌^◌, List, [], ◌∷◌, ◌++◌, refl, ap, sym, ◌∙◌, take, drop, length, min, arith, length-take, Vec, Global}
use Rattle.std.specs.List.{list_all}
use Rattle.std.specs.Prelude.{nat_le, slice_index}
use Rattle.std.specs.Cmp.{first_so, second_so}
use Rattle.std.specs.Int.Digits.{digits_of, number_from_digits_after, AllBelowBase}
use Rattle.std.proofs.lemmas.Int.Digits.{digits_of_step}
use Rattle.std.proofs.lemmas.Bool.{leb-true}
use Rattle.std.proofs.lemmas.List.{take-append-drop, append-nil, append_assoc}
use Rattle.std.proofs.lemmas.Nat.{div-mul-add, mod-mul-add}
use Rattle.std.proofs.Math.Nat.{pow-suc}
use Rattle.byteorder.specs.Endian.{big_number}
use Rattle.byteorder.specs.Numbers.{big_from-cons, big_from-take}
use Rattle.bucket_ranges.specs.Reading.{is_name, is_name_byte}
use Rattle.image_reader.specs.Names.{prefix_of, name_of_key}

-- one more digit, of a number that is not 0
digits_more : (n d : ℕ) → d < 256 → 0 < n * 256 + d → digits_of 256 (n * 256 + d) ≡ digits_of 256 n ++ d ∷ []
digits_more n d below some =
    digits_of_step 256 (n * 256 + d) (omega arith) some
    ∙ λ i. digits_of 256 (div-mul-add n 256 d below i) ++ mod-mul-add n 256 d below i ∷ []

-- digits after a number that is not 0
digits_behind : (n : ℕ) (digits : List ℕ) → 0 < n → AllBelowBase 256 digits
    → digits_of 256 (number_from_digits_after 256 n digits) ≡ digits_of 256 n ++ digits
digits_behind n [] some below = sym (append-nil (digits_of 256 n))
digits_behind n (d ∷ ds) some below =
    digits_behind (n * 256 + d) ds (omega arith) below.1
    ∙ (ap (λ front. front ++ ds) (digits_more n d below.0 (omega arith)) ∙ append_assoc (digits_of 256 n) (d ∷ []) ds)

-- a byte of a name is neither 0 nor above 255
is_name_byte-within : (byte : ℕ) → is_name_byte byte ≡ true → (0 < byte) × (byte < 256)
is_name_byte-within byte lawful =
    let both = first_so (nat_le 0x21 byte && nat_le byte 0x7E) _ (first_so (nat_le 0x21 byte && nat_le byte 0x7E && not (byte == 0x2C)) _ lawful) in
    let least : 0x21 ≤ byte = leb-true _ _ (first_so (nat_le 0x21 byte) _ both) in
    let most : byte ≤ 0x7E = leb-true _ _ (second_so (nat_le 0x21 byte) _ both) in
    (omega arith, omega arith)

below_take : (k : ℕ) (bytes : List ℕ) → list_all is_name_byte bytes ≡ true → AllBelowBase 256 (take k bytes)
below_take zero bytes lawful = tt
below_take (suc k) [] lawful = tt
below_take (suc k) (x ∷ xs) lawful =
    ((is_name_byte-within x (first_so (is_name_byte x) _ lawful)).1, below_take k xs (second_so (is_name_byte x) _ lawful))

digits_of_prefix : (bytes : List ℕ) → list_all is_name_byte bytes ≡ true → digits_of 256 (prefix_of bytes) ≡ take 8 bytes
unfolding prefix_of
digits_of_prefix [] lawful = refl
digits_of_prefix (x ∷ xs) lawful =
    let first = is_name_byte-within x (first_so (is_name_byte x) _ lawful) in
    let below = below_take 7 xs (second_so (is_name_byte x) _ lawful) in
    digits_behind (0 * 256 + x) (take 7 xs) (omega arith) below
    ∙ ap (λ front. front ++ take 7 xs) (digits_more 0 x first.1 (omega arith))

-- the name of a key is the one that it was made from
pub name_of_key-is : (prefix : ℕ) (rest : Vec ℕ Global) (name : List ℕ) → is_name name ≡ true
    → prefix ≡ prefix_of name → rest.items ≡ drop 8 name → name_of_key (prefix, rest) ≡ name
unfolding name_of_key
name_of_key-is prefix rest name lawful p q =
    let bytes : list_all is_name_byte name ≡ true =
    second_so (nat_le 1 (length name) && nat_le (length name) 128 && not (slice_index name 0 == 0x21)) _ lawful in
    (λ i. digits_of 256 (p i) ++ q i)
    ∙ (ap (λ front. front ++ drop 8 name) (digits_of_prefix name bytes) ∙ take-append-drop 8 name)

-- digits after a number are read as bytes after it
digits_as_bytes : (n : ℕ) (bytes : List ℕ)
    → number_from_digits_after 256 n bytes ≡ n * 256 ^ length bytes + big_number (length bytes) bytes
digits_as_bytes n [] = omega arith
digits_as_bytes n (x ∷ xs) =
    let power : ℕ = 256 ^ length xs in
    let scaled : n * 256 ^ suc (length xs) ≡ n * (power * 256) = ap (λ p. n * p) (pow-suc 256 (length xs)) in
    omega (arith, digits_as_bytes (n * 256 + x) xs, scaled, big_from-cons 0 (length xs) x xs)

-- the prefix of a name is its first eight bytes, or all of a shorter one, read as a number
pub prefix_of-bytes : (name : List ℕ) → big_number (min (length name) 8) name ≡ prefix_of name
unfolding prefix_of
prefix_of-bytes name =
    let taken : length (take 8 name) ≡ min (length name) 8 = omega (arith, length-take 8 name) in
    let within : 0 + min (length name) 8 ≤ 8 = omega arith in
    let read : big_number (length (take 8 name)) (take 8 name) ≡ big_number (min (length name) 8) name =
    ap (λ n. big_number n (take 8 name)) taken ∙ big_from-take 0 (min (length name) 8) 8 name within in
    omega (arith, read, digits_as_bytes 0 (take 8 name))
