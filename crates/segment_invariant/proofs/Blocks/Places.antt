-- Words of a block that are distinguished by their places lie in it.
use Rattle.std.proofs.Common.{ℕ, ◌<◌, ◌++◌, length, inl, inr, arith, length-append}
use Rattle.segment_invariant.specs.Body.{Body, queue, plain, held, histogram, counts, sample, other, words_of}
use Rattle.segment_invariant.specs.Seen.{IsFixedIn, IsCounterIn}

-- a word that is fixed in a block is one of its words
pub fixed_within : (body : Body) (i : ℕ) → IsFixedIn body i → i < length (words_of body)
fixed_within (histogram r) i (inl e) = omega (arith, e)
fixed_within (histogram r) i (inr (inl between)) = let high = between.1 in omega (arith, high)
fixed_within (histogram r) i (inr (inr (inl mounted))) = let e = mounted.0 in omega (arith, e)
fixed_within (histogram r) i (inr (inr (inr behind))) = behind.1
fixed_within (sample s) i (inl e) = omega (arith, e)
fixed_within (sample s) i (inr (inl e)) = omega (arith, e)
fixed_within (sample s) i (inr (inr (inl e))) = omega (arith, e)
fixed_within (sample s) i (inr (inr (inr behind))) = behind.1
fixed_within (other size tag next payload) i (inl e) = omega (arith, e)
fixed_within (other size tag next payload) i (inr between) = let high = between.1 in omega (arith, high)
fixed_within (queue next) i e = absurd e
fixed_within (plain words) i e = absurd e
fixed_within (held block) i e = absurd e
fixed_within (counts block) i e = absurd e

-- a counter is a word of its block
pub counter_within : (body : Body) (i : ℕ) → IsCounterIn body i → i < length (words_of body)
counter_within (histogram r) i (inl is) = omega (arith, is)
counter_within (histogram r) i (inr is) = omega (arith, is)
counter_within (counts c) i (from, below) =
    let long = length-append c.units c.marks in
    let all = length-append (c.units ++ c.marks) c.rest in
    omega (arith, below, long, all)
counter_within (sample s) i (inl is) = omega (arith, is)
counter_within (sample s) i (inr is) = omega (arith, is)
counter_within (queue next) i is = absurd is
counter_within (plain words) i is = absurd is
counter_within (held block) i is = absurd is
counter_within (other size tag next payload) i is = absurd is
