-- Words of a published block that never change.
use Rattle.segment_invariant.proofs.Prelude.Std.{◌≡◌, ◌⊎◌, ℕ, zero, suc, ◌+◌, ◌<◌, ◌≤◌, true, List, length, inl, inr, refl, sym, ap, ◌∙◌, subst, arith, slice_index, ⊤}
use Rattle.segment_invariant.proofs.Prelude.Machine.{word_at}
use Rattle.segment_invariant.proofs.Prelude.Invariant.{Record, Sample, Body, queue, plain, held, histogram, counts, sample, other, words_of, record_words, is_claimed}
use Rattle.segment_invariant.specs.Body.{sample_words}
use Rattle.segment_invariant.specs.Rises.{GoesAs}
use Rattle.look_promises.specs.Looks.{SeenAs, HasWords}

-- a block of a kind that can be on the list
abbrev pub IsOfList : Body → Type 0
IsOfList (histogram r) = ⊤
IsOfList (sample s) = ⊤
IsOfList (other size tag next payload) = ⊤
IsOfList _ = ⊥

pub list_claimed : (body : Body) → IsOfList body → is_claimed body ≡ true
list_claimed (histogram r) is = refl
list_claimed (sample s) is = refl
list_claimed (other size tag next payload) is = refl
list_claimed (queue next) is = absurd is
list_claimed (plain words) is = absurd is
list_claimed (held block) is = absurd is
list_claimed (counts c) is = absurd is

-- a word of it that never changes
abbrev pub IsUnchanging : Body → ℕ → Type 0
IsUnchanging (histogram r) i = (i < 3) ⊎ ((4 ≤ i) × (i < 8)) ⊎ (14 ≤ i)
IsUnchanging (sample s) i = (i < 3) ⊎ ((4 ≤ i) × (i < 6)) ⊎ (8 ≤ i)
IsUnchanging (other size tag next payload) i = (i < 3) ⊎ (4 ≤ i)
IsUnchanging _ i = ⊥

-- with other words that change, a record has the same others
pub record_but : (r q : Record) (i : ℕ) → IsUnchanging (histogram r) i
    → slice_index (record_words (record r { next = q.next; counts = q.counts; single = q.single; mark = q.mark; sum = q.sum; sum_mark = q.sum_mark; noted = q.noted })) i
    ≡ slice_index (record_words r) i
record_but r q zero is = refl
record_but r q (suc zero) is = refl
record_but r q (suc (suc zero)) is = refl
record_but r q (suc (suc (suc zero))) is = absurd (omega (arith, is))
record_but r q (suc (suc (suc (suc zero)))) is = refl
record_but r q (suc (suc (suc (suc (suc zero))))) is = refl
record_but r q (suc (suc (suc (suc (suc (suc zero)))))) is = refl
record_but r q (suc (suc (suc (suc (suc (suc (suc zero))))))) is = refl
record_but r q (suc (suc (suc (suc (suc (suc (suc (suc zero)))))))) is = absurd (omega (arith, is))
record_but r q (suc (suc (suc (suc (suc (suc (suc (suc (suc zero))))))))) is = absurd (omega (arith, is))
record_but r q (suc (suc (suc (suc (suc (suc (suc (suc (suc (suc zero)))))))))) is = absurd (omega (arith, is))
record_but r q (suc (suc (suc (suc (suc (suc (suc (suc (suc (suc (suc zero))))))))))) is = absurd (omega (arith, is))
record_but r q (suc (suc (suc (suc (suc (suc (suc (suc (suc (suc (suc (suc zero)))))))))))) is = absurd (omega (arith, is))
record_but r q (suc (suc (suc (suc (suc (suc (suc (suc (suc (suc (suc (suc (suc zero))))))))))))) is = absurd (omega (arith, is))
record_but r q (suc (suc (suc (suc (suc (suc (suc (suc (suc (suc (suc (suc (suc (suc i)))))))))))))) is = refl

-- the same of a sample
pub sample_but : (s t : Sample) (i : ℕ) → IsUnchanging (sample s) i
    → slice_index (sample_words (record s { next = t.next; units = t.units; mark = t.mark })) i ≡ slice_index (sample_words s) i
sample_but s t zero is = refl
sample_but s t (suc zero) is = refl
sample_but s t (suc (suc zero)) is = refl
sample_but s t (suc (suc (suc zero))) is = absurd (omega (arith, is))
sample_but s t (suc (suc (suc (suc zero)))) is = refl
sample_but s t (suc (suc (suc (suc (suc zero))))) is = refl
sample_but s t (suc (suc (suc (suc (suc (suc zero)))))) is = absurd (omega (arith, is))
sample_but s t (suc (suc (suc (suc (suc (suc (suc zero))))))) is = absurd (omega (arith, is))
sample_but s t (suc (suc (suc (suc (suc (suc (suc (suc i)))))))) is = refl

pub other_but : (size tag next n : ℕ) (payload : List ℕ) (i : ℕ) → IsUnchanging (other size tag next payload) i
    → slice_index (words_of (other size tag n payload)) i ≡ slice_index (words_of (other size tag next payload)) i
other_but size tag next n payload zero is = refl
other_but size tag next n payload (suc zero) is = refl
other_but size tag next n payload (suc (suc zero)) is = refl
other_but size tag next n payload (suc (suc (suc zero))) is = absurd (omega (arith, is))
other_but size tag next n payload (suc (suc (suc (suc i)))) is = refl

-- a block that continues has the same words, except for those that change, and is of the same kind
pub goes_unchanged : (version : ℕ) (x y : Body) (i : ℕ) → GoesAs version x y → IsUnchanging x i → slice_index (words_of y) i ≡ slice_index (words_of x) i
goes_unchanged version (histogram r) y i (s, is, goes) stays =
    ap (λ (b : Body). slice_index (words_of b) i) is ∙ (ap (λ (z : Record). slice_index (record_words z) i) goes.is ∙ record_but r s i stays)
goes_unchanged version (sample s) y i (t, is, goes) stays =
    ap (λ (b : Body). slice_index (words_of b) i) is ∙ (ap (λ (z : Sample). slice_index (sample_words z) i) goes.is ∙ sample_but s t i stays)
goes_unchanged version (other size tag next payload) y i (n, is) stays =
    ap (λ (b : Body). slice_index (words_of b) i) is ∙ other_but size tag next n payload i stays
goes_unchanged version (queue next) y i goes stays = absurd stays
goes_unchanged version (plain words) y i goes stays = absurd stays
goes_unchanged version (held block) y i goes stays = absurd stays
goes_unchanged version (counts c) y i goes stays = absurd stays

-- and the same words change
pub unchanging_from : (version : ℕ) (x y : Body) (i : ℕ) → IsOfList x → GoesAs version x y → IsUnchanging y i → IsUnchanging x i
unchanging_from version (histogram r) y i list (s, is, goes) = subst (λ (b : Body). IsUnchanging b i) is
unchanging_from version (sample s) y i list (t, is, goes) = subst (λ (b : Body). IsUnchanging b i) is
unchanging_from version (other size tag next payload) y i list (n, is) = subst (λ (b : Body). IsUnchanging b i) is
unchanging_from version (queue next) y i list goes = absurd list
unchanging_from version (plain words) y i list goes = absurd list
unchanging_from version (held block) y i list goes = absurd list
unchanging_from version (counts c) y i list goes = absurd list

-- and it has as many
pub list_long : (version : ℕ) (x y : Body) → IsOfList x → GoesAs version x y → length (words_of y) ≡ length (words_of x)
list_long version (histogram r) y list (s, is, goes) =
    ap (λ (b : Body). length (words_of b)) is ∙ ap (λ (z : Record). length (words_of (histogram z))) goes.is
list_long version (sample s) y list (t, is, goes) = ap (λ (b : Body). length (words_of b)) is ∙ ap (λ (z : Sample). length (words_of (sample z))) goes.is
list_long version (other size tag next payload) y list (n, is) = ap (λ (b : Body). length (words_of b)) is
list_long version (queue next) y list goes = absurd list
list_long version (plain words) y list goes = absurd list
list_long version (held block) y list goes = absurd list
list_long version (counts c) y list goes = absurd list

pub list_from : (version : ℕ) (x y : Body) → IsOfList x → GoesAs version x y → IsOfList y
list_from version (histogram r) y list (s, is, goes) = subst IsOfList (sym is) tt
list_from version (sample s) y list (t, is, goes) = subst IsOfList (sym is) tt
list_from version (other size tag next payload) y list (n, is) = subst IsOfList (sym is) tt
list_from version (queue next) y list goes = absurd list
list_from version (plain words) y list goes = absurd list
list_from version (held block) y list goes = absurd list
list_from version (counts c) y list goes = absurd list

-- ---- words that have a block

-- The record with the changing words that are found there.
module _ (words : List ℕ) (at : ℕ) where
  record_there : Record → Record
  record_there r = record r {
    next = word_at words (at + 3);
    counts = word_at words (at + 8);
    single = word_at words (at + 9);
    mark = word_at words (at + 10);
    sum = word_at words (at + 11);
    sum_mark = word_at words (at + 12);
    noted = word_at words (at + 13);
  }

  sample_there : Sample → Sample
  sample_there s = record s { next = word_at words (at + 3); units = word_at words (at + 6); mark = word_at words (at + 7) }

  record_seen : (r : Record) → ((i : ℕ) → IsUnchanging (histogram r) i → i < length (record_words r) → word_at words (at + i) ≡ slice_index (record_words r) i)
      → (i : ℕ) → i < length (record_words r) → word_at words (at + i) ≡ slice_index (record_words (record_there r)) i
  unfolding record_there
  record_seen r same zero lt = same 0 (inl (omega arith)) lt
  record_seen r same (suc zero) lt = same 1 (inl (omega arith)) lt
  record_seen r same (suc (suc zero)) lt = same 2 (inl (omega arith)) lt
  record_seen r same (suc (suc (suc zero))) lt = refl
  record_seen r same (suc (suc (suc (suc zero)))) lt = same 4 (inr (inl (omega arith))) lt
  record_seen r same (suc (suc (suc (suc (suc zero))))) lt = same 5 (inr (inl (omega arith))) lt
  record_seen r same (suc (suc (suc (suc (suc (suc zero)))))) lt = same 6 (inr (inl (omega arith))) lt
  record_seen r same (suc (suc (suc (suc (suc (suc (suc zero))))))) lt = same 7 (inr (inl (omega arith))) lt
  record_seen r same (suc (suc (suc (suc (suc (suc (suc (suc zero)))))))) lt = refl
  record_seen r same (suc (suc (suc (suc (suc (suc (suc (suc (suc zero))))))))) lt = refl
  record_seen r same (suc (suc (suc (suc (suc (suc (suc (suc (suc (suc zero)))))))))) lt = refl
  record_seen r same (suc (suc (suc (suc (suc (suc (suc (suc (suc (suc (suc zero))))))))))) lt = refl
  record_seen r same (suc (suc (suc (suc (suc (suc (suc (suc (suc (suc (suc (suc zero)))))))))))) lt = refl
  record_seen r same (suc (suc (suc (suc (suc (suc (suc (suc (suc (suc (suc (suc (suc zero))))))))))))) lt = refl
  record_seen r same (suc (suc (suc (suc (suc (suc (suc (suc (suc (suc (suc (suc (suc (suc i)))))))))))))) lt =
      same (suc (suc (suc (suc (suc (suc (suc (suc (suc (suc (suc (suc (suc (suc i)))))))))))))) (inr (inr (omega arith))) lt

  sample_seen : (s : Sample) → ((i : ℕ) → IsUnchanging (sample s) i → i < length (sample_words s) → word_at words (at + i) ≡ slice_index (sample_words s) i)
      → (i : ℕ) → i < length (sample_words s) → word_at words (at + i) ≡ slice_index (sample_words (sample_there s)) i
  unfolding sample_there
  sample_seen s same zero lt = same 0 (inl (omega arith)) lt
  sample_seen s same (suc zero) lt = same 1 (inl (omega arith)) lt
  sample_seen s same (suc (suc zero)) lt = same 2 (inl (omega arith)) lt
  sample_seen s same (suc (suc (suc zero))) lt = refl
  sample_seen s same (suc (suc (suc (suc zero)))) lt = same 4 (inr (inl (omega arith))) lt
  sample_seen s same (suc (suc (suc (suc (suc zero))))) lt = same 5 (inr (inl (omega arith))) lt
  sample_seen s same (suc (suc (suc (suc (suc (suc zero)))))) lt = refl
  sample_seen s same (suc (suc (suc (suc (suc (suc (suc zero))))))) lt = refl
  sample_seen s same (suc (suc (suc (suc (suc (suc (suc (suc i)))))))) lt =
      same (suc (suc (suc (suc (suc (suc (suc (suc i)))))))) (inr (inr (omega arith))) lt

  other_seen : (size tag next : ℕ) (payload : List ℕ)
      → ((i : ℕ) → IsUnchanging (other size tag next payload) i → i < length (words_of (other size tag next payload))
      → word_at words (at + i) ≡ slice_index (words_of (other size tag next payload)) i)
      → (i : ℕ) → i < length (words_of (other size tag next payload)) → word_at words (at + i) ≡ slice_index (words_of (other size tag (word_at words (at + 3)) payload)) i
  other_seen size tag next payload same zero lt = same 0 (inl (omega arith)) lt
  other_seen size tag next payload same (suc zero) lt = same 1 (inl (omega arith)) lt
  other_seen size tag next payload same (suc (suc zero)) lt = same 2 (inl (omega arith)) lt
  other_seen size tag next payload same (suc (suc (suc zero))) lt = refl
  other_seen size tag next payload same (suc (suc (suc (suc i)))) lt = same (suc (suc (suc (suc i)))) (inr (omega arith)) lt

  -- words that are those of a block, except for those that change, are those of a block as which it is seen
  pub seen_as : (body : Body) → IsOfList body
      → ((i : ℕ) → IsUnchanging body i → i < length (words_of body) → word_at words (at + i) ≡ slice_index (words_of body) i)
      → (seen : Body) × SeenAs body seen × HasWords words at seen
  unfolding record_there sample_there
  seen_as (histogram r) list same = (histogram (record_there r), (record_there r, refl, refl), record_seen r same)
  seen_as (sample s) list same = (sample (sample_there s), (sample_there s, refl, refl), sample_seen s same)
  seen_as (other size tag next payload) list same =
      (other size tag (word_at words (at + 3)) payload, (word_at words (at + 3), refl), other_seen size tag next payload same)
  seen_as (queue next) list same = absurd list
  seen_as (plain words) list same = absurd list
  seen_as (held block) list same = absurd list
  seen_as (counts c) list same = absurd list
