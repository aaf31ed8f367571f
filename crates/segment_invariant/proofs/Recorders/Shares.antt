-- An actor whose share, whose offer, or whose recorders are other ones has seen and done what it had.
use Rattle.segment_invariant.proofs.Prelude.Std.{inl, inr, ⊎_elim, ap, ◌+◌, ◌≡◌, ℕ, List, false, true≢false, sym, ◌∙◌}
use Rattle.segment_invariant.proofs.Prelude.Machine.{Dimensions, Actor, is_opener, made_of, offered_of, outstanding_of, Known}
use Rattle.segment_invariant.proofs.Prelude.Invariant.{Anatomy, IsAlone, LooksBack, FinalsAreExact, Fits}
use Rattle.segment_invariant.specs.Invariant.{NoneInTransit}
use Rattle.segment_machine.specs.declared.actor.Role.TheVariants.{Opener}
use Rattle.segment_machine.specs.declared.actor.Role.{Role}
use Rattle.segment_invariant.proofs.Frames.Anew.{fits_anew}

-- with another share, another offer and other recorders
abbrev pub turned : Actor → (share offered made outstanding : ℕ) → Actor
turned a share offered made outstanding = record a { units = record a.units { share = share }; role = Opener made outstanding offered }

-- with another share and another role
abbrev pub sharing : Actor → ℕ → Role → Actor
sharing a share role = record a { units = record a.units { share = share }; role = role }

-- a role that differs in its offer alone, if it is an opener's
pub record OffersAnew (was now : Role) : Type 0 where
  pub opener : is_opener now ≡ is_opener was
  pub made : made_of now ≡ made_of was
  pub outstanding : outstanding_of now ≡ outstanding_of was
  pub recorder : is_opener was ≡ false → offered_of now ≡ offered_of was

-- so an actor still fits
module _ (shape : Dimensions) (anatomy : Anatomy) (cursors : List ℕ) (actors : List Actor) (opener : Actor) (id : ℕ) (a : Actor) (share : ℕ) (role : Role) (anew : OffersAnew a.role role) where
  alone : IsAlone actors (sharing a share role) → IsAlone actors a
  alone (first, stands, nobody, last) = (first, stands, sym anew.outstanding ∙ nobody, ap (λ (n : ℕ). n + 1) (sym anew.made) ∙ last)

  settled : (known : Known) (bucket : ℕ) → NoneInTransit anatomy actors (sharing a share role) known bucket → NoneInTransit anatomy actors a known bucket
  settled known bucket is = ⊎_elim (λ two. inl two) (λ rest. inr (⊎_elim (λ one. inl (alone one)) (λ packed. inr packed) rest)) is

  shared_looks : LooksBack anatomy actors opener a → LooksBack anatomy actors opener (sharing a share role)
  shared_looks looks = record {
    most = looks.most;
    packed = looks.packed;
    counted = λ known bucket count r has below stands there saw is. looks.counted known bucket count r has below stands there saw (settled known bucket is);
    samples = looks.samples;
    rising = looks.rising;
    leading = looks.leading;
    closed = looks.closed;
    begun = looks.begun;
    noted = looks.noted;
    sum = λ reference sum r loaded one. looks.sum reference sum r loaded (alone one);
  }

  shared_finals : FinalsAreExact actors opener id a → FinalsAreExact actors opener id (sharing a share role)
  shared_finals exact = record {
    deltas = exact.deltas;
    snapshots = exact.snapshots;
    each = exact.each;
    moments = λ m of. let is = exact.moments m of in record {
      logged = is.logged;
      before = is.before;
      mine = λ records. let (before, outstanding) = is.mine (sym anew.opener ∙ records) in (before ∙ sym anew.made, outstanding ∙ sym anew.outstanding);
      eldest = is.eldest;
    };
    swapped = λ before last taking is swapped one. exact.swapped before last taking is swapped (alone one);
  }

  pub shared_fits : Fits shape anatomy cursors actors opener id a → Fits shape anatomy cursors actors opener id (sharing a share role)
  shared_fits fit = fits_anew shape anatomy cursors actors actors opener opener id a share role fit
      (λ records. shared_looks (fit.looks (sym anew.opener ∙ records))) (shared_finals fit.finals) fit.snapshots

-- with other recorders, an opener that takes nothing still fits
module _ (shape : Dimensions) (anatomy : Anatomy) (cursors : List ℕ) (actors : List Actor) (opener : Actor) (id : ℕ) (a : Actor)
    (share offered made outstanding : ℕ) (rests : a.deltas.taking ≡ false) where
  opener_finals : FinalsAreExact actors opener id a → FinalsAreExact actors opener id (turned a share offered made outstanding)
  opener_finals exact = record {
    deltas = exact.deltas;
    snapshots = exact.snapshots;
    each = exact.each;
    moments = λ m of. let is = exact.moments m of in record {
      logged = is.logged;
      before = is.before;
      mine = λ records. absurd (true≢false records);
      eldest = is.eldest;
    };
    swapped = λ before last taking. absurd (true≢false (sym taking ∙ rests));
  }

  pub opener_fits : Fits shape anatomy cursors actors opener id a → Fits shape anatomy cursors actors opener id (turned a share offered made outstanding)
  opener_fits fit = fits_anew shape anatomy cursors actors actors opener opener id a share (Opener made outstanding offered) fit
      (λ records. absurd (true≢false records)) (opener_finals fit.finals) fit.snapshots
