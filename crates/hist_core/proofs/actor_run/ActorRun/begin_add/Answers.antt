use Rattle.segment_invariant.proofs.Prelude.Std.{unsigned_abs, ◌≤◌, ◌*◌, [], ◌∷◌, ◌≡◌, refl, sym, ap, subst, ◌∙◌, ℤ, w32, w64, to_z, of_z, rules, to_z-of_z, some-injective}
use Rattle.segment_invariant.proofs.Prelude.Machine.{boundaries_of, key_of}
use Rattle.hist_core.specs.Add.{IsStarted}
use Rattle.bucket_ranges.specs.Tally.{amount_of}
use Rattle.hist_core.specs.declared.hist.KnownHist.{KnownHist}
use Rattle.hist_core.specs.ActorRun.{known_of}
use Rattle.hist_core.proofs.actor_run.ActorRun.begin_add.Goals as goal

pub returns-clause-begins : goal.returns-clause-begins
returns-clause-begins c = λ known at.
    let here = c.known_at-known.result.now in let value = c.args.value in let units = c.args.units in
    let same : here ≡ known = some-injective here known (sym c.known_at-known.ensures.at ∙ at) in
    let add = c.start-add.result in
    let amount_held : to_z w64 (of_z w64 c.amount_of-amount.result) ≡ c.amount_of-amount.result = search rules in
    let value_held : to_z w32 (of_z w32 value) ≡ value = to_z-of_z w32 value c.ranges.value in
    let ranges_are = (λ j. (same j).ranges) ∙ c.requires.ranges known at in
    let amount_is : to_z w64 (of_z w64 c.amount_of-amount.result) ≡ amount_of (boundaries_of known.spec) (value, units) =
    amount_held ∙ (c.amount_of-amount.ensures.amount ∙ (λ i. amount_of (ranges_are i) (value_held i, units))) in
    let started : IsStarted c.args.shape c.args.version (known_of known) value units (amount_of (boundaries_of known.spec) (value, units)) add =
    subst (λ (p : KnownHist × ℤ × ℤ). IsStarted c.args.shape c.args.version (known_of p.0) p.1 units p.2 add) (λ i. (same i, value_held i, amount_is i)) c.start-add.ensures in
    let key : c.key_of.result ≡ key_of (boundaries_of known.spec) add.value =
    c.key_of.ensures ∙ (λ i. key_of (ranges_are i) ((value_held ∙ sym started.counts) i)) in
    let key_held : to_z w32 (of_z w32 c.key_of.result) ≡ c.key_of.result = search rules in
    record {
      add = add;
      started = started;
      small = subst (λ n. unsigned_abs n ≤ 2147483648 * units) (sym (started.amounts ∙ sym amount_is ∙ amount_held)) c.amount_of-amount.ensures.small;
      begins = record {
        pending = c.in_ok-entry.entry ∷ [];
        pending_are = ap (λ e. e ∷ []) (c.in_ok-entry.ensures ∙ (λ i. record {
          name = (same i).name.items;
          key = (key_held ∙ key) i;
          units = sym started.holds i;
          amount = (amount_is ∙ sym started.amounts) i;
        }));
        entries_are = c.in_ok-push.ensures.items;
        is = refl;
      };
    }
