use Rattle.segment_invariant.proofs.Prelude.Std.{◌≤◌, ◌+◌, ◌*◌, ℕ, List, [], refl, sym, ap, subst, ◌∙◌, arith}
use Rattle.segment_invariant.proofs.Prelude.Machine.{Spec, boundaries_of, spec_fault, buckets_of, is_reference, AreNameWords}
use Rattle.bucket_ranges.specs.Reading.{is_name}
use Rattle.segment_calls.specs.Asked.{payload_words}
use Rattle.hist_core.proofs.hist.Hist.start.Goals as goal

pub returns : goal.returns
returns c = record {
  named = refl;
  specified = refl;
  stands = λ name spec a asks lawful here may.
      let named = asks.named in let specified = asks.specified in
      record {
        asking = record {
          shaped = refl;
          name = ap is_name named ∙ asks.lawful_name;
          lawful = ap spec_fault specified ∙ asks.lawful_spec;
          ranges = asks.ranges ∙ ap boundaries_of (sym specified);
          fits = subst (λ (s : Spec). 4 + 2 * buckets_of s ≤ c.args.shape.page) (sym specified) asks.fits;
          one_page = asks.one_page;
          last = asks.last;
          letters = asks.payload.letters;
          spells = subst (λ (n : List ℕ). AreNameWords n asks.payload.letters) (sym named) asks.payload.spells;
          count = asks.payload.count_is;
          payload = asks.payload.words ∙ λ i. payload_words (sym named i) (sym specified i) asks.payload.letters;
        };
        segment = here;
        lawful_shape = lawful;
        given = [];
        walk = c.from_start.ensures;
        reach = ap (is_reference c.args.shape.size) c.from_start.ensures;
        front = (a.seen.chain, refl);
        stands = (may, λ k d inside. absurd (omega (arith, inside)));
      };
}
