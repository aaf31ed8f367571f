-- What most proofs about the machine take of the standard library: equality, numbers, lists, and the lemmas on these.
pub use Rattle.std.proofs.Common.{All, Bool, Contains, List, None, Option, [], ap, append_assoc, arith, cond, drop, eq-eqb, false, fold, get_or, get_or-drop, inl, inr, length, length-append, length-set, map, max, not, of_z, pos, refl, replicate, rules, set, subst, subst₂, suc, sum_by, sym, take, to_z, true, true≢false, vec_len, w32, zero, ℕ, ℤ, ⊎_elim, ◌%◌, ◌&&◌, ◌*◌, ◌++◌, ◌+ℤ◌, ◌+◌, ◌-◌, ◌/◌, ◌<◌, ◌==◌, ◌^◌, ◌||◌, ◌∙◌, ◌∷◌, ◌≡◌, ◌≢◌, ◌≤◌, ◌⊎◌}
pub use Rattle.std.specs.Int.{cast_signed, cast_unsigned, w64}
pub use Rattle.std.specs.List.{AllByRecursion, filter, flat_map, range_with_len}
pub use Rattle.std.specs.Ordering.{int_eq}
pub use Rattle.std.specs.Prelude.{IsPermutation, Ok, Some, bit_and, if◌then◌else◌, nat_le, nat_lt, slice_index, slice_set, unsigned_abs, unwrap_or, vec_capacity, ⊤, ◌-ℤ◌}
pub use Rattle.std.specs.Str.{bytes_eq}
pub use Rattle.std.proofs.Math.IntN.{+ℤ_idl, +ℤ_idr}
pub use Rattle.std.proofs.Math.Logic.{∥∥₁_elim}
pub use Rattle.std.proofs.Math.Seq.{take-append_seam}
pub use Rattle.std.proofs.Props.{props}
pub use Rattle.std.proofs.lemmas.Bool.{and_from, and_parts, cases_order, eqb-false, eqb-true, le-leb, le-ltb, leb-true, lt-ltb, ltb-false, ltb-true, ne_eqb}
pub use Rattle.std.proofs.lemmas.Bool.Decides.{Decides-int_eq}
pub use Rattle.std.proofs.lemmas.Int.{to_z-of_z}
pub use Rattle.std.proofs.lemmas.List.{append-nil, drop-append-le, get_or-set_same, get_or_append_left, length-map, length-replicate, length_push, map-append, set-set, take-append-drop}
pub use Rattle.std.proofs.lemmas.List.Elements.{All-append, All-cons, All-contains, All-head, All-nil, All-push, All-tail, All-weaker, Contains-append_cases, Contains-append_left, Contains-append_right, Contains-push, filter-append}
pub use Rattle.std.proofs.lemmas.List.Sorted.{Contains-permutation, IsPermutation-refl}
pub use Rattle.std.proofs.lemmas.List.Sums.{sum_by-append, sum_by-cons}
pub use Rattle.std.proofs.lemmas.Slice.Eq.{bytes_eq-Decides}
pub use mathlib.Core.Logic.{dite}
pub use mathlib.Core.Option.{none, some, some-injective, some-ne-none}
pub use lib.ListN.{get_elem?}
pub use lib.Seq.{set-get_or}
pub use native.Mathlib.Decide.{ℕ_discrete}
pub use Rattle.atomic_table.proofs.Lists.{at_longer, at_map, at_set, set_else, set_here}
pub use Rattle.list_lemmas.proofs.Elements.{all_at, all_of, at_from, below_length, column, contains_at, contains_filter, from_map, index_at, none_at, none_in, one_in, row_in, rows, split_at, sum_at_least, sum_beside, sum_same}
pub use Rattle.list_lemmas.proofs.Firsts.{first_longer, split_among}
pub use Rattle.list_lemmas.proofs.Maps.{contains_map, contains_mapped}
pub use Rattle.list_lemmas.proofs.Sums.{IsTotal}
