-- The set's order finds a name by its key.
use Rattle.std.proofs.Common.{◌≡◌, All, ap, not, sym, subst, ◌∙◌, ◌||◌, drop, length}
use Rattle.std.specs.Str.{bytes_eq}
use Rattle.std.proofs.Math.Nat.{min_comm}
use Rattle.std.proofs.lemmas.List.{drop_min, take_rest}
use Rattle.std.proofs.lemmas.List.Elements.{recursion_from_All}
use Rattle.std.proofs.lemmas.Map.Views.{All-insert_key}
use Rattle.image_reader.specs.Names.{prefix_of, name_of_key, holds, IsKey}
use Rattle.image_reader.proofs.NameKeys.{name_of_key-is}
use Rattle.image_reader.proofs.NameSets.{by_key, is_named, is_named-insert, is_named-look_up}
use Rattle.image_reader.proofs.names.Names.insert.Goals as goal

behind : (c : goal.In_ok-insert) → c.in_ok-rest.rest.items ≡ drop 8 c.args.name.now
behind c =
    c.in_ok-rest.ensures.items
    ∙ (take_rest c.args.name.now c.min.result
    ∙ ap (λ n. drop n c.args.name.now) (c.min.ensures ∙ min_comm (length c.args.name.now) 8) ∙ drop_min 8 c.args.name.now)

same : (c : goal.In_ok-insert) → name_of_key (c.prefix.result, c.in_ok-rest.rest) ≡ c.args.name.now
same c = name_of_key-is c.prefix.result c.in_ok-rest.rest c.args.name.now c.requires.lawful c.prefix.ensures (behind c)

key : (c : goal.In_ok-insert) → IsKey (c.prefix.result, c.in_ok-rest.rest)
key c = (c.prefix.ensures ∙ ap prefix_of (sym (same c)), behind c ∙ ap (drop 8) (sym (same c)))

pub returns-clause-new : goal.returns-clause-new
returns-clause-new c =
    c.in_ok-insert.ensures.added
    ∙ ap not (is_named-look_up (c.prefix.result, c.in_ok-rest.rest) c.args.self.now.set.keys (key c)
    (recursion_from_All IsKey c.args.self.now.set.keys c.requires.keys)
    ∙ ap (holds c.args.self.now) (same c))

pub returns-clause-holds : goal.returns-clause-holds
returns-clause-holds c other =
    ap (λ keys. is_named keys other) c.in_ok-insert.ensures.keys
    ∙ (is_named-insert c.args.self.now.set.keys (c.prefix.result, c.in_ok-rest.rest) other
    ∙ ap (λ name. holds c.args.self.now other || bytes_eq other name) (same c))

pub returns-clause-keys : goal.returns-clause-keys
returns-clause-keys c =
    subst (All IsKey) (sym c.in_ok-insert.ensures.keys)
    (All-insert_key by_key (c.prefix.result, c.in_ok-rest.rest) IsKey c.args.self.now.set.keys c.requires.keys (key c))
