-- What is found is the item of the entry with the key.
use Rattle.std.proofs.Common.{◌≡◌, Option, Some, None, rules, tests, ap, ◌∙◌}
use Rattle.std.proofs.lemmas.{Iterator.YieldsList-from_slice, Iterator.Search.find_from_yields_List}
use Rattle.std.specs.{Str.bytes_eq, Option.MatchOption, Option.IsSomeAnd, Option.option_map, Option.option_copied}
use Rattle.std.specs.FinMap as finite_map
use denote.Bor.{Bor}
use Rattle.mc_model.proofs.Entries.{found_entry}
use Rattle.mc_model.proofs.cache.Cache.find.Goals as goal

-- a closure that borrows a part of what it is given
part_of : {X Y : Type 0} (Gives : Bor X → Bor Y → Type 0) (part : X → Y) (r : Option (Bor X)) (o : Option (Bor Y))
    → ((x : Bor X) (y : Bor Y) → Gives x y → y.now ≡ part x.now) → MatchOption r (o ≡ None) (λ x. IsSomeAnd o (Gives x))
    → option_copied o ≡ option_map part (option_map (λ x. x.now) r)
part_of Gives part None o is h = ap option_copied h
part_of Gives part (Some x) None is h = absurd h
part_of Gives part (Some x) (Some y) is h = ap Some (is x y h)

pub returns : goal.returns
returns c =
    let key = c.args.key.now in
    let entries = c.self.inside.entries.items in
    let found = found_entry key entries c.find.result
    (find_from_yields_List (λ e. bytes_eq e.0 key) _ _ c.find.result c.find.ensures.ran (YieldsList-from_slice entries cc)
    (λ x b q k. search (rules, tests))) in
    let item = part_of _ (λ e. e.1) c.find.result c.map.result (λ x y l. search (rules, tests)) c.map.ensures.cases in
    item ∙ found ∙ ap (λ m. finite_map.get m key) c.self.view_is
