use Rattle.std.proofs.Common.{rules}
use Rattle.std.proofs.lemmas.Fn.{dedup_same}
use Rattle.pb_export.proofs.SetupOrder.{from_old, kept, same, sorted_by, sorted_once}
use Rattle.pb_export.proofs.setups.put_in_order.Goals as goal

pub returns-clause-ordered : goal.returns-clause-ordered
returns-clause-ordered c =
    sorted_once c.args.setups.now.items c.sort_unstable_by.new.self.items c.dedup_by.new.self.items c.sort_unstable_by.ensures.permutation (dedup_same _ same _ (λ x y b f' x' y' k. search rules) _ _ c.dedup_by.ensures.filtered) (sorted_by c.sort_unstable_by.new.self.items c.sort_unstable_by.ensures.sorted (λ a r q k. search rules))

pub returns-clause-sound : goal.returns-clause-sound
returns-clause-sound c = from_old c.args.setups.now.items c.sort_unstable_by.new.self.items c.dedup_by.new.self.items c.sort_unstable_by.ensures.permutation (dedup_same _ same _ (λ x y b f' x' y' k. search rules) _ _ c.dedup_by.ensures.filtered)

pub returns-clause-whole : goal.returns-clause-whole
returns-clause-whole c = kept c.args.setups.now.items c.sort_unstable_by.new.self.items c.dedup_by.new.self.items c.sort_unstable_by.ensures.permutation (dedup_same _ same _ (λ x y b f' x' y' k. search rules) _ _ c.dedup_by.ensures.filtered)
