use Rattle.std.proofs.Common.{◌≡◌, drop, map}
use Rattle.pb_poly.specs.Key.{key}
use Rattle.pb_export.proofs.ListedSetups.{Standing}
use Rattle.pb_export.proofs.setups.keyed_setups.Given as goal

abbrev pub invariant-loop-m : goal.invariant-loop-m
invariant-loop-m l = record {
  key_is : l.key ≡ key l.table l.setup;
  keys : l.keys.items ≡ map (key l.table) l.setups.items;
  standing : Standing l.game l.setups.items l.setup (drop l.m-index l.moves);
}
