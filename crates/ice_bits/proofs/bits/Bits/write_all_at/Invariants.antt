use Rattle.std.proofs.Common.{◌≡◌, Some, drop}
use Rattle.ice_bits.specs.Rewriting.{with_places}
use Rattle.ice_bits.specs.TilePlaces.{place_in}
use Rattle.ice_bits.proofs.bits.Bits.write_all_at.Given as goal

abbrev pub invariant-loop-i : goal.invariant-loop-i
invariant-loop-i l = record {
  at : place_in l.tile l.self.tiles ≡ Some l.place;
  rest : with_places l.tile (drop l.i l.bits) (drop l.i l.values) l.self ≡ with_places l.tile l.bits l.values l.fn.self;
}
