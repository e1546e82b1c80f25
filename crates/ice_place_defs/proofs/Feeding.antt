-- What global buffers read, by their numbers.
use Rattle.std.proofs.Common.{◌≡◌, ℕ, zero, suc, ◌<◌, Bool, true, false, Option, Some, List, [], ◌∷◌, length, get_or, refl, arith}
use Rattle.std.specs.Prelude.{slice_get, slice_index_or}
use Rattle.ice_cells.specs.declared.root.Root.{Root}
use Rattle.ice_place_defs.specs.Loads.{fed_root, fed_roots}

pub fed_long : (direct : List Bool) (roots : List (Option Root)) → length (fed_roots direct roots) ≡ length roots
fed_long [] roots = refl
fed_long (b ∷ direct) [] = refl
fed_long (b ∷ direct) (root ∷ roots) = let rest = fed_long direct roots in omega (arith, rest)

-- by its place
pub fed_get : (direct : List Bool) (roots : List (Option Root)) (k : ℕ) (d e : Option Root) → k < length roots → fed_root (slice_index_or direct k false) (get_or roots k d) ≡ get_or (fed_roots direct roots) k e
fed_get direct [] k d e lt = absurd (omega (arith, lt))
fed_get [] (root ∷ roots) zero d e lt = refl
fed_get [] (root ∷ roots) (suc k) d e lt = fed_get [] roots k d e (omega (arith, lt))
fed_get (b ∷ direct) (root ∷ roots) zero d e lt = refl
fed_get (b ∷ direct) (root ∷ roots) (suc k) d e lt = fed_get direct roots k d e (omega (arith, lt))

-- a buffer that is not direct reads its root
pub fed_there : (direct : List Bool) (roots : List (Option Root)) (k : ℕ) (root : Option Root) → slice_index_or direct k false ≡ false → slice_get roots k ≡ Some root → slice_get (fed_roots direct roots) k ≡ Some root
fed_there direct [] k root not_direct at = absurd (cc)
fed_there [] (r ∷ roots) k root not_direct at = at
fed_there (true ∷ direct) (r ∷ roots) zero root not_direct at = absurd (cc)
fed_there (false ∷ direct) (r ∷ roots) zero root not_direct at = at
fed_there (b ∷ direct) (r ∷ roots) (suc k) root not_direct at = fed_there direct roots k root not_direct at

-- a buffer that reads a root in a tile is not direct
pub fed_back : (direct : List Bool) (roots : List (Option Root)) (k : ℕ) (root : Root) → slice_get (fed_roots direct roots) k ≡ Some (Some root)
    → (slice_index_or direct k false ≡ false) × (slice_get roots k ≡ Some (Some root))
fed_back [] roots k root at = (refl, at)
fed_back (b ∷ direct) [] k root at = absurd (cc)
fed_back (true ∷ direct) (r ∷ roots) zero root at = absurd (cc)
fed_back (false ∷ direct) (r ∷ roots) zero root at = (refl, at)
fed_back (b ∷ direct) (r ∷ roots) (suc k) root at = fed_back direct roots k root at
