-- A tile that feeds a lower global.
use Rattle.std.proofs.Common.{◌≡◌, ◌≢◌, ℕ, zero, suc, ◌<◌, ◌==◌, Bool, true, false, Option, refl, sym, ap, ◌∙◌, arith, true≢false}
use Rattle.std.specs.Prelude.{◌||◌}
use Rattle.std.proofs.lemmas.Bool.{eqb-true, eq-eqb}
use Rattle.ice_base.proofs.Booleans.{or_true}
use Rattle.ice_base.specs.declared.number.TileAt.{TileAt}
use Rattle.ice_chip.specs.Database.{Parts}
use Rattle.ice_chip.specs.Lookups.{global_of}
use Rattle.ice_pads.specs.Globals.{is_same_tile, some_lower}

pub lower_same : (parts : Parts) (tile : Option TileAt) (n limit : ℕ) → n < limit → is_same_tile (global_of parts n) tile ≡ true → some_lower parts limit tile ≡ true
lower_same parts tile n zero lt e = absurd (omega arith)
lower_same parts tile n (suc limit) lt e = by (n == limit) refl (λ below. lower_same parts tile n limit below e)
  where
    by : (b : Bool) → (n == limit) ≡ b → (n < limit → some_lower parts limit tile ≡ true) → (some_lower parts limit tile || is_same_tile (global_of parts limit) tile) ≡ true
    by true is earlier =
        ap (λ m. some_lower parts limit tile || is_same_tile (global_of parts m) tile) (sym (eqb-true n limit is))
        ∙ ap (λ t. some_lower parts limit tile || t) e
        ∙ or_true (some_lower parts limit tile)
    by false is earlier =
        let apart : n ≢ limit = λ same. true≢false (sym (eq-eqb n limit same) ∙ is) in
        ap (λ b. b || is_same_tile (global_of parts limit) tile) (earlier (omega arith))
