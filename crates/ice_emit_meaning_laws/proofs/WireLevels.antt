-- Levels go along rows that are on.
use Rattle.std.proofs.Common.{◌≡◌, ℕ, Bool, true, false, cond, Option, None, Some, List, [], ◌∷◌, refl, sym, ap, ◌∙◌, subst}
use Rattle.std.specs.Prelude.{◌&&◌}
use Rattle.ice_base.specs.declared.number.TileAt.{TileAt}
use Rattle.ice_base.specs.declared.number.WireNo.{WireNo}
use Rattle.ice_base_values.specs.Order.{Has}
use Rattle.ice_base_values.specs.Arriving.{HasValue, HaveValues}
use Rattle.ice_base_values.proofs.Arriving.{value_made}
use Rattle.ice_chip.specs.Database.{Parts}
use Rattle.ice_chip.specs.declared.rows.Pad.{Pad}
use Rattle.ice_bits.specs.Configuration.{Bits}
use Rattle.ice_net.specs.Meaning.{majority}
use Rattle.ice_decode.specs.declared.point.Point.{Point}
use Rattle.ice_decode.specs.declared.point.Point.TheVariants.{Wire, Carry}
use Rattle.ice_decode.specs.declared.role.Role.{Role}
use Rattle.ice_decode.specs.declared.role.Role.TheVariants.{Plain, CarryOut}
use Rattle.ice_decode.specs.declared.driver.Driver.{Driver}
use Rattle.ice_decode.specs.declared.driver.Driver.TheVariants.{Nothing, By}
use Rattle.ice_decode.specs.declared.driver.Switch.{Switch}
use Rattle.ice_decode.specs.Cells.{has_carry}
use Rattle.ice_decode.specs.Drivers.{driver, role_of}
use Rattle.ice_decode.specs.Meaning.{passes, driven_makes, makes_at, chip_system}
use Rattle.ice_decode.specs.Reads.{carry_inputs, driven_reads, reads_at, wire_point}
use Rattle.ice_emit_rows_laws.specs.Wanted.{IsWired}
use Rattle.ice_emit_defs.specs.Led.{LeadFrom, Here, ByRow}

module _ (parts : Parts) (bits : Bits) (extras : List (ℕ × ℕ × ℕ)) (bonded : List Pad) (levels kept : List Bool) where
  abbrev pub HasLevel : Point → Bool → Type 0
  HasLevel p x = HasValue (chip_system parts bits extras bonded levels kept) p x

  abbrev pub HaveLevels : List (Option Point) → List Bool → Type 0
  HaveLevels ps xs = HaveValues (chip_system parts bits extras bonded levels kept) false ps xs

  -- an input reads the level; one that has no wire reads 0
  abbrev pub Reads : Option Point → Bool → Type 0
  Reads None x = x ≡ false
  Reads (Some p) x = HasLevel p x

  pub put : (p : Option Point) (x : Bool) (ps : List (Option Point)) (xs : List Bool) → Reads p x → HaveLevels ps xs → HaveLevels (p ∷ ps) (x ∷ xs)
  put None x ps xs here rest = (here, rest)
  put (Some p) x ps xs here rest = (here, rest)

  -- what a wire makes, by its driver and its role
  pub wire_made : (w : ℕ) (d : Driver) (r : Role) (xs : List Bool) (x : Bool) → driver parts bits w ≡ d → role_of parts w ≡ r → HaveLevels (driven_reads parts bits extras r d) xs
      → driven_makes parts bits extras bonded levels kept r d xs ≡ x → HasLevel (wire_point w) x
  wire_made w d r xs x ed er all made =
      value_made (reads_at parts bits extras) false (makes_at parts bits extras bonded levels kept) (wire_point w) xs x
      (subst (λ (e : Driver). HaveLevels (driven_reads parts bits extras (role_of parts w) e) xs) (sym ed) (subst (λ (s : Role). HaveLevels (driven_reads parts bits extras s d) xs) (sym er) all))
      (ap (λ e. driven_makes parts bits extras bonded levels kept (role_of parts w) e xs) ed ∙ ap (λ s. driven_makes parts bits extras bonded levels kept s d xs) er ∙ made)

  -- what a carry makes, where it is enabled, and where it is not
  pub carry_made : (t : TileAt) (i : ℕ) (x y z m : Bool) → has_carry parts bits t i ≡ true → HaveLevels (carry_inputs parts t i) (x ∷ y ∷ z ∷ []) → majority x y z ≡ m → HasLevel (Carry t i) m
  carry_made t i x y z m on all made =
      value_made (reads_at parts bits extras) false (makes_at parts bits extras bonded levels kept) (Carry t i) (x ∷ y ∷ z ∷ []) m
      (subst (λ (ps : List (Option Point)). HaveLevels ps (x ∷ y ∷ z ∷ [])) (sym (ap (λ b. cond b (carry_inputs parts t i) []) on)) all) made

  pub carry_off : (t : TileAt) (i : ℕ) → has_carry parts bits t i ≡ false → HasLevel (Carry t i) false
  carry_off t i off =
      value_made (reads_at parts bits extras) false (makes_at parts bits extras bonded levels kept) (Carry t i) [] false
      (subst (λ (ps : List (Option Point)). HaveLevels ps []) (sym (ap (λ b. cond b (carry_inputs parts t i) []) off)) tt) refl

  -- the wire of a carry has its level
  pub carried : (w : ℕ) (t : TileAt) (i : ℕ) (x : Bool) → driver parts bits w ≡ Nothing → role_of parts w ≡ CarryOut t i → HasLevel (Carry t i) x → HasLevel (wire_point w) x
  carried w t i x bare is has = wire_made w Nothing (CarryOut t i) (x ∷ []) x bare is (has, tt) refl

  -- a wire that is nothing and has no driver is 0
  pub plain_low : (w : ℕ) → driver parts bits w ≡ Nothing → role_of parts w ≡ Plain → HasLevel (wire_point w) false
  plain_low w bare is = wire_made w Nothing Plain [] false bare is tt refl

  module _ (wanted : List Switch) (wired : IsWired parts bits wanted) (through : (s : Switch) → Has wanted s → passes parts bits s ≡ true) where
    pub row_level : (s : Switch) (x : Bool) → Has wanted s → HasLevel (Wire s.source) x → HasLevel (Wire s.target) x
    row_level s x has from = wire_made s.target.0 (By s) (role_of parts s.target.0) (x ∷ []) x (wired.entered s has) refl (from, tt) (ap (λ b. b && x) (through s has))

    pub led_level : (w v : WireNo) (x : Bool) → LeadFrom wanted w v → HasLevel (Wire v) x → HasLevel (Wire w) x
    led_level w v x (Here u) has = has
    led_level w v x (ByRow s u on rest) has = row_level s x on (led_level s.source v x rest has)
