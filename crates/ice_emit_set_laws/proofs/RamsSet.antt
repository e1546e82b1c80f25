-- The bits of a placed design set each block RAM as it is settled, and switch the others off.
use Rattle.std.proofs.Common.{◌≡◌, ℕ, zero, suc, ◌+◌, ◌*◌, ◌<◌, ◌≤◌, Bool, true, false, Option, None, Some, List, [], ◌∷◌, length, refl, ap, sym, ◌∙◌, subst, arith}
use Rattle.std.specs.Prelude.{◌&&◌, not, is_some, slice_get, if◌then◌else◌}
use Rattle.std.specs.Option.{option_and_then}
use Rattle.std.proofs.lemmas.Bool.{and_parts}
use Rattle.ice_base.specs.declared.number.TileAt.{TileAt}
use Rattle.ice_base.specs.declared.bit.BitAt.{BitAt}
use Rattle.ice_base_values.specs.Order.{At}
use Rattle.ice_base_values.proofs.Members.{At_within, Has_all}
use Rattle.ice_base_values.proofs.Places.{At_same}
use Rattle.ice_net.specs.Meaning.{table_bit}
use Rattle.ice_ram.specs.Ram.{Kept}
use Rattle.ice_ram.specs.declared.setup.Setup.{Setup}
use Rattle.ice_chip.specs.Database.{Parts, FunctionRow}
use Rattle.ice_chip.specs.FunctionNames.{power_up_function, ram_mode_function}
use Rattle.ice_chip.specs.Functions.{is_read}
use Rattle.ice_chip.specs.LacksFunction.{bits_needed}
use Rattle.ice_chip.specs.Lookups.{kind_at, function_of}
use Rattle.ice_chip.specs.Names.{falling_clock_function}
use Rattle.ice_chip.specs.declared.rows.TileKind.{TileKind}
use Rattle.ice_chip.specs.declared.rows.TileKind.TheVariants.{RamBottom, RamTop}
use Rattle.ice_chip_names.specs.declared.function_names.TileFunction.TheVariants.{FallingClock, PowerUp, RamMode}
use Rattle.ice_chip_rams.specs.Sites.{has_function, has_mode, sites}
use Rattle.ice_chip_rams.specs.declared.ram_site.RamSite.{RamSite}
use Rattle.ice_chip_sockets.proofs.SiteFacts.{IsSiteAt, site_facts, sites_once, uppers_once}
use Rattle.ice_bits.specs.Configuration.{Bits}
use Rattle.ice_bits.specs.Settings.{function_bit, set_at}
use Rattle.ice_decode.specs.Rams.{is_on}
use Rattle.ice_sim_chip_rams.specs.ClosedChips.{mode_at, setup_of}
use Rattle.ice_emit_rows_laws.specs.Settings.{function_bits}
use Rattle.ice_emit_rows_laws.specs.Wanted.{AreWanted, set_bits}
use Rattle.ice_emit_defs.specs.Functions.{setting}
use Rattle.ice_emit_defs.specs.Rams.{IsFormedRam, AreFormed, AreRamsSet}
use Rattle.ice_emit_set_laws.proofs.FunctionKinds.{own_name}
use Rattle.ice_emit_set_laws.proofs.RamSettings.{InUse, mode_digit_of, used_on, others_on, mode_on, read_edge_on, write_edge_on}
use Rattle.ice_emit_set_laws.proofs.SetAt.{set_true, set_false, set_as}
use Rattle.ice_emit_set_laws.proofs.Told.{Case, all, told_at, all_own, in_rams, falls_above, falls_below}

-- ---- the digits of a mode below four tell it
number_of_mode : (mode : ℕ) → mode < 4 → (if table_bit mode 0 then 1 else 0) + 2 * (if table_bit mode 1 then 1 else 0) ≡ mode
number_of_mode zero lt = refl
number_of_mode (suc zero) lt = refl
number_of_mode (suc (suc zero)) lt = refl
number_of_mode (suc (suc (suc zero))) lt = refl
number_of_mode (suc (suc (suc (suc n)))) lt = absurd (omega (arith, lt))

-- ---- the functions of block RAMs have a bit
record HasFour (parts : Parts) : Type 0 where
  none : has_mode parts 0 ≡ true
  one : has_mode parts 1 ≡ true
  two : has_mode parts 2 ≡ true
  three : has_mode parts 3 ≡ true

four_of : (parts : Parts) → (has_mode parts 0 && has_mode parts 1 && has_mode parts 2 && has_mode parts 3) ≡ true → HasFour parts
four_of parts e =
    let a = and_parts (has_mode parts 0 && has_mode parts 1 && has_mode parts 2) (has_mode parts 3) e in
    let b = and_parts (has_mode parts 0 && has_mode parts 1) (has_mode parts 2) a.0 in
    let c = and_parts (has_mode parts 0) (has_mode parts 1) b.0 in
    record { none = c.0; one = c.1; two = b.1; three = a.1 }

mode_of_four : (parts : Parts) → HasFour parts → (place : ℕ) → place < 4 → has_function parts RamTop (ram_mode_function place) ≡ true
mode_of_four parts four zero lt = four.none
mode_of_four parts four (suc zero) lt = four.one
mode_of_four parts four (suc (suc zero)) lt = four.two
mode_of_four parts four (suc (suc (suc zero))) lt = four.three
mode_of_four parts four (suc (suc (suc (suc n)))) lt = absurd (omega (arith, lt))

mode_read : (place : ℕ) → place < 4 → is_read RamTop (ram_mode_function place) ≡ true
mode_read zero lt = refl
mode_read (suc zero) lt = refl
mode_read (suc (suc zero)) lt = refl
mode_read (suc (suc (suc zero))) lt = refl
mode_read (suc (suc (suc (suc n)))) lt = absurd (omega (arith, lt))

mode_one : (place : ℕ) → place < 4 → bits_needed (ram_mode_function place) ≡ 1
mode_one zero lt = refl
mode_one (suc zero) lt = refl
mode_one (suc (suc zero)) lt = refl
mode_one (suc (suc (suc zero))) lt = refl
mode_one (suc (suc (suc (suc n)))) lt = absurd (omega (arith, lt))

module _ (z : Case) (are : AreWanted z.parts z.wanted) (formed : AreFormed z.rams) where
  abbrev bits : Bits
  bits = set_bits z.parts z.wanted (function_bits z.parts (all z))

  -- a function of one bit that the kind of the tile has, and that is read there, has its bit
  place_of : (t : TileAt) (kind : TileKind) (name : List ℕ) → kind_at z.parts t ≡ Some kind → has_function z.parts kind name ≡ true → is_read kind name ≡ true → bits_needed name ≡ 1
      → (b : BitAt) × (function_bit z.parts t name 0 ≡ Some b)
  place_of t kind name known has read one = by (function_of z.parts kind name) refl has
    where
      bit_of : (bits : List BitAt) → length bits ≡ 1 → (b : BitAt) × (slice_get bits 0 ≡ Some b)
      bit_of [] e = absurd (omega (arith, e))
      bit_of (b ∷ bits) e = (b, refl)

      by : (o : Option FunctionRow) → function_of z.parts kind name ≡ o → is_some o ≡ true → (b : BitAt) × (function_bit z.parts t name 0 ≡ Some b)
      by None is e = cc e
      by (Some f) is e =
          let there = bit_of f.bits (z.known.lawful.functions.sized t kind name f known read is ∙ one) in (
            there.0,
            ap (option_and_then (λ (k : TileKind). option_and_then (λ (row : FunctionRow). slice_get row.bits 0) (function_of z.parts k name))) known
                ∙ ap (option_and_then (λ (row : FunctionRow). slice_get row.bits 0)) is ∙ there.1,
          )

  -- ---- a site of the chip
  module _ (j : ℕ) (s : RamSite) (at : At (sites z.parts) j s) where
    facts : IsSiteAt z.parts s
    facts = site_facts z.parts j s at

    lower_has : (has_function z.parts RamBottom falling_clock_function ≡ true) × (has_function z.parts RamBottom power_up_function ≡ true)
    lower_has =
        let low = has_function z.parts RamBottom falling_clock_function in
        let power = has_function z.parts RamBottom power_up_function in
        let high = has_function z.parts RamTop falling_clock_function in
        let modes = has_mode z.parts 0 && has_mode z.parts 1 && has_mode z.parts 2 && has_mode z.parts 3 in
        let two = and_parts (low && power && high) modes facts.functions in
        and_parts low power (and_parts (low && power) high two.0).0

    upper_has : (has_function z.parts RamTop falling_clock_function ≡ true) × HasFour z.parts
    upper_has =
        let low = has_function z.parts RamBottom falling_clock_function in
        let power = has_function z.parts RamBottom power_up_function in
        let high = has_function z.parts RamTop falling_clock_function in
        let modes = has_mode z.parts 0 && has_mode z.parts 1 && has_mode z.parts 2 && has_mode z.parts 3 in
        let two = and_parts (low && power && high) modes facts.functions in
        ((and_parts (low && power) high two.0).1, four_of z.parts two.1)

    -- a block RAM stands there, or none
    pub is_used : (ram : Setup × Kept) → At z.rams j ram → is_on z.parts bits s ≡ true
    is_used ram ram_is =
        ap not
        (set_false z.parts z.known.chip z.known.lawful (all z) (all_own z) z.wanted are s.lower power_up_function 0 (own_name z.parts s.lower PowerUp (λ e io. cc e))
        (λ has.
        let other = told_at z s.lower 0 PowerUp tt has in
        let same : j ≡ other.1.number = sites_once z.parts z.known.chip.read j other.1.number s other.0 at other.1.site_is other.2 in
        let lt = At_within z.rams j ram ram_is in
        let le = other.1.behind in
        omega (arith, same, lt, le)))

    pub is_unused : length z.rams ≤ j → is_on z.parts bits s ≡ false
    is_unused le =
        let place = place_of s.lower RamBottom power_up_function facts.lower lower_has.1 refl refl in
        ap not
        (set_true z.parts z.known.chip z.known.lawful (all z) (all_own z) z.wanted are s.lower power_up_function 0 place.0 (own_name z.parts s.lower PowerUp (λ e io. cc e)) place.1
        (in_rams z (setting s.lower power_up_function 0) (others_on (sites z.parts) z.rams j s at le)))

    -- ---- a site in use
    module _ (ram : Setup × Kept) (ram_is : At z.rams j ram) where
      abbrev here : InUse (sites z.parts) z.rams
      here = record { number = j; site = s; ram = ram; site_is = at; ram_is = ram_is }

      -- a site in use with the same tile has the same block RAM
      same_above : (used : InUse (sites z.parts) z.rams) → s.upper ≡ used.site.upper → used.ram ≡ ram
      same_above used e =
          let same : j ≡ used.number = uppers_once z.parts z.known.chip.read j used.number s used.site at used.site_is e in
          At_same z.rams used.number used.ram ram used.ram_is (subst (λ n. At z.rams n ram) same ram_is)

      same_below : (used : InUse (sites z.parts) z.rams) → s.lower ≡ used.site.lower → used.ram ≡ ram
      same_below used e =
          let same : j ≡ used.number = sites_once z.parts z.known.chip.read j used.number s used.site at used.site_is e in
          At_same z.rams used.number used.ram ram used.ram_is (subst (λ n. At z.rams n ram) same ram_is)

      digit_is : (place : ℕ) → place < 4 → set_at z.parts bits s.upper (ram_mode_function place) 0 ≡ mode_digit_of ram.0 place
      digit_is place lt =
          let there = place_of s.upper RamTop (ram_mode_function place) facts.upper (mode_of_four z.parts upper_has.1 place lt) (mode_read place lt) (mode_one place lt) in
          set_as z.parts z.known.chip z.known.lawful (all z) (all_own z) z.wanted are (mode_digit_of ram.0 place) s.upper (ram_mode_function place) 0 there.0 (own_name z.parts s.upper (RamMode place) (λ e io. cc e)) there.1
          (λ set. in_rams z (setting s.upper (ram_mode_function place) 0) (used_on (sites z.parts) z.rams here (setting s.upper (ram_mode_function place) 0) (mode_on s ram.0 place lt set)))
          (λ has.
          let other = told_at z s.upper 0 (RamMode place) lt has in
          ap (λ (r : Setup × Kept). mode_digit_of r.0 place) (sym (same_above other.0 other.1)) ∙ other.2)

      read_edge : set_at z.parts bits s.upper falling_clock_function 0 ≡ ram.0.read_falls
      read_edge =
          let there = place_of s.upper RamTop falling_clock_function facts.upper upper_has.0 refl refl in
          set_as z.parts z.known.chip z.known.lawful (all z) (all_own z) z.wanted are ram.0.read_falls s.upper falling_clock_function 0 there.0 (own_name z.parts s.upper FallingClock (λ e io. cc (facts.upper, io))) there.1
          (λ falls. in_rams z (setting s.upper falling_clock_function 0) (used_on (sites z.parts) z.rams here (setting s.upper falling_clock_function 0) (read_edge_on s ram.0 falls)))
          (λ has.
          let other = falls_above z s.upper facts.upper (told_at z s.upper 0 FallingClock tt has) in
          ap (λ (r : Setup × Kept). r.0.read_falls) (sym (same_above other.0 other.1)) ∙ other.2)

      write_edge : set_at z.parts bits s.lower falling_clock_function 0 ≡ ram.0.write_falls
      write_edge =
          let there = place_of s.lower RamBottom falling_clock_function facts.lower lower_has.0 refl refl in
          set_as z.parts z.known.chip z.known.lawful (all z) (all_own z) z.wanted are ram.0.write_falls s.lower falling_clock_function 0 there.0 (own_name z.parts s.lower FallingClock (λ e io. cc (facts.lower, io))) there.1
          (λ falls. in_rams z (setting s.lower falling_clock_function 0) (used_on (sites z.parts) z.rams here (setting s.lower falling_clock_function 0) (write_edge_on s ram.0 falls)))
          (λ has.
          let other = falls_below z s.lower facts.lower (told_at z s.lower 0 FallingClock tt has) in
          ap (λ (r : Setup × Kept). r.0.write_falls) (sym (same_below other.0 other.1)) ∙ other.2)

      abbrev digit : Bool → ℕ
      digit b = if b then 1 else 0

      write_mode : mode_at z.parts bits s 0 ≡ ram.0.write_mode
      write_mode = (λ i. digit (digit_is 0 (omega arith) i) + 2 * digit (digit_is 1 (omega arith) i)) ∙ number_of_mode ram.0.write_mode (Has_all IsFormedRam z.rams ram formed (j, ram_is)).write_mode

      read_mode : mode_at z.parts bits s 2 ≡ ram.0.read_mode
      read_mode = (λ i. digit (digit_is 2 (omega arith) i) + 2 * digit (digit_is 3 (omega arith) i)) ∙ number_of_mode ram.0.read_mode (Has_all IsFormedRam z.rams ram formed (j, ram_is)).read_mode

      pub setup_is : setup_of z.parts bits s ≡ ram.0
      setup_is = λ i. record { read_mode = read_mode i; write_mode = write_mode i; read_falls = read_edge i; write_falls = write_edge i }

  pub rams_set : AreRamsSet z.parts z.rams bits
  rams_set = record {
    on = λ j s ram at ram_is. is_used j s at ram ram_is;
    settled = λ j s ram at ram_is. setup_is j s at ram ram_is;
    off = λ j s at le. is_unused j s at le;
  }
