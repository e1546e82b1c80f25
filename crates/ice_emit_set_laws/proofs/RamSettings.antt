-- Which block RAM, or which site without one, a setting comes from.
use Rattle.std.proofs.Common.{◌≡◌, ◌⊎◌, ℕ, zero, suc, ◌+◌, ◌<◌, ◌≤◌, Bool, true, List, [], ◌∷◌, ◌++◌, length, inl, inr, refl, sym, subst, arith}
use Rattle.std.proofs.lemmas.Option.{same_Some, none-some}
use Rattle.ice_base_values.specs.Order.{At, Has}
use Rattle.ice_base_values.proofs.Members.{Has_none, Has_cases}
use Rattle.ice_base_values.proofs.Together.{Has_head, Has_tail}
use Rattle.ice_chip.specs.FunctionNames.{power_up_function, ram_mode_function}
use Rattle.ice_chip.specs.Names.{falling_clock_function}
use Rattle.ice_chip_rams.specs.declared.ram_site.RamSite.{RamSite}
use Rattle.ice_decode.proofs.Members.{Has_left, Has_right, Has_append_cases}
use Rattle.ice_net.specs.Meaning.{table_bit}
use Rattle.ice_ram.specs.Ram.{Kept}
use Rattle.ice_ram.specs.declared.setup.Setup.{Setup}
use Rattle.ice_emit_rows_laws.specs.Settings.{Setting}
use Rattle.ice_emit_defs.specs.Functions.{setting, setting_if}
use Rattle.ice_emit_defs.specs.Rams.{mode_settings, ram_settings, site_settings}
use Rattle.ice_emit_set_laws.proofs.CellNumbers.{if_told, Has_if}

-- ---- sites
-- a site in use, with the block RAM that stands there
pub record InUse (sites : List RamSite) (rams : List (Setup × Kept)) : Type 0 where
  pub number : ℕ
  pub site : RamSite
  pub ram : Setup × Kept
  pub site_is : At sites number site
  pub ram_is : At rams number ram

-- a site behind all block RAMs
pub record IsBehind (sites : List RamSite) (rams : List (Setup × Kept)) (s : RamSite) : Type 0 where
  pub number : ℕ
  pub site_is : At sites number s
  pub behind : length rams ≤ number

-- the setting is one of a block RAM, or switches a site off
abbrev pub OfUsed : List RamSite → List (Setup × Kept) → Setting → Type 0
OfUsed sites rams x = (used : InUse sites rams) × Has (ram_settings used.site used.ram.0) x

abbrev pub OfOthers : List RamSite → List (Setup × Kept) → Setting → Type 0
OfOthers sites rams x = (s : RamSite) × IsBehind sites rams s × (setting s.lower power_up_function 0 ≡ x)

one_back : (s : RamSite) (sites : List RamSite) (ram : Setup × Kept) (rams : List (Setup × Kept)) (x : Setting) → OfUsed sites rams x ⊎ OfOthers sites rams x → OfUsed (s ∷ sites) (ram ∷ rams) x ⊎ OfOthers (s ∷ sites) (ram ∷ rams) x
one_back s sites ram rams x (inl old) = inl (record { number = suc old.0.number; site = old.0.site; ram = old.0.ram; site_is = old.0.site_is; ram_is = old.0.ram_is }, old.1)
one_back s sites ram rams x (inr old) =
    let le : length rams ≤ old.1.number = old.1.behind in inr (old.0, record { number = suc old.1.number; site_is = old.1.site_is; behind = omega (arith, le) }, old.2)

others_back : (sites : List RamSite) (x : Setting) → Has (site_settings sites []) x → OfOthers sites [] x
others_back [] x has = absurd (Has_none x has)
others_back (s ∷ sites) x has = by (Has_cases (setting s.lower power_up_function 0) x (site_settings sites []) has) (others_back sites x)
  where
    by : (setting s.lower power_up_function 0 ≡ x) ⊎ Has (site_settings sites []) x → (Has (site_settings sites []) x → OfOthers sites [] x) → OfOthers (s ∷ sites) [] x
    by (inl here) rest = (s, record { number = 0; site_is = refl; behind = omega arith }, here)
    by (inr there) rest = let old = rest there in (old.0, record { number = suc old.1.number; site_is = old.1.site_is; behind = omega arith }, old.2)

pub sites_back : (sites : List RamSite) (rams : List (Setup × Kept)) (x : Setting) → Has (site_settings sites rams) x → OfUsed sites rams x ⊎ OfOthers sites rams x
sites_back [] rams x has = absurd (Has_none x has)
sites_back (s ∷ sites) [] x has = inr (others_back (s ∷ sites) x has)
sites_back (s ∷ sites) (ram ∷ rams) x has = by (Has_append_cases (ram_settings s ram.0) (site_settings sites rams) x has) (sites_back sites rams x)
  where
    by : Has (ram_settings s ram.0) x ⊎ Has (site_settings sites rams) x → (Has (site_settings sites rams) x → OfUsed sites rams x ⊎ OfOthers sites rams x)
        → OfUsed (s ∷ sites) (ram ∷ rams) x ⊎ OfOthers (s ∷ sites) (ram ∷ rams) x
    by (inl here) rest = inl (record { number = 0; site = s; ram = ram; site_is = refl; ram_is = refl }, here)
    by (inr there) rest = one_back s sites ram rams x (rest there)

pub used_on : (sites : List RamSite) (rams : List (Setup × Kept)) (used : InUse sites rams) (x : Setting) → Has (ram_settings used.site used.ram.0) x → Has (site_settings sites rams) x
used_on sites rams used x has = at sites rams used.number used.site used.ram used.site_is used.ram_is has
  where
    at : (sites : List RamSite) (rams : List (Setup × Kept)) (j : ℕ) (s : RamSite) (ram : Setup × Kept) → At sites j s → At rams j ram → Has (ram_settings s ram.0) x → Has (site_settings sites rams) x
    at [] rams j s ram site_is ram_is inside = absurd (none-some s site_is)
    at (u ∷ sites) [] j s ram site_is ram_is inside = absurd (none-some ram ram_is)
    at (u ∷ sites) (r ∷ rams) zero s ram site_is ram_is inside =
        Has_left (ram_settings u r.0) (site_settings sites rams) x
        (subst (λ (v : RamSite). Has (ram_settings v r.0) x) (sym (same_Some u s site_is)) (subst (λ (v : Setup × Kept). Has (ram_settings s v.0) x) (sym (same_Some r ram ram_is)) inside))
    at (u ∷ sites) (r ∷ rams) (suc j) s ram site_is ram_is inside = Has_right (ram_settings u r.0) (site_settings sites rams) x (at sites rams j s ram site_is ram_is inside)

pub others_on : (sites : List RamSite) (rams : List (Setup × Kept)) (j : ℕ) (s : RamSite) → At sites j s → length rams ≤ j → Has (site_settings sites rams) (setting s.lower power_up_function 0)
others_on [] rams j s at le = absurd (none-some s at)
others_on (u ∷ sites) [] zero s at le =
    subst (λ (v : RamSite). Has (site_settings (u ∷ sites) []) (setting v.lower power_up_function 0)) (same_Some u s at) (Has_head (setting u.lower power_up_function 0) (site_settings sites []))
others_on (u ∷ sites) [] (suc j) s at le =
    Has_tail (setting u.lower power_up_function 0) (setting s.lower power_up_function 0) (site_settings sites []) (others_on sites [] j s at (omega arith))
others_on (u ∷ sites) (r ∷ rams) zero s at le = absurd (omega (arith, le))
others_on (u ∷ sites) (r ∷ rams) (suc j) s at le = Has_right (ram_settings u r.0) (site_settings sites rams) (setting s.lower power_up_function 0) (others_on sites rams j s at (omega (arith, le)))

-- ---- the settings of a block RAM
-- the digit of the modes at a place
abbrev pub mode_digit_of : Setup → ℕ → Bool
mode_digit_of setup zero = table_bit setup.write_mode 0
mode_digit_of setup (suc zero) = table_bit setup.write_mode 1
mode_digit_of setup (suc (suc zero)) = table_bit setup.read_mode 0
mode_digit_of setup (suc (suc (suc n))) = table_bit setup.read_mode 1

module _ (s : RamSite) (setup : Setup) where
  abbrev written : List Setting
  written = mode_settings s.upper 0 setup.write_mode

  abbrev read : List Setting
  read = mode_settings s.upper 2 setup.read_mode

  abbrev upper_edge : List Setting
  upper_edge = setting_if setup.read_falls s.upper falling_clock_function 0

  abbrev lower_edge : List Setting
  lower_edge = setting_if setup.write_falls s.lower falling_clock_function 0

  -- a digit of a mode, or the edge of one of the clocks
  abbrev pub IsMode : Setting → Type 0
  IsMode x = (place : ℕ) × (place < 4) × (mode_digit_of setup place ≡ true) × (setting s.upper (ram_mode_function place) 0 ≡ x)

  abbrev pub IsReadEdge : Setting → Type 0
  IsReadEdge x = (setup.read_falls ≡ true) × (setting s.upper falling_clock_function 0 ≡ x)

  abbrev pub IsWriteEdge : Setting → Type 0
  IsWriteEdge x = (setup.write_falls ≡ true) × (setting s.lower falling_clock_function 0 ≡ x)

  written_back : (x : Setting) → Has written x → IsMode x
  written_back x has = elim (Has_append_cases (setting_if (table_bit setup.write_mode 0) s.upper (ram_mode_function 0) 0) (setting_if (table_bit setup.write_mode 1) s.upper (ram_mode_function 1) 0) x has) [
    | inl low ↦ (let one = if_told (table_bit setup.write_mode 0) s.upper (ram_mode_function 0) 0 x low in (0, (omega arith), one.0, one.1))
    | inr high ↦ (let one = if_told (table_bit setup.write_mode 1) s.upper (ram_mode_function 1) 0 x high in (1, (omega arith), one.0, one.1))
  ]

  read_back : (x : Setting) → Has read x → IsMode x
  read_back x has = elim (Has_append_cases (setting_if (table_bit setup.read_mode 0) s.upper (ram_mode_function 2) 0) (setting_if (table_bit setup.read_mode 1) s.upper (ram_mode_function 3) 0) x has) [
    | inl low ↦ (let one = if_told (table_bit setup.read_mode 0) s.upper (ram_mode_function 2) 0 x low in (2, (omega arith), one.0, one.1))
    | inr high ↦ (let one = if_told (table_bit setup.read_mode 1) s.upper (ram_mode_function 3) 0 x high in (3, (omega arith), one.0, one.1))
  ]

  pub ram_back : (x : Setting) → Has (ram_settings s setup) x → IsMode x ⊎ (IsReadEdge x ⊎ IsWriteEdge x)
  ram_back x has = elim (Has_append_cases (written ++ read ++ upper_edge) lower_edge x has) [
    | inr last ↦ inr (inr (if_told setup.write_falls s.lower falling_clock_function 0 x last))
    | inl three ↦ elim (Has_append_cases (written ++ read) upper_edge x three) [
      | inr third ↦ inr (inl (if_told setup.read_falls s.upper falling_clock_function 0 x third))
      | inl two ↦ elim (Has_append_cases written read x two) [
        | inl first ↦ inl (written_back x first)
        | inr second ↦ inl (read_back x second)
      ]
    ]
  ]

  -- ---- where they are listed
  in_modes : (x : Setting) → Has (written ++ read) x → Has (ram_settings s setup) x
  in_modes x has = Has_left (written ++ read ++ upper_edge) lower_edge x (Has_left (written ++ read) upper_edge x has)

  pub mode_on : (place : ℕ) → place < 4 → mode_digit_of setup place ≡ true → Has (ram_settings s setup) (setting s.upper (ram_mode_function place) 0)
  mode_on zero lt set =
      let x = setting s.upper (ram_mode_function 0) 0 in
      in_modes x (Has_left written read x (Has_left (setting_if (table_bit setup.write_mode 0) s.upper (ram_mode_function 0) 0) (setting_if (table_bit setup.write_mode 1) s.upper (ram_mode_function 1) 0) x (Has_if (table_bit setup.write_mode 0) s.upper (ram_mode_function 0) 0 set)))
  mode_on (suc zero) lt set =
      let x = setting s.upper (ram_mode_function 1) 0 in
      in_modes x (Has_left written read x (Has_right (setting_if (table_bit setup.write_mode 0) s.upper (ram_mode_function 0) 0) (setting_if (table_bit setup.write_mode 1) s.upper (ram_mode_function 1) 0) x (Has_if (table_bit setup.write_mode 1) s.upper (ram_mode_function 1) 0 set)))
  mode_on (suc (suc zero)) lt set =
      let x = setting s.upper (ram_mode_function 2) 0 in
      in_modes x (Has_right written read x (Has_left (setting_if (table_bit setup.read_mode 0) s.upper (ram_mode_function 2) 0) (setting_if (table_bit setup.read_mode 1) s.upper (ram_mode_function 3) 0) x (Has_if (table_bit setup.read_mode 0) s.upper (ram_mode_function 2) 0 set)))
  mode_on (suc (suc (suc zero))) lt set =
      let x = setting s.upper (ram_mode_function 3) 0 in
      in_modes x (Has_right written read x (Has_right (setting_if (table_bit setup.read_mode 0) s.upper (ram_mode_function 2) 0) (setting_if (table_bit setup.read_mode 1) s.upper (ram_mode_function 3) 0) x (Has_if (table_bit setup.read_mode 1) s.upper (ram_mode_function 3) 0 set)))
  mode_on (suc (suc (suc (suc n)))) lt set = absurd (omega (arith, lt))

  pub read_edge_on : setup.read_falls ≡ true → Has (ram_settings s setup) (setting s.upper falling_clock_function 0)
  read_edge_on falls =
      let x = setting s.upper falling_clock_function 0 in
      Has_left (written ++ read ++ upper_edge) lower_edge x (Has_right (written ++ read) upper_edge x (Has_if setup.read_falls s.upper falling_clock_function 0 falls))

  pub write_edge_on : setup.write_falls ≡ true → Has (ram_settings s setup) (setting s.lower falling_clock_function 0)
  write_edge_on falls =
      let x = setting s.lower falling_clock_function 0 in
      Has_right (written ++ read ++ upper_edge) lower_edge x (Has_if setup.write_falls s.lower falling_clock_function 0 falls)
