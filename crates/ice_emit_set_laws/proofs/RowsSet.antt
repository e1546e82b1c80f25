-- The bits of a placed design let wanted rows through, and are of no foreign function.
use Rattle.std.proofs.Common.{◌≡◌, ℕ, Bool, true, false, Option, None, Some, List, [], ◌∷◌, inl, inr, refl, ap, sym, ◌∙◌, subst, arith}
use Rattle.std.specs.Prelude.{◌&&◌, not, slice_get, option_map}
use Rattle.std.specs.List.{list_any}
use Rattle.std.specs.Option.{option_map_or, option_and_then}
use Rattle.std.proofs.lemmas.Bool.{and_parts, and_from, or_cases, or_right, false_from_ne_true}
use Rattle.std.proofs.lemmas.Option.{same_Some}
use Rattle.ice_base.specs.declared.number.TileAt.{TileAt}
use Rattle.ice_base.specs.declared.bit.BitAt.{BitAt}
use Rattle.ice_base.specs.Places.{same_place}
use Rattle.ice_base.proofs.Booleans.{not_true}
use Rattle.ice_base.proofs.Keys.{place_self}
use Rattle.ice_base_values.specs.Order.{Has}
use Rattle.ice_base_values.proofs.Members.{Has_any, any_Has}
use Rattle.ice_base_values.proofs.Together.{Has_head, Has_tail}
use Rattle.ice_chip.specs.Database.{FunctionRow}
use Rattle.ice_chip.specs.Names.{column_buffer_function}
use Rattle.ice_chip.specs.Functions.{is_foreign, same_kind}
use Rattle.ice_chip.specs.Lookups.{kind_at, function_of, colbuf_of, names_of}
use Rattle.ice_chip_names.specs.declared.function_names.TileFunction.TheVariants.{ColumnBuffer}
use Rattle.ice_chip.specs.declared.rows.TileLine.{TileLine}
use Rattle.ice_chip.specs.declared.rows.TileKind.{TileKind}
use Rattle.ice_bits.specs.Configuration.{Bits}
use Rattle.ice_bits.specs.Settings.{set_at}
use Rattle.ice_decode.specs.declared.driver.Switch.{Switch}
use Rattle.ice_decode.specs.Faults.{counts_in, is_set_in}
use Rattle.ice_decode.specs.FirstFaults.{or_else, first_foreign, foreign_function}
use Rattle.ice_decode.specs.Meaning.{global_at, lets_through, passes_global, passes}
use Rattle.ice_bits_rows.specs.Bundles.{bundle, has_bit, is_of_other, is_of_function, is_shared, shares_bit, is_private}
use Rattle.ice_bits_rows.specs.Sound.{is_alone}
use Rattle.ice_bits_rows.specs.WireNames.{has_strange_name}
use Rattle.ice_emit_rows_laws.proofs.SoundRows.{in_bundle}
use Rattle.ice_emit_rows_laws.specs.Settings.{sets_one, function_bits}
use Rattle.ice_emit_rows_laws.specs.Wanted.{AreWanted, sets_switch, set_bits}
use Rattle.ice_emit_defs.specs.Functions.{setting, buffer_at, global_settings, buffer_settings}
use Rattle.ice_emit_set_laws.proofs.FunctionKinds.{IsOwn, own_name, buffer_named}
use Rattle.ice_emit_set_laws.proofs.Lists.{Has_flat, find_nothing}
use Rattle.ice_emit_set_laws.proofs.SetAt.{kind_is, row_bit, bit_of, setter, set_true}
use Rattle.ice_emit_set_laws.proofs.Told.{Case, all, all_own, in_buffers, global_below}

private_bundle : (a b c : Bool) → (a && b && c) ≡ true → a ≡ true
private_bundle true b c e = refl
private_bundle false b c e = e

module _ (z : Case) (are : AreWanted z.parts z.wanted) where
  abbrev bits : Bits
  bits = set_bits z.parts z.wanted (function_bits z.parts (all z))

  -- ---- column buffers
  buffer_set : (s : Switch) (n : ℕ) (served : TileAt) → Has z.wanted s → global_at s.tile (names_of z.parts s.source.0) ≡ Some n → colbuf_of z.parts s.tile ≡ Some served
      → set_at z.parts bits served (column_buffer_function n) 0 ≡ true
  buffer_set s n served has global buffer =
      let lt = global_below s.tile (names_of z.parts s.source.0) n global in
      let holds = z.known.lawful.servers.buffers s.tile served buffer in
      let there = (holds.2 (column_buffer_function n) (buffer_named n lt)).bits 0 (omega arith) in
      let x = setting served (column_buffer_function n) 0 in
      let inside : Has (buffer_settings z.parts s) x
      = subst (λ o. Has (global_settings z.parts s.tile o) x) (sym global) (subst (λ o. Has (option_map_or (buffer_at s.tile n) o []) x) (sym buffer) (Has_head x [])) in
      set_true z.parts z.known.chip z.known.lawful (all z) (all_own z) z.wanted are served (column_buffer_function n) 0 there.0 (own_name z.parts served (ColumnBuffer n) (λ e io. cc e))
      (ap (option_and_then (λ (kind : TileKind). option_and_then (λ f. slice_get f.bits 0) (function_of z.parts kind (column_buffer_function n)))) holds.1 ∙ there.1)
      (in_buffers z x (Has_flat (buffer_settings z.parts) z.wanted s x has inside))

  pub passing : (s : Switch) → Has z.wanted s → passes z.parts bits s ≡ true
  passing s has = by (global_at s.tile (names_of z.parts s.source.0)) refl
    where
      through : (n : ℕ) → global_at s.tile (names_of z.parts s.source.0) ≡ Some n → (o : Option TileAt) → colbuf_of z.parts s.tile ≡ o → lets_through z.parts bits o n ≡ true
      through n global None buffer = refl
      through n global (Some served) buffer = buffer_set s n served has global buffer

      by : (o : Option ℕ) → global_at s.tile (names_of z.parts s.source.0) ≡ o → passes_global z.parts bits s.tile o ≡ true
      by None e = refl
      by (Some n) e = through n e (colbuf_of z.parts s.tile) refl

  -- ---- foreign functions
  -- a wanted row's bit is of no foreign function
  row_own : (t : TileAt) (kind : TileKind) (b : BitAt) (f : FunctionRow) → kind_at z.parts t ≡ Some kind → Has z.parts.functions f → same_kind f.kind kind ≡ true → is_foreign f.kind f.name ≡ true
      → Has f.bits b → (s : Switch) → Has z.wanted s → sets_switch z.parts s t b ≡ true → ⊥
  row_own t kind b f known has same foreign at s want set =
      let row = row_bit z.parts z.known.chip z.known.lawful z.wanted are t b s want set in
      let g = row.group in
      let private : is_private z.parts g.tile g.wire ≡ true
      = private_bundle (is_private z.parts g.tile g.wire) (not (has_strange_name z.parts row.row.source)) (is_alone z.parts.groups g s.row.0 row.row) row.sound in
      let holds : has_bit f.bits b ≡ true = Has_any (λ p. same_place p b) f.bits b at.0 at.1 (place_self b) in
      let of : is_of_function z.parts.functions (Some kind) b ≡ true
      = Has_any (λ (x : FunctionRow). same_kind x.kind kind && is_foreign x.kind x.name && has_bit x.bits b) z.parts.functions f has.0 has.1
      (and_from (same_kind f.kind kind && is_foreign f.kind f.name) (has_bit f.bits b) (and_from (same_kind f.kind kind) (is_foreign f.kind f.name) same foreign) holds) in
      let here : is_of_function z.parts.functions (kind_at z.parts g.tile) b ≡ true = ap (λ o. is_of_function z.parts.functions o b) (ap (kind_at z.parts) row.tile ∙ known) ∙ of in
      let shared : is_shared z.parts g.tile g.wire b ≡ true = or_right (is_of_other z.parts.groups g.tile g.wire b) (is_of_function z.parts.functions (kind_at z.parts g.tile) b) here in
      let shares : shares_bit z.parts g ≡ true = Has_any (is_shared z.parts g.tile g.wire) g.bits b row.bit.0 row.bit.1 shared in
      let bundled = in_bundle z.parts.groups g g row.is.in_groups refl refl in
      let some : list_any (shares_bit z.parts) (bundle z.parts.groups g.tile g.wire) ≡ true = Has_any (shares_bit z.parts) (bundle z.parts.groups g.tile g.wire) g bundled.0 bundled.1 shares in
      let none = not_true (list_any (shares_bit z.parts) (bundle z.parts.groups g.tile g.wire)) private in
      cc (some, none)

  -- nor is a function's
  function_own : (t : TileAt) (kind : TileKind) (b : BitAt) (f : FunctionRow) → kind_at z.parts t ≡ Some kind → Has z.parts.functions f → same_kind f.kind kind ≡ true → is_foreign f.kind f.name ≡ true
      → Has f.bits b → function_bits z.parts (all z) t b ≡ true → ⊥
  function_own t kind b f known has same foreign at set =
      let one = any_Has (sets_one z.parts t b) (all z) set in
      let x = one.0 in
      let places = setter z.parts z.known.chip z.known.lawful t b x one.2 in
      let is = bit_of z.parts z.known.chip z.known.lawful t x.name x.number b (subst (λ (u : TileAt). IsOwn z.parts u x.name) places.0 (all_own z x one.1)) places.1 in
      let kinds : Some is.kind ≡ Some kind = sym is.known ∙ known in
      let mine : f.kind ≡ is.kind = kind_is f.kind kind same ∙ sym (same_Some is.kind kind kinds) in
      z.known.lawful.bits.not_foreign is.kind x.name x.number b f is.there has mine (subst (λ (k : TileKind). is_foreign k f.name ≡ true) mine foreign) at

  unset : (tile : TileAt × TileLine) → Has z.parts.tiles tile → (f : FunctionRow) → Has z.parts.functions f → is_set_in z.parts bits tile f ≡ false
  unset tile there f has = false_from_ne_true (is_set_in z.parts bits tile f) (λ set.
      let three = and_parts (same_kind f.kind tile.1.kind && is_foreign f.kind f.name && list_any (bits tile.0) f.bits) (counts_in z.parts bits tile.0 f.name) set in
      let two = and_parts (same_kind f.kind tile.1.kind && is_foreign f.kind f.name) (list_any (bits tile.0) f.bits) three.0 in
      let kinds = and_parts (same_kind f.kind tile.1.kind) (is_foreign f.kind f.name) two.0 in
      let one = any_Has (bits tile.0) f.bits two.1 in
      let b = one.0 in
      let known = z.known.lawful.tiles.kinds tile.0 tile.1 there in
      elim (or_cases (list_any (λ s. sets_switch z.parts s tile.0 b) z.wanted) (function_bits z.parts (all z) tile.0 b) one.2) [
        | inl rows ↦ (let s = any_Has (λ (r : Switch). sets_switch z.parts r tile.0 b) z.wanted rows in row_own tile.0 tile.1.kind b f known has kinds.0 kinds.1 one.1 s.0 s.1 s.2)
        | inr listed ↦ function_own tile.0 tile.1.kind b f known has kinds.0 kinds.1 one.1 listed
      ])

  none_foreign : (tiles : List (TileAt × TileLine)) → ((tile : TileAt × TileLine) → Has tiles tile → Has z.parts.tiles tile) → first_foreign z.parts bits tiles ≡ None
  none_foreign [] there = refl
  none_foreign (tile ∷ tiles) there =
      ap (λ o. or_else (option_map (λ (f : FunctionRow). (tile.0, f.line)) o) (first_foreign z.parts bits tiles))
      (find_nothing (is_set_in z.parts bits tile) z.parts.functions (unset tile (there tile (Has_head tile tiles))))
      ∙ none_foreign tiles (λ other has. there other (Has_tail tile other tiles has))

  pub own : foreign_function z.parts bits ≡ None
  own = none_foreign z.parts.tiles (λ tile has. has)
