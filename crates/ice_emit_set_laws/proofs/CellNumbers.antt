-- The numbers of the settings of a cell.
use Rattle.std.proofs.Common.{◌≡◌, ℕ, zero, suc, ◌<◌, ◌==◌, Bool, true, false, Option, None, Some, List, [], ◌∷◌, ◌++◌, inl, inr, refl, ap, sym, ◌∙◌, arith}
use Rattle.std.specs.Prelude.{◌&&◌, ◌||◌, not, is_some, slice_index_or}
use Rattle.std.specs.List.{list_any, range_with_len}
use Rattle.std.proofs.lemmas.Bool.{and_parts}
use Rattle.std.proofs.lemmas.List.Folds.{list_any-append}
use Rattle.ice_base.specs.declared.number.TileAt.{TileAt}
use Rattle.ice_base.proofs.Booleans.{not_true, or_false, and_true, and_false}
use Rattle.ice_base_values.specs.Order.{Has}
use Rattle.ice_base_values.proofs.Members.{Has_none, Has_cases, all_Has}
use Rattle.ice_base_values.proofs.Together.{Has_head}
use Rattle.ice_net.specs.declared.kind.Reset.{Reset}
use Rattle.ice_net.specs.declared.kind.Reset.TheVariants.{Nothing, SyncReset, AsyncReset, SyncSet, AsyncSet}
use Rattle.ice_net.specs.Meaning.{table_bit}
use Rattle.ice_lut.specs.Tables.{table_places}
use Rattle.ice_cells.specs.declared.cell.Control.{Control}
use Rattle.ice_decode.specs.Cells.{reset_by}
use Rattle.ice_emit_rows_laws.specs.Settings.{Setting}
use Rattle.ice_decode.proofs.Members.{Has_append_cases}
use Rattle.ice_emit_defs.specs.Functions.{setting, setting_if, table_settings, reset_settings, flop_settings}
use Rattle.ice_emit_defs.specs.Set.{read_reset}
use Rattle.ice_emit_set_laws.proofs.Lists.{flat_Has, one_Has, any_flat, Has_range}

-- ---- settings that are there under a condition
pub if_told : (b : Bool) (t : TileAt) (name : List ℕ) (k : ℕ) (x : Setting) → Has (setting_if b t name k) x → (b ≡ true) × (setting t name k ≡ x)
if_told true t name k x has = (refl, one_Has (setting t name k) x has)
if_told false t name k x has = absurd (Has_none x has)

pub Has_if : (b : Bool) (t : TileAt) (name : List ℕ) (k : ℕ) → b ≡ true → Has (setting_if b t name k) (setting t name k)
Has_if true t name k e = Has_head (setting t name k) []
Has_if false t name k e = cc e

-- the number is among those of the settings
abbrev pub lists : ℕ → List Setting → Bool
lists k xs = list_any (λ (x : Setting). x.number == k) xs

if_lists : (k : ℕ) (b : Bool) (t : TileAt) (name : List ℕ) (m : ℕ) → lists k (setting_if b t name m) ≡ ((m == k) && b)
if_lists k true t name m = or_false (m == k) ∙ sym (and_true (m == k))
if_lists k false t name m = sym (and_false (m == k))

-- ---- the places of a table's entries
abbrev place : ℕ → ℕ
place j = slice_index_or table_places j 0

-- the number is none of the carry's and the flip-flop's
abbrev is_entry : ℕ → Bool
is_entry k = not (8 == k) && not (9 == k) && not (18 == k) && not (19 == k)

entries_apart : (j : ℕ) → j < 16 → is_entry (place j) ≡ true
entries_apart j lt = all_Has (λ m. is_entry (place m)) (range_with_len 0 16) j refl (Has_range 16 j lt)

abbrev entry_is : ℕ → ℕ → ℕ → Bool
entry_is k table j = (place j == k) && table_bit table j

-- no two entries stand at one place
own_entry : (j table : ℕ) → j < 16 → list_any (entry_is (place j) table) (range_with_len 0 16) ≡ table_bit table j
own_entry zero table lt = or_false (table_bit table 0)
own_entry (suc zero) table lt = or_false (table_bit table 1)
own_entry (suc (suc zero)) table lt = or_false (table_bit table 2)
own_entry (suc (suc (suc zero))) table lt = or_false (table_bit table 3)
own_entry (suc (suc (suc (suc zero)))) table lt = or_false (table_bit table 4)
own_entry (suc (suc (suc (suc (suc zero))))) table lt = or_false (table_bit table 5)
own_entry (suc (suc (suc (suc (suc (suc zero)))))) table lt = or_false (table_bit table 6)
own_entry (suc (suc (suc (suc (suc (suc (suc zero))))))) table lt = or_false (table_bit table 7)
own_entry (suc (suc (suc (suc (suc (suc (suc (suc zero)))))))) table lt = or_false (table_bit table 8)
own_entry (suc (suc (suc (suc (suc (suc (suc (suc (suc zero))))))))) table lt = or_false (table_bit table 9)
own_entry (suc (suc (suc (suc (suc (suc (suc (suc (suc (suc zero)))))))))) table lt = or_false (table_bit table 10)
own_entry (suc (suc (suc (suc (suc (suc (suc (suc (suc (suc (suc zero))))))))))) table lt = or_false (table_bit table 11)
own_entry (suc (suc (suc (suc (suc (suc (suc (suc (suc (suc (suc (suc zero)))))))))))) table lt = or_false (table_bit table 12)
own_entry (suc (suc (suc (suc (suc (suc (suc (suc (suc (suc (suc (suc (suc zero))))))))))))) table lt = or_false (table_bit table 13)
own_entry (suc (suc (suc (suc (suc (suc (suc (suc (suc (suc (suc (suc (suc (suc zero)))))))))))))) table lt = or_false (table_bit table 14)
own_entry (suc (suc (suc (suc (suc (suc (suc (suc (suc (suc (suc (suc (suc (suc (suc zero))))))))))))))) table lt = or_false (table_bit table 15)
own_entry (suc (suc (suc (suc (suc (suc (suc (suc (suc (suc (suc (suc (suc (suc (suc (suc n)))))))))))))))) table lt = absurd (omega arith)

module _ (t : TileAt) (name : List ℕ) where
  abbrev pub in_cell : ℕ → Bool → Option (Control × Reset) → List Setting
  in_cell table carry flop = table_settings t name table ++ setting_if carry t name 8 ++ flop_settings t name flop

  -- ---- all are of the cell
  abbrev IsNamed : Setting → Type 0
  IsNamed x = (x.tile ≡ t) × (x.name ≡ name)

  named_one : (k : ℕ) (x : Setting) → setting t name k ≡ x → IsNamed x
  named_one k x e = (ap (λ (y : Setting). y.tile) (sym e), ap (λ (y : Setting). y.name) (sym e))

  named_if : (b : Bool) (k : ℕ) (x : Setting) → Has (setting_if b t name k) x → IsNamed x
  named_if b k x has = named_one k x (if_told b t name k x has).1

  named_reset : (reset : Reset) (x : Setting) → Has (reset_settings t name reset) x → IsNamed x
  named_reset Nothing x has = absurd (Has_none x has)
  named_reset SyncReset x has = absurd (Has_none x has)
  named_reset AsyncReset x has = named_one 19 x (one_Has (setting t name 19) x has)
  named_reset SyncSet x has = named_one 18 x (one_Has (setting t name 18) x has)
  named_reset AsyncSet x has = elim (Has_cases (setting t name 18) x (setting t name 19 ∷ []) has) [
    | inl here ↦ named_one 18 x here
    | inr there ↦ named_one 19 x (one_Has (setting t name 19) x there)
  ]

  named_flop : (flop : Option (Control × Reset)) (x : Setting) → Has (flop_settings t name flop) x → IsNamed x
  named_flop None x has = absurd (Has_none x has)
  named_flop (Some flop) x has = elim (Has_cases (setting t name 9) x (reset_settings t name flop.1) has) [
    | inl here ↦ named_one 9 x here
    | inr there ↦ named_reset flop.1 x there
  ]

  named_table : (table : ℕ) (x : Setting) → Has (table_settings t name table) x → IsNamed x
  named_table table x has =
      let one = flat_Has (λ j. setting_if (table_bit table j) t name (place j)) (range_with_len 0 16) x has in named_if (table_bit table one.0) (place one.0) x one.2

  pub named : (table : ℕ) (carry : Bool) (flop : Option (Control × Reset)) (x : Setting) → Has (in_cell table carry flop) x → (x.tile ≡ t) × (x.name ≡ name)
  named table carry flop x has = elim (Has_append_cases (table_settings t name table ++ setting_if carry t name 8) (flop_settings t name flop) x has) [
    | inr last ↦ named_flop flop x last
    | inl first ↦ elim (Has_append_cases (table_settings t name table) (setting_if carry t name 8) x first) [
      | inl here ↦ named_table table x here
      | inr there ↦ named_if carry 8 x there
    ]
  ]

  -- ---- which numbers are there
  table_lists : (k table : ℕ) → lists k (table_settings t name table) ≡ list_any (entry_is k table) (range_with_len 0 16)
  table_lists k table =
      any_flat (λ (x : Setting). x.number == k) (λ j. setting_if (table_bit table j) t name (place j)) (entry_is k table) (λ j. if_lists k (table_bit table j) t name (place j)) (range_with_len 0 16)

  whole : (k table : ℕ) (carry : Bool) (flop : Option (Control × Reset))
      → lists k (in_cell table carry flop) ≡ (list_any (entry_is k table) (range_with_len 0 16) || ((8 == k) && carry) || lists k (flop_settings t name flop))
  whole k table carry flop =
      list_any-append (λ (x : Setting). x.number == k) (table_settings t name table ++ setting_if carry t name 8) (flop_settings t name flop)
      ∙ ap (λ z. z || lists k (flop_settings t name flop))
      (list_any-append (λ (x : Setting). x.number == k) (table_settings t name table) (setting_if carry t name 8) ∙ (λ i. table_lists k table i || if_lists k carry t name 8 i))

  reset_none : (k : ℕ) → (18 == k) ≡ false → (19 == k) ≡ false → (reset : Reset) → lists k (reset_settings t name reset) ≡ false
  reset_none k a b Nothing = refl
  reset_none k a b SyncReset = refl
  reset_none k a b AsyncReset = ap (λ z. z || false) b
  reset_none k a b SyncSet = ap (λ z. z || false) a
  reset_none k a b AsyncSet = λ i. a i || (b i || false)

  flop_none : (k : ℕ) → (9 == k) ≡ false → (18 == k) ≡ false → (19 == k) ≡ false → (flop : Option (Control × Reset)) → lists k (flop_settings t name flop) ≡ false
  flop_none k a b c None = refl
  flop_none k a b c (Some flop) = λ i. a i || reset_none k b c flop.1 i

  pub carry_lists : (table : ℕ) (carry : Bool) (flop : Option (Control × Reset)) → lists 8 (in_cell table carry flop) ≡ carry
  carry_lists table carry flop = whole 8 table carry flop ∙ ap (λ z. carry || z) (flop_none 8 refl refl refl flop) ∙ or_false carry

  pub flop_lists : (table : ℕ) (carry : Bool) (flop : Option (Control × Reset)) → lists 9 (in_cell table carry flop) ≡ is_some flop
  flop_lists table carry flop = whole 9 table carry flop ∙ by flop
    where
      by : (o : Option (Control × Reset)) → lists 9 (flop_settings t name o) ≡ is_some o
      by None = refl
      by (Some f) = refl

  pub reset_lists : (table : ℕ) (carry : Bool) (control : Control) (kind : Reset)
      → reset_by (lists 18 (in_cell table carry (Some (control, kind)))) (lists 19 (in_cell table carry (Some (control, kind)))) ≡ read_reset kind
  reset_lists table carry control kind = (λ i. reset_by (whole 18 table carry (Some (control, kind)) i) (whole 19 table carry (Some (control, kind)) i)) ∙ by kind
    where
      by : (reset : Reset) → reset_by (lists 18 (reset_settings t name reset)) (lists 19 (reset_settings t name reset)) ≡ read_reset reset
      by Nothing = refl
      by SyncReset = refl
      by AsyncReset = refl
      by SyncSet = refl
      by AsyncSet = refl

  pub entry_lists : (table : ℕ) (carry : Bool) (flop : Option (Control × Reset)) (j : ℕ) → j < 16 → lists (slice_index_or table_places j 0) (in_cell table carry flop) ≡ table_bit table j
  entry_lists table carry flop j lt =
      let apart = entries_apart j lt in
      let one = and_parts (not (8 == place j) && not (9 == place j) && not (18 == place j)) (not (19 == place j)) apart in
      let two = and_parts (not (8 == place j) && not (9 == place j)) (not (18 == place j)) one.0 in
      let three = and_parts (not (8 == place j)) (not (9 == place j)) two.0 in
      let carry_not = not_true (8 == place j) three.0 in
      let flop_not = flop_none (place j) (not_true (9 == place j) three.1) (not_true (18 == place j) two.1) (not_true (19 == place j) one.1) flop in
      whole (place j) table carry flop
      ∙ (λ i. own_entry j table lt i || (carry_not i && carry) || flop_not i)
      ∙ or_false (table_bit table j || false) ∙ or_false (table_bit table j)
