-- Rows that are listed by their numbers.
use Rattle.std.proofs.Common.{◌≡◌, ℕ, zero, suc, Option, None, Some, List, [], ◌∷◌, ◌++◌, refl, ap, sym, ◌∙◌}
use Rattle.std.specs.Prelude.{option_map}
use Rattle.std.specs.Option.{option_and_then}
use Rattle.std.proofs.lemmas.List.{append-nil}
use Rattle.ice_base.specs.declared.number.RowNo.{RowNo}
use Rattle.ice_base.specs.declared.number.TileAt.{TileAt}
use Rattle.ice_base.specs.declared.number.WireNo.{WireNo}
use Rattle.ice_chip.specs.Database.{Parts}
use Rattle.ice_chip.specs.Lookups.{wire_named}
use Rattle.ice_chip.specs.WireNames.{carry_in_name, first_carry_name}
use Rattle.ice_decode.specs.declared.driver.Switch.{Switch}
use Rattle.ice_bits_rows.specs.FirstSound.{first_sound}
use Rattle.ice_emit_defs.specs.Links.{tree_switch, switch_numbered, listed, link_into, link, chunk_links}
use Rattle.ice_emit.specs.Links.{number}
use Rattle.ice_emit_settings.specs.Views.{switches}
use Rattle.ice_emit_settings.proofs.Listed.{last_row}

-- one row more, if there is one
pub one_more : (parts : Parts) (old new : List RowNo) (row : Option RowNo) (r : RowNo) → row ≡ Some r → new ≡ old ++ r ∷ [] → switches parts new ≡ switches parts old ++ listed (option_and_then (tree_switch parts) row)
one_more parts old new row r is e = ap (switches parts) e ∙ last_row parts old r ∙ ap (λ o. switches parts old ++ listed (option_and_then (tree_switch parts) o)) (sym is)

pub no_more : (parts : Parts) (rows : List RowNo) (row : Option RowNo) → row ≡ None → switches parts rows ≡ switches parts rows ++ listed (option_and_then (tree_switch parts) row)
no_more parts rows row is = sym (append-nil (switches parts rows)) ∙ ap (λ o. switches parts rows ++ listed (option_and_then (tree_switch parts) o)) (sym is)

-- ---- links
numbered : (parts : Parts) (o : Option RowNo) (n : Option ℕ) → option_map (λ (row : RowNo). row.0) o ≡ n → option_and_then (tree_switch parts) o ≡ option_and_then (switch_numbered parts) n
numbered parts None n e = ap (option_and_then (switch_numbered parts)) e
numbered parts (Some row) n e = ap (option_and_then (switch_numbered parts)) e

pub link_is : (parts : Parts) (row : Option RowNo) (source target : WireNo) (a b : Option WireNo) → a ≡ Some source → b ≡ Some target → option_map (λ (r : RowNo). r.0) row ≡ first_sound parts source.0 target.0
    → option_and_then (tree_switch parts) row ≡ option_and_then (link_into parts (option_map number a)) (option_map number b)
link_is parts row source target a b from to e =
    numbered parts row (first_sound parts source.0 target.0) e
    ∙ ap (λ o. option_and_then (link_into parts (option_map number o)) (Some target.0)) (sym from)
    ∙ ap (λ o. option_and_then (link_into parts (option_map number a)) (option_map number o)) (sym to)

pub no_source : (parts : Parts) (a b : Option WireNo) → a ≡ None → option_and_then (link_into parts (option_map number a)) (option_map number b) ≡ None
no_source parts a b e = ap (λ o. option_and_then (link_into parts (option_map number o)) (option_map number b)) e ∙ none b
  where
    none : (o : Option WireNo) → option_and_then (link_into parts None) (option_map number o) ≡ None
    none None = refl
    none (Some w) = refl

pub no_target : (parts : Parts) (a b : Option WireNo) → b ≡ None → option_and_then (link_into parts (option_map number a)) (option_map number b) ≡ None
no_target parts a b e = ap (λ o. option_and_then (link_into parts (option_map number a)) (option_map number o)) e

pub link_added : (parts : Parts) (old new : List Switch) (row : Option RowNo) (a b : Option WireNo) (source target : Option ℕ) → option_map number a ≡ source → option_map number b ≡ target
    → option_and_then (tree_switch parts) row ≡ option_and_then (link_into parts (option_map number a)) (option_map number b) → new ≡ old ++ listed (option_and_then (tree_switch parts) row) → new ≡ old ++ link parts source target
link_added parts old new row a b source target from to is e =
    e ∙ ap (λ o. old ++ listed o) is ∙ ap (λ o. old ++ listed (option_and_then (link_into parts o) (option_map number b))) from ∙ ap (λ o. old ++ listed (option_and_then (link_into parts source) o)) to

-- a later chunk of a run
pub later_chunk : (parts : Parts) (t : TileAt) (chunk : Option (ℕ × ℕ)) (r k : ℕ) → chunk ≡ Some (r, k) → (k ≡ 0 → ⊥) → chunk_links parts t chunk ≡ link parts (wire_named parts t carry_in_name) (wire_named parts t first_carry_name)
later_chunk parts t chunk r zero is later = absurd (later refl)
later_chunk parts t chunk r (suc k) is later = ap (chunk_links parts t) is
