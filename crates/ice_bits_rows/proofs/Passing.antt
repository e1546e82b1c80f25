-- Items of a list that are passed over.
use Rattle.std.proofs.Common.{◌≡◌, ℕ, ◌+◌, ◌<◌, Bool, None, List, ◌∷◌, length, drop, map, get_or, sym, ap, ◌∙◌}
use Rattle.std.specs.Prelude.{◌==◌, ◌&&◌, ◌||◌, not}
use Rattle.std.specs.Borrow.{Bor}
use Rattle.std.specs.List.{list_any}
use Rattle.std.proofs.lemmas.List.{at_drop_more}
use Rattle.ice_base.specs.declared.number.TileAt.{TileAt}
use Rattle.ice_base.specs.declared.bit.BitAt.{BitAt}
use Rattle.ice_base.proofs.Booleans.{or_assoc}
use Rattle.ice_chip.specs.Database.{Parts, same_tile}
use Rattle.ice_chip.specs.Views.{row_view, group_view}
use Rattle.ice_chip.specs.declared.sections.Group.{Group}
use Rattle.ice_bits_rows.specs.Alone.{either}
use Rattle.ice_bits_rows.specs.Bundles.{has_bit, is_of_other}
use Rattle.ice_bits_rows.specs.FirstSound.{first_of, first_among}
use Rattle.ice_bits_rows.specs.Lists.{views}
use Rattle.ice_bits_rows.specs.Owners.{holds_more}

-- a test of the next item that is noted beside those before
pub any_noted : {X : Type 0} (test : X → Bool) (xs : List X) (i : ℕ) (x : X) (noted now : Bool) → i < length xs → x ≡ get_or xs i x → now ≡ test x
    → (noted || list_any test (drop i xs)) ≡ ((noted || now) || list_any test (drop (i + 1) xs))
any_noted test xs i x noted now lt is tested =
    ap (λ b. noted || b) (at_drop_more (list_any test) xs i x lt ∙ ap (λ y. test y || list_any test (drop (i + 1) xs)) (sym is) ∙ ap (λ b. b || list_any test (drop (i + 1) xs)) (sym tested))
    ∙ sym (or_assoc noted now (list_any test (drop (i + 1) xs)))

-- a group without a sound row from the source
pub group_passed : (parts : Parts) (source : ℕ) (groups : List (Bor Group)) (i : ℕ) (g : Bor Group) → i < length groups → g ≡ get_or groups i g
    → None ≡ first_of parts source (group_view g.now) g.now.first.0 (map row_view g.now.rows.items)
    → first_among parts source (views (drop i groups)) ≡ first_among parts source (views (drop (i + 1) groups))
group_passed parts source groups i g lt is none =
    at_drop_more (λ (gs : List (Bor Group)). first_among parts source (views gs)) groups i g lt
    ∙ ap (λ (h : Bor Group). first_among parts source (views (h ∷ drop (i + 1) groups))) (sym is)
    ∙ ap (λ o. either o (first_among parts source (views (drop (i + 1) groups)))) (sym none)

-- a group whose bits are noted
pub group_noted : (groups : List Group) (i : ℕ) (g : Group) (t : TileAt) (b : BitAt) (w : ℕ) (before after : Bool) → i < length groups → g ≡ get_or groups i g
    → after ≡ holds_more (group_view g) t w b before
    → (after || is_of_other (map group_view (drop (i + 1) groups)) t w b) ≡ (before || is_of_other (map group_view (drop i groups)) t w b)
group_noted groups i g t b w before after lt is noted =
    ap (λ z. z || is_of_other (map group_view (drop (i + 1) groups)) t w b) noted
    ∙ or_assoc before (same_tile g.tile t && not (g.wire.0 == w) && has_bit g.bits.items b) (is_of_other (map group_view (drop (i + 1) groups)) t w b)
    ∙ ap (λ (h : Group). before || is_of_other (map group_view (h ∷ drop (i + 1) groups)) t w b) is
    ∙ ap (λ z. before || z) (sym (at_drop_more (λ (gs : List Group). is_of_other (map group_view gs) t w b) groups i g lt))
