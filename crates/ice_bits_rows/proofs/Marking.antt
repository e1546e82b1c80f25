-- Marks of the bits of a tile, and what is met of groups by them.
use Rattle.std.proofs.Common.{◌≡◌, ℕ, ◌+◌, ◌<◌, All, Bool, true, false, None, Some, List, [], ◌∷◌, ◌++◌, length, map, take, get_or, set, length-set, refl, sym, ap, subst, ◌∙◌, arith, true≢false}
use Rattle.std.specs.Prelude.{◌&&◌, ◌||◌, not}
use Rattle.std.specs.List.{list_any}
use Rattle.std.proofs.lemmas.Bool.{and_parts, and_right, or_parts, or_from}
use Rattle.std.proofs.lemmas.Option.{same_Some}
use Rattle.std.proofs.lemmas.List.{get_or-set_same, get_or-set_other, map-append, take_more}
use Rattle.std.proofs.lemmas.List.Elements.{All-head, All-tail}
use Rattle.std.proofs.lemmas.List.Folds.{list_any-append}
use Rattle.ice_base.specs.declared.number.TileAt.{TileAt}
use Rattle.ice_base.specs.declared.bit.BitAt.{BitAt}
use Rattle.ice_base.specs.Places.{same_place}
use Rattle.ice_base.proofs.Keys.{place_same, place_self, tile_same, tile_self}
use Rattle.ice_chip.specs.Database.{Parts, SwitchGroup, same_tile}
use Rattle.ice_chip.specs.Lookups.{kind_at}
use Rattle.ice_chip.specs.Views.{group_view}
use Rattle.ice_chip.specs.declared.sections.Group.{Group}
use Rattle.ice_bits_rows.specs.Apart.{is_marked, is_met, AreFresh, HasMet, IsApart, IsSpared, Marks}
use Rattle.ice_bits_rows.specs.Bundles.{has_bit, is_of_function}
use Rattle.ice_bits_rows.specs.Own.{each_once}
use Rattle.ice_bits_rows.specs.Owners.{is_within, place_of}
use Rattle.ice_bits_rows.specs.declared.apart.Met.{Met}
use Rattle.ice_bits_rows.proofs.Blocks.{place_below, places_differ}

-- ---- marks
-- what isn't marked behind a mark is another bit, and wasn't marked before
marked_one : (marks : List Bool) (bit b : BitAt) → is_within bit ≡ true → is_within b ≡ true → length marks ≡ 1024
    → is_marked (set marks (place_of bit) true) b ≡ false → (same_place bit b ≡ false) × (is_marked marks b ≡ false)
marked_one marks bit b within other long e = by (same_place bit b) refl
  where
    here : place_of bit < length marks
    here = let lt = place_below bit within in omega (arith, lt, long)

    by : (s : Bool) → same_place bit b ≡ s → (same_place bit b ≡ false) × (is_marked marks b ≡ false)
    by true is =
        let at : place_of bit ≡ place_of b = ap place_of (place_same bit b is) in
        let on : is_marked (set marks (place_of bit) true) b ≡ true = ap (λ p. get_or (set marks (place_of bit) true) p false) (sym at) ∙ get_or-set_same marks (place_of bit) true false here in
        absurd (true≢false (sym on ∙ e))
    by false is = (is, sym (get_or-set_other marks (place_of bit) (place_of b) true false (places_differ b bit other within is)) ∙ e)

pub marks_none : (marks : List Bool) → Marks [] marks marks
marks_none marks = record { long = refl; these = λ b within e. refl; before = λ b within e. e }

-- a bit more
pub marks_more : (bits : List BitAt) (bit : BitAt) (old now new : List Bool) → Marks bits old now → is_within bit ≡ true → length old ≡ 1024 → new ≡ set now (place_of bit) true
    → Marks (bits ++ bit ∷ []) old new
marks_more bits bit old now new is within long put = record {
  long = ap length put ∙ length-set now (place_of bit) true ∙ is.long;
  these = λ b other e.
      let one = marked_one now bit b within other (is.long ∙ long) (sym (ap (λ xs. is_marked xs b) put) ∙ e) in
      list_any-append (λ p. same_place p b) bits (bit ∷ []) ∙ or_from (has_bit bits b) (has_bit (bit ∷ []) b) (is.these b other one.1) (or_from (same_place bit b) false one.0 refl);
  before = λ b other e. is.before b other (marked_one now bit b within other (is.long ∙ long) (sym (ap (λ xs. is_marked xs b) put) ∙ e)).1;
}

-- a bit that no tile has
pub marks_past : (bits : List BitAt) (bit : BitAt) (old now : List Bool) → Marks bits old now → is_within bit ≡ false → Marks (bits ++ bit ∷ []) old now
marks_past bits bit old now is beyond = record {
  long = is.long;
  these = λ b other e.
      list_any-append (λ p. same_place p b) bits (bit ∷ []) ∙ or_from (has_bit bits b) (has_bit (bit ∷ []) b) (is.these b other e) (or_from (same_place bit b) false (unlike b other (same_place bit b) refl) refl);
  before = is.before;
}
  where
    unlike : (b : BitAt) → is_within b ≡ true → (s : Bool) → same_place bit b ≡ s → s ≡ false
    unlike b other true same = absurd (true≢false (sym other ∙ ap is_within (sym (place_same bit b same)) ∙ beyond))
    unlike b other false same = refl

-- ---- fresh bits
once_more : (bits : List BitAt) (p : BitAt) → each_once bits ≡ true → has_bit bits p ≡ false → each_once (bits ++ p ∷ []) ≡ true
once_more [] p once new = refl
once_more (x ∷ bits) p once new =
    let parts = and_parts (not (has_bit bits x)) (each_once bits) once in
    let apart = or_parts (same_place x p) (has_bit bits p) new in
    ap (λ b. not b && each_once (bits ++ p ∷ [])) (list_any-append (λ y. same_place y x) bits (p ∷ []))
    ∙ ap (λ b. not (has_bit bits x || (b || false)) && each_once (bits ++ p ∷ [])) (other (same_place p x) refl apart.0)
    ∙ ap (λ b. not b && each_once (bits ++ p ∷ [])) (or_none (has_bit bits x))
    ∙ ap (λ b. b && each_once (bits ++ p ∷ [])) parts.0
    ∙ once_more bits p parts.1 apart.1
  where
    or_none : (b : Bool) → (b || (false || false)) ≡ b
    or_none true = refl
    or_none false = refl

    other : (s : Bool) → same_place p x ≡ s → same_place x p ≡ false → same_place p x ≡ false
    other true is e = absurd (true≢false (sym (place_self x) ∙ ap (λ y. same_place x y) (sym (place_same p x is)) ∙ e))
    other false is e = is

pub fresh_none : (marks : List Bool) → AreFresh marks []
fresh_none marks = record { once = refl; unmarked = λ b has. absurd (true≢false (sym has)) }

pub fresh_more : (bits : List BitAt) (bit : BitAt) (old now : List Bool) → Marks bits old now → AreFresh old bits → is_within bit ≡ true → is_marked now bit ≡ false → AreFresh old (bits ++ bit ∷ [])
fresh_more bits bit old now is fresh within new = record {
  once = once_more bits bit fresh.once (is.these bit within new);
  unmarked = λ b has. by b (has_bit bits b) (same_place bit b) refl refl (sym (list_any-append (λ p. same_place p b) bits (bit ∷ [])) ∙ has);
}
  where
    by : (b : BitAt) (h s : Bool) → has_bit bits b ≡ h → same_place bit b ≡ s → (has_bit bits b || (same_place bit b || false)) ≡ true → is_marked old b ≡ false
    by b true s has same e = fresh.unmarked b has
    by b false true has same e = ap (is_marked old) (sym (place_same bit b same)) ∙ is.before bit within new
    by b false false has same e = absurd (true≢false (sym e ∙ or_from (has_bit bits b) (same_place bit b || false) has (or_from (same_place bit b) false same refl)))

-- ---- bits of a group
within_of : (bits : List BitAt) (b : BitAt) → All (λ p. is_within p ≡ true) bits → has_bit bits b ≡ true → is_within b ≡ true
within_of [] b all has = absurd (true≢false (sym has))
within_of (p ∷ bits) b all has = by (same_place p b) refl has (within_of bits b (All-tail (λ q. is_within q ≡ true) p bits all))
  where
    by : (s : Bool) → same_place p b ≡ s → (s || has_bit bits b) ≡ true → (has_bit bits b ≡ true → is_within b ≡ true) → is_within b ≡ true
    by true same e rest = ap is_within (sym (place_same p b same)) ∙ All-head (λ q. is_within q ≡ true) p bits all
    by false same e rest = rest e

-- ---- groups
pub met_none : (parts : Parts) (met : Met) → length met.marks.items ≡ 1024 → met.last ≡ None → HasMet parts [] met
met_none parts met long none = record {
  long = long;
  tiles = λ t out b. refl;
  there = λ t is. absurd (none_some (sym none ∙ is));
  last = λ t is. absurd (none_some (sym none ∙ is));
}
  where
    none_some : {t : TileAt} → None ≡ Some t → ⊥
    none_some e = absurd (cc)

-- a tile that wasn't met
pub met_tile : (parts : Parts) (groups : List SwitchGroup) (met new : Met) (tile : TileAt) → HasMet parts groups met → list_any (same_tile tile) met.tiles.keys ≡ false
    → new.tiles.keys ≡ met.tiles.keys ++ tile ∷ [] → new.last ≡ Some tile → length new.marks.items ≡ 1024
    → ((b : BitAt) → is_within b ≡ true → is_marked new.marks.items b ≡ false → is_of_function parts.functions (kind_at parts tile) b ≡ false) → HasMet parts groups new
met_tile parts groups met new tile h out keys last long native = record {
  long = long;
  tiles = λ t none b. h.tiles t (or_parts (list_any (same_tile t) met.tiles.keys) (list_any (same_tile t) (tile ∷ [])) (sym (ap (list_any (same_tile t)) keys ∙ list_any-append (same_tile t) met.tiles.keys (tile ∷ [])) ∙ none)).0 b;
  there = λ t is. subst (λ u. list_any (same_tile u) new.tiles.keys ≡ true) (same_Some tile t (sym last ∙ is)) own;
  last = λ t is. subst (λ u. IsSpared parts groups u new.marks.items) (same_Some tile t (sym last ∙ is)) (record { unmet = λ b within e. h.tiles tile out b; native = native });
}
  where
    or_own : (a : Bool) → (a || (true || false)) ≡ true
    or_own true = refl
    or_own false = refl

    own : list_any (same_tile tile) new.tiles.keys ≡ true
    own =
        ap (list_any (same_tile tile)) keys
        ∙ list_any-append (same_tile tile) met.tiles.keys (tile ∷ [])
        ∙ ap (λ s. list_any (same_tile tile) met.tiles.keys || (s || false)) (tile_self tile)
        ∙ or_own (list_any (same_tile tile) met.tiles.keys)

-- a group whose bits are fresh
module _ (parts : Parts) (groups : List SwitchGroup) (met new : Met) (g : SwitchGroup) (h : HasMet parts groups met) (last : met.last ≡ Some g.tile) (within : All (λ b. is_within b ≡ true) g.bits) (fresh : AreFresh met.marks.items g.bits) where
  abbrev spared : IsSpared parts groups g.tile met.marks.items
  spared = h.last g.tile last

  pub met_apart : IsApart parts groups g
  met_apart = record {
    once = fresh.once;
    unmet = λ b has. spared.unmet b (within_of g.bits b within has) (fresh.unmarked b has);
    native = λ b has. spared.native b (within_of g.bits b within has) (fresh.unmarked b has);
  }

  pub met_more : Marks g.bits met.marks.items new.marks.items → new.tiles ≡ met.tiles → new.last ≡ met.last → HasMet parts (groups ++ g ∷ []) new
  met_more marks tiles same = record {
    long = marks.long ∙ h.long;
    tiles = λ t none b.
        list_any-append (λ x. same_tile x.tile t && has_bit x.bits b) groups (g ∷ [])
        ∙ or_from (is_met groups t b) (is_met (g ∷ []) t b) (h.tiles t (sym (ap (λ (ts : _). list_any (same_tile t) ts.keys) tiles) ∙ none) b)
        (or_from (same_tile g.tile t && has_bit g.bits b) false (ap (λ s. s && has_bit g.bits b) (elsewhere t (sym (ap (λ (ts : _). list_any (same_tile t) ts.keys) tiles) ∙ none) (same_tile g.tile t) refl)) refl);
    there = λ t is. ap (λ (ts : _). list_any (same_tile t) ts.keys) tiles ∙ h.there t (sym same ∙ is);
    last = λ t is. subst (λ u. IsSpared parts (groups ++ g ∷ []) u new.marks.items) (same_Some g.tile t (sym last ∙ sym same ∙ is)) own;
  }
    where
      elsewhere : (t : TileAt) → list_any (same_tile t) met.tiles.keys ≡ false → (s : Bool) → same_tile g.tile t ≡ s → same_tile g.tile t ≡ false
      elsewhere t none true is = absurd (true≢false (sym (subst (λ u. list_any (same_tile u) met.tiles.keys ≡ true) (tile_same g.tile t is) (h.there g.tile last)) ∙ none))
      elsewhere t none false is = is

      own : IsSpared parts (groups ++ g ∷ []) g.tile new.marks.items
      own = record {
        unmet = λ b in_tile e.
            list_any-append (λ x. same_tile x.tile g.tile && has_bit x.bits b) groups (g ∷ [])
            ∙ or_from (is_met groups g.tile b) (is_met (g ∷ []) g.tile b) (spared.unmet b in_tile (marks.before b in_tile e))
            (or_from (same_tile g.tile g.tile && has_bit g.bits b) false (and_right (same_tile g.tile g.tile) (has_bit g.bits b) (marks.these b in_tile e)) refl);
        native = λ b in_tile e. spared.native b in_tile (marks.before b in_tile e);
      }

pub within_at : (bits : List BitAt) (k : ℕ) (d : BitAt) → All (λ b. is_within b ≡ true) bits → k < length bits → is_within (get_or bits k d) ≡ true
within_at bits k d all lt = all k d lt

-- a group more of those that were met
pub views_more : (groups : List Group) (i : ℕ) (g : Group) → i < length groups → g ≡ get_or groups i g → map group_view (take (i + 1) groups) ≡ map group_view (take i groups) ++ group_view g ∷ []
views_more groups i g lt is =
    ap (map group_view) (take_more groups i g lt) ∙ map-append group_view (take i groups) (get_or groups i g ∷ []) ∙ ap (λ (h : Group). map group_view (take i groups) ++ group_view h ∷ []) (sym is)
