-- The levels of ports, where some pads have levels from outside, and pins of block RAMs, which stand behind them, have those that these give.
use Rattle.std.proofs.Common.{◌≡◌, ◌⊎◌, ℕ, zero, suc, ◌+◌, ◌-◌, ◌*◌, ◌<◌, ◌≤◌, Bool, true, false, cond, Some, List, [], ◌∷◌, ◌++◌, length, drop, inl, inr, refl, sym, ap, ◌∙◌, arith, lt-ltb, le-ltb, length-append}
use Rattle.std.specs.Prelude.{slice_index_or}
use Rattle.std.proofs.lemmas.Bool.{false_from_ne_true}
use Rattle.std.proofs.lemmas.List.{length-map, get_or-drop}
use Rattle.std.proofs.lemmas.List.FromFn.{get_or-map-range_with_len}
use Rattle.std.proofs.lemmas.Option.{none-some, same_Some, get_or_from_slice_get}
use Rattle.ice_base_values.specs.Order.{At, StandOnce}
use Rattle.ice_base_values.proofs.Members.{At_map, At_parts, At_within}
use Rattle.ice_chip.specs.Database.{same_pad}
use Rattle.ice_chip.specs.declared.rows.Pad.{Pad}
use Rattle.ice_chip.proofs.Keys.{pad_same, pad_self}
use Rattle.ice_decode.specs.Pads.{level_of}
use Rattle.ice_ram.specs.Ports.{given, port_level, joined_levels}
use Rattle.ice_ram.specs.Ram.{Kept}
use Rattle.ice_ram.specs.declared.setup.Setup.{Setup}
use Rattle.ice_ram.proofs.PortLists.{filled_from}
use Rattle.ice_emit_defs.specs.Realised.{port_levels}

-- ---- the level of one pad
no_level : (bonded : List Pad) (pad : Pad) → level_of bonded [] pad ≡ false
no_level [] pad = refl
no_level (p ∷ bonded) pad = refl

-- the first pad has the first level, and the others have the others
level_cut : (p : Pad) (bonded : List Pad) (levels : List Bool) (pad : Pad) → level_of (p ∷ bonded) levels pad ≡ cond (same_pad p pad) (slice_index_or levels 0 false) (level_of bonded (drop 1 levels) pad)
level_cut p bonded [] pad = by (same_pad p pad)
  where
    by : (b : Bool) → false ≡ cond b false (level_of bonded [] pad)
    by true = refl
    by false = sym (no_level bonded pad)
level_cut p bonded (x ∷ levels) pad = refl

index_later : (levels : List Bool) (k : ℕ) → slice_index_or (drop 1 levels) k false ≡ slice_index_or levels (suc k) false
index_later [] k = refl
index_later (x ∷ levels) k = refl

-- levels that are the same at all pads, where those that are missing are 0
level_same : (bonded : List Pad) (one other : List Bool) (pad : Pad) → ((k : ℕ) → k < length bonded → slice_index_or one k false ≡ slice_index_or other k false) → level_of bonded one pad ≡ level_of bonded other pad
level_same [] one other pad same = refl
level_same (p ∷ bonded) one other pad same =
    let here = same 0 (omega arith) in
    let rest = level_same bonded (drop 1 one) (drop 1 other) pad (λ k lt. index_later one k ∙ same (suc k) (omega (arith, lt)) ∙ sym (index_later other k)) in
    level_cut p bonded one pad ∙ (λ i. cond (same_pad p pad) (here i) (rest i)) ∙ sym (level_cut p bonded other pad)

-- the pad is none of these
abbrev IsNone : List Pad → Pad → Type 0
IsNone pads pad = (k : ℕ) (other : Pad) → At pads k other → same_pad other pad ≡ false

none_levelled : (pins : List Pad) (levels : List Bool) (pad : Pad) → IsNone pins pad → level_of pins levels pad ≡ false
none_levelled [] levels pad none = refl
none_levelled (p ∷ pins) levels pad none =
    level_cut p pins levels pad ∙ ap (λ b. cond b (slice_index_or levels 0 false) (level_of pins (drop 1 levels) pad)) (none 0 p refl)
    ∙ none_levelled pins (drop 1 levels) pad (λ k other at. none (suc k) other at)

-- one that is none of the last
before_pins : (bonded pins : List Pad) (levels : List Bool) (pad : Pad) → IsNone pins pad → level_of (bonded ++ pins) levels pad ≡ level_of bonded levels pad
before_pins [] pins levels pad none = none_levelled pins levels pad none
before_pins (p ∷ bonded) pins [] pad none = refl
before_pins (p ∷ bonded) pins (x ∷ levels) pad none = ap (λ y. cond (same_pad p pad) x y) (before_pins bonded pins levels pad none)

-- one that is none of the first
behind_others : (bonded pins : List Pad) (levels : List Bool) (pad : Pad) → IsNone bonded pad → level_of (bonded ++ pins) levels pad ≡ level_of pins (drop (length bonded) levels) pad
behind_others [] pins levels pad none = refl
behind_others (p ∷ bonded) pins [] pad none = sym (no_level pins pad)
behind_others (p ∷ bonded) pins (x ∷ levels) pad none =
    ap (λ b. cond b x (level_of (bonded ++ pins) levels pad)) (none 0 p refl) ∙ behind_others bonded pins levels pad (λ k other at. none (suc k) other at)

-- of pads each of which stands once, each has its own level
own_level : (pins : List Pad) (levels : List Bool) (k : ℕ) (pad : Pad) → StandOnce pins → At pins k pad → level_of pins levels pad ≡ slice_index_or levels k false
own_level [] levels k pad once at = absurd (none-some pad at)
own_level (p ∷ pins) levels zero pad once at =
    level_cut p pins levels pad ∙ ap (λ b. cond b (slice_index_or levels 0 false) (level_of pins (drop 1 levels) pad)) (ap (λ (q : Pad). same_pad q pad) (same_Some p pad at) ∙ pad_self pad)
own_level (p ∷ pins) levels (suc k) pad once at =
    let other = false_from_ne_true (same_pad p pad) (λ e. let same : 0 ≡ suc k = once 0 (suc k) pad (ap (λ (q : Pad). Some q) (pad_same p pad e)) at in omega (arith, same)) in
    let tail : StandOnce pins = λ i j q a b. (let same : suc i ≡ suc j = once (suc i) (suc j) q a b in omega (arith, same)) in
    level_cut p pins levels pad ∙ ap (λ b. cond b (slice_index_or levels 0 false) (level_of pins (drop 1 levels) pad)) other
    ∙ own_level pins (drop 1 levels) k pad tail at
    ∙ index_later levels k

-- ---- levels that are joined
index_joined : (first : ℕ) (levels : List Bool) (rams : List (Setup × Kept)) (k : ℕ) → k < first + 74 * length rams → slice_index_or (joined_levels first levels rams) k false ≡ port_level first levels rams k
index_joined first levels rams k lt = get_or-map-range_with_len (port_level first levels rams) 0 (first + 74 * length rams) k k false lt (omega arith)

outside_level : (first : ℕ) (levels : List Bool) (rams : List (Setup × Kept)) (k : ℕ) → k < first → port_level first levels rams k ≡ slice_index_or levels k false
outside_level first levels rams k lt = ap (λ b. cond b (slice_index_or levels k false) (given rams (k - first))) (lt-ltb k first lt)

given_level : (first : ℕ) (levels : List Bool) (rams : List (Setup × Kept)) (m : ℕ) → port_level first levels rams (first + m) ≡ given rams m
given_level first levels rams m =
    let back : first + m - first ≡ m = omega arith in
    ap (λ b. cond b (slice_index_or levels (first + m) false) (given rams (first + m - first))) (le-ltb (first + m) first (omega arith)) ∙ ap (given rams) back

-- ---- levels of all ports
pub item : {X : Type 0} (xs : List X) (i : ℕ) → i < length xs → (x : X) × At xs i x
item [] i lt = absurd (omega arith)
item (x ∷ xs) zero lt = (x, refl)
item (x ∷ xs) (suc i) lt = item xs i (omega (arith, lt))

-- pads 0 and 1 of tiles
abbrev pub AreLow : List Pad → Type 0
AreLow pads = (k : ℕ) (pad : Pad) → At pads k pad → pad.pio < 2

abbrev pub AreHigh : List Pad → Type 0
AreHigh pins = (k : ℕ) (pad : Pad) → At pins k pad → 2 ≤ pad.pio

module _ (bonded shown pins : List Pad) (low : AreLow bonded) (shown_low : AreLow shown) (high : AreHigh pins) (once : StandOnce pins) (rams : List (Setup × Kept)) (long : length pins ≡ 74 * length rams) (levels : List Bool) where
  abbrev joined : List Bool
  joined = joined_levels (length bonded) levels rams

  apart : (a b : Pad) → a.pio < 2 → 2 ≤ b.pio → same_pad a b ≡ false
  apart a b lt le = false_from_ne_true (same_pad a b) (λ e. let same : a.pio ≡ b.pio = ap (λ (p : Pad). p.pio) (pad_same a b e) in omega (arith, lt, le, same))

  apart_so : (a b : Pad) → 2 ≤ a.pio → b.pio < 2 → same_pad a b ≡ false
  apart_so a b le lt = false_from_ne_true (same_pad a b) (λ e. let same : a.pio ≡ b.pio = ap (λ (p : Pad). p.pio) (pad_same a b e) in omega (arith, lt, le, same))

  -- a port that is seen from outside
  outer : (pad : Pad) → pad.pio < 2 → level_of (bonded ++ pins) joined pad ≡ level_of bonded levels pad
  outer pad lt =
      before_pins bonded pins joined pad (λ k other at. apart_so other pad (high k other at) lt)
      ∙ level_same bonded joined levels pad (λ k below. index_joined (length bonded) levels rams k (omega (arith, below)) ∙ outside_level (length bonded) levels rams k below)

  -- a port of a block RAM
  inner : (m : ℕ) (pad : Pad) → At pins m pad → level_of (bonded ++ pins) joined pad ≡ given rams m
  inner m pad at =
      let lt : m < length pins = At_within pins m pad at in
      behind_others bonded pins joined pad (λ k other there. apart other pad (low k other there) (high m pad at))
      ∙ own_level pins (drop (length bonded) joined) m pad once at
      ∙ get_or-drop (length bonded) joined m false
      ∙ index_joined (length bonded) levels rams (length bonded + m) (omega (arith, lt, long))
      ∙ given_level (length bonded) levels rams m

  abbrev ports : List Pad
  ports = shown ++ pins

  abbrev wanted : ℕ → Bool
  wanted = port_level (length shown) (port_levels bonded shown levels) rams

  at_port : (k : ℕ) (pad : Pad) → At ports k pad → level_of (bonded ++ pins) joined pad ≡ wanted k
  at_port k pad at = by (At_parts shown pins k pad at)
    where
      by : At shown k pad ⊎ ((m : ℕ) × (k ≡ length shown + m) × At pins m pad) → level_of (bonded ++ pins) joined pad ≡ wanted k
      by (inl here) =
          outer pad (shown_low k pad here)
          ∙ sym (get_or_from_slice_get (port_levels bonded shown levels) k (level_of bonded levels pad) false (At_map (level_of bonded levels) shown k pad here))
          ∙ sym (outside_level (length shown) (port_levels bonded shown levels) rams k (At_within shown k pad here))
      by (inr (m, e, there)) = inner m pad there ∙ sym (given_level (length shown) (port_levels bonded shown levels) rams m) ∙ ap wanted (sym e)

  -- the levels of all ports are joined from those of the ports that are seen from outside
  pub joins : port_levels (bonded ++ pins) ports joined ≡ joined_levels (length shown) (port_levels bonded shown levels) rams
  joins =
      filled_from wanted 0 (port_levels (bonded ++ pins) ports joined) (length shown + 74 * length rams) false
      (length-map ports (level_of (bonded ++ pins) joined) ∙ length-append shown pins ∙ ap (λ n. length shown + n) long)
      (λ k lt.
      let both = length-append shown pins in
      let found = item ports k (omega (arith, lt, both, long)) in
      let same : k ≡ 0 + k = omega arith in
      get_or_from_slice_get (port_levels (bonded ++ pins) ports joined) k (level_of (bonded ++ pins) joined found.0) false (At_map (level_of (bonded ++ pins) joined) ports k found.0 found.1)
      ∙ at_port k found.0 found.1
      ∙ ap wanted same)
