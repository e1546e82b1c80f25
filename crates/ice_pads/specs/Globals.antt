-- Which globals there are to take, and which global buffer takes which.
use Rattle.std.specs.Prelude.{ℕ, zero, suc, ◌==◌, nat_eq, Bool, true, false, ◌&&◌, ◌||◌, not, is_some, Option, None, Some, Result, Ok, Err, List, [], ◌∷◌, ◌++◌, map, filter, find, length, bytes_eq, nat_lt, if◌then◌else◌}
use Rattle.std.specs.List.{list_any}
use Rattle.ice_base.specs.declared.number.TileAt.{TileAt}
use Rattle.ice_chip.specs.Database.{Parts, same_pad, same_tile}
use Rattle.ice_chip.specs.Lookups.{names_of, global_of, gbufpin_of, padin_of, wire_named}
use Rattle.ice_chip.specs.Listings.{tile_of}
use Rattle.ice_chip.specs.WireNames.{clock_enable_name, set_reset_name, fabout_name, global_name}
use Rattle.ice_chip.specs.declared.rows.Pad.{Pad}
use Rattle.ice_chip.specs.declared.tile.Tile.{Tile}
use Rattle.ice_chip.specs.declared.rows.TileKind.{TileKind}
use Rattle.ice_chip.specs.declared.rows.TileKind.TheVariants.{Io, Logic, RamBottom, RamTop}
use Rattle.ice_bits_rows.specs.FirstSound.{is_joined}
use Rattle.ice_pads.specs.declared.want.Buffer.{Buffer}
use Rattle.ice_pads.specs.declared.want.Pins.{Pins}
use Rattle.ice_pads.specs.declared.fault.PinFault.{PinFault}
use Rattle.ice_pads.specs.declared.fault.PinFault.TheVariants.{TooManyGlobals}
use Rattle.ice_pads.specs.Constraints.{first_passing}
use Rattle.ice_chip_sockets.specs.Sockets.{has_io_wire}

-- ---- the globals of a chip
-- one of the wire's names is this one
abbrev pub has_name : Parts → List ℕ → ℕ → Bool
has_name parts name wire = list_any (λ n. bytes_eq n.name name) (names_of parts wire)

-- the least wire that has the name of a global
abbrev pub global_wire : Parts → ℕ → Option ℕ
global_wire parts n = first_passing (has_name parts (global_name n)) 0 parts.wires

abbrev pub is_same_tile : Option TileAt → Option TileAt → Bool
is_same_tile None other = false
is_same_tile (Some t) None = false
is_same_tile (Some t) (Some u) = same_tile t u

-- the tile that feeds a global is an IO tile with a wire `fabout`
abbrev pub is_fed : Parts → Option TileAt → Bool
is_fed parts None = false
is_fed parts (Some t) = has_io_wire parts t fabout_name

-- one of the globals below this one is fed by the tile
abbrev pub some_lower : Parts → ℕ → Option TileAt → Bool
some_lower parts zero tile = false
some_lower parts (suc n) tile = some_lower parts n tile || is_same_tile (global_of parts n) tile

-- the global can be taken: a wire has its name, a tile feeds it, and that tile feeds no lower one
abbrev pub is_global : Parts → ℕ → Bool
is_global parts n = is_some (global_wire parts n) && is_fed parts (global_of parts n) && not (some_lower parts n (global_of parts n))

-- the numbers of the globals
abbrev pub numbers : List ℕ
numbers = 0 ∷ 1 ∷ 2 ∷ 3 ∷ 4 ∷ 5 ∷ 6 ∷ 7 ∷ []

-- the globals that can be taken, by rising number
abbrev pub globals : Parts → List ℕ
globals parts = filter (is_global parts) numbers

-- ---- which pins a global reaches
abbrev pub is_joined_to : Parts → Option ℕ → Option ℕ → Bool
is_joined_to parts None target = false
is_joined_to parts (Some source) None = false
is_joined_to parts (Some source) (Some target) = is_joined parts source target

abbrev pub is_logic_kind : TileKind → Bool
is_logic_kind Io = false
is_logic_kind Logic = true
is_logic_kind RamBottom = false
is_logic_kind RamTop = false

-- a usable row leads from the wire to each of the pins in the tile
abbrev pub reaches : Parts → Option ℕ → Pins → TileAt → Bool
reaches parts wire pins t =
    (not pins.enable || is_joined_to parts wire (wire_named parts t clock_enable_name))
    && (not pins.reset || is_joined_to parts wire (wire_named parts t set_reset_name))

-- that holds in some logic tile
abbrev pub serves : Parts → Pins → ℕ → Bool
serves parts pins n = list_any (λ (t : Tile). is_logic_kind t.kind && reaches parts (global_wire parts n) pins t.at) (map tile_of parts.tiles)

-- a global buffer that is read as an enable, or as a set or reset
abbrev pub is_control : Pins → Bool
is_control pins = pins.enable || pins.reset

-- ---- direct globals: the level of a pad is put on a global by an extra bit, a bank and a place
abbrev pub is_same_extra : ℕ × ℕ × ℕ → Option (ℕ × ℕ × ℕ) → Bool
is_same_extra extra None = false
is_same_extra extra (Some other) = (extra.0 == other.0) && (extra.1 == other.1) && (extra.2 == other.2)

-- the extra bit is that of this global, and another one's too
abbrev pub is_shared_by : Parts → ℕ → ℕ × ℕ × ℕ → ℕ → Bool
is_shared_by parts n extra m = not (m == n) && is_same_extra extra (padin_of parts m)

abbrev pub is_own : Parts → ℕ → Option (ℕ × ℕ × ℕ) → Bool
is_own parts n None = false
is_own parts n (Some extra) = not (list_any (is_shared_by parts n extra) numbers)

-- the global has an extra bit, which is no other global's
abbrev pub has_own_extra : Parts → ℕ → Bool
has_own_extra parts n = is_own parts n (padin_of parts n)

abbrev pub is_pad : Pad → Option Pad → Bool
is_pad pad None = false
is_pad pad (Some other) = same_pad pad other

-- the global reaches what the buffer is read as; of a clock nothing is asked
abbrev pub meets : Parts → Pins → ℕ → Bool
meets parts pins n = not (is_control pins) || serves parts pins n

-- a global buffer that takes the level of the pad can be direct on the global
abbrev pub can_be_direct : Parts → Pins → Pad → ℕ → Bool
can_be_direct parts pins pad n = is_pad pad (gbufpin_of parts n) && has_own_extra parts n && is_some (global_wire parts n) && meets parts pins n

abbrev pub has_number : ℕ → Option ℕ → Bool
has_number n None = false
has_number n (Some m) = nat_eq n m

-- one of them took the global
abbrev pub is_taken : List (Option ℕ) → ℕ → Bool
is_taken taken n = list_any (has_number n) taken

abbrev pub is_free_for : Parts → List (Option ℕ) → Pins → Pad → ℕ → Bool
is_free_for parts taken pins pad n = not (is_taken taken n) && can_be_direct parts pins pad n

-- the least global on which it can be direct and which none before took; a buffer that takes the level of no pad has none
abbrev pub direct_on : Parts → List (Option ℕ) → Pins → Option Pad → Option ℕ
direct_on parts taken pins None = None
direct_on parts taken pins (Some pad) = find (is_free_for parts taken pins pad) numbers

-- the global on which each of these is direct, where it is, behind what those before took
abbrev pub direct_choices : Parts → List (Option ℕ) → List Buffer → List (Option ℕ)
direct_choices parts taken [] = []
direct_choices parts taken (buffer ∷ buffers) =
    direct_on parts taken buffer.pins buffer.pad ∷ direct_choices parts (taken ++ direct_on parts taken buffer.pins buffer.pad ∷ []) buffers

-- ---- choices of the others
-- what each global buffer has taken so far, and which globals are left
pub record Choices : Type 0 where
  pub taken : List (Option ℕ)
  pub free : List ℕ

abbrev pub or_first : Option ℕ → List ℕ → Option ℕ
or_first (Some n) free = Some n
or_first None [] = None
or_first None (n ∷ free) = Some n

-- the least of the free globals that serves these pins, and where there is none the least of all
abbrev pub picked : Parts → Pins → List ℕ → Option ℕ
picked parts pins free = or_first (find (serves parts pins) free) free

abbrev pub without : Option ℕ → List ℕ → List ℕ
without None free = free
without (Some n) free = filter (λ m. not (m == n)) free

abbrev pub with_taken : Choices → Option ℕ → Choices
with_taken choices n = record { taken = choices.taken ++ n ∷ []; free = without n choices.free }

-- those that are read as an enable, or as a set or reset, choose first
abbrev pub choice : Parts → Pins → List ℕ → Option ℕ
choice parts p free = if is_control p then picked parts p free else None

-- all of them, in order
abbrev pub first_choices : Parts → Choices → List Pins → Choices
first_choices parts choices [] = choices
first_choices parts choices (p ∷ ps) = first_choices parts (with_taken choices (choice parts p choices.free)) ps

-- each of the others takes the least free one; there are enough
abbrev pub other_choices : List (Option ℕ) → List ℕ → List ℕ
other_choices [] free = []
other_choices (Some n ∷ taken) free = n ∷ other_choices taken free
other_choices (None ∷ taken) [] = 0 ∷ other_choices taken []
other_choices (None ∷ taken) (n ∷ free) = n ∷ other_choices taken free

abbrev pub all_choices : Choices → List ℕ
all_choices choices = other_choices choices.taken choices.free

-- the global of each global buffer, where these are free
abbrev pub chosen_from : Parts → List ℕ → List Pins → List ℕ
chosen_from parts free pins = all_choices (first_choices parts (record { taken = []; free = free }) pins)

-- ---- all
-- the free globals that none of these took
abbrev pub left : List (Option ℕ) → List ℕ → List ℕ
left [] free = free
left (n ∷ taken) free = left taken (without n free)

-- as what the global buffers are read that are not direct
abbrev pub fed_pins : List (Option ℕ) → List Buffer → List Pins
fed_pins [] buffers = []
fed_pins (n ∷ direct) [] = []
fed_pins (None ∷ direct) (buffer ∷ buffers) = buffer.pins ∷ fed_pins direct buffers
fed_pins (Some n ∷ direct) (buffer ∷ buffers) = fed_pins direct buffers

-- a global for each global buffer, and whether it is direct
pub record TakenData : Type 0 where
  pub numbers : List ℕ
  pub direct : List Bool

abbrev pub is_there : Option ℕ → Bool
is_there number = is_some number

-- the direct buffers have these globals, and the others, read as these pins, choose among these
abbrev pub taken_by : Parts → List (Option ℕ) → List ℕ → List Pins → TakenData
taken_by parts direct free pins = record { numbers = other_choices direct (chosen_from parts free pins); direct = map is_there direct }

-- the same, or that there are too few
abbrev pub taken_with : Parts → List (Option ℕ) → List ℕ → List Pins → Result TakenData PinFault
taken_with parts direct free pins =
    if nat_lt (length free) (length pins) then Err (TooManyGlobals (length pins) (length free))
    else Ok (taken_by parts direct free pins)

-- the same, where the others choose among the globals that no direct one took
abbrev pub taken_beside : Parts → List Buffer → List (Option ℕ) → Result TakenData PinFault
taken_beside parts buffers direct = taken_with parts direct (left direct (globals parts)) (fed_pins direct buffers)

-- the global of each global buffer, or that there are too few: first those that can be direct take theirs
abbrev pub globals_of : Parts → List Buffer → Result TakenData PinFault
globals_of parts buffers = taken_beside parts buffers (direct_choices parts [] buffers)
