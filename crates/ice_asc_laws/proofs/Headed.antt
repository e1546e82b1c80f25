-- What the first word of a line tells of the line.
use Rattle.std.proofs.Common.{◌≡◌, ℕ, Bool, true, false, None, Some, List, [], ◌∷◌, length, map, nat_eq, refl, sym, ap, ◌∙◌, subst, true≢false, codes, bytes_eq, if◌then◌else◌}
use Rattle.ice_base.specs.Places.{values_in}
use Rattle.ice_base.specs.Text.{begins_with}
use Rattle.ice_base.specs.Lists.{all_known}
use Rattle.ice_base.proofs.Keys.{bytes_same, nat_same}
use Rattle.ice_chip.specs.declared.rows.TileKind.{TileKind}
use Rattle.ice_chip.specs.declared.rows.TileKind.TheVariants.{Io, Logic, RamBottom, RamTop}
use Rattle.ice_asc.specs.Words.{heading_of_kind, bits_of_digits}
use Rattle.ice_asc.specs.Headings.{heading_of}
use Rattle.ice_asc.specs.Hex.{hex_value, values_of_line, values_of_digits}
use Rattle.ice_asc.specs.declared.section.Heading.{Heading}
use Rattle.ice_asc.specs.declared.section.Heading.TheVariants.{Device, Tile, RamData, ExtraBit, Symbol, Other}
use Rattle.ice_asc_laws.specs.NamedTiles.{Begins, begins_extra}

-- the word that a heading is; of one without a name here, that it is not `.extra_bit`
abbrev IsWordOf : List ℕ → Heading → Type 0
IsWordOf w Device = w ≡ codes ".device"
IsWordOf w (Tile kind) = w ≡ heading_of_kind kind
IsWordOf w RamData = w ≡ codes ".ram_data"
IsWordOf w ExtraBit = w ≡ codes ".extra_bit"
IsWordOf w Symbol = w ≡ codes ".sym"
IsWordOf w Other = bytes_eq w (codes ".extra_bit") ≡ false

-- the heading by the tests of its word
abbrev by_tests : (a b c d e f g h : Bool) → Heading
by_tests a b c d e f g h =
    if a then Device
    else (if b then Tile Io else (if c then Tile Logic else (if d then Tile RamBottom else (if e then Tile RamTop else (if f then RamData else (if g then ExtraBit else (if h then Symbol else Other)))))))

tested : (w : List ℕ) (a b c d e f g h : Bool) → bytes_eq w (codes ".device") ≡ a → bytes_eq w (codes ".io_tile") ≡ b → bytes_eq w (codes ".logic_tile") ≡ c
    → bytes_eq w (codes ".ramb_tile") ≡ d → bytes_eq w (codes ".ramt_tile") ≡ e → bytes_eq w (codes ".ram_data") ≡ f → bytes_eq w (codes ".extra_bit") ≡ g → bytes_eq w (codes ".sym") ≡ h
    → IsWordOf w (by_tests a b c d e f g h)
tested w true b c d e f g h o p q r s t u v = bytes_same w (codes ".device") o
tested w false true c d e f g h o p q r s t u v = bytes_same w (codes ".io_tile") p
tested w false false true d e f g h o p q r s t u v = bytes_same w (codes ".logic_tile") q
tested w false false false true e f g h o p q r s t u v = bytes_same w (codes ".ramb_tile") r
tested w false false false false true f g h o p q r s t u v = bytes_same w (codes ".ramt_tile") s
tested w false false false false false true g h o p q r s t u v = bytes_same w (codes ".ram_data") t
tested w false false false false false false true h o p q r s t u v = bytes_same w (codes ".extra_bit") u
tested w false false false false false false false true o p q r s t u v = bytes_same w (codes ".sym") v
tested w false false false false false false false false o p q r s t u v = u

is_word : (w : List ℕ) → IsWordOf w (heading_of w)
is_word w =
    tested w (bytes_eq w (codes ".device")) (bytes_eq w (codes ".io_tile")) (bytes_eq w (codes ".logic_tile")) (bytes_eq w (codes ".ramb_tile")) (bytes_eq w (codes ".ramt_tile"))
    (bytes_eq w (codes ".ram_data")) (bytes_eq w (codes ".extra_bit")) (bytes_eq w (codes ".sym")) refl refl refl refl refl refl refl refl

-- ---- headings of tiles
pub word_of_tile : (w : List ℕ) (kind : TileKind) → heading_of w ≡ Tile kind → w ≡ heading_of_kind kind
word_of_tile w kind e = subst (IsWordOf w) e (is_word w)

named_kind : (kind : TileKind) → heading_of (heading_of_kind kind) ≡ Tile kind
named_kind Io = refl
named_kind Logic = refl
named_kind RamBottom = refl
named_kind RamTop = refl

pub tile_of_word : (w : List ℕ) (kind : TileKind) → w ≡ heading_of_kind kind → heading_of w ≡ Tile kind
tile_of_word w kind e = ap heading_of e ∙ named_kind kind

abbrev pub is_tile : Heading → Bool
is_tile Device = false
is_tile (Tile kind) = true
is_tile RamData = false
is_tile ExtraBit = false
is_tile Symbol = false
is_tile Other = false

pub other_heading : (w : List ℕ) (ws : List (List ℕ)) (h : Heading) → heading_of w ≡ h → is_tile h ≡ false → (kind : TileKind) → Begins (w ∷ ws) kind → ⊥
other_heading w ws h e none kind is = true≢false (sym (ap is_tile (tile_of_word w kind is)) ∙ (ap is_tile e ∙ none))

-- ---- extra bits
abbrev is_extra : Heading → Bool
is_extra Device = false
is_extra (Tile kind) = false
is_extra RamData = false
is_extra ExtraBit = true
is_extra Symbol = false
is_extra Other = false

extra_by : (w : List ℕ) (h : Heading) → IsWordOf w h → bytes_eq w (codes ".extra_bit") ≡ is_extra h
extra_by w Device e = ap (λ v. bytes_eq v (codes ".extra_bit")) e
extra_by w (Tile Io) e = ap (λ v. bytes_eq v (codes ".extra_bit")) e
extra_by w (Tile Logic) e = ap (λ v. bytes_eq v (codes ".extra_bit")) e
extra_by w (Tile RamBottom) e = ap (λ v. bytes_eq v (codes ".extra_bit")) e
extra_by w (Tile RamTop) e = ap (λ v. bytes_eq v (codes ".extra_bit")) e
extra_by w RamData e = ap (λ v. bytes_eq v (codes ".extra_bit")) e
extra_by w ExtraBit e = ap (λ v. bytes_eq v (codes ".extra_bit")) e
extra_by w Symbol e = ap (λ v. bytes_eq v (codes ".extra_bit")) e
extra_by w Other e = e

pub extra_is : (w : List ℕ) (ws : List (List ℕ)) (h : Heading) → heading_of w ≡ h → begins_extra (w ∷ ws) ≡ is_extra h
extra_is w ws h e = extra_by w h (subst (IsWordOf w) e (is_word w))

-- ---- lines of other words
dotted : (kind : TileKind) → begins_with 46 (heading_of_kind kind) ≡ true
dotted Io = refl
dotted Logic = refl
dotted RamBottom = refl
dotted RamTop = refl

pub plain_line : (w : List ℕ) (ws : List (List ℕ)) → begins_with 46 w ≡ false → (kind : TileKind) → Begins (w ∷ ws) kind → ⊥
plain_line w ws plain kind is = true≢false (sym (dotted kind) ∙ (ap (begins_with 46) (sym is) ∙ plain))

pub plain_extra : (w : List ℕ) (ws : List (List ℕ)) → begins_with 46 w ≡ false → begins_extra (w ∷ ws) ≡ false
plain_extra w ws plain = by (bytes_eq w (codes ".extra_bit")) refl
  where
    by : (x : Bool) → bytes_eq w (codes ".extra_bit") ≡ x → x ≡ false
    by false e = refl
    by true e = absurd (true≢false (ap (begins_with 46) (sym (bytes_same w (codes ".extra_bit") e)) ∙ plain))

-- a row of digits begins with no dot
pub row_plain : (width : ℕ) (w : List ℕ) (row : List Bool) → bits_of_digits width w ≡ Some row → begins_with 46 w ≡ false
row_plain width [] row is = refl
row_plain width (c ∷ w) row is = by (nat_eq c 46) refl
  where
    dot : (x : Bool) → (if x then values_in (46 ∷ w) else None) ≡ Some row → ⊥
    dot true e = let none : None ≡ Some row = e in absurd (cc)
    dot false e = absurd (cc)

    by : (x : Bool) → nat_eq c 46 ≡ x → x ≡ false
    by false e = refl
    by true e = absurd (dot (nat_eq (length (46 ∷ w)) width) (subst (λ d. bits_of_digits width (d ∷ w) ≡ Some row) (nat_same c 46 e) is))

-- and so does a row of a block RAM's words
pub values_plain : (w : List ℕ) (ws : List (List ℕ)) (values : List ℕ) → values_of_line w ws ≡ Some values → begins_with 46 w ≡ false
values_plain w (v ∷ ws) values is = let none : None ≡ Some values = is in absurd (cc)
values_plain [] [] values is = refl
values_plain (c ∷ w) [] values is = by (nat_eq c 46) refl
  where
    dot : (x : Bool) → (if x then all_known (hex_value 46 ∷ map hex_value w) else None) ≡ Some values → ⊥
    dot true e = let none : None ≡ Some values = e in absurd (cc)
    dot false e = absurd (cc)

    by : (x : Bool) → nat_eq c 46 ≡ x → x ≡ false
    by false e = refl
    by true e = absurd (dot (nat_eq (length (46 ∷ w)) 64) (subst (λ d. values_of_digits (d ∷ w) ≡ Some values) (nat_same c 46 e) is))
