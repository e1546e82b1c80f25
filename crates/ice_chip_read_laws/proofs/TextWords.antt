-- What the reader takes of words is what they write: numbers, tiles, pads and wires.
use Rattle.std.proofs.Common.{◌≡◌, ◌∙◌, ℕ, ◌&&◌, Bool, true, false, Option, None, Some, List, [], ◌∷◌, IfOk, Ok, Err, refl, ap, nat_lt, if◌then◌else◌}
use Rattle.ice_base.specs.Places.{tile_at}
use Rattle.ice_base.specs.Text.{number_in}
use Rattle.ice_base.specs.declared.bit.BitAt.{BitAt}
use Rattle.ice_base.specs.declared.number.TileAt.{TileAt}
use Rattle.ice_chip.specs.Database.{Parts}
use Rattle.ice_chip.specs.declared.fault.ChipFault.TheVariants.{OutOfRange}
use Rattle.ice_chip.specs.declared.rows.Pad.{Pad}
use Rattle.ice_chip_read.specs.Words.{known, number, two, three, no_word_left}
use Rattle.ice_chip_read.specs.Lines.{tile_in, tile_pad, pad_in, wire_in, global_in, one_word, bits_at}
use Rattle.ice_chip_read_laws.specs.ChipText.{all_numbers, tile_said, pad_said}
use Rattle.ice_chip_read_laws.proofs.Named.{bind_meeting}

-- ---- words
-- a number stands in front of the rest
pub record IsOne (ws rest : List (List ℕ)) (n : ℕ) : Type 0 where
  pub w : List ℕ
  pub is : ws ≡ w ∷ rest
  pub says : number_in w ≡ Some n

pub record AreTwo (ws rest : List (List ℕ)) (n m : ℕ) : Type 0 where
  pub v : List ℕ
  pub w : List ℕ
  pub is : ws ≡ v ∷ w ∷ rest
  pub first : number_in v ≡ Some n
  pub second : number_in w ≡ Some m

pub record AreThree (ws rest : List (List ℕ)) (n m k : ℕ) : Type 0 where
  pub u : List ℕ
  pub v : List ℕ
  pub w : List ℕ
  pub is : ws ≡ u ∷ v ∷ w ∷ rest
  pub first : number_in u ≡ Some n
  pub second : number_in v ≡ Some m
  pub third : number_in w ≡ Some k

pub one_read : (line : ℕ) (ws : List (List ℕ)) → IfOk (number line ws) (λ (a : ℕ × List (List ℕ)). IsOne ws a.1 a.0)
one_read line [] = tt
one_read line (w ∷ ws) = by (number_in w) refl
  where
    by : (o : Option ℕ) → number_in w ≡ o → IfOk (known line o ws) (λ (a : ℕ × List (List ℕ)). IsOne (w ∷ ws) a.1 a.0)
    by None e = tt
    by (Some n) e = record { w = w; is = refl; says = e }

pub two_read : (line : ℕ) (ws : List (List ℕ)) → IfOk (two line ws) (λ (a : (ℕ × ℕ) × List (List ℕ)). AreTwo ws a.1 a.0.0 a.0.1)
two_read line ws =
    bind_meeting (λ (a : (ℕ × ℕ) × List (List ℕ)). AreTwo ws a.1 a.0.0 a.0.1) (λ (a : ℕ × List (List ℕ)). IsOne ws a.1 a.0) (number line ws) _ (one_read line ws) (λ a front.
    bind_meeting (λ (b : (ℕ × ℕ) × List (List ℕ)). AreTwo ws b.1 b.0.0 b.0.1) (λ (b : ℕ × List (List ℕ)). IsOne a.1 b.1 b.0) (number line a.1) _ (one_read line a.1) (λ b next.
    record { v = front.w; w = next.w; is = front.is ∙ ap (λ (rest : List (List ℕ)). front.w ∷ rest) next.is; first = front.says; second = next.says }))

pub three_read : (line : ℕ) (ws : List (List ℕ)) → IfOk (three line ws) (λ (a : (ℕ × ℕ × ℕ) × List (List ℕ)). AreThree ws a.1 a.0.0 a.0.1 a.0.2)
three_read line ws =
    bind_meeting (λ (a : (ℕ × ℕ × ℕ) × List (List ℕ)). AreThree ws a.1 a.0.0 a.0.1 a.0.2) (λ (a : ℕ × List (List ℕ)). IsOne ws a.1 a.0) (number line ws) _ (one_read line ws) (λ a front.
    bind_meeting (λ (b : (ℕ × ℕ × ℕ) × List (List ℕ)). AreThree ws b.1 b.0.0 b.0.1 b.0.2) (λ (b : (ℕ × ℕ) × List (List ℕ)). AreTwo a.1 b.1 b.0.0 b.0.1) (two line a.1) _ (two_read line a.1) (λ b next.
    record { u = front.w; v = next.v; w = next.w; is = front.is ∙ ap (λ (rest : List (List ℕ)). front.w ∷ rest) next.is; first = front.says; second = next.first; third = next.second }))

pub none_left : (line : ℕ) (ws : List (List ℕ)) → IfOk (no_word_left line ws) (λ (u : Unit {0}). ws ≡ [])
none_left line [] = refl
none_left line (w ∷ ws) = tt

pub one_left : (line : ℕ) (ws : List (List ℕ)) → IfOk (one_word line ws) (λ (name : List ℕ). ws ≡ name ∷ [])
one_left line [] = tt
one_left line (w ∷ []) = refl
one_left line (w ∷ v ∷ ws) = tt

-- ---- what is in range is what was said
pub tile_read : (line : ℕ) (parts : Parts) (x y : ℕ) → IfOk (tile_in line parts x y) (λ (tile : TileAt). tile ≡ tile_at x y)
tile_read line parts x y = by (nat_lt x parts.width && nat_lt y parts.height)
  where
    by : (b : Bool) → IfOk (if b then Ok (tile_at x y) else Err (OutOfRange line)) (λ (tile : TileAt). tile ≡ tile_at x y)
    by true = refl
    by false = tt

pub pad_read : (line : ℕ) (parts : Parts) (x y pio : ℕ) → IfOk (pad_in line parts x y pio) (λ (pad : Pad). pad ≡ pad_said x y pio)
pad_read line parts x y pio =
    bind_meeting (λ (pad : Pad). pad ≡ pad_said x y pio) (λ (tile : TileAt). tile ≡ tile_at x y) (tile_in line parts x y) _ (tile_read line parts x y) (λ tile is. by tile is (nat_lt pio 2))
  where
    by : (tile : TileAt) → tile ≡ tile_at x y → (b : Bool) → IfOk (if b then Ok (tile_pad tile pio) else Err (OutOfRange line)) (λ (pad : Pad). pad ≡ pad_said x y pio)
    by tile is true = ap (λ (t : TileAt). tile_pad t pio) is
    by tile is false = tt

pub wire_read : (line : ℕ) (parts : Parts) (wire : ℕ) → IfOk (wire_in line parts wire) (λ (w : ℕ). w ≡ wire)
wire_read line parts wire = by (nat_lt wire parts.wires)
  where
    by : (b : Bool) → IfOk (if b then Ok wire else Err (OutOfRange line)) (λ (w : ℕ). w ≡ wire)
    by true = refl
    by false = tt

pub global_read : (line global : ℕ) → IfOk (global_in line global) (λ (g : ℕ). g ≡ global)
global_read line global = by (nat_lt global 8)
  where
    by : (b : Bool) → IfOk (if b then Ok global else Err (OutOfRange line)) (λ (g : ℕ). g ≡ global)
    by true = refl
    by false = tt

pub bits_read : (line : ℕ) (o : Option (List BitAt)) → IfOk (bits_at line o) (λ (bits : List BitAt). o ≡ Some bits)
bits_read line None = tt
bits_read line (Some bits) = refl

-- ---- words by their numbers
pub tile_of_two : (x y : List ℕ) (n m : ℕ) → number_in x ≡ Some n → number_in y ≡ Some m → tile_said x y ≡ Some (tile_at n m)
tile_of_two x y n m first second = rw first (rw second refl)

pub three_numbers : (ws : List (List ℕ)) (n m k : ℕ) → AreThree ws [] n m k → all_numbers ws ≡ Some (n ∷ m ∷ k ∷ [])
three_numbers ws n m k a = ap all_numbers a.is ∙ (rw a.first (rw a.second (rw a.third refl)))

pub four_numbers : (ws rest : List (List ℕ)) (n m k l : ℕ) → AreThree ws rest n m k → IsOne rest [] l → all_numbers ws ≡ Some (n ∷ m ∷ k ∷ l ∷ [])
four_numbers ws rest n m k l a b =
    ap all_numbers (a.is ∙ ap (λ (more : List (List ℕ)). a.u ∷ a.v ∷ a.w ∷ more) b.is) ∙ (rw a.first (rw a.second (rw a.third (rw b.says refl))))

pub two_pairs : (ws rest : List (List ℕ)) (n m k l : ℕ) → AreTwo ws rest n m → AreTwo rest [] k l → all_numbers ws ≡ Some (n ∷ m ∷ k ∷ l ∷ [])
two_pairs ws rest n m k l a b =
    ap all_numbers (a.is ∙ ap (λ (more : List (List ℕ)). a.v ∷ a.w ∷ more) b.is) ∙ (rw a.first (rw a.second (rw b.first (rw b.second refl))))

pub six_numbers : (ws rest : List (List ℕ)) (n m k p q s : ℕ) → AreThree ws rest n m k → AreThree rest [] p q s → all_numbers ws ≡ Some (n ∷ m ∷ k ∷ p ∷ q ∷ s ∷ [])
six_numbers ws rest n m k p q s a b =
    ap all_numbers (a.is ∙ ap (λ (more : List (List ℕ)). a.u ∷ a.v ∷ a.w ∷ more) b.is)
    ∙ (rw a.first (rw a.second (rw a.third (rw b.first (rw b.second (rw b.third refl))))))
