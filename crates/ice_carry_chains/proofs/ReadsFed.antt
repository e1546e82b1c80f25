-- A carry that is read otherwise than by the carry that follows, or by that cell's last input, is passed on.
use Rattle.std.proofs.Common.{◌≡◌, ◌⊎◌, ℕ, ◌+◌, true, false, Option, None, Some, List, [], ◌∷◌, ◌++◌, map, refl, ap, sym, ◌∙◌, subst, inl, inr}
use Rattle.std.specs.Prelude.{slice_index_or}
use Rattle.std.specs.List.{flat_map}
use Rattle.ice_net.specs.declared.kind.Reset.{Reset}
use Rattle.ice_base_values.specs.Order.{At, Has}
use Rattle.ice_base_values.proofs.Members.{At_map}
use Rattle.ice_base_values.proofs.ListPlaces.{Has_left}
use Rattle.ice_cells.specs.declared.cell.Control.{Control}
use Rattle.ice_cells.specs.declared.cell.LogicCell.{LogicCell}
use Rattle.ice_cells.specs.declared.design.Design.{Design}
use Rattle.ice_cells.specs.declared.design.DesignPad.{DesignPad}
use Rattle.ice_cells.specs.declared.follow.Follow.{Follow}
use Rattle.ice_cells.specs.declared.follow.Follow.TheVariants.{Nobody, Next, Other}
use Rattle.ice_cells.specs.declared.follow.Reader.{Reader}
use Rattle.ice_cells.specs.declared.follow.Reader.TheVariants.{Into, Last, Else}
use Rattle.ice_cells.specs.declared.root.CarryIn.TheVariants.{Fixed, Read}
use Rattle.ice_cells.specs.declared.root.Root.{Root}
use Rattle.ice_cells.specs.declared.root.Root.TheVariants.{CarryOut}
use Rattle.ice_cells.specs.Chains.{Head, next, next_by}
use Rattle.ice_cells.specs.Follows.{follow, follows}
use Rattle.ice_cells.specs.Readings.{Reading, plain, carry_reading, control_readings, cell_readings, cells_readings, pad_readings, readings, carry_root, control_roots, cell_roots, pad_roots, roots_read}
use Rattle.ice_carry_chains.specs.Before.{HasCarry, IsBeforeRuns}
use Rattle.ice_cells.specs.Runs.{fed_numbers}
use Rattle.ice_carry_chains.proofs.DesignChains.{carry_below}
use Rattle.ice_carry_chains.proofs.DesignFed.{mark_is, other_fed}
use Rattle.ice_carry_chains.proofs.FollowLaws.{is_marked, read_marked, next_only}

-- ---- what is read, whatever reads it
abbrev root_of : Reading → Option Root
root_of reading = reading.0

carry_roots : (carries : List Head) → map root_of (map carry_reading carries) ≡ map carry_root carries
carry_roots [] = refl
carry_roots ((c, Fixed level) ∷ carries) = ap (λ (xs : List (Option Root)). None ∷ xs) (carry_roots carries)
carry_roots ((c, Read root) ∷ carries) = ap (λ (xs : List (Option Root)). Some root ∷ xs) (carry_roots carries)

control_same : (flop : Option (Control × Reset)) → map root_of (control_readings flop) ≡ control_roots flop
control_same None = refl
control_same (Some flop) = refl

map_append : (xs ys : List Reading) → map root_of (xs ++ ys) ≡ map root_of xs ++ map root_of ys
map_append [] ys = refl
map_append (x ∷ xs) ys = ap (λ (zs : List (Option Root)). root_of x ∷ zs) (map_append xs ys)

cell_same : (c : ℕ) (cell : LogicCell) → map root_of (cell_readings c cell) ≡ cell_roots cell
cell_same c cell =
    ap (λ (xs : List (Option Root)). slice_index_or cell.ins 0 None ∷ slice_index_or cell.ins 1 None ∷ slice_index_or cell.ins 2 None ∷ slice_index_or cell.ins 3 None ∷ xs) (control_same cell.flop)

cells_same : (c : ℕ) (cells : List LogicCell) → map root_of (cells_readings c cells) ≡ flat_map cell_roots cells
cells_same c [] = refl
cells_same c (cell ∷ cells) = map_append (cell_readings c cell) (cells_readings (c + 1) cells) ∙ (λ i. cell_same c cell i ++ cells_same (c + 1) cells i)

pads_same : (pads : List DesignPad) → map root_of (flat_map pad_readings pads) ≡ flat_map pad_roots pads
pads_same [] = refl
pads_same (pad ∷ pads) = ap (λ (xs : List (Option Root)). pad.drive ∷ pad.enable ∷ xs) (pads_same pads)

globals_same : (globals : List (Option Root)) → map root_of (map plain globals) ≡ globals
globals_same [] = refl
globals_same (root ∷ globals) = ap (λ (xs : List (Option Root)). root ∷ xs) (globals_same globals)

roots_are : (d : Design) → map root_of (readings d) ≡ roots_read d
roots_are d =
    map_append (map carry_reading d.carries ++ cells_readings 0 d.cells ++ flat_map pad_readings d.pads) (map plain d.globals)
    ∙ (λ i. (map_append (map carry_reading d.carries ++ cells_readings 0 d.cells) (flat_map pad_readings d.pads)
    ∙ (λ j. (map_append (map carry_reading d.carries) (cells_readings 0 d.cells) ∙ (λ k. carry_roots d.carries k ++ cells_same 0 d.cells k)) j ++ pads_same d.pads j)) i ++ globals_same d.globals i)

root_read : (d : Design) (o : Option Root) (x : Reader) → Has (readings d) (o, x) → Has (roots_read d) o
root_read d o x (i, at) = (i, subst (λ (xs : List (Option Root)). At xs i o) (roots_are d) (At_map root_of (readings d) i (o, x) at))

-- ---- what is read by neither carries nor last inputs
abbrev pub cell_plain : LogicCell → List (Option Root)
cell_plain cell = slice_index_or cell.ins 0 None ∷ slice_index_or cell.ins 1 None ∷ slice_index_or cell.ins 2 None ∷ control_roots cell.flop

else_into : (c : ℕ) → Else ≡ Into c → ⊥
else_into c e = cc

else_last : (c : ℕ) → Else ≡ Last c → ⊥
else_last c e = cc

into_last : (c e : ℕ) → Into c ≡ Last e → ⊥
into_last c e f = cc

into_same : (c e : ℕ) → Into c ≡ Into e → c ≡ e
into_same c e f = cc

module _ (d : Design) (ready : IsBeforeRuns d) where
  carry_read : (k : ℕ) (x : Reader) → Has (readings d) (Some (CarryOut k), x) → HasCarry d k
  carry_read k x has = ready.read k (root_read d (Some (CarryOut k)) x has)

  -- what is read is followed by one, or read in another way
  cases : (k : ℕ) (x : Reader) → Has (readings d) (Some (CarryOut k), x) → ((e : ℕ) → follow d k ≡ Next e → (x ≡ Into e) ⊎ (x ≡ Last e) → ⊥) → follow d k ≡ Other
  cases k x has never = by (follow d k) refl
    where
      by : (mark : Follow) → follow d k ≡ mark → follow d k ≡ Other
      by Nobody f = (let marked : is_marked (follow d k) ≡ true = read_marked k (readings d) Nobody has.0 x has.1 in let bad : is_marked (follow d k) ≡ false = ap is_marked f in cc (marked, bad))
      by (Next e) f = absurd (never e f (next_only k e (readings d) Nobody f has.0 x has.1))
      by Other f = f

  pub plain_fed : (k : ℕ) → Has (readings d) (Some (CarryOut k), Else) → (n : ℕ) × (slice_index_or (fed_numbers d) k None ≡ Some n)
  plain_fed k has = other_fed d ready k (carry_read k Else has) (cases k Else has (λ e f. never e))
    where
      never : (e : ℕ) → (Else ≡ Into e) ⊎ (Else ≡ Last e) → ⊥
      never e (inl g) = else_into e g
      never e (inr g) = else_last e g

  -- what comes into a carry that does not follow
  pub into_fed : (c k : ℕ) → Has d.carries (c, Read (CarryOut k)) → (next (follows d) k ≡ Some c → ⊥) → (n : ℕ) × (slice_index_or (fed_numbers d) k None ≡ Some n)
  into_fed c k has not = other_fed d ready k one (cases k (Into c) reading never)
    where
      reading : Has (readings d) (Some (CarryOut k), Into c)
      reading =
          Has_left (map carry_reading d.carries ++ cells_readings 0 d.cells ++ flat_map pad_readings d.pads) (map plain d.globals) (Some (CarryOut k), Into c)
          (Has_left (map carry_reading d.carries ++ cells_readings 0 d.cells) (flat_map pad_readings d.pads) (Some (CarryOut k), Into c)
          (Has_left (map carry_reading d.carries) (cells_readings 0 d.cells) (Some (CarryOut k), Into c) (has.0, At_map carry_reading d.carries has.0 (c, Read (CarryOut k)) has.1)))

      one : HasCarry d k
      one = carry_read k (Into c) reading

      never : (e : ℕ) → follow d k ≡ Next e → (Into c ≡ Into e) ⊎ (Into c ≡ Last e) → ⊥
      never e f (inl g) = not (ap next_by (mark_is d ready k (carry_below d ready k one) ∙ f) ∙ ap Some (sym (into_same c e g)))
      never e f (inr g) = into_last c e g
