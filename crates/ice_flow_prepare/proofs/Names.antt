-- Carries can be added to a netlist with promoted clocks.
use Rattle.std.proofs.Common.{◌≡◌, inl, inr, ◌∙◌, ℕ, ◌<◌, false, ◌+◌, List, [], ◌∷◌, ◌++◌, length, map, All, sym, ap, subst, arith, codes, true≢false, length-append, refl}
use Rattle.std.specs.Prelude.{slice_index_or}
use Rattle.std.specs.List.{AllByRecursion}
use Rattle.std.proofs.lemmas.List.{length-map}
use Rattle.std.proofs.lemmas.List.Elements.{All-weaker, All-append, All-nil, All-cons}
use Rattle.ice_base.specs.Text.{ends_word}
use Rattle.ice_base.specs.declared.number.SignalNo.{SignalNo}
use Rattle.ice_net.specs.NetlistData.{NetlistData}
use Rattle.ice_check_promote.specs.Promoted.{buffered_name, buffered_cell, buffers, with_buffers, passing_cell, promoted_clocks, promoted}
use Rattle.ice_check_promote.specs.Promotable.{last_byte, IsPromotableName}
use Rattle.ice_check_promote.proofs.PlainNames.{last_gb}
use Rattle.ice_check_promote.proofs.Buffers.{length_buffers}
use Rattle.ice_check_promote.proofs.Clocks.{few_clocks}
use Rattle.ice_carry_tails.specs.Tailable.{IsPlainName, HasRoomForTails}
use Rattle.ice_flow_prepare.specs.Prepared.{IsPreparableName, CanBePrepared}

-- the blank before `tail` ends a word
no_end : (front : List ℕ) → AllByRecursion (λ b. ends_word b ≡ false) (front ++ codes " tail") → ⊥
no_end [] all = true≢false all.0
no_end (b ∷ front) all = no_end front all.1

last_tail : (d : ℕ) (front : List ℕ) → last_byte d (front ++ codes " tail") ≡ 108
last_tail d [] = refl
last_tail d (x ∷ front) = last_tail x front

name_plain : (name : List ℕ) → IsPreparableName name → IsPlainName name
name_plain name (inl word) front e = no_end front (subst (λ bytes. AllByRecursion (λ b. ends_word b ≡ false) bytes) e word.1)
name_plain name (inr other) front e = other.1 (ap (last_byte 0) e ∙ last_tail 0 front)

promotable : (name : List ℕ) → IsPreparableName name → IsPromotableName name
promotable name (inl word) = inl word
promotable name (inr other) = inr other.0

-- its clocks can be promoted
pub promotable_names : (n : NetlistData) → CanBePrepared n → All IsPromotableName n.names
promotable_names n can = All-weaker IsPreparableName IsPromotableName promotable n.names can.names

-- a buffer's name ends otherwise
buffered_plain : (name : List ℕ) → IsPlainName (buffered_name name)
buffered_plain name front e =
    let a = last_gb 0 name in
    let b = last_tail 0 front in
    let same = ap (last_byte 0) e in
    absurd (omega (arith, a, b, same))

all_buffered : (n : NetlistData) (clocks : List ℕ) → All IsPlainName (map (λ clock. buffered_name (slice_index_or n.names clock [])) clocks)
all_buffered n [] = All-nil IsPlainName
all_buffered n (clock ∷ clocks) =
    All-cons IsPlainName (buffered_name (slice_index_or n.names clock [])) (map (λ clock. buffered_name (slice_index_or n.names clock [])) clocks)
    (buffered_plain (slice_index_or n.names clock [])) (all_buffered n clocks)

-- how many cells there are then
cells_long : (n : NetlistData) (outer : List SignalNo) (free : ℕ) → length (promoted n outer free).cells ≡ length n.cells + length (promoted_clocks n free)
cells_long n outer free =
    let count = length n.names in
    let clocks = promoted_clocks n free in
    let whole = length-map (with_buffers n clocks).cells (passing_cell count clocks outer) in
    let long = length-append (map (buffered_cell count clocks) n.cells) (buffers count clocks) in
    let old = length-map n.cells (buffered_cell count clocks) in
    let added = length_buffers count clocks in
    omega (arith, whole, long, old, added)

pub has_room : (n : NetlistData) (outer : List SignalNo) (free : ℕ) → CanBePrepared n → HasRoomForTails (promoted n outer free)
has_room n outer free can = record {
  plain = All-append IsPlainName n.names (map (λ clock. buffered_name (slice_index_or n.names clock [])) (promoted_clocks n free))
      (All-weaker IsPreparableName IsPlainName name_plain n.names can.names) (all_buffered n (promoted_clocks n free));
  room =
      (let few = few_clocks n free in
      let room = can.room in
      let long = cells_long n outer free in
      omega (arith, few, room, long));
}

pub has_room_at : (n m : NetlistData) (outer : List SignalNo) (free : ℕ) → CanBePrepared n → m ≡ promoted n outer free → HasRoomForTails m
has_room_at n m outer free can e = subst HasRoomForTails (sym e) (has_room n outer free can)

-- promoted clocks leave room for cells
pub few_cells : (n : NetlistData) (outer : List SignalNo) (free : ℕ) → length n.cells < 1072000000 → length (promoted n outer free).cells < 1073000000
few_cells n outer free room =
    let few = few_clocks n free in
    let long = cells_long n outer free in
    omega (arith, few, room, long)
