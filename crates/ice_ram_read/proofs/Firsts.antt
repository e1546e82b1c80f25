-- The first RAMs of a text: where these have too many hidden signals, all have.
use Rattle.std.proofs.Common.{◌≡◌, ℕ, ◌≤◌, ◌<◌, List, [], ◌∷◌, ◌++◌, length, map, Option, None, Result, Ok, Err, refl, sym, ap, subst, ◌∙◌, append-nil, arith}
use Rattle.ice_base.specs.Text.{lines, numbered}
use Rattle.ice_net.specs.NetlistData.{NetlistData}
use Rattle.ice_blif.specs.declared.fault.BlifFault.{BlifFault}
use Rattle.ice_blif.specs.Cells.{◌>>=◌}
use Rattle.ice_blif.specs.JoinedLines.{FilledLine, joined, filled}
use Rattle.ice_blif.specs.FewSignals.{few_signals}
use Rattle.ice_ram_read.specs.RamData.{RamData}
use Rattle.ice_ram_read.specs.RamTexts.{AreFirst, rams_said, rams_of}
use Rattle.ice_ram.specs.declared.setup.Setup.{Setup}
use Rattle.ice_ram.specs.Ram.{Kept}
use Rattle.ice_ram_read.specs.ClosedNetlists.{ClosedNetlistData, ram_of, with_ram, cut_says, closed_by, closed_with}

-- ---- what is read
pub all_read : (rams all : List RamData) → rams ≡ all → AreFirst rams all
all_read rams all e = record { rest = []; behind = sym e ∙ sym (append-nil rams); whole = λ few. refl }

-- more than can be are read, and none is open
pub enough_read : (n : NetlistData) (last : Option RamData) (left : List FilledLine) (rams all : List RamData) → 885 < length rams → all ≡ rams ++ rams_said n last left → AreFirst (rams ++ []) all
enough_read n last left rams all many told = record {
  rest = rams_said n last left;
  behind = told ∙ ap (λ xs. xs ++ rams_said n last left) (sym (append-nil rams));
  whole = λ few. absurd (let e : length (rams ++ []) ≡ length rams = ap (λ xs. length xs) (append-nil rams) in omega (arith, few, many, e));
}

-- those of a text
pub first_of : (n : NetlistData) (text : List ℕ) (none read all : List RamData) (left : List FilledLine) → none ≡ [] → left ≡ filled (joined (numbered 1 (lines text))) → all ≡ read
    → AreFirst read (none ++ rams_said n None left) → AreFirst all (rams_of n text)
first_of n text none read all left none_is left_is all_is first =
    let said : none ++ rams_said n None left ≡ rams_of n text = ap (λ xs. xs ++ rams_said n None left) none_is ∙ ap (λ ls. rams_said n None ls) left_is in
    subst (λ xs. AreFirst xs (rams_of n text)) (sym all_is) (subst (λ xs. AreFirst read xs) said first)

-- ---- what is cut
stops_by : (fault : BlifFault) (x : Result NetlistData BlifFault) (f g : NetlistData → Result NetlistData BlifFault) → ((m : NetlistData) → f m ≡ Err fault → g m ≡ Err fault) → (x >>= f) ≡ Err fault
    → (x >>= g) ≡ Err fault
stops_by fault (Ok m) f g later e = later m e
stops_by fault (Err other) f g later e = e

cut_stops : (n : NetlistData) (fault : BlifFault) (rams rest : List RamData) → cut_says n rams ≡ Err fault → cut_says n (rams ++ rest) ≡ Err fault
cut_stops n fault [] rest e = absurd (cc)
cut_stops n fault (ram ∷ rams) rest e =
    stops_by fault (few_signals ram.line (with_ram n ram)) (λ m. cut_says m rams) (λ m. cut_says m (rams ++ rest)) (λ m. cut_stops m fault rams rest) e

-- a fault of the first is the fault of all
pub closed_stops : (n : NetlistData) (fault : BlifFault) (rams all : List RamData) → AreFirst rams all → cut_says n rams ≡ Err fault → closed_with n all ≡ Err fault
closed_stops n fault rams all first e =
    ap (closed_with n) first.behind ∙ ap (λ (x : Result NetlistData BlifFault). x >>= (λ m. Ok (closed_by n (rams ++ first.rest) m))) (cut_stops n fault rams first.rest e)

-- few are all
few_are_all : (rams all : List RamData) → AreFirst rams all → length rams ≤ 885 → all ≡ rams
few_are_all rams all first few = first.behind ∙ ap (λ rest. rams ++ rest) (first.whole few) ∙ append-nil rams

-- these RAMs are cut out, and close the netlist
abbrev pub of_parts : NetlistData → ℕ → List (Setup × Kept) → ClosedNetlistData
of_parts netlist first rams = record { netlist = netlist; first = first; rams = rams }

closed_made : (n m : NetlistData) (texts : List RamData) (rams : List (Setup × Kept)) (closed : ClosedNetlistData) → cut_says n texts ≡ Ok m → rams ≡ map ram_of texts
    → closed ≡ of_parts m (length n.ports) rams → closed_with n texts ≡ Ok closed
closed_made n m texts rams closed cut started is =
    ap (λ (x : Result NetlistData BlifFault). x >>= (λ k. Ok (closed_by n texts k))) cut
    ∙ ap (λ (rs : List (Setup × Kept)). Ok (of_parts m (length n.ports) rs)) (sym started)
    ∙ ap Ok (sym is)

pub all_closed : (n m : NetlistData) (texts all : List RamData) (rams : List (Setup × Kept)) (closed : ClosedNetlistData) → AreFirst texts all → length texts ≤ 885 → cut_says n texts ≡ Ok m → rams ≡ map ram_of texts
    → closed ≡ of_parts m (length n.ports) rams → closed_with n all ≡ Ok closed
all_closed n m texts all rams closed first few cut started is = ap (closed_with n) (few_are_all texts all first few) ∙ closed_made n m texts rams closed cut started is
