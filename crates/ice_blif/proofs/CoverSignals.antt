-- The signals of a cover.
use Rattle.std.proofs.Common.{ℕ, ◌-◌, ◌<◌, ◌≤◌, List, [], ◌∷◌, ◌++◌, length, length-take, length-drop, Option, Some, All, ◌∙◌, arith}
use Rattle.std.proofs.lemmas.List.Elements.{All-weaker, All-push, All-nil, All-take, All-drop}
use Rattle.ice_base.specs.declared.number.SignalNo.{SignalNo}
use Rattle.ice_net.specs.Formed.{IsPresent}
use Rattle.ice_net.proofs.NetlistLaws.{present_more}
use Rattle.ice_blif.specs.Grammar.{new_cover}
use Rattle.ice_blif.specs.Cells.{IsOpenCover}

pub none_yet : (n : ℕ) → All (IsPresent n) []
none_yet n = All-nil (IsPresent n)

-- one signal more
pub one_more : (m n : ℕ) (signals : List (Option SignalNo)) (s : SignalNo) → m ≤ n → All (IsPresent m) signals → s.0 < n → All (IsPresent n) (signals ++ Some s ∷ [])
one_more m n signals s le h lt = All-push (IsPresent n) signals (Some s) (All-weaker (IsPresent m) (IsPresent n) (present_more m n le) signals h) lt

-- a cover of these signals
pub cover_open : (n line : ℕ) (signals : List (Option SignalNo)) → 0 < length signals → length signals ≤ 5 → All (IsPresent n) signals → IsOpenCover n (new_cover line signals)
cover_open n line signals some short h = record {
  narrow = omega (arith, length-take (length signals - 1) signals);
  single = length-drop (length signals - 1) signals ∙ omega (arith, some);
  ins_present = All-take (IsPresent n) (length signals - 1) signals h;
  outs_present = All-drop (IsPresent n) (length signals - 1) signals h;
}
