-- Ports of RAMs, added one after another.
use Rattle.std.proofs.Common.{◌≡◌, ℕ, suc, ◌+◌, ◌-◌, ◌<◌, List, ◌∷◌, length, drop, get_or, Option, Result, Ok, Err, refl, sym, ap, ◌∙◌, arith}
use Rattle.std.proofs.lemmas.List.{drop_more}
use Rattle.ice_base.specs.declared.number.SignalNo.{SignalNo}
use Rattle.ice_net.specs.declared.cell.Cell.{Cell}
use Rattle.ice_net.specs.declared.port.Way.{Way}
use Rattle.ice_net.specs.NetlistData.{NetlistData, with_port}
use Rattle.ice_blif.specs.declared.fault.BlifFault.{BlifFault}
use Rattle.ice_blif.specs.Cells.{◌>>=◌}
use Rattle.ice_blif.specs.FewSignals.{few_signals}
use Rattle.ice_blif.specs.Registers.{hidden_name}
use Rattle.ice_blif.specs.State.{named, signal_of}
use Rattle.ice_ram_read.specs.RamData.{RamData}
use Rattle.ice_ram_read.specs.ClosedNetlists.{with_cover, port_cover, port_word, port_way, with_ram_port, with_ports, with_ram, cut_says}

pub ports_none : (n : NetlistData) (ram : RamData) (k : ℕ) → with_ports n ram k 0 ≡ n
unfolding with_ports
ports_none n ram k = refl

-- one port, and then those behind it
pub ports_more : (n : NetlistData) (ram : RamData) (k : ℕ) → k < 74 → with_ports n ram k (74 - k) ≡ with_ports (with_ram_port n ram k) ram (k + 1) (74 - (k + 1))
unfolding with_ports
ports_more n ram k lt =
    let fewer : 74 - k ≡ suc (74 - (k + 1)) = omega arith in
    ap (λ count. with_ports n ram k count) fewer

-- ---- RAMs, one after another
first_left : (rams : List RamData) (i : ℕ) (ram : RamData) → i < length rams → ram ≡ get_or rams i ram → drop i rams ≡ ram ∷ drop (i + 1) rams
first_left rams i ram lt is = drop_more rams i ram lt ∙ ap (λ x. x ∷ drop (i + 1) rams) (sym is)

pub cut_more : (n m : NetlistData) (rams : List RamData) (i : ℕ) (ram : RamData) → i < length rams → ram ≡ get_or rams i ram → few_signals ram.line (with_ram n ram) ≡ Ok m
    → cut_says n (drop i rams) ≡ cut_says m (drop (i + 1) rams)
cut_more n m rams i ram lt is told =
    ap (cut_says n) (first_left rams i ram lt is) ∙ ap (λ (x : Result NetlistData BlifFault). x >>= (λ k. cut_says k (drop (i + 1) rams))) told

pub cut_fault : (n : NetlistData) (fault : BlifFault) (rams : List RamData) (i : ℕ) (ram : RamData) → i < length rams → ram ≡ get_or rams i ram → few_signals ram.line (with_ram n ram) ≡ Err fault
    → cut_says n (drop i rams) ≡ Err fault
cut_fault n fault rams i ram lt is told =
    ap (cut_says n) (first_left rams i ram lt is) ∙ ap (λ (x : Result NetlistData BlifFault). x >>= (λ k. cut_says k (drop (i + 1) rams))) told

-- ---- one port, in the code's words
abbrev pub with_port_of : NetlistData → SignalNo → Way → NetlistData
with_port_of n signal way = record { names = n.names; ports = with_port n.ports signal way; cells = n.cells }

abbrev with_port_named : NetlistData → RamData → ℕ → List ℕ → NetlistData
with_port_named n ram k name = with_cover (with_port_of (named n name) (signal_of n name) (port_way k)) (port_cover (named n name) ram k (signal_of n name))

pub port_added : (n a m last : NetlistData) (ram : RamData) (k line : ℕ) (word : List ℕ) (hidden : SignalNo) (way : Way) (cover : Option Cell) → line ≡ ram.line → word ≡ port_word k → a ≡ named n (hidden_name line word)
    → hidden ≡ signal_of n (hidden_name line word) → cover ≡ port_cover a ram k hidden → way ≡ port_way k → m ≡ with_port_of a hidden way → last ≡ with_cover m cover → last ≡ with_ram_port n ram k
port_added n a m last ram k line word hidden way cover line_is word_is named_is hidden_is cover_is way_is port_is is =
    is
    ∙ ap (λ (x : NetlistData). with_cover x cover) port_is
    ∙ ap (λ (c : Option Cell). with_cover (with_port_of a hidden way) c) cover_is
    ∙ ap (λ (w : Way). with_cover (with_port_of a hidden w) (port_cover a ram k hidden)) way_is
    ∙ ap (λ (s : SignalNo). with_cover (with_port_of a s (port_way k)) (port_cover a ram k s)) hidden_is
    ∙ ap (λ (x : NetlistData). with_cover (with_port_of x (signal_of n (hidden_name line word)) (port_way k)) (port_cover x ram k (signal_of n (hidden_name line word)))) named_is
    ∙ ap (λ (w : List ℕ). with_port_named n ram k (hidden_name line w)) word_is
    ∙ ap (λ (l : ℕ). with_port_named n ram k (hidden_name l (port_word k))) line_is
