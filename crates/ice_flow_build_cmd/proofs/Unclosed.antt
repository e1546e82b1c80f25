-- Whether a netlist that was read has RAMs.
use Rattle.std.proofs.Common.{◌≡◌, ◌≢◌, ◌∙◌, ℕ, ◌<◌, ◌==◌, Bool, true, false, List, length, Result, Ok, Err, if◌then◌else◌, refl, sym, ap, rules, tests}
use Rattle.ice_net.specs.NetlistData.{NetlistData}
use Rattle.ice_pads.specs.declared.fault.PinFault.{PinFault}
use Rattle.ice_pads.specs.declared.fault.PinFault.TheVariants.{TooManyRams, NoMemory}
use Rattle.ice_ram_read.specs.ClosedNetlists.{ClosedNetlistData, closed_netlist_of, without_rams}
use Rattle.ice_ram_read.proofs.Unclosed.{alone}
use Rattle.ice_flow_build_cmd.specs.Rams.{rams_said}

same_netlist : (m n : NetlistData) → (let said : Result NetlistData PinFault = Ok m in said) ≡ Ok n → m ≡ n
same_netlist m n e = cc

-- it has none
none_by : (count : ℕ) (circuit : ClosedNetlistData) (n : NetlistData) (b : Bool) → (count == 0) ≡ b → (let said : Result NetlistData PinFault = if b then Ok circuit.netlist else Err (TooManyRams count 0) in said) ≡ Ok n
    → (count ≡ 0) × (circuit.netlist ≡ n)
none_by count circuit n true test e = (search (rules, tests), same_netlist circuit.netlist n e)
none_by count circuit n false test e = absurd (cc)

-- such a netlist is all of what the text says
pub no_rams : (text : List ℕ) (circuit : ClosedNetlistData) (n : NetlistData) → closed_netlist_of text ≡ Ok circuit → rams_said circuit ≡ Ok n → (circuit.netlist ≡ n) × (circuit ≡ without_rams n)
no_rams text circuit n e said =
    let none = none_by (length circuit.rams) circuit n (length circuit.rams == 0) refl said in
    (none.1, (alone text circuit e none.0).1 ∙ ap without_rams none.1)

pub read_alone : (text : List ℕ) (circuit : ClosedNetlistData) (n : NetlistData) → closed_netlist_of text ≡ Ok circuit → length circuit.rams ≡ 0 → n ≡ circuit.netlist → closed_netlist_of text ≡ Ok (without_rams n)
read_alone text circuit n e none same = e ∙ ap Ok ((alone text circuit e none).1 ∙ ap without_rams (sym same))

-- it has some
pub some_rams : (circuit : ClosedNetlistData) (need : ℕ) → length circuit.rams ≡ need → 0 < need → rams_said circuit ≡ Err (TooManyRams need 0)
some_rams circuit need long some =
    let test : (length circuit.rams == 0) ≡ false = search (rules, tests) in
    ap (λ b. if b then Ok circuit.netlist else Err (TooManyRams (length circuit.rams) 0)) test ∙ ap (λ k. Err (TooManyRams k 0)) long

pub rams_known : (need have : ℕ) → TooManyRams need have ≢ NoMemory
rams_known need have e = cc
