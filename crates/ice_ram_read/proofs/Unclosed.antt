-- Texts without RAMs: their closed netlists are their netlists.
use Rattle.std.proofs.Common.{◌≡◌, ◌↔◌, ℕ, suc, List, [], ◌∷◌, length, map, Result, Ok, Err, IfOk, refl, subst, sym, ap, ◌∙◌, arith}
use Rattle.ice_net.specs.NetlistData.{NetlistData}
use Rattle.ice_blif.specs.declared.fault.BlifFault.{BlifFault}
use Rattle.ice_blif.specs.Answers.{Gives}
use Rattle.ice_blif.specs.Cells.{◌>>=◌}
use Rattle.ice_blif.specs.Grammar.{netlist_of, IsWithinLimits}
use Rattle.ice_blif.proofs.Kept.{bound}
use Rattle.ice_ram_read.specs.RamData.{RamData}
use Rattle.ice_ram_read.specs.RamTexts.{rams_of}
use Rattle.ice_ram_read.specs.ClosedNetlists.{ClosedNetlistData, ram_of, cut_says, closed_by, closed_with, closed_netlist_of, without_rams}

same_closed : (a b : ClosedNetlistData) → (let said : Result ClosedNetlistData BlifFault = Ok a in said) ≡ Ok b → a ≡ b
same_closed a b e = cc

same_netlist : (m n : NetlistData) → (let said : Result NetlistData BlifFault = Ok m in said) ≡ Ok n → m ≡ n
same_netlist m n e = cc

never_none : {A : Type 0} (x : A) (xs : List A) → length (x ∷ xs) ≡ 0 → ⊥
never_none x xs e = (let l : suc (length xs) ≡ 0 = e in omega arith)

-- a netlist with no RAM is left as it is
alone_by : (n m : NetlistData) (rams : List RamData) (c : ClosedNetlistData) → cut_says n rams ≡ Ok m → closed_by n rams m ≡ c → length c.rams ≡ 0
    → (n ≡ c.netlist) × (c ≡ without_rams c.netlist) × (rams ≡ [])
alone_by n m [] c cut is none =
    let same : n ≡ m = same_netlist n m cut in
    let netlist : n ≡ c.netlist = same ∙ ap (λ (x : ClosedNetlistData). x.netlist) is in
    (netlist, sym is ∙ ap (λ (x : NetlistData). closed_by n [] x) (sym same) ∙ ap without_rams netlist, refl)
alone_by n m (ram ∷ rams) c cut is none = absurd (never_none (ram_of ram) (map ram_of rams) (ap (λ (x : ClosedNetlistData). length x.rams) is ∙ none))

alone_in : (n : NetlistData) (rams : List RamData) (c : ClosedNetlistData) → closed_with n rams ≡ Ok c → length c.rams ≡ 0 → (n ≡ c.netlist) × (c ≡ without_rams c.netlist) × (rams ≡ [])
alone_in n rams c said none =
    let cut = bound (cut_says n rams) (λ m. Ok (closed_by n rams m)) c said in
    alone_by n cut.value rams c cut.made (same_closed (closed_by n rams cut.value) c cut.goes_on) none

-- the text's netlist is that of the closed one
pub alone : (text : List ℕ) (c : ClosedNetlistData) → closed_netlist_of text ≡ Ok c → length c.rams ≡ 0 → (netlist_of text ≡ Ok c.netlist) × (c ≡ without_rams c.netlist)
alone text c said none =
    let read = bound (netlist_of text) (λ n. closed_with n (rams_of n text)) c said in
    let is = alone_in read.value (rams_of read.value text) c read.goes_on none in
    (read.made ∙ ap Ok is.0, is.1)

-- that is so exactly where it has no RAM
pub alone_exactly : (text : List ℕ) (n : NetlistData) → closed_netlist_of text ≡ Ok (without_rams n) ↔ ((netlist_of text ≡ Ok n) × (rams_of n text ≡ []))
alone_exactly text n = (said, back)
  where
    said : closed_netlist_of text ≡ Ok (without_rams n) → (netlist_of text ≡ Ok n) × (rams_of n text ≡ [])
    said e =
        let read = bound (netlist_of text) (λ m. closed_with m (rams_of m text)) (without_rams n) e in
        let is = alone_in read.value (rams_of read.value text) (without_rams n) read.goes_on refl in
        (read.made ∙ ap Ok is.0, ap (λ (m : NetlistData). rams_of m text) (sym is.0) ∙ is.2)

    back : (netlist_of text ≡ Ok n) × (rams_of n text ≡ []) → closed_netlist_of text ≡ Ok (without_rams n)
    back h = ap (λ (x : Result NetlistData BlifFault). x >>= (λ m. closed_with m (rams_of m text))) h.0 ∙ ap (closed_with n) h.1

-- ---- in the code's words
pub said_closed : (text : List ℕ) (n : NetlistData) (result : Result ClosedNetlistData BlifFault) → netlist_of text ≡ Ok n → Gives (λ closed. closed) result (closed_with n (rams_of n text))
    → Gives (λ closed. closed) result (closed_netlist_of text)
said_closed text n (Ok c) e said = ap (λ (x : Result NetlistData BlifFault). x >>= (λ m. closed_with m (rams_of m text))) e ∙ said
said_closed text n (Err fault) e said = λ known. ap (λ (x : Result NetlistData BlifFault). x >>= (λ m. closed_with m (rams_of m text))) e ∙ said known

-- a netlist without RAMs is within the limits
pub alone_within : (text : List ℕ) (n : NetlistData) (rams : List RamData) (result : Result ClosedNetlistData BlifFault) → IsWithinLimits text n → Gives (λ closed. closed) result (closed_with n rams)
    → IfOk result (λ closed. length closed.rams ≡ 0 → IsWithinLimits text closed.netlist)
alone_within text n rams (Ok c) within said = λ none. subst (IsWithinLimits text) (alone_in n rams c said none).0 within
alone_within text n rams (Err fault) within said = tt
