-- Names come one by one as a text is read, and each keeps its number, whatever names come later.
use Rattle.std.proofs.Common.{◌≡◌, ◌∙◌, ℕ, ◌+◌, ◌<◌, Bool, true, false, not, cond, ◌||◌, List, [], ◌∷◌, ◌++◌, length, nat_lt, Some, None, option_map, if◌then◌else◌, codes, bytes_eq, refl, sym, ap, subst, arith, rules}
use Rattle.std.specs.List.{list_any}
use Rattle.ice_base.specs.Lists.{with_name, number_of_name}
use Rattle.ice_base.proofs.Keys.{bytes_self}
use Rattle.ice_net.specs.NetlistData.{NetlistData}
use Rattle.ice_blif.specs.State.{signal_of}
use Rattle.ice_blif.specs.Registers.{hidden_name, without_cells, taken_apart}
use Rattle.ice_blif.proofs.Apart.{HiddenKeep, all_keep}
use Rattle.ice_blif_write.proofs.NamesRead.{Grows, grows_same, grows_more, grows_name}
use Rattle.ice_ram_read.specs.RamTexts.{numbered_signal, found}

-- ---- numbers
-- a name that appeared has the number with which it appeared
record Stays (name : List ℕ) (names all : List (List ℕ)) : Type 0 where
  number : number_of_name all name ≡ number_of_name names name
  below : number_of_name names name < length all

stays : (name : List ℕ) (names more : List (List ℕ)) → Stays name names (with_name names name ++ more)
stays name [] more = record { number = ap (λ b. if not b then 1 + number_of_name more name else 0) (bytes_self name); below = omega arith }
stays name (n ∷ names) more = by (bytes_eq name n) (list_any (bytes_eq name) names) refl (stays name names more)
  where
    by : (b c : Bool) → bytes_eq name n ≡ b → Stays name names ((if c then names else names ++ name ∷ []) ++ more)
        → Stays name (n ∷ names) ((if b || c then n ∷ names else (n ∷ names) ++ name ∷ []) ++ more)
    by true c e rest = record {
      number = ap (λ b. if not b then 1 + number_of_name (names ++ more) name else 0) e ∙ sym (ap (λ b. if not b then 1 + number_of_name names name else 0) e);
      below = let first : number_of_name (n ∷ names) name ≡ 0 = ap (λ b. if not b then 1 + number_of_name names name else 0) e in omega (arith, first);
    }
    by false true e rest = record {
      number = ap (λ b. if not b then 1 + number_of_name (names ++ more) name else 0) e ∙ ap (λ k. 1 + k) rest.number ∙ sym (ap (λ b. if not b then 1 + number_of_name names name else 0) e);
      below = let later : number_of_name (n ∷ names) name ≡ 1 + number_of_name names name = ap (λ b. if not b then 1 + number_of_name names name else 0) e in omega (arith, later, rest.below);
    }
    by false false e rest = record {
      number = ap (λ b. if not b then 1 + number_of_name ((names ++ name ∷ []) ++ more) name else 0) e ∙ ap (λ k. 1 + k) rest.number ∙ sym (ap (λ b. if not b then 1 + number_of_name names name else 0) e);
      below = let later : number_of_name (n ∷ names) name ≡ 1 + number_of_name names name = ap (λ b. if not b then 1 + number_of_name names name else 0) e in omega (arith, later, rest.below);
    }

less_is : (a b : ℕ) → a < b → nat_lt a b ≡ true
less_is a b less = search (rules, less)

-- the signal of a name that appears is the one that is found later
pub found_later : (n m : NetlistData) (name : List ℕ) → Grows (with_name n.names name) m.names → found m name ≡ Some (signal_of n name)
found_later n m name grows =
    let kept : Stays name n.names m.names = subst (Stays name n.names) (sym grows.1) (stays name n.names grows.0) in
    ap (option_map numbered_signal)
    (ap (λ k. cond (nat_lt k (length m.names)) (Some k) None) kept.number
    ∙ ap (λ b. cond b (Some (number_of_name n.names name)) None) (less_is (number_of_name n.names name) (length m.names) kept.below))

-- ---- hidden names
hidden_grow : (first : List (List ℕ)) → HiddenKeep (Grows first)
hidden_grow first names line grown = (
  grows_more first names (with_name names (hidden_name line (codes "in"))) grown (grows_name names (hidden_name line (codes "in"))),
  grows_more first names (with_name names (hidden_name line (codes "out"))) grown (grows_name names (hidden_name line (codes "out"))),
)

-- hidden names come behind all others
pub apart_grows : (raw : NetlistData) → Grows raw.names (taken_apart raw).names
apart_grows raw = all_keep (Grows raw.names) (hidden_grow raw.names) (without_cells raw) raw.cells (grows_same raw.names)
