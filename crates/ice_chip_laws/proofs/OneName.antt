-- Tests that go through the names of a chip and keep what they saw: what passes them agrees.
use Rattle.std.proofs.Common.{◌≡◌, ℕ, Option, None, Some, List, [], ◌∷◌, inl, inr, refl, sym, ap, subst, ◌∙◌}
use Rattle.std.specs.Prelude.{◌⊎◌, Bool, Result, Ok, Err}
use Rattle.std.specs.Map.{lookup}
use Rattle.std.proofs.lemmas.Option.{none-some, same_Some}
use Rattle.ice_chip.specs.Database.{WireName}
use Rattle.ice_chip.specs.WholeFaults.{unless_clash}
use Rattle.ice_base_values.specs.Order.{Has}
use Rattle.ice_base_values.proofs.Members.{Has_cases, Has_none}

-- what a test goes on with, where it answers no clash
pub goes_on : {A : Type 0} (r : Result A (ℕ × ℕ)) (test : A → Option (ℕ × ℕ)) → unless_clash r test ≡ None → (more : A) × (r ≡ Ok more) × (test more ≡ None)
goes_on (Ok more) test e = (more, refl, e)
goes_on (Err lines) test e = absurd (none-some lines (sym e))

module _ {K V : Type 0} (same : K → K → Bool) (key : WireName → K) (Counts : WireName → Type 0) (Fits : V → WireName → Type 0)
    (step : List (K × V) → WireName → Result (List (K × V)) (ℕ × ℕ)) (run : List (K × V) → List WireName → Option (ℕ × ℕ))
    (runs : (seen : List (K × V)) (n : WireName) (ns : List WireName) → run seen (n ∷ ns) ≡ None → (more : List (K × V)) × (step seen n ≡ Ok more) × (run more ns ≡ None))
    (keeps : (seen more : List (K × V)) (n : WireName) (k : K) (v : V) → step seen n ≡ Ok more → lookup (same k) seen ≡ Some v → lookup (same k) more ≡ Some v)
    (notes : (seen more : List (K × V)) (n : WireName) → Counts n → step seen n ≡ Ok more → (v : V) × (lookup (same (key n)) more ≡ Some v) × Fits v n) where
  -- what was seen fits each later name of the key
  held : (seen : List (K × V)) (ns : List WireName) (n : WireName) (v : V) → run seen ns ≡ None → Has ns n → Counts n → lookup (same (key n)) seen ≡ Some v → Fits v n
  held seen [] n v e has counts found = absurd (Has_none n has)
  held seen (m ∷ ns) n v e has counts found = by (runs seen m ns e) (Has_cases m n ns has) (λ more rest there later. held more ns n v rest there counts later)
    where
      by : (more : List (K × V)) × (step seen m ≡ Ok more) × (run more ns ≡ None) → (m ≡ n) ⊎ Has ns n
          → ((more : List (K × V)) → run more ns ≡ None → Has ns n → lookup (same (key n)) more ≡ Some v → Fits v n) → Fits v n
      by (more, stepped, rest) (inl here) behind =
          let noted = notes seen more n counts (ap (step seen) (sym here) ∙ stepped) in
          subst (λ x. Fits x n) (same_Some noted.0 v (sym noted.1 ∙ keeps seen more m (key n) v stepped found)) noted.2
      by (more, stepped, rest) (inr there) behind = behind more rest there (keeps seen more m (key n) v stepped found)

  -- two names of one key fit one thing
  pub fit_one : (seen : List (K × V)) (ns : List WireName) (n m : WireName) → run seen ns ≡ None → Has ns n → Has ns m → Counts n → Counts m → key n ≡ key m → (v : V) × Fits v n × Fits v m
  fit_one seen [] n m e has_n has_m counts_n counts_m one = absurd (Has_none n has_n)
  fit_one seen (x ∷ ns) n m e has_n has_m counts_n counts_m one = by (runs seen x ns e) (Has_cases x n ns has_n) (Has_cases x m ns has_m) (λ more rest a b. fit_one more ns n m rest a b counts_n counts_m one)
    where
      by : (more : List (K × V)) × (step seen x ≡ Ok more) × (run more ns ≡ None) → (x ≡ n) ⊎ Has ns n → (x ≡ m) ⊎ Has ns m
          → ((more : List (K × V)) → run more ns ≡ None → Has ns n → Has ns m → (v : V) × Fits v n × Fits v m) → (v : V) × Fits v n × Fits v m
      by (more, stepped, rest) (inl a) (inl b) behind =
          let noted = notes seen more n counts_n (ap (step seen) (sym a) ∙ stepped) in
          (noted.0, noted.2, subst (λ y. Fits noted.0 y) (sym a ∙ b) noted.2)
      by (more, stepped, rest) (inl a) (inr there) behind =
          let noted = notes seen more n counts_n (ap (step seen) (sym a) ∙ stepped) in
          (noted.0, noted.2, held more ns m noted.0 rest there counts_m (ap (λ k. lookup (same k) more) (sym one) ∙ noted.1))
      by (more, stepped, rest) (inr there) (inl b) behind =
          let noted = notes seen more m counts_m (ap (step seen) (sym b) ∙ stepped) in
          (noted.0, held more ns n noted.0 rest there counts_n (ap (λ k. lookup (same k) more) one ∙ noted.1), noted.2)
      by (more, stepped, rest) (inr a) (inr b) behind = behind more rest a b
