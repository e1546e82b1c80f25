-- The numbers that texts write.
use Rattle.std.proofs.Common.{◌≡◌, ◌≤◌, ℕ, Bool, cond, true, false, refl, sym, ap, subst, List, Some, None, ◌^◌, ◌<◌}
use Rattle.std.specs.Str.Parse.{IsNumeral, digits_value, without_leading_plus}
use Rattle.clap.specs.Values.{IsUnsignedIn}
use Rattle.clap.specs.ValueTests.{is_unsigned_in}
use Rattle.clap.specs.declared.builder.value_parser.ValueParser.TheVariants.{Unsigned}
use Rattle.clap.proofs.ValueTestLemmas.{Accepts-accepts, accepts-Accepts}
use Rattle.ice_flow_words.specs.Reading.{number_in}

-- `parse` reads a number in the text
abbrev pub Reads : List ℕ → Type 0
Reads text = IsNumeral 10 (without_leading_plus text) × (digits_value 10 (without_leading_plus text) < 2 ^ 64)

is_out : (least most : ℕ) (text : List ℕ) → (IsUnsignedIn least most text → ⊥) → None ≡ number_in least most text
is_out least most text not_in = go (is_unsigned_in least most text) refl
  where
    go : (b : Bool) → is_unsigned_in least most text ≡ b → None ≡ cond b (Some (digits_value 10 (without_leading_plus text))) None
    go true e = absurd (not_in (accepts-Accepts false (Unsigned least most) text e))
    go false e = refl

pub in_range : (least most n : ℕ) (text : List ℕ) → Reads text × (n ≡ digits_value 10 (without_leading_plus text)) → least ≤ n → n ≤ most → Some n ≡ number_in least most text
in_range least most n text reads low high =
    let value = reads.1 in
    let accepted = Accepts-accepts false (Unsigned least most) text (reads.0.0, reads.0.1, subst (λ k. least ≤ k) value low, subst (λ k. k ≤ most) value high) in
    rw accepted (ap Some value)

pub out_of_range : (least most n : ℕ) (text : List ℕ) → Reads text × (n ≡ digits_value 10 (without_leading_plus text)) → (least ≤ n → n ≤ most → ⊥) → None ≡ number_in least most text
out_of_range least most n text reads out = is_out least most text (λ h. out (subst (λ k. least ≤ k) (sym reads.1) h.2) (subst (λ k. k ≤ most) (sym reads.1) h.3))

pub no_numeral : (least most : ℕ) (text : List ℕ) → (Reads text → ⊥) → None ≡ number_in least most text
no_numeral least most text reads = is_out least most text (λ h. reads (h.0, h.1))
