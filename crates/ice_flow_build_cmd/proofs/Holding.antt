-- What the files hold that were written one after another, by which reports are asked for.
use Rattle.std.proofs.Common.{◌≡◌, ◌≢◌, ℕ, Option, Some, None, List, ◌∷◌, sym, ap, subst}
use Rattle.std.specs.Prelude.{◌++◌}
use Rattle.ice_desk.specs.Desk.{Meaning}
use Rattle.ice_flow_frame.specs.declared.cause.FileRole.TheVariants.{Asc, Pins, Report}
use Rattle.ice_flow_frame.specs.Reading.{File, Files}
use Rattle.ice_flow_frame.specs.Texts.{ArePermitted, IsPermitted}
use Rattle.ice_flow_frame.specs.Writing.{HoldFrom}
use Rattle.ice_flow_build_cmd.specs.Asked.{Build, listed, file_asked, outputs_of, parting_of}
use Rattle.ice_flow_build_cmd.specs.Reports.{text_asked}

-- the files that are written, and their texts
abbrev files_with : List ℕ → Option (List ℕ) → Option (List ℕ) → Files
files_with asc pins report = record { role = Asc; name = asc } ∷ (listed (file_asked Pins pins) ++ listed (file_asked Report report))

abbrev texts_with : Option (List ℕ) → Option (List ℕ) → List ℕ → List ℕ → List ℕ → List (List ℕ)
texts_with pins report bits pad_lines route_lines = bits ∷ (text_asked pins pad_lines ++ text_asked report route_lines)

some_other : (one other : List ℕ) → (Some other ≢ Some one) → one ≢ other
some_other one other apart e = apart (ap (λ (x : List ℕ). Some x) (sym e))

module _ (asc bits pad_lines route_lines : List ℕ) (desk : Meaning) where
  abbrev Hold : Option (List ℕ) → Option (List ℕ) → Type 0
  Hold pins report = HoldFrom 1 (files_with asc pins report) (texts_with pins report bits pad_lines route_lines) desk

  pub held_bits : (pins report : Option (List ℕ)) → Hold pins report → pins ≢ Some asc → report ≢ Some asc → desk.files asc ≡ Some bits
  held_bits None None held no_pins no_report = held.0 tt
  held_bits None (Some report) held no_pins no_report = held.0 (some_other asc report no_report, tt)
  held_bits (Some pins) None held no_pins no_report = held.0 (some_other asc pins no_pins, tt)
  held_bits (Some pins) (Some report) held no_pins no_report = held.0 (some_other asc pins no_pins, (some_other asc report no_report, tt))

  pins_of : (name : List ℕ) (report : Option (List ℕ)) → Hold (Some name) report → report ≢ Some name → desk.files name ≡ Some pad_lines
  pins_of name None held apart = held.1.0 tt
  pins_of name (Some report) held apart = held.1.0 (some_other name report apart, tt)

  report_of : (name : List ℕ) (pins : Option (List ℕ)) → Hold pins (Some name) → desk.files name ≡ Some route_lines
  report_of name None held = held.1.0 tt
  report_of name (Some pins) held = held.1.1.0 tt

  pub held_pins : (pins report : Option (List ℕ)) (name : List ℕ) → Hold pins report → pins ≡ Some name → report ≢ Some name → desk.files name ≡ Some pad_lines
  held_pins pins report name held e apart = pins_of name report (subst (λ (o : Option (List ℕ)). Hold o report) e held) apart

  pub held_report : (pins report : Option (List ℕ)) (name : List ℕ) → Hold pins report → report ≡ Some name → desk.files name ≡ Some route_lines
  held_report pins report name held e = report_of name pins (subst (λ (o : Option (List ℕ)). Hold pins o) e held)

-- ---- names that pass a test
parting_in : (P : List ℕ → Type 0) (pins parting : Option File) → ArePermitted P (listed pins ++ listed parting) → IsPermitted P parting
parting_in P None None are = tt
parting_in P None (Some file) are = are.0
parting_in P (Some pins) None are = tt
parting_in P (Some pins) (Some file) are = are.1.0

-- the file of the report is one of those that are written
pub report_permitted : (P : List ℕ → Type 0) (b : Build) → ArePermitted P (outputs_of b) → IsPermitted P (parting_of b)
report_permitted P b are = parting_in P (file_asked Pins b.pins) (file_asked Report b.report) are.1
