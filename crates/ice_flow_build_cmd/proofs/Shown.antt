-- What was made is shown, in the words of the headline.
use Rattle.std.proofs.Common.{◌≡◌, ◌∙◌, ℕ, zero, suc, Bool, true, false, cond, List, [], ◌∷◌, Some, length, map, refl, ap, subst}
use Rattle.std.specs.Prelude.{Ok, replicate}
use Rattle.std.proofs.lemmas.List.{length-map}
use Rattle.ice_base_values.specs.Order.{At, Has}
use Rattle.ice_net.specs.NetlistData.{NetlistData}
use Rattle.ice_net.specs.Meaning as net
use Rattle.ice_net.specs.declared.driver.Drive.TheVariants.{Off}
use Rattle.ice_blif_laws.proofs.TextNetlists.{text_netlists}
use Rattle.ice_chip.proofs.Keys.{pad_same, pad_self}
use Rattle.ice_chip.specs.Database.{Parts, PackageRows, same_pad}
use Rattle.ice_chip.specs.Lookups.{package_of}
use Rattle.ice_chip.specs.declared.rows.Pad.{Pad}
use Rattle.ice_chip_read_laws.proofs.RowsSaid.{rows_said}
use Rattle.ice_chip_read_laws.proofs.TextLines.{text_rows}
use Rattle.ice_bits.specs.Configuration.{Configuration, bits_of}
use Rattle.ice_asc.specs.Text.{asc_text}
use Rattle.ice_asc_laws.proofs.TextSays.{text_says}
use Rattle.ice_decode.specs.Pads.{pads, level_of}
use Rattle.ice_decode_laws.proofs.NoneFound.{no_fault}
use Rattle.ice_cells.specs.Runs.{design_of}
use Rattle.ice_pads.specs.Assign.{PadsData, assign_of}
use Rattle.ice_pads.specs.declared.closing.Closing.{Closing}
use Rattle.ice_pads.specs.Constraints.{HavePads}
use Rattle.ice_pads.proofs.HavingPads.{all_have_pads, ports_have_pads}
use Rattle.ice_place.specs.declared.arrangement.Arrangement.{Arrangement}
use Rattle.ice_emit_defs.specs.Realised.{port_levels}
use Rattle.ice_flow_build.specs.Shown.{RealisesNetlist}
use Rattle.ice_flow_frame.specs.Texts.{text_at}
use Rattle.ice_flow_frame.specs.Told.{Told}
use Rattle.ice_flow_build_cmd.specs.Asked.{Build}
use Rattle.ice_flow_build_cmd.specs.Headline.{driven_at, IsShown}
use Rattle.ice_flow_build_cmd.specs.ExactlyShown.{IsShownExactly}
use Rattle.ice_flow_build_cmd.specs.Made.{IsMadeByBuild}
use Rattle.ice_flow_build_cmd.proofs.Pinned.{pinned_pads}

-- ---- levels by pads
-- among the levels of the pads of a package that of one of them is its own
level_at : (bonded : List Pad) (level : Pad → Bool) (i : ℕ) (pad : Pad) → At bonded i pad → level_of bonded (map level bonded) pad ≡ level pad
level_at [] level i pad at = absurd (cc)
level_at (p ∷ bonded) level zero pad at =
    let same : p ≡ pad = cc in
    ap (λ (b : Bool). cond b (level p) (level_of bonded (map level bonded) pad)) (ap (λ (q : Pad). same_pad q pad) same ∙ pad_self pad) ∙ ap level same
level_at (p ∷ bonded) level (suc i) pad at = by (same_pad p pad) refl (level_at bonded level i pad at)
  where
    by : (b : Bool) → same_pad p pad ≡ b → level_of bonded (map level bonded) pad ≡ level pad → cond b (level p) (level_of bonded (map level bonded) pad) ≡ level pad
    by true is rest = ap level (pad_same p pad is)
    by false is rest = rest

levels_at : (bonded : List Pad) (level : Pad → Bool) (ports : List Pad) → ((k : ℕ) (pad : Pad) → At ports k pad → Has bonded pad) → port_levels bonded ports (map level bonded) ≡ map level ports
levels_at bonded level [] of = refl
levels_at bonded level (p ∷ ports) of =
    let there = of 0 p refl in
    ap (λ (x : Bool). x ∷ port_levels bonded ports (map level bonded)) (level_at bonded level there.0 p there.1)
    ∙ ap (λ (xs : List Bool). level p ∷ xs) (levels_at bonded level ports (λ k pad at. of (suc k) pad at))

steps_at : (bonded ports : List Pad) (steps : List (Pad → Bool)) → ((k : ℕ) (pad : Pad) → At ports k pad → Has bonded pad)
    → map (port_levels bonded ports) (map (λ (level : Pad → Bool). map level bonded) steps) ≡ map (λ (level : Pad → Bool). map level ports) steps
steps_at bonded ports [] of = refl
steps_at bonded ports (level ∷ steps) of =
    ap (λ (xs : List Bool). xs ∷ map (port_levels bonded ports) (map (λ (l : Pad → Bool). map l bonded) steps)) (levels_at bonded level ports of)
    ∙ ap (λ (xss : List (List Bool)). map level ports ∷ xss) (steps_at bonded ports steps of)

-- what is shown for lists of levels is shown for levels of pads
module _ (circuit : NetlistData) (ports : List Pad) (parts : Parts) (k : Configuration) (bonded : PackageRows) (is : RealisesNetlist circuit ports parts k) where
  pub ports_driven : ((i : ℕ) (pad : Pad) → At ports i pad → Has bonded.pads pad) → (steps : List (Pad → Bool)) → driven_at parts k bonded ports steps ≡ net.shows circuit (map (λ (level : Pad → Bool). map level ports) steps)
  ports_driven of steps = (is.shows_same bonded.pads).at_ports (map (λ (level : Pad → Bool). map level bonded.pads) steps) ∙ ap (net.shows circuit) (steps_at bonded.pads ports steps of)

  pub others_off : (steps : List (Pad → Bool)) (pad : Pad) → Has (pads parts) pad → (Has ports pad → ⊥) → driven_at parts k bonded (pad ∷ []) steps ≡ replicate (length steps) (Off ∷ [])
  others_off steps pad has apart =
      (is.shows_same bonded.pads).elsewhere (map (λ (level : Pad → Bool). map level bonded.pads) steps) pad has apart
      ∙ ap (λ (n : ℕ). replicate n (Off ∷ [])) (length-map steps (λ (level : Pad → Bool). map level bonded.pads))

-- ---- what was made
module _ (b : Build) (t made : List (List ℕ)) (on : Arrangement) (told : Told) (g : IsMadeByBuild b t made on told) where
  abbrev ports : List Pad
  ports = g.built.layout.pads.ports

  -- the pads that the netlist read is given by its own design
  abbrev given : PadsData
  given = record { ports = ports; pullups = g.built.layout.pads.pullups; globals = g.are_pads.0.numbers; direct = g.are_pads.0.direct }

  abbrev bonded : PackageRows
  bonded = g.is_built.stands.0

  is_package : package_of g.task.parts b.package_name ≡ Some bonded
  is_package = subst (λ (name : List ℕ). package_of g.task.parts name ≡ Some bonded) g.is_asked.is_name g.is_built.stands.1

  have_pads : HavePads bonded g.task.constraints g.is_asked.circuit ports
  have_pads =
      let each = (g.is_shown.shows_same bonded.pads).pad_each in
      all_have_pads bonded g.task.constraints g.is_asked.circuit g.task.closing ports g.is_asked.is_open each
      (ports_have_pads g.task.parts b.package_name bonded g.task.constraints g.is_asked.circuit g.task.closing (design_of g.is_asked.circuit) given g.is_built.stands.3 is_package g.are_pads.1 each)

  pub made_shown : IsShown b.package_name (text_at t 1) (text_at t 2) (text_at t 3) (asc_text g.task.parts g.built.bits)
  made_shown = record {
    parts = g.task.parts;
    circuit = g.is_asked.circuit;
    configuration = g.built.bits;
    bonded = bonded;
    ports = ports;
    is_chip = text_rows (text_at t 1) g.task.parts (rows_said (text_at t 1) g.task.parts g.is_asked.is_chip);
    is_circuit = text_netlists (text_at t 3) g.is_asked.circuit g.is_asked.is_circuit;
    say_bits = text_says g.task.parts (asc_text g.task.parts g.built.bits) g.built.bits g.is_read_back;
    faultless = no_fault g.task.parts (bits_of g.built.bits) g.built.bits.extras g.is_shown.plain;
    is_package = is_package;
    have_pads = pinned_pads bonded (text_at t 2) g.task.constraints g.is_asked.circuit ports g.is_asked.are_constraints have_pads;
    at_ports = ports_driven g.is_asked.circuit ports g.task.parts g.built.bits bonded g.is_shown have_pads.of_package;
    elsewhere = others_off g.is_asked.circuit ports g.task.parts g.built.bits bonded g.is_shown;
  }

  -- and with the pads that are chosen
  pub made_shown_exactly : IsShownExactly b.package_name t (asc_text g.task.parts g.built.bits)
  made_shown_exactly = record {
    parts = g.task.parts;
    constraints = g.task.constraints;
    circuit = g.is_asked.circuit;
    pads = given;
    configuration = g.built.bits;
    is_chip = g.is_asked.is_chip;
    are_constraints = g.is_asked.are_constraints;
    is_circuit = g.is_asked.is_circuit;
    is_sound = g.is_asked.is_sound;
    are_pads = subst (λ (closing : Closing). assign_of g.task.parts b.package_name g.task.constraints g.is_asked.circuit closing (design_of g.is_asked.circuit) ≡ Ok given) g.is_asked.is_open g.are_pads.1;
    decodes = g.is_read_back;
    shows = g.is_shown;
  }
