use Rattle.std.proofs.Common.{◌≡◌, ℕ, Bool, true, false, cond, List, Option, Some, refl, sym, ap, ◌∙◌}
use Rattle.std.specs.Prelude.{codes, bytes_eq}
use Rattle.ice_base.specs.declared.number.TileAt.{TileAt}
use Rattle.ice_chip.specs.Names.{cell_pin}
use Rattle.ice_decode.specs.Drivers.{number_at, output_role, or_global, logic_role}
use Rattle.ice_decode.specs.declared.role.Role.{Role}
use Rattle.ice_decode.specs.declared.role.Role.TheVariants.{CarryIn, ClockEnable}
use Rattle.ice_decode.proofs.wire_roles.logic_role.Goals as goal

neither : (a b : Bool) (x y z : Option Role) → a ≡ false → b ≡ false → z ≡ cond a x (cond b y z)
neither false false x y z e f = refl
neither true b x y z e f = absurd (cc)
neither false true x y z e f = absurd (cc)

-- a name that is none of the two is that of an output, or of a global
of_output : (t : TileAt) (name : List ℕ) (role : Option Role) → bytes_eq name (codes "carry_in_mux") ≡ false → bytes_eq name (codes "lutff_global/cen") ≡ false
    → role ≡ output_role t (number_at name 6) (cell_pin name) → or_global role name ≡ logic_role t name
of_output t name role a b is =
    ap (λ r. or_global r name) is
    ∙ neither (bytes_eq name (codes "carry_in_mux")) (bytes_eq name (codes "lutff_global/cen")) (Some (CarryIn t)) (Some ClockEnable) (or_global (output_role t (number_at name 6) (cell_pin name)) name) a b

pub returns : goal.returns
returns c =
    c.or_global.ensures
    ∙ of_output c.args.tile c.args.name.now c.output_role.result
    (sym (c.eq.ensures ∙ ap (bytes_eq c.args.name.now) c.as_slice.ensures) ∙ c.if-eq.false)
    (sym (c.eq-2.ensures ∙ ap (bytes_eq c.args.name.now) c.as_slice-2.ensures) ∙ c.if-eq-2.false)
    (c.output_role.ensures ∙ ap (λ n. output_role c.args.tile n c.cell_pin.result.now) c.number_at.ensures ∙ ap (output_role c.args.tile (number_at c.args.name.now 6)) c.cell_pin.ensures)
