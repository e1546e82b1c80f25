-- What the end of a section leaves.
use Rattle.std.proofs.Common.{◌≡◌, ◌≢◌, [], ◌∷◌, ◌++◌, map, Vec, refl, sym, ap, ◌∙◌}
use Rattle.std.proofs.lemmas.List.{map-append}
use Rattle.std.specs.declared.alloc.Global.{Global}
use Rattle.ice_chip.specs.Database.{Parts, SwitchGroup, PackageRows}
use Rattle.ice_chip.specs.Views.{group_view, package_view, parts_view}
use Rattle.ice_chip.specs.declared.parts.ChipParts.{ChipParts}
use Rattle.ice_chip.specs.declared.parts.Package.{Package}
use Rattle.ice_chip.specs.declared.sections.Group.{Group}
use Rattle.ice_chip_read.specs.Lines.{with_closed}
use Rattle.ice_chip_read.specs.Reading as spec
use Rattle.ice_chip_read.specs.Reading.{no_group, no_package, parts_closed, closed}
use Rattle.ice_chip_read.specs.Views.{reading_view}
use Rattle.ice_chip_read.specs.declared.reading.Reading.{Reading}
use Rattle.ice_chip_read.specs.declared.section.Section.{Section}
use Rattle.ice_chip_read.specs.declared.section.Section.TheVariants as section

-- ---- the rows, by the section that ends
pub closed_package : (r : Reading) (packages : Vec Package Global) → r.section ≡ section.Pins → packages.items ≡ r.parts.packages.items ++ r.pins ∷ []
    → closed (reading_view r) ≡ parts_view (record r.parts { packages = packages })
closed_package r packages is pushed =
    ap (λ s. parts_closed s (group_view r.group) (package_view r.pins) (parts_view r.parts)) is
    ∙ ap (λ rows. record (parts_view r.parts) { packages = rows }) (sym (ap (map package_view) pushed ∙ map-append package_view r.parts.packages.items (r.pins ∷ [])))

pub closed_group : (r : Reading) (groups : Vec Group Global) → r.section ≡ section.Switches → groups.items ≡ r.parts.groups.items ++ r.group ∷ []
    → closed (reading_view r) ≡ parts_view (record r.parts { groups = groups })
closed_group r groups is pushed =
    ap (λ s. parts_closed s (group_view r.group) (package_view r.pins) (parts_view r.parts)) is
    ∙ ap (λ rows. record (parts_view r.parts) { groups = rows }) (sym (ap (map group_view) pushed ∙ map-append group_view r.parts.groups.items (r.group ∷ [])))

pub closed_other : (s : Section) (group : SwitchGroup) (pins : PackageRows) (parts : Parts) → s ≢ section.Pins → s ≢ section.Switches → parts_closed s group pins parts ≡ parts
closed_other section.Rowless group pins parts other others = refl
closed_other section.ReadOver group pins parts other others = refl
closed_other section.Pins group pins parts other others = absurd (other refl)
closed_other section.BufferInputs group pins parts other others = refl
closed_other section.BufferPins group pins parts other others = refl
closed_other section.ExtraBits group pins parts other others = refl
closed_other section.InputEnables group pins parts other others = refl
closed_other section.ColumnBuffers group pins parts other others = refl
closed_other (section.Bits kind) group pins parts other others = refl
closed_other (section.Names wire) group pins parts other others = refl
closed_other section.Switches group pins parts other others = absurd (others refl)

-- ---- what is read, with these rows and nothing open
-- what is read, but for the rows and what is open
abbrev read_with : Reading → Parts → Section → SwitchGroup → PackageRows → spec.Reading
read_with r parts s group pins = record { parts = parts; device = r.device; nets = r.nets.entries; open_section = s; group = group; pins = pins; rows = r.rows }

pub closing : (r : Reading) (parts : ChipParts) (s : Section) (g : Group) (p : Package) → closed (reading_view r) ≡ parts_view parts → s ≡ section.Rowless → group_view g ≡ no_group → package_view p ≡ no_package
    → with_closed (reading_view r) ≡ read_with r (parts_view parts) s (group_view g) (package_view p)
closing r parts s g p rows rowless group pins =
    ap (λ x. read_with r x section.Rowless no_group no_package) rows
    ∙ ap (λ x. read_with r (parts_view parts) x no_group no_package) (sym rowless)
    ∙ ap (λ x. read_with r (parts_view parts) s x no_package) (sym group)
    ∙ ap (λ x. read_with r (parts_view parts) s (group_view g) x) (sym pins)
