-- What checking places in their order answers. A place is a type, a leaf or an item at which a rule is checked.
-- Evidence is how a rule fails there; a refusal names the rule, the type, the leaf if the place has one, and the
-- evidence.
use Rattle.std.specs.Prelude.{List, Option, Some, None}
use Rattle.rb_core.specs.declared.program.Program.{Program}
use Rattle.rb_layout.specs.declared.layout.Layout.{Layout}
use Rattle.rb_layout.specs.declared.evidence.Refused.{Refused}
use Rattle.rb_layout.specs.Flattening.{flat_layouts}
use Rattle.rb_layout.specs.Spots.{Spot, Checked, IsRefusalAt, IsRefusedBy}
use Rattle.rb_agree.specs.declared.fault.AgreeFault.{AgreeFault}
use Rattle.rb_agree.specs.declared.fault.AgreeFault.TheVariants.{Rule, Memory}

-- what is found at these places in their order: nothing where the rules hold at all of them, and else the refusal of
-- the first that fails
abbrev pub Finds : Program → List Layout → List Spot → Option Refused → Type 0
Finds p layouts spots None = Checked p layouts spots None
Finds p layouts spots (Some r) = (s : Spot) × Checked p layouts spots (Some (s, r.why)) × IsRefusalAt r s r.why

-- a fault that may be answered for a program: the refusal at the first place (by rule, type, leaf and item) where its
-- layouts fail a rule of agreement; or want of memory, which says nothing of them
abbrev pub IsAgreeFault : Program → AgreeFault → Type 0
IsAgreeFault p (Rule refused) = IsRefusedBy p (flat_layouts p) refused
IsAgreeFault p Memory = Unit {0}
