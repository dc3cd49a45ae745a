-- What code that constructs a value owes, against the source's construction. A held value is one in slots, with its
-- type. What is shown of a field is a pattern that its value matches; a wildcard shows nothing. The event of a
-- construction is that its value is built, and its blocks are those of the leaf that holds the value in its layout. A
-- plan has a program and its layouts, and a sheet is a function's code so far. `agreed` is a program with layouts
-- that agree with its types.
use Rattle.std.specs.Prelude.{◌≡◌, List, map, Some}
use Rattle.rb_core.specs.declared.types.Ty.{Ty}
use Rattle.rb_core.specs.declared.types.Ty.TheVariants.{Named}
use Rattle.rb_core.specs.declared.types.ConRef.{ConRef}
use Rattle.rb_core.specs.declared.pattern.Pat.{Pat}
use Rattle.rb_core.specs.Meaning.{construction_outcome}
use Rattle.rb_core.specs.Values.{fields_of}
use Rattle.rb_target.specs.Sheet.{Sheet}
use Rattle.rb_layout.specs.declared.agreed.LaidOut.{LaidOut}
use Rattle.rb_fragment.specs.declared.held.Held.{Held}
use Rattle.rb_fragment.specs.Plan.{Plan}
use Rattle.rb_fragment.specs.Holding.{AllGiven, held_type}
use Rattle.rb_fragment.specs.Fragments.{Applies}
use Rattle.rb_fetch.specs.Constructing.{AreAsShown}
use Rattle.rb_fetch.specs.Finding.{IsPlanOf}

-- In every plan of the agreed program, the code from old to new does what the source's construction by con does, over
-- the values hs, one a field of the constructor, that match the patterns `shown`: where the blocks of its one event
-- fit, the memory has exactly these more, and the slots of `held`, which are new, represent the value; else the first
-- that does not fit is asked for in vain.
abbrev pub Builds : LaidOut → ConRef → List Held → List Pat → Sheet → Sheet → Held → Type 0
Builds agreed con hs shown old new held =
    (plan : Plan) → IsPlanOf agreed plan
    → (fields : List Ty) → fields_of plan.program.types con ≡ Some fields → map held_type hs ≡ fields
    → AllGiven plan old.slots hs
    → (held.ty ≡ Named con.ty)
    × Applies plan (AreAsShown shown) (λ calls. construction_outcome con) hs old new (Named con.ty) held.slots
